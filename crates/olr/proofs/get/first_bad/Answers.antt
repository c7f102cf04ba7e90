-- The turns and the ends of the loops of `olr::get::first_bad`. Assumes nothing.
use Rattle.std.proofs.Common.{◌≡◌, ◌+◌, ◌*◌, ◌<◌, not, true, false, length, sym, ap, arith, below_more}
use Rattle.tally.proofs.First.{first_is}
use Rattle.matte.specs.Layout.{eight}
use Rattle.words.specs.Fit.{bad_word}
use Rattle.words.specs.Listed.{word_fits}
use Rattle.words.proofs.Fits.{on_size}
use Rattle.olr.specs.Read.{file_levels, file_words}
use Rattle.olr.proofs.Taken.{words_length, bad_told}
use Rattle.olr.proofs.get.first_bad.Goals as goal

pub returns-then-not-word_fits : goal.returns-then-not-word_fits
returns-then-not-word_fits c =
    let a = c.args in
    let f = a.file.bytes.now in
    let t = c.level_table-t.result in
    let u = c.num4_at.result in
    let b = c.loop-b.b in
    let j = c.loop-j.j in
    let i = 127 * b + j in
    let inside : j < 127 = omega (arith, c.block_words-j-end.ensures, c.loop-j-test.true) in
    let one_of : i < a.n = omega (arith, c.block_words-j-end.ensures, c.loop-j-test.true) in
    let bad =
    bad_told f t a.size.width a.size.height b j u c.level_count.result c.word_fits.result true c.level_count.ensures.0 c.level_table-t.ensures inside (omega (arith, c.requires.count)) c.num4_at.ensures
    (on_size _ c.grid_of-g.result c.grid_of-g.ensures (λ w h. word_fits eight w h t u) _ c.word_fits.ensures)
    (ap not c.if-not-word_fits.true) in
    sym
    (first_is (bad_word eight a.size.width a.size.height (file_levels f)) (file_words f) i (omega (arith, words_length f, c.requires.count))
    (λ k l. c.loop-j.invariant k l (omega arith))
    (λ l. bad))

pub loop-j-preserved : goal.loop-j-preserved
loop-j-preserved c =
    let a = c.args in
    let f = a.file.bytes.now in
    let t = c.level_table-t.result in
    let u = c.num4_at.result in
    let b = c.loop-b.b in
    let j = c.loop-j.j in
    let i = 127 * b + j in
    let inside : j < 127 = omega (arith, c.block_words-j-end.ensures, c.loop-j-test.true) in
    let one_of : i < a.n = omega (arith, c.block_words-j-end.ensures, c.loop-j-test.true) in
    let good =
    bad_told f t a.size.width a.size.height b j u c.level_count.result c.word_fits.result false c.level_count.ensures.0 c.level_table-t.ensures inside (omega (arith, c.requires.count)) c.num4_at.ensures
    (on_size _ c.grid_of-g.result c.grid_of-g.ensures (λ w h. word_fits eight w h t u) _ c.word_fits.ensures)
    (ap not c.if-not-word_fits.false) in
    λ k l. below_more _ i c.loop-j.invariant (λ _. good) k (omega arith)

pub returns : goal.returns
returns c =
    let a = c.args in
    let f = a.file.bytes.now in
    let all : length (file_words f) ≡ a.n = omega (arith, words_length f, c.requires.count) in
    sym
    (first_is (bad_word eight a.size.width a.size.height (file_levels f)) (file_words f) a.n (omega arith)
    (λ k l. c.loop-b.invariant k (omega (arith, c.blocks_for-b-end.ensures, c.loop-b-test.false)) l)
    (λ l. absurd (omega arith)))
