-- The turns and the end of the loops of `olr::get::take_words`. Assumes nothing.
use Rattle.std.proofs.Common.{◌≡◌, ◌+◌, ◌*◌, Bool, true, false, refl, ap, ◌∙◌, arith}
use Rattle.std.specs.Int.{from_bool}
use Rattle.tally.specs.Tally.{one}
use Rattle.olr.proofs.Taken.{word_in, taken_start, taken_more, taken_all}
use Rattle.olr.proofs.get.take_words.Goals as goal

from_bool_is : (b : Bool) → from_bool b ≡ one b
from_bool_is true = refl
from_bool_is false = refl

pub loop-b-init : goal.loop-b-init
loop-b-init c = taken_start c.args.file.bytes.now c.args.words.now _ (omega arith)

pub loop-j-preserved : goal.loop-j-preserved
loop-j-preserved c =
    let f = c.args.file.bytes.now in
    let b = c.loop-b.b in
    let j = c.loop-j.j in
    let held = c.requires.0.count in
    let mark = c.from-lines.ensures ∙ from_bool_is c.flagged.result ∙ ap one c.flagged.ensures in
    taken_more f c.args.words.now _ _ (127 * b + j) _ _ _ c.loop-j.invariant
    (omega (arith, held, c.block_words-j-end.ensures, c.loop-j-test.true))
    (omega (arith, held, c.requires.1))
    (word_in f b j _ (omega (arith, c.block_words-j-end.ensures, c.loop-j-test.true)) c.num4_at-u.ensures)
    mark
    (omega arith)

pub returns : goal.returns
returns c =
    taken_all c.args.file.bytes.now c.args.words.now _ _ _ c.args.n c.loop-b.invariant c.requires.0.count
    (omega (arith, c.blocks_for-b-end.ensures, c.loop-b-test.false))
