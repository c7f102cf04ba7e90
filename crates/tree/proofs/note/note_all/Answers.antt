-- `tree::note::note_all` meets its contract: each turn notes one line. Assumes nothing.
use Rattle.std.proofs.Common.{◌≡◌, ◌/◌, ◌<◌, get_or, take, ◌∙◌, arith}
use Rattle.std.proofs.lemmas.List.{get_or-take, length-take-le}
use Rattle.matte.specs.Layout.{eight}
use Rattle.matte.specs.Picture.{picture}
use Rattle.enclosure.specs.Tree.{line_count, level_at}
use Rattle.enclosure.proofs.Value.{lines_few}
use Rattle.tree.proofs.Sums.{table_of}
use Rattle.tree.proofs.Ranked.{setting_of, level_of_lem, low, word_ready, word_noted}
use Rattle.tree.proofs.note.note_all.Goals as goal

pub overflow_cast-x : goal.overflow_cast-x
overflow_cast-x c =
    let a = c.args in
    let p = c.requires.0 in
    let P = picture a.w a.h a.px.now in
    let l = c.loop-m in
    let T = table_of a.ks.now _ c.step_table-st.ensures in
    let t : l.m < a.n = omega (arith, c.loop-m-test.true, length-take-le a.n a.places.now p.long) in
    let q : l.m < line_count eight P a.ks.now = omega (arith, p.count) in
    let x = get_or (take a.n a.places.now) l.m 0 in
    let v : x / 8388608 ≡ level_at eight P a.ks.now l.m = level_of_lem P a.ks.now p.ground p.levels _ T (λ i. (c.type_inv.px i).fits) l.m q x (get_or-take a.n a.places.now l.m 0 t ∙ p.leads l.m t) in
    omega (arith, v, low P a.ks.now p.ground p.levels _ T (λ i. (c.type_inv.px i).fits) l.m q)

pub overflow_cast-m : goal.overflow_cast-m
overflow_cast-m c =
    let a = c.args in
    let p = c.requires.0 in
    let few = lines_few (setting_of (picture a.w a.h a.px.now) a.ks.now p.ground p.levels) in
    omega (arith, c.loop-m-test.true, length-take-le a.n a.places.now p.long, p.count)

pub note_line-requires : goal.note_line-requires
note_line-requires c =
    let a = c.args in
    let p = c.requires.0 in
    let P = picture a.w a.h a.px.now in
    let l = c.loop-m in
    let T = table_of a.ks.now _ c.step_table-st.ensures in
    let t : l.m < a.n = omega (arith, c.loop-m-test.true, length-take-le a.n a.places.now p.long) in
    word_ready P a.ks.now p.ground p.levels _ T (λ i. (c.type_inv.px i).fits) l.m (omega (arith, p.count)) _ _ l.words
    (get_or-take a.n a.places.now l.m 0 t ∙ p.leads l.m t) c.run_starts.ensures.0 (omega (arith, p.room, l.auto.words))

pub loop-m-preserved : goal.loop-m-preserved
loop-m-preserved c =
    let a = c.args in
    let p = c.requires.0 in
    let P = picture a.w a.h a.px.now in
    let l = c.loop-m in
    let T = table_of a.ks.now _ c.step_table-st.ensures in
    let t : l.m < a.n = omega (arith, c.loop-m-test.true, length-take-le a.n a.places.now p.long) in
    let R = word_noted P a.ks.now p.ground p.levels _ T (λ i. (c.type_inv.px i).fits) l.m (omega (arith, p.count)) l.words l.invariant.0 (omega (arith, p.room, l.auto.words)) _ _
    (get_or-take a.n a.places.now l.m 0 t ∙ p.leads l.m t) c.note_line.ensures in
    (R.0, R.1 ∙ l.invariant.1)
