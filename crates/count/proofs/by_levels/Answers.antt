-- `by_levels`: one level more at each step, and the listed levels few enough for the sum. Assumes nothing.
use Rattle.std.proofs.Common.{◌≡◌, ◌∙◌, get_or, ap, sym, arith}
use Rattle.tally.proofs.Count.{count_at}
use Rattle.matte.specs.Layout.{layout_of}
use Rattle.matte.specs.Picture.{picture}
use Rattle.outline.proofs.Levels.{level_below}
use Rattle.store.specs.Store.{samples_of}
use Rattle.count.specs.Count.{crossings}
use Rattle.count.proofs.Counting.{counted_none, counted_more, counted_all, levels_most}
use Rattle.count.proofs.by_levels.Goals as goal

pub loop-j-init : goal.loop-j-init
loop-j-init g c =
    let S = g.T.Sample in
    let a = c.args in (sym (counted_none (picture a.w a.h (samples_of S.wide a.px.now)) (samples_of S.wide a.ks.now)), omega arith)

pub count_level-n-requires : goal.count_level-n-requires
count_level-n-requires g c =
    let S = g.T.Sample in
    let a = c.args in
    let K = samples_of S.wide a.ks.now in
    (c.requires.0, rw c.at.ensures (level_below (layout_of S.wide) K c.requires.1 _ (count_at K c.loop-j.j (omega arith))))

pub overflow_add-n : goal.overflow_add-n
overflow_add-n g c =
    let S = g.T.Sample in
    let a = c.args in
    omega (arith, c.loop-j.invariant.1, c.count_level-n.ensures.1, levels_most S.wide (samples_of S.wide a.ks.now) c.requires.1)

pub loop-j-preserved : goal.loop-j-preserved
loop-j-preserved g c =
    let S = g.T.Sample in
    let a = c.args in
    let l = c.loop-j in
    let P = picture a.w a.h (samples_of S.wide a.px.now) in
    let K = samples_of S.wide a.ks.now in
    let r = c.count_level-n.ensures in
    let e : c.count_level-n.result ≡ crossings P (get_or K l.j 0) = r.0 ∙ ap (crossings P) c.at.ensures in
    (omega (arith, l.invariant.0, e, counted_more P K l.j (omega arith)), omega (arith, l.invariant.1, r.1))

pub returns : goal.returns
returns g c =
    let S = g.T.Sample in
    let a = c.args in
    let l = c.loop-j in
    l.invariant.0 ∙ counted_all (picture a.w a.h (samples_of S.wide a.px.now)) (samples_of S.wide a.ks.now) (layout_of S.wide) c.requires.0 l.j (omega arith)
