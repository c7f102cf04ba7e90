-- `trace::scan::all_levels` meets its contract: the loop is that of `All`. Assumes nothing.
use Rattle.std.proofs.Common.{◌≡◌, ℕ, ◌-◌, subst, arith}
use Rattle.matte.specs.Layout.{layout_of}
use Rattle.matte.specs.Picture.{picture}
use Rattle.store.specs.Store.{samples_of}
use Rattle.count.proofs.Counting.{row_fits}
use Rattle.follow.specs.Words.{upper}
use Rattle.trace.specs.Level.{Marked}
use Rattle.trace.proofs.All.{all_begin, level_ready, all_go, all_end}
use Rattle.trace.proofs.scan.all_levels.Goals as goal

pub overflow_sub-end : goal.overflow_sub-end
overflow_sub-end g c =
    omega (arith, row_fits c.requires.0.ground, c.count.ensures)

pub loop-j-init : goal.loop-j-init
loop-j-init g c =
    let S = g.T.Sample in
    let W = g.P.Place.words in
    let a = c.args in
    λ R. all_begin (layout_of S.wide) (picture a.w a.h (samples_of S.wide a.bounds.now.px.now)) (samples_of S.wide a.ks.now) a.work.now (W a.words.now) R

pub mark_for-m-requires : goal.mark_for-m-requires
mark_for-m-requires g c =
    let S = g.T.Sample in
    let W = g.P.Place.words in
    let a = c.args in
    let l = c.loop-j in
    let R = c.requires.0 in
    let e : c.count.result - a.w ≡ upper (picture a.w a.h (samples_of S.wide a.bounds.now.px.now)) = omega (arith, c.count.ensures, R.ground.whole) in
    (omega (arith, e, R.wide, l.auto.work), λ t i h. (l.invariant R).low t i (omega (arith, e)))

pub level_lines-s-requires : goal.level_lines-s-requires
level_lines-s-requires g c =
    let S = g.T.Sample in
    let W = g.P.Place.words in
    let a = c.args in
    let l = c.loop-j in
    let R = c.requires.0 in
    let P = picture a.w a.h (samples_of S.wide a.bounds.now.px.now) in
    let m = c.mark_for-m in
    let e : c.count.result - a.w ≡ upper P = omega (arith, c.count.ensures, R.ground.whole) in
    let M = subst (λ (n : ℕ). Marked n l.j l.work m.result m.new.work) e m.ensures in (
      rw c.at-k.ensures (level_ready (layout_of S.wide) P (samples_of S.wide a.ks.now) a.work.now (W a.words.now) R l.j (omega (arith, c.loop-j-test.true, c.count-levels.ensures)) l.s l.work m.new.work (W l.words) (l.invariant R) m.result M),
      c.requires.1,
    )

pub loop-j-preserved : goal.loop-j-preserved
loop-j-preserved g c =
    let S = g.T.Sample in
    let W = g.P.Place.words in
    let a = c.args in
    let l = c.loop-j in
    let P = picture a.w a.h (samples_of S.wide a.bounds.now.px.now) in
    let m = c.mark_for-m in
    let e : c.count.result - a.w ≡ upper P = omega (arith, c.count.ensures, c.requires.0.ground.whole) in
    let M = subst (λ (n : ℕ). Marked n l.j l.work m.result m.new.work) e m.ensures in
    λ R. all_go (layout_of S.wide) P (samples_of S.wide a.ks.now) a.work.now (W a.words.now) R l.j (omega (arith, c.loop-j-test.true, c.count-levels.ensures)) l.s l.work m.new.work (W l.words) (l.invariant R) m.result M _ _ _ (rw c.at-k.ensures at c.level_lines-s.ensures)

pub returns : goal.returns
returns g c =
    let S = g.T.Sample in
    let W = g.P.Place.words in
    let a = c.args in
    let l = c.loop-j in
    let R = c.requires.0 in
    all_end (layout_of S.wide) (picture a.w a.h (samples_of S.wide a.bounds.now.px.now)) (samples_of S.wide a.ks.now) a.work.now (W a.words.now) R l.j (omega (arith, c.loop-j-test.false, c.count-levels.ensures)) l.s l.work (W l.words) (l.invariant R)
