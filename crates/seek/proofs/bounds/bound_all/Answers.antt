-- `bounds::bound_all`: one piece more at each step, the slots after the last one as they were. Assumes nothing.
use Rattle.std.proofs.Common.{◌≡◌, ◌+◌, ◌*◌, ◌≤◌, ◌<◌, min, ◌∙◌, arith}
use Rattle.store.proofs.Chunks.{count_same}
use Rattle.store.proofs.Splice.{drop_later}
use Rattle.seek.proofs.Slots.{reach_up}
use Rattle.seek.proofs.bounds.bound_all.Goals as goal

pub bound_each-requires : goal.bound_each-requires
bound_each-requires g c =
    let S = g.T.Sample in
    let p = c.requires in
    let a = c.args in
    let l = c.loop-piece in
    let u : 256 * l.piece < a.slots = omega arith in
    let s : min (256 * l.piece) a.slots ≡ 256 * l.piece = omega arith in
    let r = c.min-e.ensures in
    (omega arith, omega (arith, reach_up a.four c.min-e.result a.slots (omega arith)), p.1, omega (arith, count_same S.wide _ _ l.auto.lo), rw s at l.invariant.0)

pub bound_each-requires-in-loop-piece : goal.bound_each-requires-in-loop-piece
bound_each-requires-in-loop-piece g c =
    let S = g.T.Sample in
    let p = c.requires in
    let a = c.args in
    let l = c.loop-piece in
    let u : 256 * l.piece < a.slots = omega arith in
    let s : min (256 * l.piece) a.slots ≡ 256 * l.piece = omega arith in
    let r = c.min-e.ensures in
    (omega arith, omega (arith, reach_up a.four c.min-e.result a.slots (omega arith)), p.1, omega (arith, count_same S.wide _ _ l.auto.hi), rw s at l.invariant.1)

pub loop-piece-preserved : goal.loop-piece-preserved
loop-piece-preserved g c =
    let a = c.args in
    let l = c.loop-piece in
    let r : c.min-e.result ≤ a.slots = omega arith in
    let s : c.min-e.result ≡ min (256 * (l.piece + 1)) a.slots = omega arith in (
      rw (← s) c.bound_each.ensures.0,
      rw (← s) c.bound_each-in-loop-piece.ensures.0,
      drop_later _ _ _ _ r c.bound_each.ensures.1 ∙ l.invariant.2,
      drop_later _ _ _ _ r c.bound_each-in-loop-piece.ensures.1 ∙ l.invariant.3,
    )
