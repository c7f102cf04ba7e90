-- `frame::middle` meets its contract: half was not reached at any entry passed. Assumes nothing.
use Rattle.std.proofs.Common.{◌≡◌, arith}
use Rattle.frame.proofs.Halves.{begin, room_le, go, stop, end}
use Rattle.frame.proofs.middle.Goals as goal

pub loop-d-init : goal.loop-d-init
loop-d-init c = begin _ _ _

pub overflow_add-next : goal.overflow_add-next
overflow_add-next c = rw c.from.ensures (omega (arith, room_le _ _ _ _ _ c.loop-d.invariant c.loop-d-test.true c.requires))

pub overflow_mul-next : goal.overflow_mul-next
overflow_mul-next c = rw c.from.ensures (omega (arith, room_le _ _ _ _ _ c.loop-d.invariant c.loop-d-test.true c.requires))

pub returns-then-n-next : goal.returns-then-n-next
returns-then-n-next c =
    let B = c.loop-d.invariant in
    (stop _ _ _ _ _ B c.loop-d-test.true (rw c.from.ensures at c.if-n-next.true), B.sums)

pub loop-d-preserved : goal.loop-d-preserved
loop-d-preserved c = rw c.from.ensures (go _ _ _ _ _ c.loop-d.invariant c.loop-d-test.true (rw c.from.ensures at c.if-n-next.false))

pub returns : goal.returns
returns c =
    let B = c.loop-d.invariant in
    let e : 15 ≡ c.loop-d.d = omega (arith, B.value) in
    (rw e (end _ _ _ _ _ B c.loop-d-test.false), rw e B.sums)
