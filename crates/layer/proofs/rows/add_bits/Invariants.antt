-- `layer::rows::add_bits` meets its contract, mark by mark. Assumes nothing.
use Rattle.layer.proofs.Bits.{Adding}
use Rattle.layer.proofs.rows.add_bits.Given as goal

abbrev pub invariant-loop-y : goal.invariant-loop-y
invariant-loop-y l = Adding l.x l.base l.was l.fn.room l.y l.p l.on l.room

abbrev pub decreases-loop-y : goal.decreases-loop-y
decreases-loop-y l = l.y
