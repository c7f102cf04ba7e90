-- `layer::rows::add_row` meets its contract, number by number. Assumes nothing.
use Rattle.std.proofs.Common.{◌-◌, ◌≤◌}
use Rattle.marks.specs.Marks.{bit_at}
use Rattle.layer.specs.Sums.{Walked}
use Rattle.layer.proofs.rows.add_row.Given as goal

abbrev pub invariant-loop-p : goal.invariant-loop-p
invariant-loop-p l = (l.lo ≤ l.p) × (l.p ≤ l.end) × Walked (bit_at l.m) l.f l.lo l.p l.f l.on l.initial.room l.room

abbrev pub decreases-loop-p : goal.decreases-loop-p
decreases-loop-p l = l.end - l.p
