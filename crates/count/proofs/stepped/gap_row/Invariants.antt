-- The loop of `stepped::gap_row`: the distances are stored as far as x. Assumes nothing.
use Rattle.count.specs.Steps.{Distances}
use Rattle.count.proofs.stepped.gap_row.Given as goal

abbrev pub invariant-loop-x : goal.invariant-loop-x
invariant-loop-x l = Distances l.p l.q l.s l.x l.d
