-- The loop of `stepped::row_steps`: the row is filled as far as x. Assumes nothing.
use Rattle.count.specs.Steps.{Row}
use Rattle.count.proofs.stepped.row_steps.Given as goal

abbrev pub invariant-loop-x : goal.invariant-loop-x
invariant-loop-x l = Row l.t l.px l.from l.x l.q
