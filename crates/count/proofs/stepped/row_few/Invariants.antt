-- The loop of `stepped::row_few`: the row is filled as far as x. Assumes nothing.
use Rattle.count.specs.Steps.{step_table, Row}
use Rattle.count.proofs.stepped.row_few.Given as goal

abbrev pub invariant-loop-x : goal.invariant-loop-x
invariant-loop-x l = Row (step_table l.ks) l.px l.from l.x l.q
