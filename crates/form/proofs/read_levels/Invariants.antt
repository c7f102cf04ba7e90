-- The levels passed stand in the array, zeros after them. Assumes nothing.
use Rattle.form.proofs.Line.{Lining}
use Rattle.form.proofs.read_levels.Given as goal

abbrev pub invariant-loop-n : goal.invariant-loop-n
invariant-loop-n l = Lining l.s l.levels l.n l.used
