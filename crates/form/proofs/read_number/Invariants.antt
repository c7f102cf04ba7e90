-- The digits passed make the value so far. Assumes nothing.
use Rattle.form.proofs.Numbers.{Reading}
use Rattle.form.proofs.read_number.Given as goal

abbrev pub invariant-loop-i : goal.invariant-loop-i
invariant-loop-i l = Reading l.limit l.s l.value l.i
