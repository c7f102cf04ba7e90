-- The digits passed make the value so far. Assumes nothing.
use Rattle.pgm.proofs.Steps.{NumberAt}
use Rattle.pgm.proofs.scan.number_at.Given as goal

abbrev pub invariant-loop-i : goal.invariant-loop-i
invariant-loop-i l = NumberAt l.c.bytes.now l.c.at l.value l.i
