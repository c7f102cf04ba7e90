-- Every byte passed belongs to the gap. Assumes nothing.
use Rattle.pgm.proofs.Steps.{GapAt}
use Rattle.pgm.proofs.scan.gap_end.Given as goal

abbrev pub invariant-loop-at : goal.invariant-loop-at
invariant-loop-at l = GapAt l.bytes l.c.at l.comment l.at
