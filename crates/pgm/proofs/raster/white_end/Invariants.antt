-- Every byte passed is white. Assumes nothing.
use Rattle.pgm.proofs.Steps.{WhiteAt}
use Rattle.pgm.proofs.raster.white_end.Given as goal

abbrev pub invariant-loop-at : goal.invariant-loop-at
invariant-loop-at l = WhiteAt l.bytes l.c.at l.at
