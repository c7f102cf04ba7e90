-- The bytes passed fit. Assumes nothing.
use Rattle.std.proofs.Common.{◌≡◌, get_or}
use lib.Dec.{leb}
use Rattle.tally.specs.Tally.{every}
use Rattle.pgm.proofs.raster.all_fit.Given as goal

abbrev pub invariant-loop-b : goal.invariant-loop-b
invariant-loop-b l = l.fit ≡ every (λ j. leb (get_or l.s j 0) l.m) l.b-index
