-- The samples passed are written. Assumes nothing.
use Rattle.pgm.proofs.Plain.{Writing}
use Rattle.pgm.proofs.raster.write_plain.Given as goal

abbrev pub invariant-loop-place : goal.invariant-loop-place
invariant-loop-place l = Writing l.bytes l.r.maximum l.r.count l.r.from.at l.initial.place-items l.place-items l.at l.place-index
