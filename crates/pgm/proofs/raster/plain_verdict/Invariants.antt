-- The samples passed are not refused. Assumes nothing.
use Rattle.std.proofs.Common.{◌≡◌, ◌-◌, ◌≤◌, length, true}
use Rattle.pgm.specs.Reader.{raster_from}
use Rattle.pgm.proofs.raster.plain_verdict.Given as goal

abbrev pub invariant-loop-done : goal.invariant-loop-done
invariant-loop-done l = (l.at ≤ length l.bytes) × (raster_from l.bytes true l.r.maximum l.r.count l.r.from.at ≡ raster_from l.bytes true l.r.maximum (l.r.count - l._done) l.at)
