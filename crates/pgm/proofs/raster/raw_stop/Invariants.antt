-- The samples passed are not refused. Assumes nothing.
use Rattle.std.proofs.Common.{◌≡◌, ◌-◌, false}
use Rattle.pgm.specs.Reader.{raster_from}
use Rattle.pgm.proofs.raster.raw_stop.Given as goal

abbrev pub invariant-loop-i : goal.invariant-loop-i
invariant-loop-i l = raster_from l.bytes false l.r.maximum l.r.count l.at ≡ raster_from l.bytes false l.r.maximum (l.r.count - (l.i - l.at)) l.i
