-- `raster::write_samples` meets its contract. Assumes nothing.
use Rattle.pgm.proofs.Rows.{raw_inside}
use Rattle.pgm.proofs.raster.write_samples.Goals as goal

pub write_raw-requires : goal.write_raw-requires
write_raw-requires c = (raw_inside _ _ _ _ c.args.r.from.inside (rw c.if-r.false at c.requires.0), c.requires.1)
