-- `raster::write_raw` meets its contract: the samples are the bytes. Assumes nothing.
use Rattle.std.proofs.Common.{List, ℕ, ◌++◌, drop, ap, ◌∙◌}
use Rattle.pgm.proofs.Rows.{raw_copy}
use Rattle.pgm.proofs.raster.write_raw.Goals as goal

pub returns : goal.returns
returns c = ap (λ (z : List ℕ). z ++ drop c.args.r.count c.args.room.now) (c.copy.ensures.after ∙ raw_copy _ _ _ c.requires.0)
