-- `layer::rows::turn` meets its contract: one byte grows. Assumes nothing.
use Rattle.std.proofs.Common.{refl}
use Rattle.layer.proofs.Bytes.{turned_byte}
use Rattle.layer.proofs.rows.turn.Goals as goal

pub returns : goal.returns
returns c = turned_byte _ _ _ _ _ c.requires refl c.tick.ensures
