-- `layer::add_levels` meets its contract: all levels are added, and then the bytes added up. Assumes nothing.
use Rattle.layer.proofs.Levels.{written}
use Rattle.layer.proofs.add_levels.Goals as goal

pub returns : goal.returns
returns c = written _ _ _ _ _ _ _ _ c.requires.0 c.add_all.ensures (rw c.area.ensures.0 at c.add_up.ensures)
