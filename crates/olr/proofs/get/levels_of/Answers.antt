-- `olr::get::levels_of` meets its contract. Assumes nothing.
use Rattle.olr.proofs.Taken.{levels_rest}
use Rattle.olr.proofs.get.levels_of.Goals as goal

pub returns : goal.returns
returns c = levels_rest c.args.file.bytes.now c.copy_from_slice.new.self c.level_count-n.result c.level_count-n.ensures.0 c.copy_from_slice.ensures.after
