-- `words::on_grid` meets its contract: the place by one sum, the last column by one product. Assumes nothing.
use Rattle.words.proofs.Fits.{grid_test}
use Rattle.words.proofs.on_grid.Goals as goal

pub returns : goal.returns
returns c = grid_test c.args.g c.args.code
