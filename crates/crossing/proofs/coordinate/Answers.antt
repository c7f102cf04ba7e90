-- `crossing::coordinate` meets its contract. Assumes nothing.
use Rattle.crossing.specs.Crossing.{along}
use Rattle.crossing.proofs.coordinate.Goals as goal

pub returns-then-moves : goal.returns-then-moves
unfolding along
returns-then-moves c = rw c.if-moves.true
