-- `step::move_of` meets its contract. Assumes nothing.
use Rattle.step.proofs.Moves.{moves}
use Rattle.step.proofs.move_of.Goals as goal

pub returns : goal.returns
returns c = rw c.number.ensures.0 (moves c.args.g)
