-- `step::place_ahead` meets its contract: each step of the sum is in range. Assumes nothing.
use Rattle.step.proofs.Moves.{moved}
use Rattle.step.proofs.place_ahead.Goals as goal

pub overflow_cast-result-3 : goal.overflow_cast-result-3
overflow_cast-result-3 c =
    let a = c.args in
    (moved a.w a.g a.i c.move_of-m.result.dx c.move_of-m.result.dy c.move_of-m.ensures.0 c.move_of-m.ensures.1 c.requires.0 c.requires.1 c.requires.2).kept

pub returns : goal.returns
returns c =
    let a = c.args in
    (moved a.w a.g a.i c.move_of-m.result.dx c.move_of-m.result.dy c.move_of-m.ensures.0 c.move_of-m.ensures.1 c.requires.0 c.requires.1 c.requires.2).place
