-- `marks::clear` meets its contract: no place passed is marked. Assumes nothing.
use Rattle.std.proofs.Common.{arith}
use Rattle.marks.proofs.Places.{cleared}
use Rattle.marks.proofs.clear.Goals as goal

pub returns : goal.returns
returns c = cleared c.args.m.now _ c.args.n (omega arith) (c.fill.ensures.after (λ y e. e))
