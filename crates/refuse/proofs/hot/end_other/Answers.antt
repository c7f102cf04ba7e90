-- `refuse::hot::end_other` meets its contract. Assumes nothing.
use Rattle.std.proofs.Common.{arith}
use Rattle.refuse.proofs.Border.{left_is, right_is, along_in, along_next, along_end}
use Rattle.refuse.proofs.hot.end_other.Goals as goal

pub returns-then-px-left : goal.returns-then-px-left
returns-then-px-left c = left_is c.args.size.fits c.loop-y.invariant (omega arith) c.if-px-left.true

pub returns-then-px-right : goal.returns-then-px-right
returns-then-px-right c = right_is c.args.size.fits c.loop-y.invariant (omega arith) c.if-px-left.false c.if-px-right.true

pub loop-y-preserved : goal.loop-y-preserved
loop-y-preserved c = along_next c.args.size.fits c.loop-y.invariant (omega arith) c.if-px-left.false c.if-px-right.false

pub returns : goal.returns
returns c = along_end c.args.size.fits c.loop-y.invariant (omega arith)
