-- `block::close` meets its contract. Assumes nothing.
use Rattle.std.proofs.Common.{take, length-take, arith}
use Rattle.block.proofs.Put.{zeroed, closed}
use Rattle.block.proofs.close.Goals as goal

pub returns : goal.returns
returns c =
    let s = c.args.s.now in
    let from = c.args.from in
    let zeros = zeroed s c.fill.new.self from c.requires.0 c.requires.1 (c.fill.ensures.after (λ y h. h)) in
    closed s (take from s) _ _ c.args.number _ c.requires.1 (omega (arith, length-take from s)) zeros c.check_of-sum.ensures c.put4.ensures
