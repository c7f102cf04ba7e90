-- `block::close_two` meets its contract. Assumes nothing.
use Rattle.block.proofs.Put.{closed_two}
use Rattle.block.proofs.close_two.Goals as goal

pub returns : goal.returns
returns c =
    let sums = c.check_two-two.ensures in
    closed_two c.args.s.now _ _ c.args.number _ _ c.requires.0 sums.0 sums.1 c.put4.ensures c.put4-2.ensures
