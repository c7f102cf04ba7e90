-- `olr::put::put_head` meets its contract. Assumes nothing.
use Rattle.olr.proofs.Head.{levels_put, head_put}
use Rattle.olr.proofs.put.put_head.Goals as goal

pub returns : goal.returns
returns c =
    let a = c.args in
    head_put a.s.now _ _ _ _ a.size.width a.size.height a.v a.levels.now a.n c.put_sides.ensures c.put_counts.ensures
    (levels_put c.put_counts.new.s _ a.levels.now c.copy.ensures.after)
    c.close.ensures
