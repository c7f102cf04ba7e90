-- `stepped::row_sum`: the sums of the two rows of distances. Assumes nothing.
use Rattle.std.proofs.Common.{◌-◌, arith}
use Rattle.count.proofs.Rows.{distances_both}
use Rattle.count.proofs.stepped.row_sum.Goals as goal

pub returns : goal.returns
returns c =
    let a = c.args in
    let n = c.long_sum-n in (
      distances_both a.p.now a.q.now _ _ (a.w - 1) n.result c.long_sum.result c.gap_row.ensures c.gap_row-2.ensures n.ensures.0 c.long_sum.ensures.0,
      omega (arith, n.ensures.1, c.long_sum.ensures.1),
    )
