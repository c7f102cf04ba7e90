-- `tree::rank::sum_to` meets its contract: each turn adds the crossings at one place. Assumes nothing.
use Rattle.std.proofs.Common.{arith}
use Rattle.tree.proofs.Sums.{gaps_more}
use Rattle.tree.proofs.rank.sum_to.Goals as goal

pub loop-i-preserved : goal.loop-i-preserved
loop-i-preserved c =
    let a = c.args in
    let l = c.loop-i in
    let r = c.gap_at in (
      omega (arith, l.invariant.0, c.from-m.ensures, r.ensures.0, gaps_more a.st.now a.px.now l.i),
      omega (arith, l.invariant.1, c.from-m.ensures, r.ensures.1),
    )
