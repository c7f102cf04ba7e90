-- `tree::rank::rank_of` meets its contract. Assumes nothing.
use Rattle.std.proofs.Common.{◌/◌, ◌∙◌, arith}
use Rattle.tree.proofs.Sums.{rank_high, rank_low}
use Rattle.tree.proofs.rank.rank_of.Goals as goal
use Rattle.tree.proofs.rank.rank_of.Goals.{then-k-p, else-k-p}

pub num4_at-requires : goal.num4_at-requires
num4_at-requires c = c.requires.4.room (c.args.i / 8) (omega (arith, c.requires.0))

pub returns : goal.returns
returns c =
    let a = c.args in
    let n = c.sum_to-n.ensures.0 in
    let s = c.from-s.ensures ∙ c.step_at.ensures in
    elim c.if-k-p.branch [
      | then-k-p w ↦ w.rank-is ∙ rank_high a.st.now a.px.now a.k a.i _ _ _ n s (w.from.ensures ∙ w.step_at-then-k-p.ensures) w.if-k-p.true
      | else-k-p w ↦ w.rank-is ∙ rank_low a.st.now a.px.now a.k a.i _ _ _ n s (w.from-else-k-p.ensures ∙ w.step_at-else-k-p.ensures) w.if-k-p.false
    ]
