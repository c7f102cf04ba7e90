-- `stepped::short_sum`: one element more at each step. Assumes nothing.
use Rattle.std.proofs.Common.{◌+◌, ◌∙◌, ap, ℕ, get_or, arith}
use Rattle.count.proofs.Rows.{part_none, part_more}
use Rattle.count.proofs.stepped.short_sum.Goals as goal

pub loop-x-init : goal.loop-x-init
loop-x-init c = (part_none (λ i. get_or c.args.d.now i 0) c.args.a, omega arith)

pub loop-x-preserved : goal.loop-x-preserved
loop-x-preserved c =
    let a = c.args in
    let l = c.loop-x in
    (ap (λ (z : ℕ). l.n + z) c.from-n.ensures ∙ part_more (λ i. get_or a.d.now i 0) a.a l.x l.n l.auto.x l.invariant.0, omega arith)
