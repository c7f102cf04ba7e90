-- `refuse::hot::all_like` meets its contract. Assumes nothing.
use Rattle.std.proofs.Common.{arith, ap, sym, not, ◌≤◌, ◌∙◌, ◌+◌, ℕ, eqb, get_or}
use Rattle.tally.proofs.Every.{every_none, every_byte, byte_most}
use Rattle.refuse.proofs.hot.all_like.Goals as goal

pub loop-j-init : goal.loop-j-init
loop-j-init c = (omega arith, sym (every_none _))

pub loop-j-preserved : goal.loop-j-preserved
loop-j-preserved c =
    let a = c.args in
    let most : c.from-others.result ≤ 1 = rw c.from-others.ensures (byte_most _) in
    (omega arith, ap (λ (n : ℕ). eqb (c.loop-j.others + n) 0) c.from-others.ensures ∙ every_byte (λ k. eqb (get_or a.px.now (a.from + k) 0) a.v) _ _ c.loop-j.invariant.1)
