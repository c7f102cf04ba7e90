-- `refuse::hot::scan_other` meets its contract. Assumes nothing.
use Rattle.std.proofs.Common.{arith, sym, ap, not, ◌-◌}
use borrow.Author.Tests.{ne_eqb}
use Rattle.tally.proofs.First.{from_is}
use Rattle.refuse.specs.Ends.{other_at}
use Rattle.refuse.proofs.hot.scan_other.Goals as goal

pub returns-then-px-i : goal.returns-then-px-i
returns-then-px-i c =
    let a = c.args in
    sym (from_is (other_at a.px.now a.v) a.from (a.to - a.from) c.loop-i.i (omega arith) (omega arith) c.loop-i.invariant (λ t. ap not (ne_eqb _ _ c.if-px-i.true)))

pub returns : goal.returns
returns c =
    let a = c.args in
    sym (from_is (other_at a.px.now a.v) a.from (a.to - a.from) a.to (omega arith) (omega arith) (λ d x y. c.loop-i.invariant d x (omega arith)) (λ t. absurd (omega arith)))
