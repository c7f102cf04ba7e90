-- The loop of `stepped::short_sum`: the sum of the elements passed. Assumes nothing.
use Rattle.std.proofs.Common.{◌≡◌, ◌+◌, ◌-◌, ◌*◌, ◌≤◌, get_or}
use Rattle.tally.specs.Tally.{sum}
use Rattle.count.proofs.stepped.short_sum.Given as goal

abbrev pub invariant-loop-x : goal.invariant-loop-x
invariant-loop-x l = (l.n ≡ sum (λ i. get_or l.d (l.a + i) 0) (l.x - l.a)) × (l.n ≤ 255 * (l.x - l.a))
