-- The loop of `stepped::step8`: the levels passed that v is high at. Assumes nothing.
use Rattle.std.proofs.Common.{◌≡◌, ◌≤◌, ltb, get_or}
use Rattle.tally.specs.Tally.{one, sum}
use Rattle.count.proofs.stepped.step8.Given as goal

abbrev pub invariant-loop-level : goal.invariant-loop-level
invariant-loop-level l = (l.n ≡ sum (λ k. one (ltb (get_or l.levels k 0) l.v)) l.level-index) × (l.n ≤ l.level-index)
