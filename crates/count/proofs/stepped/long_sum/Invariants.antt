-- The loop of `stepped::long_sum`: the sum of the pieces passed. Assumes nothing.
use Rattle.std.proofs.Common.{◌≡◌, ◌*◌, ◌≤◌, get_or}
use Rattle.tally.specs.Tally.{sum}
use Rattle.count.proofs.stepped.long_sum.Given as goal

abbrev pub invariant-loop-piece : goal.invariant-loop-piece
invariant-loop-piece l = (l.n ≡ sum (λ i. get_or l.d i 0) (256 * l.piece)) × (l.n ≤ 255 * (256 * l.piece))
