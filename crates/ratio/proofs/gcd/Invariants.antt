-- `ratio::gcd`: each turn keeps the gcd and an odd number, and the sum falls. Assumes nothing.
use Rattle.std.proofs.Common.{◌≡◌, ◌%◌, ◌+◌}
use Rattle.ratio.specs.Lowest.{gcd}
use Rattle.ratio.proofs.gcd.Given as goal

abbrev pub invariant-loop-y : goal.invariant-loop-y
invariant-loop-y l = (l.x % 2 ≡ 1) × (gcd l.x l.y ≡ gcd l.fn.a l.fn.b)

abbrev pub decreases-loop-y : goal.decreases-loop-y
decreases-loop-y l = l.x + l.y
