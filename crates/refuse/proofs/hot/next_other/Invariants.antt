-- `refuse::hot::next_other`: every sample passed was v. Assumes nothing.
use Rattle.std.proofs.Common.{◌≡◌, false, ℕ, ◌-◌, ◌≤◌, ◌<◌}
use Rattle.refuse.specs.Ends.{other_at}
use Rattle.refuse.proofs.hot.next_other.Given as goal

abbrev pub invariant-loop-i : goal.invariant-loop-i
invariant-loop-i l = (l.from ≤ l.i) × (l.i ≤ l.to) × ((d : ℕ) → l.from ≤ d → d < l.i → other_at l.px l.v d ≡ false)

abbrev pub decreases-loop-i : goal.decreases-loop-i
decreases-loop-i l = l.to - l.i
