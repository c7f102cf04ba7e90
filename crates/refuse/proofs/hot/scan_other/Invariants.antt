-- `refuse::hot::scan_other`: every sample passed was v. Assumes nothing.
use Rattle.std.proofs.Common.{◌≡◌, false, ℕ, ◌≤◌, ◌<◌}
use Rattle.refuse.specs.Ends.{other_at}
use Rattle.refuse.proofs.hot.scan_other.Given as goal

abbrev pub invariant-loop-i : goal.invariant-loop-i
invariant-loop-i l = (d : ℕ) → l.from ≤ d → d < l.i → other_at l.px l.v d ≡ false
