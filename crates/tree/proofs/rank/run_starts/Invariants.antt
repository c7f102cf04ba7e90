-- `tree::rank::run_starts`: the sums passed stand in the work bytes. Assumes nothing.
use Rattle.std.proofs.Common.{◌≡◌, ◌*◌, ◌≤◌}
use Rattle.tree.specs.Note.{gaps}
use Rattle.tree.proofs.Sums.{Running}
use Rattle.tree.proofs.rank.run_starts.Given as goal

abbrev pub invariant-loop-b : goal.invariant-loop-b
invariant-loop-b l = (l.n ≡ gaps l.st l.px (8 * l.b)) × (l.n ≤ 255 * (8 * l.b)) × Running l.st l.px l.fn.work l.work l.b
