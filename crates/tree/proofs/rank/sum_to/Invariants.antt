-- `tree::rank::sum_to`: the crossings before the place i. Assumes nothing.
use Rattle.std.proofs.Common.{◌≡◌, ◌*◌, ◌≤◌}
use Rattle.tree.specs.Note.{gaps}
use Rattle.tree.proofs.rank.sum_to.Given as goal

abbrev pub invariant-loop-i : goal.invariant-loop-i
invariant-loop-i l = (l.m ≡ gaps l.st l.px l.i) × (l.m ≤ 255 * l.i)
