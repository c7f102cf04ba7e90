-- The loop of `stepped::step_table`: the step of v, and those of the bytes below it. Assumes nothing.
use Rattle.std.proofs.Common.{◌≡◌, ℕ, ◌<◌, length, get_or}
use Rattle.count.specs.Steps.{steps}
use Rattle.count.proofs.stepped.step_table.Given as goal

abbrev pub invariant-loop-v : goal.invariant-loop-v
invariant-loop-v l = (length l.t ≡ 256) × (l.j ≡ steps l.ks l.v) × ((i : ℕ) → i < l.v → get_or l.t i 0 ≡ steps l.ks i)
