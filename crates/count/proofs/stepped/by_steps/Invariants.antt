-- The loop of `stepped::by_steps`: the rows above row y are counted, and p holds the steps of row y. Assumes nothing.
use Rattle.std.proofs.Common.{◌≡◌, ◌-◌, length}
use Rattle.matte.specs.Picture.{picture}
use Rattle.count.proofs.Rows.{Counted}
use Rattle.count.proofs.stepped.by_steps.Given as goal

abbrev pub invariant-loop-y : goal.invariant-loop-y
invariant-loop-y l = (length l.q ≡ 2048) × Counted (picture l.w l.h l.px) l.ks l.t l.p l.y l.from l.n

abbrev pub decreases-loop-y : goal.decreases-loop-y
decreases-loop-y l = l.h - l.y
