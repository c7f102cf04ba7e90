-- The loop of `tail`: no place passed was fresh. Assumes nothing.
use Rattle.std.proofs.Common.{◌≡◌, false, ℕ, ◌≤◌, ◌<◌}
use Rattle.store.specs.Store.{samples_of}
use Rattle.seek.specs.Search.{fresh}
use Rattle.seek.proofs.tail.Given as goal

abbrev pub invariant-loop-p : goal.invariant-loop-p
invariant-loop-p g l =
    let S = g.T.Sample in
    (d : ℕ) → d < l.p → l.from ≤ d → fresh (samples_of S.wide l.px) l.work (S.value l.k) l.m d ≡ false
