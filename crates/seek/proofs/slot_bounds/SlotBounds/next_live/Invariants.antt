-- The loop of `SlotBounds::next_live`: no slot passed was live. Assumes nothing.
use Rattle.std.proofs.Common.{◌≡◌, false, ℕ, ◌-◌, ◌≤◌, ◌<◌}
use Rattle.store.specs.Store.{samples_of}
use Rattle.seek.specs.Search.{live_at}
use Rattle.seek.proofs.slot_bounds.SlotBounds.next_live.Given as goal

abbrev pub invariant-loop-c : goal.invariant-loop-c
invariant-loop-c g l =
    let S = g.T.Sample in
    (l.from ≤ l.c) × (l.c ≤ l.self.slots) × ((d : ℕ) → l.from ≤ d → d < l.c → live_at (samples_of S.wide l.self.lo.now) (samples_of S.wide l.self.hi.now) (S.value l.k) d ≡ false)

abbrev pub decreases-loop-c : goal.decreases-loop-c
decreases-loop-c g l =
    l.self.slots - l.c
