-- The loop of `SlotBounds::scan_live`: no slot passed was live. Assumes nothing.
use Rattle.std.proofs.Common.{◌≡◌, false, ℕ, ◌≤◌, ◌<◌}
use Rattle.store.specs.Store.{samples_of}
use Rattle.seek.specs.Search.{live_at}
use Rattle.seek.proofs.slot_bounds.SlotBounds.scan_live.Given as goal

abbrev pub invariant-loop-c : goal.invariant-loop-c
invariant-loop-c g l =
    let S = g.T.Sample in
    (d : ℕ) → d < l.c → l.from ≤ d → live_at (samples_of S.wide l.self.lo.now) (samples_of S.wide l.self.hi.now) (S.value l.k) d ≡ false
