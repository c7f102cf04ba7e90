-- The loop of `SlotBounds::alive_in`: whether a slot so far was live. Assumes nothing.
use Rattle.std.proofs.Common.{◌≡◌, not, ◌+◌}
use Rattle.tally.specs.Tally.{every}
use Rattle.store.specs.Store.{samples_of}
use Rattle.seek.specs.Search.{live_at}
use Rattle.seek.proofs.slot_bounds.SlotBounds.alive_in.Given as goal

abbrev pub invariant-loop-i : goal.invariant-loop-i
invariant-loop-i g l =
    let S = g.T.Sample in
    l.any ≡ not (every (λ j. not (live_at (samples_of S.wide l.self.lo.now) (samples_of S.wide l.self.hi.now) (S.value l.k) (l.c + j))) l.i)
