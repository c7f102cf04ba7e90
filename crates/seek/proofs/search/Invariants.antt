-- The loop of `search`: no place before block b or of a slot passed was fresh. Assumes nothing.
use Rattle.std.proofs.Common.{◌*◌, ◌-◌, ◌≤◌}
use Rattle.store.specs.Store.{samples_of}
use Rattle.seek.specs.Search.{slot, reach, Stale}
use Rattle.seek.proofs.search.Given as goal

abbrev pub invariant-loop-c : goal.invariant-loop-c
invariant-loop-c g l =
    let S = g.T.Sample in
    (slot l.bounds.four l.b ≤ l.c)
    × (l.c ≤ l.bounds.slots)
    × (64 * l.b ≤ reach l.bounds.four l.bounds.slots)
    × Stale (samples_of S.wide l.bounds.px.now) l.work (S.value l.k) l.m 0 (64 * l.b)
    × Stale (samples_of S.wide l.bounds.px.now) l.work (S.value l.k) l.m 0 (reach l.bounds.four l.c)

abbrev pub decreases-loop-c : goal.decreases-loop-c
decreases-loop-c g l =
    l.bounds.slots - l.c
