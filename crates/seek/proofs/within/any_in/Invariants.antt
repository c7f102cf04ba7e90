-- The loop of `within::any_in`: whether a place so far was fresh. Assumes nothing.
use Rattle.std.proofs.Common.{◌≡◌, not, ◌+◌}
use Rattle.tally.specs.Tally.{every}
use Rattle.store.specs.Store.{samples_of}
use Rattle.seek.specs.Search.{fresh}
use Rattle.seek.proofs.within.any_in.Given as goal

abbrev pub invariant-loop-i : goal.invariant-loop-i
invariant-loop-i g l =
    let S = g.T.Sample in
    l.any ≡ not (every (λ j. not (fresh (samples_of S.wide l.px) l.work (S.value l.k) l.m (l.a + j))) l.i)
