-- The loop of `in_blocks`: no place of the blocks passed was fresh. Assumes nothing.
use Rattle.std.proofs.Common.{◌*◌}
use Rattle.store.specs.Store.{samples_of}
use Rattle.seek.specs.Search.{Stale}
use Rattle.seek.proofs.in_blocks.Given as goal

abbrev pub invariant-loop-c : goal.invariant-loop-c
invariant-loop-c g l =
    let S = g.T.Sample in
    Stale (samples_of S.wide l.px) l.work (S.value l.k) l.m (64 * l.b) (64 * l.c)
