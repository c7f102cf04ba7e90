-- The loop of `bounds::bound_in`: the bound of the samples passed. Assumes nothing.
use Rattle.std.proofs.Common.{◌≡◌}
use Rattle.store.specs.Store.{samples_of}
use Rattle.seek.specs.Search.{bound_of}
use Rattle.seek.proofs.bounds.bound_in.Given as goal

abbrev pub invariant-loop-i : goal.invariant-loop-i
invariant-loop-i g l = let S = g.T.Sample in S.value l.m ≡ bound_of (samples_of S.wide l.px) l.top l.a l.i
