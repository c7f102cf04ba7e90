-- The loop of `within::least_in`: the first fresh place among those looked at. Assumes nothing.
use Rattle.store.specs.Store.{samples_of}
use Rattle.seek.proofs.Blocks.{Finding}
use Rattle.seek.proofs.within.least_in.Given as goal

abbrev pub invariant-loop-i : goal.invariant-loop-i
invariant-loop-i g l = let S = g.T.Sample in Finding (samples_of S.wide l.px) l.work (S.value l.k) l.m l.a l.i l.first
