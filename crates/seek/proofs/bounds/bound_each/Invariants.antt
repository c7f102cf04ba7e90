-- The loop of `bounds::bound_each`: every slot passed has its bound. Assumes nothing.
use Rattle.std.proofs.Common.{◌≡◌, length, drop}
use Rattle.store.specs.Store.{samples_of}
use Rattle.seek.specs.Search.{Bounds}
use Rattle.seek.proofs.bounds.bound_each.Given as goal

abbrev pub invariant-loop-c : goal.invariant-loop-c
invariant-loop-c g l =
    let S = g.T.Sample in
    (length (samples_of S.wide l.out) ≡ length (samples_of S.wide l.initial.out)) × (Bounds (samples_of S.wide l.px) (samples_of S.wide l.out) l.top l.four l.c) × (drop l.e (samples_of S.wide l.out) ≡ drop l.e (samples_of S.wide l.initial.out))
