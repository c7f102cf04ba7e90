-- The loop of `bounds::bound_all`: every slot of the pieces passed has both bounds. Assumes nothing.
use Rattle.std.proofs.Common.{◌≡◌, true, false, ◌*◌, min, drop}
use Rattle.store.specs.Store.{samples_of}
use Rattle.seek.specs.Search.{Bounds}
use Rattle.seek.proofs.bounds.bound_all.Given as goal

abbrev pub invariant-loop-piece : goal.invariant-loop-piece
invariant-loop-piece g l =
    let S = g.T.Sample in
    (Bounds (samples_of S.wide l.px) (samples_of S.wide l.lo) false l.four (min (256 * l.piece) l.slots))
    × (Bounds (samples_of S.wide l.px) (samples_of S.wide l.hi) true l.four (min (256 * l.piece) l.slots))
    × (drop l.slots (samples_of S.wide l.lo) ≡ drop l.slots (samples_of S.wide l.initial.lo))
    × (drop l.slots (samples_of S.wide l.hi) ≡ drop l.slots (samples_of S.wide l.initial.hi))
