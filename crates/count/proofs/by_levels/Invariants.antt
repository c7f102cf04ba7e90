-- The loop of `by_levels`: the crossed edgels of the levels passed. Assumes nothing.
use Rattle.std.proofs.Common.{◌≡◌, ◌*◌, ◌≤◌, take}
use Rattle.tally.specs.Tally.{total}
use Rattle.matte.specs.Picture.{picture}
use Rattle.store.specs.Store.{samples_of}
use Rattle.count.specs.Count.{crossings}
use Rattle.count.proofs.by_levels.Given as goal

abbrev pub invariant-loop-j : goal.invariant-loop-j
invariant-loop-j g l =
    let S = g.T.Sample in
    (l.n ≡ total (crossings (picture l.w l.h (samples_of S.wide l.px))) (take l.j (samples_of S.wide l.ks))) × (l.n ≤ l.j * 8388608)
