-- The loops of `count_level`: the crossed edgels of the blocks passed, then of the places passed. Assumes nothing.
use Rattle.std.proofs.Common.{◌≡◌, ◌*◌}
use Rattle.tally.specs.Tally.{sum}
use Rattle.store.specs.Store.{samples_of}
use Rattle.count.specs.Count.{pair_at}
use Rattle.count.proofs.count_level.Given as goal

abbrev pub invariant-loop-b : goal.invariant-loop-b
invariant-loop-b g l =
    let S = g.T.Sample in
    l.n ≡ sum (pair_at (samples_of S.wide l.px) l.w (S.value l.k)) (64 * l.b)

abbrev pub invariant-loop-i : goal.invariant-loop-i
invariant-loop-i g l =
    let S = g.T.Sample in
    l.n ≡ sum (pair_at (samples_of S.wide l.px) l.w (S.value l.k)) l.i
