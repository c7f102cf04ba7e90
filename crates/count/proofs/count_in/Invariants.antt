-- The loop of `count_in`: the crossed edgels of the places passed. Assumes nothing.
use Rattle.std.proofs.Common.{◌≡◌, ◌+◌}
use Rattle.tally.specs.Tally.{sum}
use Rattle.store.specs.Store.{samples_of}
use Rattle.count.specs.Count.{pair_at}
use Rattle.count.proofs.count_in.Given as goal

abbrev pub invariant-loop-i : goal.invariant-loop-i
invariant-loop-i g l = let S = g.T.Sample in l.n ≡ sum (λ j. pair_at (samples_of S.wide l.px) l.w (S.value l.k) (l.from + j)) l.i
