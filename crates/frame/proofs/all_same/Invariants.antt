-- `frame::all_same`: whether all samples passed have the head. Assumes nothing.
use Rattle.std.proofs.Common.{◌≡◌, eqb, get_or}
use Rattle.tally.specs.Tally.{every}
use Rattle.frame.specs.Counts.{head_of}
use Rattle.frame.proofs.all_same.Given as goal

abbrev pub invariant-loop-s : goal.invariant-loop-s
invariant-loop-s l = l.same ≡ every (λ k. eqb (head_of l.whole (get_or l.run k 0)) l.q) l.s-index
