-- `frame::middle`: half was not reached at any entry passed. Assumes nothing.
use Rattle.frame.proofs.Halves.{Below}
use Rattle.frame.proofs.middle.Given as goal

abbrev pub invariant-loop-d : goal.invariant-loop-d
invariant-loop-d l = Below l.t l.below l.n l.upto l.d

-- The entries are gone through by a range,
-- so the loop ends by itself.
