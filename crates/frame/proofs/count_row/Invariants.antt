-- `frame::count_row`: the counters are raised by the samples passed. Assumes nothing.
use Rattle.std.proofs.Common.{◌*◌, take}
use Rattle.frame.specs.Counts.{Added}
use Rattle.frame.proofs.count_row.Given as goal

abbrev pub invariant-loop-k : goal.invariant-loop-k
invariant-loop-k l = Added l.fn.heads.whole l.fn.heads.top (take (64 * l.k) l.run) l.fn.t l.t
