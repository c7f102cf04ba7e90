-- `frame::count_run`: the counters are raised by the samples passed. Assumes nothing.
use Rattle.std.proofs.Common.{◌≡◌, length, take}
use Rattle.frame.specs.Counts.{Added}
use Rattle.frame.proofs.count_run.Given as goal

abbrev pub invariant-loop-s : goal.invariant-loop-s
invariant-loop-s l = (length l.t ≡ 16) × Added l.heads.whole l.heads.top (take l.s-index l.run) l.fn.t l.t
