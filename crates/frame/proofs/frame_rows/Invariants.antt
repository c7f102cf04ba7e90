-- `frame::frame_rows`: the rows above row y are written. Assumes nothing.
use Rattle.std.proofs.Common.{◌*◌}
use Rattle.fill.specs.Filled.{Filled}
use Rattle.frame.specs.Framing.{framing}
use Rattle.frame.proofs.frame_rows.Given as goal

abbrev pub invariant-loop-y : goal.invariant-loop-y
invariant-loop-y l = Filled (framing l.fn.size.width l.fn.size.height l.v l.px) l.fn.room (l.y * l.fn.size.width) l.room
