-- `layer::rows::add_layer` meets its contract, row by row. Assumes nothing.
use Rattle.std.proofs.Common.{◌*◌}
use Rattle.marks.specs.Marks.{bit_at}
use Rattle.layer.proofs.Layers.{Rows}
use Rattle.layer.proofs.rows.add_layer.Given as goal

abbrev pub invariant-loop-y : goal.invariant-loop-y
invariant-loop-y l = Rows (bit_at l.m) l.f l.size.width (l.y * l.size.width) l.on l.fn.room l.room
