-- `layer::by_levels` meets its contract, level by level. Assumes nothing.
use Rattle.std.proofs.Common.{◌*◌, take}
use Rattle.matte.specs.Layout.{eight}
use Rattle.layer.specs.Layer.{stacked}
use Rattle.layer.specs.Sums.{Summed}
use Rattle.layer.proofs.by_levels.Given as goal

abbrev pub invariant-loop-k : goal.invariant-loop-k
invariant-loop-k l = Summed (stacked eight l.size.width l.v (take l.k-index l.levels) l.words) (l.size.width * l.size.height) l.fn.room l.room
