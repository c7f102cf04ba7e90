-- `layer::by_groups` meets its contract, level by level: each has its words between those of the levels before and after. Assumes nothing.
use Rattle.std.proofs.Common.{◌*◌, take}
use Rattle.matte.specs.Layout.{eight}
use Rattle.layer.specs.Layer.{stacked}
use Rattle.layer.specs.Sums.{Summed}
use Rattle.layer.proofs.Grouping.{Behind}
use Rattle.layer.proofs.by_groups.Given as goal

abbrev pub invariant-loop-k : goal.invariant-loop-k
invariant-loop-k l =
    Behind eight l.levels l.words l.a l.k-index × Summed (stacked eight l.size.width l.v (take l.k-index l.levels) (take l.a l.words)) (l.size.width * l.size.height) l.fn.room l.room
