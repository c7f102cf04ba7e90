-- `words::level_table` meets its contract: the table is that of the levels passed. Assumes nothing.
use Rattle.std.proofs.Common.{◌≡◌, take}
use Rattle.matte.specs.Layout.{eight}
use Rattle.words.specs.Listed.{level_table}
use Rattle.words.proofs.level_table.Given as goal

abbrev pub invariant-loop-k : goal.invariant-loop-k
invariant-loop-k l = l.t ≡ level_table eight (take l.k-index l.ks)
