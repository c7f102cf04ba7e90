-- `paint::odd_west` meets its contract: n counts the words passed. Assumes nothing.
use Rattle.std.proofs.Common.{◌≡◌, take}
use Rattle.tally.specs.Tally.{tally}
use Rattle.matte.specs.Layout.{eight}
use Rattle.edgel.specs.Word.{code_of}
use Rattle.edgel.specs.Beside.{west_of}
use Rattle.paint.proofs.odd_west.Given as goal

abbrev pub invariant-loop-u : goal.invariant-loop-u
invariant-loop-u l = l.n ≡ tally (λ u. west_of l.fn.size.width l.x l.y (code_of eight u)) (take l.u-index l.ws)
