-- `layer::mark_group` meets its contract, word by word. Assumes nothing.
use Rattle.std.proofs.Common.{◌≡◌, ℕ, take}
use Rattle.tally.specs.Tally.{differ}
use Rattle.matte.specs.Layout.{eight}
use Rattle.marks.specs.Marks.{bit_at}
use Rattle.layer.specs.Layer.{turned_at}
use Rattle.layer.specs.Group.{Group}
use Rattle.layer.proofs.mark_group.Given as goal

abbrev pub invariant-loop-i : goal.invariant-loop-i
invariant-loop-i l = Group eight l.words l.from l.k l.i × ((p : ℕ) → bit_at l.m p ≡ differ (bit_at l.fn.m p) (turned_at eight l.k (take l.i l.words) p))
