-- `layer::mark_words` meets its contract, word by word. Assumes nothing.
use Rattle.std.proofs.Common.{◌≡◌, ℕ, take}
use Rattle.tally.specs.Tally.{differ}
use Rattle.matte.specs.Layout.{eight}
use Rattle.marks.specs.Marks.{bit_at}
use Rattle.layer.specs.Layer.{turned_at}
use Rattle.layer.proofs.mark_words.Given as goal

abbrev pub invariant-loop-u : goal.invariant-loop-u
invariant-loop-u l = (p : ℕ) → bit_at l.m p ≡ differ (bit_at l.fn.m p) (turned_at eight l.k (take l.u-index l.words) p)
