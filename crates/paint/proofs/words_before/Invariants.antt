-- `paint::words_before` meets its contract: line n starts where line `left` of what is left of the list does. Assumes nothing.
use Rattle.std.proofs.Common.{◌≡◌, ◌+◌, drop}
use Rattle.matte.specs.Layout.{eight}
use Rattle.paint.specs.Part.{words_before}
use Rattle.paint.proofs.words_before.Given as goal

abbrev pub invariant-loop-i : goal.invariant-loop-i
invariant-loop-i l = words_before eight l.n l.words ≡ l.i + words_before eight l.left (drop l.i l.words)
