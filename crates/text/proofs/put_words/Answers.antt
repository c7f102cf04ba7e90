-- `text::put_words` meets its contract: each word's rows come after those of the words before. Assumes nothing.
use Rattle.std.proofs.Common.{ap, ◌∙◌, arith}
use Rattle.tally.specs.Tally.{one}
use Rattle.text.proofs.Rows.{one_from, start_room, word_room, go, end}
use Rattle.text.proofs.put_words.Goals as goal

pub put_start-at-requires : goal.put_start-at-requires
put_start-at-requires c = start_room _ _ _ _ _ c.requires.2 _ _ _ _ c.loop-i.invariant c.loop-i-test.true

pub put_word-at-requires : goal.put_word-at-requires
put_word-at-requires c = (c.requires.0, c.requires.1, word_room _ _ _ _ _ c.requires.2 _ _ _ _ c.loop-i.invariant c.loop-i-test.true _ _ c.put_start-at.ensures)

pub loop-i-preserved : goal.loop-i-preserved
loop-i-preserved c =
    go _ _ _ _ _ c.requires.2 _ _ _ _ c.loop-i.invariant c.loop-i-test.true _ _ c.put_start-at.ensures _ _ c.put_word-at.ensures _
    (c.from-n.ensures ∙ one_from _ ∙ ap one c.flagged.ensures)

pub returns : goal.returns
returns c = end _ _ _ _ _ c.requires.2 _ _ _ _ c.loop-i.invariant (omega arith)
