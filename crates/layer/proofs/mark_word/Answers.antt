-- `layer::mark_word` meets its contract: the mark of the word's place is turned over, if the word is of the level and horizontal. Assumes nothing.
use Rattle.std.proofs.Common.{ap, ◌∙◌}
use Rattle.tally.specs.Tally.{differ}
use Rattle.marks.specs.Marks.{bit_at}
use Rattle.layer.proofs.Turns.{hit_is}
use Rattle.layer.proofs.mark_word.Goals as goal

pub returns : goal.returns
returns c p =
    c.flip.ensures p ∙ ap (differ (bit_at c.args.m.now p)) (hit_is c.args.k p c.args.u _ _ c.level_of.ensures c.code_of-c.ensures.0)
