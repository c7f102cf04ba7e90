-- `layer::add_all` meets its contract: all words were looked at, or the levels are added anew. Assumes nothing.
use Rattle.layer.proofs.Takes.{take_all}
use Rattle.layer.proofs.Levels.{summed_over}
use Rattle.layer.proofs.add_all.Goals as goal

pub returns-then-a-words : goal.returns-then-a-words
returns-then-a-words c =
    rw (take_all c.args.words.now c.by_groups-a.result c.if-a-words.true) at c.by_groups-a.ensures.1

pub returns : goal.returns
returns c = summed_over _ _ _ _ _ c.by_groups-a.ensures.1 _ c.by_levels.ensures
