-- Small cases of the promises, worked out: what an edit of their definitions makes false shows here. Assumes nothing.
-- Main laws: `all_steps` stepped by all levels, a picture with the samples 0, 1, 254 and 255 is itself; `rows_a_b` the first three rows of the paper's table are the lines of the dot and the hole, and the hole's tree entry.
use mathlib.Core.Path.{◌≡◌, refl}
use mathlib.Core.List.{[], ◌∷◌}
use lib.ListN.{take}
use Rattle.tally.specs.Tally.{build, tally, pick}
use Rattle.orbit.specs.Orbit.{orbit, low, leads}
use Rattle.matte.specs.Layout.{eight}
use Rattle.matte.specs.Picture.{picture}
use Rattle.edgel.specs.Edgel.{edgel, crossed, cut, heading_at}
use Rattle.cell.specs.Turn.{saddle, leave, next}
use Rattle.outline.specs.Line.{line, is_lead, lines}
use Rattle.enclosure.specs.Position.{key, on_left, nearest}
use Rattle.enclosure.specs.Tree.{lead_words, best, firsts, level_at, lead_at, around, near, parent, kind, entry, entries}
use Rattle.promises.specs.Stepped.{stepped_picture, all_levels}
use Rattle.promises.specs.Small.{dot, hole, expected}

pub all_steps : stepped_picture all_levels (picture 2 2 (0 ∷ 1 ∷ 254 ∷ 255 ∷ [])) ≡ 0 ∷ 1 ∷ 254 ∷ 255 ∷ []
unfolding build tally stepped_picture
all_steps = refl

pub rows_a_b : lines dot 0 ∷ lines hole 0 ∷ (entries eight hole (0 ∷ []) ∷ []) ∷ [] ≡ take 3 expected
unfolding build tally pick entry kind parent best around near nearest on_left key level_at lead_at firsts lead_words lines line is_lead leads low orbit cut edgel crossed heading_at next leave saddle
rows_a_b = refl
