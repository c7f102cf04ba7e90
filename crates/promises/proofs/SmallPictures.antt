-- The small pictures hold. Assumes nothing.
-- Main law: `small_pictures` the table worked out from the definitions is the paper's.
use mathlib.Core.Path.{◌≡◌, refl}
use Rattle.tally.specs.Tally.{sum, build, count, tally, first_from, pick, total}
use Rattle.orbit.specs.Orbit.{orbit, low, leads}
use Rattle.matte.specs.Picture.{ascend}
use Rattle.refuse.specs.Hot.{hot}
use Rattle.edgel.specs.Edgel.{edgel, crossed, cut, heading_at}
use Rattle.cell.specs.Turn.{saddle, leave, next}
use Rattle.piece.specs.Piece.{piece_of}
use Rattle.outline.specs.Line.{line, is_lead, lines}
use Rattle.outline.specs.List.{encode, level_words, listed}
use Rattle.enclosure.specs.Position.{key, on_left, nearest}
use Rattle.enclosure.specs.Tree.{lead_words, best, firsts, level_at, lead_at, around, near, parent, kind, entry}
use Rattle.promises.specs.Small.{shown, expected}

pub small_pictures : shown ≡ expected
unfolding sum build count tally first_from pick total orbit low leads ascend hot edgel crossed cut heading_at saddle leave next piece_of line is_lead lines encode level_words listed key on_left nearest lead_words best firsts level_at lead_at around near parent kind entry
small_pictures = refl
