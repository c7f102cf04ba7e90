-- The lines and words of small pictures, worked out: what an edit of the list's definitions makes false shows here. Assumes nothing.
-- Definitions: `woven` 7 by 7 with level 3 crossed by one line that has more crossings than there are samples.
-- Main laws: `dot_lines`, `hole_lines` the paper's (a) and (b), the second with its lead heading N; `pair_words` the words of the paper's 4 by 4 picture at levels 0 and 1; `woven_line` all 52 crossings of that line.
use mathlib.Core.Path.{◌≡◌, refl}
use mathlib.Core.List.{List, [], ◌∷◌}
use Prim.Native.Nat.{ℕ}
use lib.ListN.{length}
use Rattle.tally.specs.Tally.{pick}
use Rattle.orbit.specs.Orbit.{orbit, low, leads}
use Rattle.matte.specs.Layout.{eight}
use Rattle.matte.specs.Picture.{Picture, picture}
use Rattle.edgel.specs.Edgel.{edgel, crossed, cut, heading_at}
use Rattle.cell.specs.Turn.{saddle, leave, next}
use Rattle.cell.proofs.Witness.{dot, hole, pair}
use Rattle.outline.specs.Line.{line, is_lead, lines}
use Rattle.outline.specs.List.{encode, level_words, listed}

abbrev pub woven : Picture
woven =
    picture 7 7
    (3 ∷ 3 ∷ 3 ∷ 3 ∷ 3 ∷ 3 ∷ 3 ∷ 3 ∷ 6 ∷ 0 ∷ 4 ∷ 3 ∷ 6 ∷ 3 ∷ 3 ∷ 2 ∷ 6 ∷ 2 ∷ 9 ∷ 3 ∷ 3 ∷ 3 ∷ 9 ∷ 2 ∷ 4 ∷ 2 ∷ 4 ∷ 3 ∷ 3 ∷ 3 ∷ 9 ∷ 0 ∷ 9 ∷ 3 ∷ 3 ∷ 3 ∷ 9 ∷ 2 ∷ 9 ∷ 0 ∷ 9 ∷ 3 ∷ 3 ∷ 3 ∷ 3 ∷ 3 ∷ 3 ∷ 3 ∷ 3 ∷ [])

pub dot_lines : lines dot 0 ≡ (6 ∷ 9 ∷ 8 ∷ 3 ∷ []) ∷ []
unfolding pick lines line is_lead leads low orbit cut edgel crossed heading_at next leave saddle
dot_lines = refl

pub hole_lines : lines hole 0 ≡ (6 ∷ 3 ∷ 8 ∷ 9 ∷ []) ∷ []
unfolding pick lines line is_lead leads low orbit cut edgel crossed heading_at next leave saddle
hole_lines = refl

-- a level takes 2^23 = 8388608, a flag 2^31 = 2147483648
pub pair_words : listed eight pair (0 ∷ 1 ∷ []) ≡ 2147483656 ∷ 11 ∷ 18 ∷ 21 ∷ 20 ∷ 13 ∷ 10 ∷ 3 ∷ 2155872264 ∷ 8388619 ∷ 8388618 ∷ 8388611 ∷ 2155872274 ∷ 8388629 ∷ 8388628 ∷ 8388621 ∷ []
unfolding pick listed level_words encode lines line is_lead leads low orbit cut edgel crossed heading_at next leave saddle
pair_words = refl

pub woven_line : length (line woven 3 14) ≡ 52
unfolding line orbit heading_at next leave saddle
woven_line = refl
