-- Lines through small pictures, step by step, worked out: what an edit of the step from cell to cell makes false shows here. Assumes nothing.
-- Definitions: `dot`, `hole`, `pair` the paper's pictures; `turned` the pair's mirror image, whose middle cell is entered heading S and N; `bar` 4 by 3, two high samples side by side; `Goes` each crossing of a list is
--   followed by the next one, the last by the first.
-- Main laws: `pair_joined` the paper's (c), below the saddle; `pair_apart` its (d), where the saddle is met; `turned_apart` the same of the mirror image; `bar_goes` straight on above and below the two.
use mathlib.Core.Path.{◌≡◌, refl}
use mathlib.Core.List.{List, [], ◌∷◌, ◌++◌, map}
use Prim.Native.Nat.{ℕ}
use Rattle.matte.specs.Picture.{Picture, picture}
use Rattle.edgel.specs.Edgel.{heading_at}
use Rattle.cell.specs.Turn.{saddle, leave, next}

abbrev pub dot : Picture
dot = picture 3 3 (0 ∷ 0 ∷ 0 ∷ 0 ∷ 1 ∷ 0 ∷ 0 ∷ 0 ∷ 0 ∷ [])

abbrev pub hole : Picture
hole = picture 3 3 (1 ∷ 1 ∷ 1 ∷ 1 ∷ 0 ∷ 1 ∷ 1 ∷ 1 ∷ 1 ∷ [])

abbrev pub pair : Picture
pair = picture 4 4 (0 ∷ 0 ∷ 0 ∷ 0 ∷ 0 ∷ 3 ∷ 0 ∷ 0 ∷ 0 ∷ 0 ∷ 3 ∷ 0 ∷ 0 ∷ 0 ∷ 0 ∷ 0 ∷ [])

abbrev pub turned : Picture
turned = picture 4 4 (0 ∷ 0 ∷ 0 ∷ 0 ∷ 0 ∷ 0 ∷ 3 ∷ 0 ∷ 0 ∷ 3 ∷ 0 ∷ 0 ∷ 0 ∷ 0 ∷ 0 ∷ 0 ∷ [])

abbrev pub bar : Picture
bar = picture 4 3 (0 ∷ 0 ∷ 0 ∷ 0 ∷ 0 ∷ 1 ∷ 1 ∷ 0 ∷ 0 ∷ 0 ∷ 0 ∷ 0 ∷ [])

abbrev pub Goes : Picture → ℕ → ℕ → List ℕ → Type 0
Goes P k c l = map (next P k) (c ∷ l) ≡ l ++ (c ∷ [])

pub pair_joined : Goes pair 0 8 (11 ∷ 18 ∷ 21 ∷ 20 ∷ 13 ∷ 10 ∷ 3 ∷ [])
unfolding heading_at next leave saddle
pair_joined = refl

pub pair_apart : Goes pair 1 8 (11 ∷ 10 ∷ 3 ∷ []) × Goes pair 1 18 (21 ∷ 20 ∷ 13 ∷ [])
unfolding heading_at next leave saddle
pair_apart = (refl, refl)

pub turned_apart : Goes turned 1 10 (13 ∷ 12 ∷ 5 ∷ []) × Goes turned 1 16 (19 ∷ 18 ∷ 11 ∷ [])
unfolding heading_at next leave saddle
turned_apart = (refl, refl)

pub bar_goes : Goes bar 0 8 (11 ∷ 13 ∷ 12 ∷ 5 ∷ 3 ∷ [])
unfolding heading_at next leave saddle
bar_goes = refl
