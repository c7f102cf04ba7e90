-- The rows that calls begin with, and what they hand on where none of them is given. Assumes nothing.
-- Definitions: `shape_rows` 1 2; `level_rows` 1 2 3; `ground_rows` 1 2 3 4 17 18 19; `size_rows` 1 3; `Sides` both sides are in range; `Shaped` there are as many samples as they say; `Ground` what the calls that follow
--   lines need of a picture.
use Rattle.std.specs.Prelude.{◌≡◌, true, List, [], ◌∷◌, ◌++◌, ℕ, ◌≤◌, length}
use Rattle.matte.specs.Layout.{Layout}
use Rattle.matte.specs.Picture.{Picture, size, border_fits}
use Rattle.refuse.specs.Refusal.{Row, sides_row, samples_row, levels_row}
use Rattle.refuse.specs.Hot.{border_rows}

-- 1 2 (01, Numbers for a refused call, Order)
abbrev pub shape_rows : Picture → List Row
shape_rows P = sides_row P.w P.h ∷ samples_row P ∷ []

-- 1 2 3 (01, Numbers for a refused call, Order)
abbrev pub level_rows : Layout → Picture → List ℕ → List Row
level_rows L P ks = shape_rows P ++ (levels_row L ks ∷ [])

-- 1 2 3 4 17 18 19 (01, Numbers for a refused call, Order; 02, R-1)
abbrev pub ground_rows : Layout → Picture → List ℕ → List Row
ground_rows L P ks = level_rows L P ks ++ border_rows P

-- 1 3 (01, Numbers for a refused call, Order)
abbrev pub size_rows : Layout → ℕ → ℕ → List ℕ → List Row
size_rows L w h ks = sides_row w h ∷ levels_row L ks ∷ []

-- both sides are 2 to 2,048 (01, Picture, levels, edgels)
pub record Sides (w h : ℕ) : Type 0 where
  pub w_least : 2 ≤ w
  pub w_most : w ≤ 2048
  pub h_least : 2 ≤ h
  pub h_most : h ≤ 2048

-- fitting sides and w·h samples: neither 1 nor 2 is given
pub record Shaped (P : Picture) : Type 0 where
  pub sides : Sides P.w P.h
  pub whole : length P.px ≡ size P

-- and a constant border: none of 1, 2, 4, 17, 18 and 19 is given
pub record Ground (P : Picture) : Type 0 where
  pub sides : Sides P.w P.h
  pub whole : length P.px ≡ size P
  pub border : border_fits P ≡ true
