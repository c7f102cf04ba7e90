-- Borders of small pictures, worked out: what an edit of the definitions of a hot sample makes false shows here. Assumes nothing.
-- Definitions: `board` 4 by 3 with a border of 7 but for one or two samples, and an inner one of 9.
-- Main laws: `hot_first` of two hot samples the first is told; `hot_none` inner samples are not looked at, and a border of one value has none; `hot_from_0` where sample 0 is the odd one, the next is told;
--   `edges_told` the edge of each border place; `rows_told`, `places_told` number and place that the rows give; `order_told` a bad level is told before the border.
use mathlib.Core.Path.{◌≡◌, refl}
use mathlib.Core.List.{List, [], ◌∷◌, map}
use Prim.Native.Nat.{ℕ}
use lib.ListN.{set}
use Rattle.tally.specs.Tally.{first_from}
use Rattle.matte.specs.Layout.{eight}
use Rattle.matte.specs.Picture.{Picture, picture, ascend}
use Rattle.refuse.specs.Refusal.{verdict}
use Rattle.refuse.specs.Hot.{edge, hot, border_rows}
use Rattle.refuse.specs.Shape.{ground_rows}

abbrev pub board : ℕ → ℕ → Picture
board i j = picture 4 3 (set (set (7 ∷ 7 ∷ 7 ∷ 7 ∷ 7 ∷ 9 ∷ 9 ∷ 7 ∷ 7 ∷ 7 ∷ 7 ∷ 7 ∷ []) i 8) j 8)

pub hot_first : hot (board 7 8) ∷ hot (board 3 10) ∷ hot (board 9 4) ∷ [] ≡ 7 ∷ 3 ∷ 4 ∷ []
unfolding hot first_from
hot_first = refl

pub hot_none : hot (board 5 6) ≡ 12
unfolding hot first_from
hot_none = refl

pub hot_from_0 : hot (board 0 5) ≡ 1
unfolding hot first_from
hot_from_0 = refl

pub edges_told : map (edge 4 3) (0 ∷ 2 ∷ 3 ∷ 4 ∷ 7 ∷ 8 ∷ 9 ∷ 11 ∷ []) ≡ 4 ∷ 4 ∷ 4 ∷ 18 ∷ 19 ∷ 17 ∷ 17 ∷ 17 ∷ []
edges_told = refl

pub rows_told : map (λ (i : ℕ). (verdict (border_rows (board i 5))).number) (3 ∷ 4 ∷ 7 ∷ 11 ∷ []) ≡ 4 ∷ 18 ∷ 19 ∷ 17 ∷ []
unfolding hot first_from
rows_told = refl

pub places_told : map (λ (i : ℕ). (verdict (border_rows (board i 5))).place) (3 ∷ 4 ∷ 7 ∷ 11 ∷ []) ≡ 3 ∷ 4 ∷ 7 ∷ 11 ∷ []
unfolding hot first_from
places_told = refl

pub order_told : map (λ (k : ℕ). (verdict (ground_rows eight (board 3 5) (k ∷ []))).number) (255 ∷ 7 ∷ []) ≡ 3 ∷ 4 ∷ []
unfolding hot first_from ascend
order_told = refl
