-- Which places lie on the border, by row and column. Assumes nothing.
-- Main laws: `on_top`, `on_bottom`, `on_left_lem`, `on_right` the places of the first and last row and of the ends of a row; `off_middle` the others are not on it.
use mathlib.Core.Path.{◌≡◌, refl, ◌∙◌}
use mathlib.Core.Bool.{Bool, true, false, ◌||◌}
use Prim.Native.Nat.{ℕ, ◌+◌, ◌-◌, ◌*◌, ◌≤◌, ◌<◌}
use native.Mathlib.Omega.{arith}
use lib.Dec.{eqb}
use lib.Arith.{digits_div, digits_mod}
use borrow.Author.Tests.{eq-eqb, ne_eqb}
use Rattle.matte.specs.Picture.{on_border}

module _ (w h : ℕ) where
  -- the test of column x on row y
  abbrev edge : ℕ → ℕ → Bool
  edge x y = eqb y 0 || (eqb (y + 1) h || (eqb x 0 || eqb (x + 1) w))

  edge_at : (x y i : ℕ) → x < w → i ≡ y * w + x → on_border w h i ≡ edge x y
  edge_at x y i l s = rw (s, digits_div y l, digits_mod y l)

  last_row : (a b c : Bool) → (a || (true || (b || c))) ≡ true
  last_row true b c = refl
  last_row false b c = refl

  first_column : (a b c : Bool) → (a || (b || (true || c))) ≡ true
  first_column true b c = refl
  first_column false true c = refl
  first_column false false c = refl

  last_column : (a b c : Bool) → (a || (b || (c || true))) ≡ true
  last_column true b c = refl
  last_column false true c = refl
  last_column false false true = refl
  last_column false false false = refl

  pub on_top : (j : ℕ) → j < w → on_border w h j ≡ true
  on_top j l = edge_at j 0 j l (omega arith)

  pub on_bottom : (y j : ℕ) → y + 1 ≡ h → y * w ≤ j → j < y * w + w → on_border w h j ≡ true
  on_bottom y j e a b =
      edge_at (j - y * w) y j (omega arith) (omega arith)
      ∙ rw (eq-eqb (y + 1) h e) (last_row (eqb y 0) (eqb (j - y * w) 0) (eqb (j - y * w + 1) w))

  pub on_left_lem : (y i : ℕ) → 0 < w → i ≡ y * w → on_border w h i ≡ true
  on_left_lem y i p s = edge_at 0 y i p (omega arith) ∙ first_column (eqb y 0) (eqb (y + 1) h) (eqb (0 + 1) w)

  pub on_right : (y i : ℕ) → 0 < w → i ≡ y * w + (w - 1) → on_border w h i ≡ true
  on_right y i p s =
      edge_at (w - 1) y i (omega arith) s
      ∙ rw (eq-eqb (w - 1 + 1) w (omega arith)) (last_column (eqb y 0) (eqb (y + 1) h) (eqb (w - 1) 0))

  pub off_middle : (y j : ℕ) → 0 < y → y + 1 < h → y * w < j → j + 1 < y * w + w → on_border w h j ≡ false
  off_middle y j p q a b =
      edge_at (j - y * w) y j (omega arith) (omega arith)
      ∙ rw (ne_eqb y 0 (omega arith), ne_eqb (y + 1) h (omega arith), ne_eqb (j - y * w) 0 (omega arith), ne_eqb (j - y * w + 1) w (omega arith))
