-- The crossings that the crossing call answers are points of the surface: num/den of the way along a side of a cell, the cell's surface has the height k + 1/2. Assumes nothing.
-- Definitions: `side_point` the point num/den of the way along a side, over den, from the cell's top left corner.
-- Main laws: `crossing_on_surface` at it, where the level crosses that side, twice the height is (2k + 1), with den² cleared.
use mathlib.Core.Path.{◌≡◌, refl, sym, ap, ap₂, ◌∙◌}
use mathlib.Core.Bool.{true}
use mathlib.Core.List.{List, [], ◌∷◌}
use Prim.Native.Nat.{ℕ, ◌+◌, ◌-◌, ◌*◌, ◌≤◌}
use native.Mathlib.Omega.{arith}
use lib.IntN.{ℤ, pos, ◌+ℤ◌, ◌-ℤ◌, ◌*ℤ◌}
use Rattle.matte.specs.Picture.{Picture, at, high}
use Rattle.edgel.specs.declared.Heading.{Heading}
use Rattle.edgel.specs.declared.Heading.TheVariants.{South, East, North, West}
use Rattle.edgel.specs.Edgel.{first, second, crossed}
use Rattle.cell.specs.Turn.{out}
use Rattle.cell.proofs.Steps.{first_place, second_place, first_out, second_out}
use Rattle.crossing.specs.Crossing.{num, den}
use Rattle.crossing.proofs.Between.{between}
use Rattle.crossing.proofs.Between as Between
use Rattle.piece.specs.Surface.{height}
use Rattle.piece.proofs.Minus.{minus_ge}
use Rattle.piece.proofs.Ring.{Expr, con, var, plus, times, minus, equal, solve}
use Rattle.piece.proofs.Surface.{height_e}

-- n/m of the way from the left or top end of the side to the south, east, north or west
abbrev pub side_point : Heading → ℕ → ℕ → ℤ × ℤ
side_point South n m = (pos n, pos m)
side_point East n m = (pos m, pos n)
side_point North n m = (pos n, pos 0)
side_point West n m = (pos 0, pos n)

-- ---- along a side the surface is the mean of its ends
abbrev surface : Expr → Expr → Expr
surface u v = height_e (var 0) (var 1) (var 2) (var 3) (var 4) u v

abbrev mean : Expr → Expr → Expr
mean a b = times (var 4) (plus (times a (minus (var 4) (var 5))) (times b (var 5)))

module _ (P : Picture) (t n m : ℕ) where
  abbrev given : List ℤ
  given = pos (at P t) ∷ pos (at P (t + P.w)) ∷ pos (at P (t + P.w + 1)) ∷ pos (at P (t + 1)) ∷ pos m ∷ pos n ∷ []

  along : (g : Heading) → height (at P t) (at P (t + P.w)) (at P (t + P.w + 1)) (at P (t + 1)) (pos m) (side_point g n m).0 (side_point g n m).1
      ≡ pos m *ℤ (pos (at P (first_place P.w g t)) *ℤ (pos m -ℤ pos n) +ℤ pos (at P (second_place P.w g t)) *ℤ pos n)
  unfolding equal
  along South = solve given (surface (var 5) (var 4)) (mean (var 1) (var 2)) refl
  along East = solve given (surface (var 4) (var 5)) (mean (var 3) (var 2)) refl
  along North = solve given (surface (var 5) (con (pos 0))) (mean (var 0) (var 3)) refl
  along West = solve given (surface (con (pos 0)) (var 5)) (mean (var 0) (var 1)) refl

weighed : (a b m n k : ℕ) → n ≤ m → 2 * (a * (m - n) + b * n) ≡ (2 * k + 1) * m
    → pos 2 *ℤ (pos m *ℤ (pos a *ℤ (pos m -ℤ pos n) +ℤ pos b *ℤ pos n)) ≡ pos (2 * k + 1) *ℤ (pos m *ℤ pos m)
weighed a b m n k l e =
    let f : m * (2 * (a * (m - n) + b * n)) ≡ m * ((2 * k + 1) * m) = ap (λ (z : ℕ). m * z) e in
    ap (λ (z : ℤ). pos 2 *ℤ (pos m *ℤ (pos a *ℤ z +ℤ pos b *ℤ pos n))) (minus_ge m n l) ∙ ap pos (omega arith)

pub crossing_on_surface : (P : Picture) (k t : ℕ) (g : Heading) → crossed (high P k) P.w (out P.w g t) ≡ true
    → let n = num P k (out P.w g t) in
    let m = den P k (out P.w g t) in
    pos 2 *ℤ height (at P t) (at P (t + P.w)) (at P (t + P.w + 1)) (at P (t + 1)) (pos m) (side_point g n m).0 (side_point g n m).1 ≡ pos (2 * k + 1) *ℤ (pos m *ℤ pos m)
crossing_on_surface P k t g o =
    let e = out P.w g t in
    let n = num P k e in
    let m = den P k e in
    let l : n ≤ m = omega (arith, (between P k e o).1) in
    let h : 2 * (at P (first e) * (m - n) + at P (second P.w e) * n) ≡ (2 * k + 1) * m = Between.height P k e o (m - n) (omega arith) in
    let i : 2 * (at P (first_place P.w g t) * (m - n) + at P (second_place P.w g t) * n) ≡ (2 * k + 1) * m =
    ap₂ (λ (x y : ℕ). 2 * (at P x * (m - n) + at P y * n)) (sym (first_out P.w g t)) (sym (second_out P.w g t)) ∙ h in
    ap (λ (z : ℤ). pos 2 *ℤ z) (along P t n m g) ∙ weighed (at P (first_place P.w g t)) (at P (second_place P.w g t)) m n k l i
