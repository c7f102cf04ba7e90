-- The first border sample that differs from sample 0, and the rows of the four edges. Assumes nothing.
-- Main laws: `hot_le`, `hot_before`, `hot_here` it is the first such place, or there is none; `hot_unfit` there is one exactly if the border is not all one value; `edge_cases` an edge is one of four;
--   `rows_hot`, `rows_cold` the verdict of the four rows and those behind them; `cold` where none of the four is given there is none.
use mathlib.Core.Path.{◌≡◌, refl, sym, ap, ◌∙◌}
use mathlib.Core.Bool.{Bool, true, false, not, ◌&&◌, ◌||◌, cond}
use mathlib.Core.List.{List, [], ◌∷◌, ◌++◌}
use Prim.Native.Nat.{ℕ, ◌+◌, ◌*◌, ◌/◌, ◌%◌, ◌≤◌, ◌<◌}
use native.Mathlib.Omega.{arith}
use lib.Dec.{eqb, ltb}
use borrow.Author.Tests.{ltb-true, ltb-false, lt-ltb, le-ltb, not-true, not-false}
use Rattle.tally.specs.Tally.{every}
use Rattle.tally.proofs.Test.{by_test, no, both}
use Rattle.tally.proofs.First.{from_le, from_before, from_passes}
use Rattle.tally.proofs.Every.{every_from, every_not}
use Rattle.refuse.specs.Refusal.{Verdict}
use Rattle.matte.specs.Picture.{Picture, size, at, on_border, border_fits}
use Rattle.refuse.specs.Refusal.{Row, row_at, verdict}
use Rattle.refuse.specs.Hot.{edge, is_hot, hot, border_rows}

-- a place that is not hot passes the border test, one that is does not
cool : (b e : Bool) → (b && not e) ≡ false → (not b || e) ≡ true
cool true e h = not-false e h
cool false e h = refl

warm : (b e : Bool) → (b && not e) ≡ true → (not b || e) ≡ false
warm true e h = not-true e h
warm false e h = no h refl

module _ (P : Picture) where
  pub hot_le : hot P ≤ size P
  unfolding hot
  hot_le = omega (arith, from_le (is_hot P) 0 (size P))

  pub hot_before : (i : ℕ) → i < hot P → is_hot P i ≡ false
  unfolding hot
  hot_before i h = from_before (is_hot P) 0 (size P) i (omega arith) h

  pub hot_here : hot P < size P → is_hot P (hot P) ≡ true
  unfolding hot
  hot_here h = from_passes (is_hot P) 0 (size P) (omega (arith, h))

  pub hot_unfit : ltb (hot P) (size P) ≡ not (border_fits P)
  unfolding border_fits
  hot_unfit =
      let t : ℕ → Bool = λ i. not (on_border P.w P.h i) || eqb (at P i) (at P 0) in
      by_test (ltb (hot P) (size P))
      (λ e.
      let l : hot P < size P = ltb-true _ _ e in
      e ∙ sym (ap not (every_not t (size P) (hot P) l (warm (on_border P.w P.h (hot P)) _ (hot_here l)))))
      (λ e.
      let l : size P ≤ hot P = ltb-false _ _ e in
      e ∙ sym (ap not (every_from t (size P) (λ i h. cool (on_border P.w P.h i) _ (hot_before i (omega (arith, l, h)))))))

-- ---- the four edges
pub edge_cases : (Q : ℕ → Type 0) (w h i : ℕ) → Q 4 → Q 17 → Q 18 → Q 19 → Q (edge w h i)
edge_cases Q w h i t b l r = go (eqb (i / w) 0) (eqb (i / w + 1) h) (eqb (i % w) 0)
  where
    go : (x y z : Bool) → Q (cond x 4 (cond y 17 (cond z 18 19)))
    go true y z = t
    go false true z = b
    go false false true = l
    go false false false = r

-- the rows, with what they ask for as numbers
abbrev four : Bool → ℕ → ℕ → List Row
four b e p = row_at 4 (b && eqb e 4) p ∷ row_at 17 (b && eqb e 17) p ∷ row_at 18 (b && eqb e 18) p ∷ row_at 19 (b && eqb e 19) p ∷ []

module _ (P : Picture) (qs : List Row) where
  pub rows_hot : hot P < size P → verdict (border_rows P ++ qs) ≡ record { number = edge P.w P.h (hot P); place = hot P }
  rows_hot h =
      ap (λ (b : Bool). verdict (four b (edge P.w P.h (hot P)) (hot P) ++ qs)) (lt-ltb (hot P) (size P) h)
      ∙ edge_cases (λ e. verdict (four true e (hot P) ++ qs) ≡ record { number = e; place = hot P }) P.w P.h (hot P) refl refl refl refl

  pub rows_cold : size P ≤ hot P → verdict (border_rows P ++ qs) ≡ verdict qs
  rows_cold h = ap (λ (b : Bool). verdict (four b (edge P.w P.h (hot P)) (hot P) ++ qs)) (le-ltb (hot P) (size P) h)

pub cold : (P : Picture) → (verdict (border_rows P)).number ≡ 0 → size P ≤ hot P
cold P e =
    by_test (ltb (hot P) (size P))
    (λ t.
    let n : edge P.w P.h (hot P) ≡ 0 = ap (λ (v : Verdict). v.number) (sym (rows_hot P [] (ltb-true _ _ t))) ∙ e in
    absurd (edge_cases (λ z. z ≡ 0 → ⊥) P.w P.h (hot P) (λ z. omega arith) (λ z. omega arith) (λ z. omega arith) (λ z. omega arith) n))
    (λ t. ltb-false _ _ t)
