-- A picture with a constant border, as the laws want it and as the test decides it. Assumes nothing.
-- Definitions: `Border P` all border samples have the value of sample 0.
-- Main laws: `border_fits_lem`, `fits_border` the test passes exactly with such a border; `border_from` the border from four plain facts, two about rows and two about columns; `frame` at every level
--   the border is high or low as a whole.
use mathlib.Core.Path.{◌≡◌, sym, ap, ◌∙◌}
use mathlib.Core.Bool.{true, not, ◌||◌}
use mathlib.Core.Logic.{⊎_elim}
use Prim.Native.Nat.{ℕ, suc, ◌+◌, ◌-◌, ◌*◌, ◌/◌, ◌%◌, ◌≤◌, ◌<◌}
use native.Mathlib.Nat.{div-add-mod', mul-le-mul_right, mod-lt}
use native.Mathlib.Omega.{arith}
use lib.Dec.{eqb, ltb}
use lib.Arith.{digits_div}
use borrow.Author.Tests.{ltb-true, ltb-false, eqb-true, eq-eqb}
use Rattle.tally.proofs.Test.{by_test, mp, or_1, or_2, or_cases}
use Rattle.tally.proofs.Every.{every_at, every_from}
use Rattle.matte.specs.Picture.{Picture, size, at, high, on_border, border_fits}
use Rattle.outline.proofs.Codes.{Frame, row_in, pos_left}

pub record Border (P : Picture) : Type 0 where
  pub top : (i : ℕ) → i < P.w → at P i ≡ at P 0
  pub bottom : (i : ℕ) → i < size P → size P ≤ i + P.w → at P i ≡ at P 0
  pub lefts : (i : ℕ) → i < size P → i % P.w ≡ 0 → at P i ≡ at P 0
  pub rights : (i : ℕ) → i < size P → i % P.w + 1 ≡ P.w → at P i ≡ at P 0

-- at a level, the border is all high or all low
pub frame : (P : Picture) → Border P → (k : ℕ) → Frame (high P k) P.w P.h (high P k 0)
frame P B k =
    record {
      top = λ i a. ap (ltb k) (B.top i a);
      bottom = λ i a b. ap (ltb k) (B.bottom i a b);
      lefts = λ i a b. ap (ltb k) (B.lefts i a b);
      rights = λ i a b. ap (ltb k) (B.rights i a b);
    }

-- ---- the first and the last row by their places
first_row : (w i : ℕ) → i < w → i / w ≡ 0
first_row w i l = let s : 0 * w + i ≡ i = omega arith in ap (λ (z : ℕ). z / w) (sym s) ∙ digits_div 0 l

row_first : (w i : ℕ) → 0 < w → i / w ≡ 0 → i < w
row_first w i p e = omega (arith, div-add-mod' i w, ap (λ (z : ℕ). z * w) e, mod-lt i p)

last_row : (w h i : ℕ) → 0 < w → i < w * h → w * h ≤ i + w → i / w + 1 ≡ h
last_row w h i p l m =
    let a : i / w < h = row_in w h i p l in
    by_test (ltb (i / w + 1) h)
    (λ e.
    let b : i / w + 2 ≤ h = omega (arith, ltb-true (i / w + 1) h e) in
    let c : (i / w + 2) * w ≤ h * w = mul-le-mul_right w b in
    absurd (omega (arith, div-add-mod' i w, mod-lt i p)))
    (λ e. omega (arith, ltb-false (i / w + 1) h e))

row_last : (w h i : ℕ) → i / w + 1 ≡ h → w * h ≤ i + w
row_last w h i e = let r : (i / w + 1) * w ≡ h * w = ap (λ (z : ℕ). z * w) e in omega (arith, div-add-mod' i w)

-- ---- the test
module _ (P : Picture) where
  here : border_fits P ≡ true → (i : ℕ) → i < size P → on_border P.w P.h i ≡ true → at P i ≡ at P 0
  unfolding border_fits
  here e i l b = eqb-true (at P i) (at P 0) (mp (every_at (λ j. not (on_border P.w P.h j) || eqb (at P j) (at P 0)) (size P) e i l) b)

  pub border_fits_lem : 0 < P.h → border_fits P ≡ true → Border P
  border_fits_lem q e =
      let s : P.h ≡ suc (P.h - 1) = omega arith in
      let r : P.w * P.h ≡ (P.h - 1) * P.w + P.w = ap (λ (z : ℕ). P.w * z) s ∙ omega arith in
      record {
        top = λ i l. here e i (omega arith) (or_1 _ _ (eq-eqb (i / P.w) 0 (first_row P.w i l)));
        bottom = λ i l m.
            here e i l (or_2 (eqb (i / P.w) 0) _ (or_1 _ _ (eq-eqb (i / P.w + 1) P.h (last_row P.w P.h i (pos_left P.w P.h (omega arith)) l m))));
        lefts = λ i l m. here e i l (or_2 (eqb (i / P.w) 0) _ (or_2 (eqb (i / P.w + 1) P.h) _ (or_1 _ _ (eq-eqb (i % P.w) 0 m))));
        rights = λ i l m.
            here e i l (or_2 (eqb (i / P.w) 0) _ (or_2 (eqb (i / P.w + 1) P.h) _ (or_2 (eqb (i % P.w) 0) _ (eq-eqb (i % P.w + 1) P.w m))));
      }

  each : Border P → (i : ℕ) → i < size P → on_border P.w P.h i ≡ true → at P i ≡ at P 0
  each B i l b =
      let p : 0 < P.w = pos_left P.w P.h (omega arith) in
      ⊎_elim (λ e. B.top i (row_first P.w i p (eqb-true (i / P.w) 0 e)))
      (λ x. ⊎_elim (λ e. B.bottom i l (row_last P.w P.h i (eqb-true (i / P.w + 1) P.h e)))
      (λ y. ⊎_elim (λ e. B.lefts i l (eqb-true (i % P.w) 0 e))
      (λ e. B.rights i l (eqb-true (i % P.w + 1) P.w e))
      (or_cases (eqb (i % P.w) 0) _ y))
      (or_cases (eqb (i / P.w + 1) P.h) _ x))
      (or_cases (eqb (i / P.w) 0) _ b)

  pub fits_border : Border P → border_fits P ≡ true
  unfolding border_fits
  fits_border B =
      every_from (λ j. not (on_border P.w P.h j) || eqb (at P j) (at P 0)) (size P)
      (λ i l. by_test (on_border P.w P.h i)
      (λ b. or_2 (not (on_border P.w P.h i)) _ (eq-eqb (at P i) (at P 0) (each B i l b)))
      (λ b. or_1 _ _ (ap not b)))

  -- from the facts that a loop along the rows and one along the columns give
  pub border_from : 0 < P.w → 0 < P.h
      → ((x : ℕ) → x < P.w → at P x ≡ at P 0)
      → ((x : ℕ) → x < P.w → at P ((P.h - 1) * P.w + x) ≡ at P 0)
      → ((y : ℕ) → y < P.h → at P (y * P.w) ≡ at P 0)
      → ((y : ℕ) → y < P.h → at P (y * P.w + (P.w - 1)) ≡ at P 0)
      → Border P
  border_from p q a b c d =
      record {
        top = a;
        bottom = λ i l m.
            let s : P.h ≡ suc (P.h - 1) = omega arith in
            let r : P.w * P.h ≡ (P.h - 1) * P.w + P.w = ap (λ (z : ℕ). P.w * z) s ∙ omega arith in
            let e : (P.h - 1) * P.w + (i - (P.h - 1) * P.w) ≡ i = omega arith in
            ap (at P) (sym e) ∙ b (i - (P.h - 1) * P.w) (omega arith);
        lefts = λ i l m.
            let e : i / P.w * P.w ≡ i = omega (arith, div-add-mod' i P.w) in
            ap (at P) (sym e) ∙ c (i / P.w) (row_in P.w P.h i p l);
        rights = λ i l m.
            let e : i / P.w * P.w + (P.w - 1) ≡ i = omega (arith, div-add-mod' i P.w) in
            ap (at P) (sym e) ∙ d (i / P.w) (row_in P.w P.h i p l);
      }
