-- The ends of an edgel are samples of the picture. Assumes nothing.
-- Main laws: `first_in`, `second_in` both ends of an edgel lie in the picture.
use mathlib.Core.Path.{◌≡◌, sym, ap, ◌∙◌}
use mathlib.Core.Bool.{Bool, true, false, ◌&&◌, cond}
use Prim.Native.Nat.{ℕ, ◌+◌, ◌*◌, ◌/◌, ◌%◌, ◌≤◌, ◌<◌}
use native.Mathlib.Nat.{div-add-mod', mul-le-mul_right}
use native.Mathlib.Omega.{arith}
use lib.Dec.{ltb}
use lib.Arith.{digits_lt}
use borrow.Author.Tests.{ltb-true, ltb-false}
use Rattle.tally.proofs.Test.{by_test, and_1, and_2}
use Rattle.edgel.specs.Edgel.{horizontal, first, second, column, edgel}

row_in : (w h i : ℕ) → 0 < w → i < w * h → i / w < h
row_in w h i p l =
    by_test (ltb (i / w) h) (λ e. ltb-true _ _ e)
    (λ e.
    let a : h ≤ i / w = ltb-false _ _ e in
    let b : h * w ≤ i / w * w = mul-le-mul_right w a in
    absurd (omega (arith, div-add-mod' i w)))

-- the place right of a sample that is not the last of its row is in the picture
right_in : (w h i : ℕ) → i < w * h → i % w + 1 < w → i + 1 < w * h
right_in w h i l c = omega (arith, digits_lt (row_in w h i (omega arith) l) c, div-add-mod' i w)

module _ (w h c : ℕ) where
  across_told : horizontal c ≡ true → edgel w h c ≡ (ltb (column w c + 1) w && ltb (first c) (w * h))
  unfolding edgel
  across_told e = ap (λ (b : Bool). cond b (ltb (column w c + 1) w && ltb (first c) (w * h)) (ltb (first c + w) (w * h))) e

  down_told : horizontal c ≡ false → edgel w h c ≡ ltb (first c + w) (w * h)
  unfolding edgel
  down_told e = ap (λ (b : Bool). cond b (ltb (column w c + 1) w && ltb (first c) (w * h)) (ltb (first c + w) (w * h))) e

  pub first_in : edgel w h c ≡ true → first c < w * h
  first_in t =
      by_test (horizontal c)
      (λ e. ltb-true (first c) (w * h) (and_2 (ltb (column w c + 1) w) (ltb (first c) (w * h)) (sym (across_told e) ∙ t)))
      (λ e.
      let l : first c + w < w * h = ltb-true (first c + w) (w * h) (sym (down_told e) ∙ t) in
      omega arith)

  pub second_in : edgel w h c ≡ true → second w c < w * h
  second_in t =
      by_test (horizontal c)
      (λ e.
      let z = sym (across_told e) ∙ t in
      let a : column w c + 1 < w = ltb-true _ _ (and_1 (ltb (column w c + 1) w) (ltb (first c) (w * h)) z) in
      let b : first c < w * h = ltb-true _ _ (and_2 (ltb (column w c + 1) w) (ltb (first c) (w * h)) z) in
      rw e (right_in w h (first c) b a))
      (λ e. rw e (ltb-true (first c + w) (w * h) (sym (down_told e) ∙ t)))
