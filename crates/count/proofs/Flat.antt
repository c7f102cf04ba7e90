-- Horizontal edgels of a picture with a constant border, by the places where they start. Assumes nothing.
-- Main laws: `unlike` the code's != of two tests is `differ`; `border_of` the ground's border; `area_most`, `four`, `some` a picture has at most 4,194,304 samples, and at least four; `crossed_cut` two neighbours of which one is high are
--   an edgel that is crossed, since a row's end and the next row's start are both border; `cut_crossed` and back; `cut_column` such an edgel does not start at a row's end; `cut_above` no crossed edgel starts on the last row.
use mathlib.Core.Path.{◌≡◌, refl, sym, ap, ◌∙◌}
use mathlib.Core.Bool.{Bool, true, false, not, beq, ◌&&◌}
use Prim.Native.Nat.{ℕ, ◌+◌, ◌-◌, ◌*◌, ◌/◌, ◌%◌, ◌≤◌, ◌<◌}
use native.Mathlib.Nat.{mod-lt, div-add-mod', mul-le-mul}
use native.Mathlib.Omega.{arith}
use lib.Dec.{ltb}
use lib.Arith.{digits_mod}
use lib.ListN.{length}
use borrow.Author.Tests.{ltb-true, ltb-false, lt-ltb}
use Rattle.tally.specs.Tally.{differ}
use Rattle.tally.proofs.Test.{by_test, no, and_1, and_2, both, differ_self}
use Rattle.matte.specs.Picture.{Picture, size, high}
use Rattle.edgel.specs.Edgel.{horizontal}
use Rattle.refuse.specs.Shape.{Ground}
use Rattle.outline.specs.Line.{cut_at}
use Rattle.outline.proofs.Border.{Border, border_fits_lem}
use Rattle.outline.proofs.Codes.{right_in, flat_is, tall_is, cut_flat, cut_tall}

pub unlike : (x y : Bool) → not (beq x y) ≡ differ x y
unlike true true = refl
unlike true false = refl
unlike false true = refl
unlike false false = refl

pub border_of : (P : Picture) → Ground P → Border P
border_of P G = border_fits_lem P (omega (arith, G.sides.h_least)) G.border

pub area_most : {P : Picture} → Ground P → length P.px ≤ 4194304
area_most {P} G = omega (arith, G.whole, mul-le-mul G.sides.w_most G.sides.h_most)

pub four : {P : Picture} → Ground P → 4 ≤ length P.px
four {P} G = omega (arith, G.whole, mul-le-mul G.sides.w_least G.sides.h_least)

pub some : {P : Picture} → Ground P → 0 < length P.px
some G = omega (arith, four G)

module _ (P : Picture) (G : Ground P) (k : ℕ) where
  abbrev B : Border P
  B = border_of P G

  -- a place at a row's end and the next row's start are both border
  row_end : (i : ℕ) → i + 1 < size P → i % P.w + 1 ≡ P.w → differ (high P k i) (high P k (i + 1)) ≡ false
  row_end i l e =
      let d : i / P.w * P.w + i % P.w ≡ i = div-add-mod' i P.w in
      let p : 0 < P.w = omega (arith, G.sides.w_least) in
      let s : i + 1 ≡ (i / P.w + 1) * P.w + 0 = omega arith in
      let m : (i + 1) % P.w ≡ 0 = ap (λ (z : ℕ). z % P.w) s ∙ digits_mod (i / P.w + 1) p in
      ap (λ (z : ℕ). differ (ltb k z) (high P k (i + 1))) (B.rights i (omega arith) e)
      ∙ ap (λ (z : ℕ). differ (high P k 0) (ltb k z)) (B.lefts (i + 1) l m)
      ∙ differ_self (high P k 0)

  pub crossed_cut : (i : ℕ) → i + 1 < size P → differ (high P k i) (high P k (i + 1)) ≡ true → cut_at P k (2 * i) ≡ true
  crossed_cut i l e =
      let m : i % P.w < P.w = mod-lt i (omega (arith, G.sides.w_least)) in
      by_test (ltb (i % P.w + 1) P.w)
      (λ t. cut_flat (high P k) P.w P.h i ∙ both (both t (lt-ltb i (size P) (omega arith))) e)
      (λ t. no e (row_end i l (omega (arith, ltb-false (i % P.w + 1) P.w t))))

  pub cut_crossed : (i : ℕ) → cut_at P k (2 * i) ≡ true → (i % P.w + 1 < P.w) × (differ (high P k i) (high P k (i + 1)) ≡ true)
  cut_crossed i o =
      let z = sym (cut_flat (high P k) P.w P.h i) ∙ o in
      (ltb-true _ _ (and_1 (ltb (i % P.w + 1) P.w) _ (and_1 _ _ z)), and_2 (ltb (i % P.w + 1) P.w && ltb i (size P)) _ z)

  first_in : (i : ℕ) → cut_at P k (2 * i) ≡ true → i < size P
  first_in i o = ltb-true _ _ (and_2 (ltb (i % P.w + 1) P.w) _ (and_1 _ _ (sym (cut_flat (high P k) P.w P.h i) ∙ o)))

  pub cut_column : (i : ℕ) → cut_at P k (2 * i) ≡ true → i % P.w + 1 < P.w
  cut_column i o = (cut_crossed i o).0

  -- no edgel that starts on the last row is crossed: it is border
  pub cut_above : (c : ℕ) → cut_at P k c ≡ true → c < 2 * (size P - P.w)
  cut_above c o =
      by_test (horizontal c)
      (λ t.
      let s : c ≡ 2 * (c / 2) = flat_is c t in
      let p : cut_at P k (2 * (c / 2)) ≡ true = ap (cut_at P k) (sym s) ∙ o in
      let z = cut_crossed (c / 2) p in
      let i : c / 2 + 1 < size P = right_in P.w P.h (c / 2) (first_in (c / 2) p) z.0 in
      by_test (ltb (c / 2 + P.w) (size P))
      (λ u. omega (arith, ltb-true (c / 2 + P.w) (size P) u))
      (λ u.
      let v : size P ≤ c / 2 + P.w = ltb-false (c / 2 + P.w) (size P) u in
      no z.1
      (ap (λ (y : ℕ). differ (ltb k y) (high P k (c / 2 + 1))) (B.bottom (c / 2) (omega arith) v)
      ∙ ap (λ (y : ℕ). differ (high P k 0) (ltb k y)) (B.bottom (c / 2 + 1) i (omega arith))
      ∙ differ_self (high P k 0))))
      (λ t.
      let s : c ≡ 2 * (c / 2) + 1 = tall_is c t in
      let z = sym (cut_tall (high P k) P.w P.h (c / 2)) ∙ ap (cut_at P k) (sym s) ∙ o in
      omega (arith, ltb-true (c / 2 + P.w) (size P) (and_1 _ _ z)))
