-- The border in its order: the first row, the ends of the rows between, the last row. Assumes nothing.
-- Definitions: `Along` where the search along the ends of rows stands: no end before row y is other than v.
-- Main laws: `two_rows` there are at least two; `along_in` a row between lies in the picture, `along_next` it is passed, `left_is`, `right_is`, `along_end` where that search ends; `found_top`, `found_end`, `found_bottom` what the search in each part finds is the first hot sample.
use mathlib.Core.Path.{◌≡◌, refl, sym, ap, ◌∙◌}
use mathlib.Core.Bool.{Bool, true, false, not, ◌&&◌, ◌||◌}
use mathlib.Core.List.{List}
use Prim.Native.Nat.{ℕ, suc, ◌+◌, ◌-◌, ◌*◌, ◌/◌, ◌%◌, ◌≤◌, ◌<◌}
use native.Mathlib.Nat.{div-add-mod', mod-lt, mul-le-mul, mul-le-mul_right, zero-mul}
use native.Mathlib.Omega.{arith}
use lib.Dec.{eqb, ltb}
use lib.Arith.{digits_div, digits_mod}
use lib.ListN.{get_or}
use borrow.Author.Tests.{eq-eqb, ne_eqb, eqb-true, eqb-false, ltb-true, ltb-false}
use Rattle.tally.specs.Tally.{first_from}
use Rattle.tally.proofs.Test.{by_test, no, both, or_1, or_2}
use Rattle.tally.proofs.First.{from_before, from_is, from_same, from_over, from_long}
use Rattle.matte.specs.Picture.{picture, on_border}
use Rattle.refuse.specs.Hot.{is_hot, hot}
use Rattle.refuse.specs.Shape.{Sides}
use Rattle.refuse.specs.Ends.{other_at, end_other}

off_1 : (a b : Bool) → a ≡ false → (a && b) ≡ false
off_1 true b e = no refl e
off_1 false b e = refl

off_2 : (a b : Bool) → b ≡ false → (a && b) ≡ false
off_2 true b e = e
off_2 false b e = refl

or_off : {a b : Bool} → a ≡ false → b ≡ false → (a || b) ≡ false
or_off {a = true} {b = b} e f = no refl e
or_off {a = false} {b = b} e f = f

module _ (w h : ℕ) (S : Sides w h) where
  -- the row of a place
  row_of : (y i : ℕ) → y * w ≤ i → i < y * w + w → i / w ≡ y
  row_of y i a b = let s : y * w + (i - y * w) ≡ i = omega arith in ap (λ (z : ℕ). z / w) (sym s) ∙ digits_div y (omega arith)

  last : w * h - w ≡ (h - 1) * w
  last = let s : h ≡ suc (h - 1) = omega (arith, S.h_least) in let t : w * h ≡ w * suc (h - 1) = ap (λ (z : ℕ). w * z) s in omega arith

  pub two_rows : w + w ≤ w * h
  two_rows = omega (arith, mul-le-mul_right w S.h_least)

  on_top : (i : ℕ) → i < w → on_border w h i ≡ true
  on_top i l = or_1 (eqb (i / w) 0) _ (eq-eqb (i / w) 0 (row_of 0 i (omega (arith, zero-mul w)) (omega (arith, zero-mul w))))

  on_bottom : (i : ℕ) → w * h - w ≤ i → i < w * h → on_border w h i ≡ true
  on_bottom i a b =
      let r : i / w ≡ h - 1 = row_of (h - 1) i (omega (arith, last)) (omega (arith, last, two_rows)) in
      or_2 (eqb (i / w) 0) _ (or_1 (eqb (i / w + 1) h) _ (eq-eqb (i / w + 1) h (omega (arith, S.h_least))))

  -- between the first and the last row only the ends are on it
  on_ends : (i : ℕ) → w ≤ i → i < w * h - w → on_border w h i ≡ (eqb (i % w) 0 || eqb (i % w + 1) w)
  on_ends i a b =
      let d : i / w * w + i % w ≡ i = div-add-mod' i w in
      let m : i % w < w = mod-lt i (omega (arith, S.w_least)) in
      let t : eqb (i / w) 0 ≡ false = ne_eqb (i / w) 0 (λ e. let q : i / w * w ≡ 0 * w = ap (λ (y : ℕ). y * w) e in omega (arith, zero-mul w)) in
      let u : eqb (i / w + 1) h ≡ false =
      ne_eqb (i / w + 1) h (λ e. let z : i / w ≡ h - 1 = omega arith in let q : i / w * w ≡ (h - 1) * w = ap (λ (y : ℕ). y * w) z in omega (arith, last)) in
      rw (t, u)

-- ---- the ends of rows, row y beginning at i
pub record Along (w h : ℕ) (px : List ℕ) (v i y : ℕ) : Type 0 where
  pub least : 1 ≤ y
  pub most : y + 1 ≤ h
  pub start : i ≡ y * w
  pub clear : (d : ℕ) → w ≤ d → d < i → end_other w px v d ≡ false

module _ {w h : ℕ} (S : Sides w h) {px : List ℕ} {v i y : ℕ} (A : Along w h px v i y) where
  same_not : (d : ℕ) → get_or px d 0 ≡ v → end_other w px v d ≡ false
  same_not d e = off_2 (eqb (d % w) 0 || eqb (d % w + 1) w) _ (ap not (eq-eqb (get_or px d 0) v e))

  column : (d : ℕ) → i ≤ d → d < i + w → d % w ≡ d - i
  column d a b = let s : y * w + (d - i) ≡ d = omega (arith, A.start) in ap (λ (z : ℕ). z % w) (sym s) ∙ digits_mod y (omega arith)

  inside : (d : ℕ) → i < d → d + 1 < i + w → end_other w px v d ≡ false
  inside d a b =
      let m : d % w ≡ d - i = column d (omega arith) (omega arith) in
      off_1 _ (other_at px v d) (or_off (ne_eqb (d % w) 0 (λ e. omega arith)) (ne_eqb (d % w + 1) w (λ e. omega arith)))

  to_right : get_or px i 0 ≡ v → (d : ℕ) → w ≤ d → d < i + w - 1 → end_other w px v d ≡ false
  to_right e d a b =
      by_test (ltb d i)
      (λ t. A.clear d a (ltb-true d i t))
      (λ t. by_test (eqb d i)
      (λ s. same_not d (ap (λ (z : ℕ). get_or px z 0) (eqb-true d i s) ∙ e))
      (λ s. inside d (omega (arith, ltb-false d i t, eqb-false d i s)) (omega arith)))

  pub along_end : y + 1 ≡ h → i ≡ first_from (end_other w px v) w (w * h - w - w)
  along_end e =
      let z : y ≡ h - 1 = omega arith in
      let q : y * w ≡ (h - 1) * w = ap (λ (t : ℕ). t * w) z in
      let n : i ≡ w * h - w = omega (arith, A.start, last w h S) in
      sym (from_is (end_other w px v) w (w * h - w - w) i (omega (arith, two_rows w h S)) (omega arith) A.clear (λ t. absurd (omega (arith, t, two_rows w h S))))

  module _ (l : y + 1 < h) where
    pub along_in : (w ≤ i) × (i + w ≤ w * h - w) × (w * h ≤ 4194304)
    along_in =
        let a : 1 * w ≤ y * w = mul-le-mul_right w A.least in
        let s : y + 1 ≤ h - 1 = omega arith in
        let b : (y + 1) * w ≤ (h - 1) * w = mul-le-mul_right w s in
        (omega (arith, A.start), omega (arith, A.start, last w h S), omega (arith, mul-le-mul S.w_most S.h_most))

    pub along_next : get_or px i 0 ≡ v → get_or px (i + w - 1) 0 ≡ v → Along w h px v (i + w) (y + 1)
    along_next e f = record {
      least = omega arith;
      most = omega arith;
      start = omega (arith, A.start);
      clear = λ d a b.
          by_test (eqb d (i + w - 1))
          (λ s. same_not d (ap (λ (z : ℕ). get_or px z 0) (eqb-true d (i + w - 1) s) ∙ f))
          (λ s. to_right e d a (omega (arith, eqb-false d (i + w - 1) s)));
    }

    pub left_is : (get_or px i 0 ≡ v → ⊥) → i ≡ first_from (end_other w px v) w (w * h - w - w)
    left_is n =
        let m : i % w ≡ i - i = column i (omega arith) (omega (arith, S.w_least)) in
        sym
        (from_is (end_other w px v) w (w * h - w - w) i along_in.0 (omega (arith, along_in)) A.clear
        (λ t. both (or_1 (eqb (i % w) 0) _ (eq-eqb (i % w) 0 (omega arith))) (ap not (ne_eqb (get_or px i 0) v n))))

    pub right_is : get_or px i 0 ≡ v → (get_or px (i + w - 1) 0 ≡ v → ⊥) → i + w - 1 ≡ first_from (end_other w px v) w (w * h - w - w)
    right_is e n =
        let r = i + w - 1 in
        let m : r % w ≡ r - i = column r (omega (arith, S.w_least)) (omega (arith, S.w_least)) in
        sym
        (from_is (end_other w px v) w (w * h - w - w) r (omega (arith, along_in, S.w_least)) (omega (arith, along_in)) (to_right e)
        (λ t. both (or_2 (eqb (r % w) 0) _ (eq-eqb (r % w + 1) w (omega (arith, S.w_least)))) (ap not (ne_eqb (get_or px r 0) v n))))

-- ---- all of it
module _ (w h : ℕ) (S : Sides w h) (px : List ℕ) where
  abbrev v : ℕ
  v = get_or px 0 0

  abbrev H : ℕ → Bool
  H = is_hot (picture w h px)

  abbrev O : ℕ → Bool
  O = other_at px v

  -- each part's search is one for a hot sample
  top_same : first_from O 0 (w - 0) ≡ first_from H 0 (w - 0)
  top_same = from_same O H 0 (w - 0) (λ i a b. ap (λ (t : Bool). t && O i) (sym (on_top w h S i (omega arith))))

  end_same : first_from (end_other w px v) w (w * h - w - w) ≡ first_from H w (w * h - w - w)
  end_same = from_same (end_other w px v) H w (w * h - w - w) (λ i a b. ap (λ (t : Bool). t && O i) (sym (on_ends w h S i a (omega (arith, b, two_rows w h S)))))

  bottom_same : first_from O (w * h - w) (w * h - (w * h - w)) ≡ first_from H (w * h - w) (w * h - (w * h - w))
  bottom_same =
      from_same O H (w * h - w) (w * h - (w * h - w)) (λ i a b. ap (λ (t : Bool). t && O i) (sym (on_bottom w h S i a (omega (arith, b, two_rows w h S)))))

  all : first_from H 0 (w * h - 0) ≡ hot (picture w h px)
  unfolding hot
  all = let s : w * h - 0 ≡ w * h = omega arith in ap (λ (z : ℕ). first_from H 0 z) s

  pub found_top : (r : ℕ) → r ≡ first_from O 0 (w - 0) → r < w → r ≡ hot (picture w h px)
  found_top r e l =
      let s : r ≡ first_from H 0 (w - 0) = e ∙ top_same in
      s ∙ from_long H 0 (w - 0) (w * h - 0) (omega (arith, two_rows w h S)) (omega (arith, s, l)) ∙ all

  module _ (i : ℕ) (e : i ≡ first_from O 0 (w - 0)) (l : w ≤ i) where
    top_clear : (j : ℕ) → 0 ≤ j → j < w → H j ≡ false
    top_clear j a b = from_before H 0 (w - 0) j a (omega (arith, e ∙ top_same, l, b))

    pub found_end : (r : ℕ) → r ≡ first_from (end_other w px v) w (w * h - w - w) → r < w * h - w → r ≡ hot (picture w h px)
    found_end r d m =
        let s : r ≡ first_from H w (w * h - w - w) = d ∙ end_same in
        s ∙ from_long H w (w * h - w - w) (w * h - w) (omega arith) (omega (arith, s, m, two_rows w h S)) ∙ from_over H 0 w (w * h) (omega arith) (omega (arith, two_rows w h S)) top_clear ∙ all

    module _ (j : ℕ) (d : j ≡ first_from (end_other w px v) w (w * h - w - w)) (m : w * h - w ≤ j) where
      ends_clear : (k : ℕ) → 0 ≤ k → k < w * h - w → H k ≡ false
      ends_clear k a b =
          by_test (ltb k w)
          (λ t. top_clear k a (ltb-true k w t))
          (λ t. from_before H w (w * h - w - w) k (ltb-false k w t) (omega (arith, d ∙ end_same, m, b)))

      pub found_bottom : (r : ℕ) → r ≡ first_from O (w * h - w) (w * h - (w * h - w)) → r ≡ hot (picture w h px)
      found_bottom r g = g ∙ bottom_same ∙ from_over H 0 (w * h - w) (w * h) (omega arith) (omega arith) ends_clear ∙ all
