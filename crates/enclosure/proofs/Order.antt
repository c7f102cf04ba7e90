-- The order of horizontal crossings: row by row, on a row by column, on one edgel by level in the edgel's own direction. Assumes nothing.
-- Definitions: none of its own. W is above every level.
-- Main laws: `place_lt`, `place_back` a level's place on an edgel; `key_lt`, `key_le`, `key_inj` the order by code, and that no two crossings have one key; `key_rise`, `key_fall` on one edgel
--   the levels stand in ascending or descending order; `flat_even`, `flat_col`, `flat_in`, `flat_differ`, `flat_heading` what a crossed horizontal edgel is; `rises_is` it rises exactly if its
--   left end is low; `row_le` rows follow codes; `apart_row` codes on one row by their columns.
use mathlib.Core.Path.{◌≡◌, refl, sym, ap, ◌∙◌}
use mathlib.Core.Bool.{Bool, true, false, not, ◌&&◌}
use Prim.Native.Nat.{ℕ, suc, ◌+◌, ◌-◌, ◌*◌, ◌/◌, ◌%◌, ◌≤◌, ◌<◌}
use native.Mathlib.Nat.{div-add-mod', mul-le-mul_right, mod-lt}
use native.Mathlib.Omega.{arith}
use lib.Dec.{ltb}
use borrow.Author.Tests.{ltb-true, ltb-false, lt-ltb, le-ltb, eqb-true}
use Rattle.tally.specs.Tally.{differ}
use Rattle.tally.proofs.Test.{by_test, and_1, and_2, differ_low, differ_high}
use Rattle.matte.specs.Picture.{Picture, size, at, high}
use Rattle.edgel.specs.Edgel.{horizontal, first, column, row, heading_of, heading_at}
use Rattle.outline.specs.Line.{cut_at}
use Rattle.outline.proofs.Codes.{cut_flat, heading_flat, flat_is}
use Rattle.enclosure.specs.Position.{place, rises, key}

pub place_lt : (b : Bool) (W k : ℕ) → k < W → place b W k < W
place_lt true W k l = l
place_lt false W k l = omega arith

place_inj : (b : Bool) (W j k : ℕ) → j < W → k < W → place b W j ≡ place b W k → j ≡ k
place_inj true W j k a b e = e
place_inj false W j k a b e = omega arith

pub place_back : (b : Bool) (W k : ℕ) → k < W → place b W (place b W k) ≡ k
place_back true W k l = refl
place_back false W k l = omega arith

module _ (P : Picture) (W : ℕ) where
  pub key_lt : (j k d c : ℕ) → j < W → d < c → key P W j d < key P W k c
  unfolding key
  key_lt j k d c a l =
      let m : suc d * W ≤ c * W = mul-le-mul_right W l in
      omega (arith, place_lt (rises P W d) W j a)

  pub key_le : (j k d c : ℕ) → k < W → key P W j d ≤ key P W k c → d ≤ c
  key_le j k d c b l =
      by_test (ltb c d)
      (λ e. absurd (omega (arith, key_lt k j c d b (ltb-true c d e))))
      (λ e. ltb-false c d e)

  -- no two crossings have one position
  pub key_inj : (j k d c : ℕ) → j < W → k < W → key P W j d ≡ key P W k c → (d ≡ c) × (j ≡ k)
  unfolding key
  key_inj j k d c a b e =
      let x : d ≤ c = key_le j k d c b (omega arith) in
      let y : c ≤ d = key_le k j c d a (omega arith) in
      let s : d ≡ c = omega arith in
      let z : key P W j c ≡ key P W k c = ap (λ (z : ℕ). key P W j z) (sym s) ∙ e in
      (s, place_inj (rises P W c) W j k a b (omega arith))

  pub key_rise : (j k c : ℕ) → rises P W c ≡ true → ltb (key P W j c) (key P W k c) ≡ ltb j k
  unfolding key
  key_rise j k c e =
      by_test (ltb j k)
      (λ t. rw (e, t) (lt-ltb (c * W + j) (c * W + k) (omega (arith, ltb-true j k t))))
      (λ t. rw (e, t) (le-ltb (c * W + j) (c * W + k) (omega (arith, ltb-false j k t))))

  pub key_fall : (j k c : ℕ) → j < W → k < W → rises P W c ≡ false → ltb (key P W j c) (key P W k c) ≡ ltb k j
  unfolding key
  key_fall j k c a b e =
      by_test (ltb k j)
      (λ t. rw (e, t) (lt-ltb (c * W + (W - 1 - j)) (c * W + (W - 1 - k)) (omega (arith, ltb-true k j t))))
      (λ t. rw (e, t) (le-ltb (c * W + (W - 1 - j)) (c * W + (W - 1 - k)) (omega (arith, ltb-false k j t))))

-- ---- a crossed horizontal edgel
module _ (P : Picture) (W k c : ℕ) (f : horizontal c ≡ true) (o : cut_at P k c ≡ true) where
  parts : ((ltb (c / 2 % P.w + 1) P.w && ltb (c / 2) (size P)) && differ (high P k (c / 2)) (high P k (c / 2 + 1))) ≡ true
  parts = sym (cut_flat (high P k) P.w P.h (c / 2)) ∙ ap (cut_at P k) (sym (flat_is c f)) ∙ o

  pub flat_col : column P.w c + 1 < P.w
  flat_col = ltb-true _ _ (and_1 _ _ (and_1 _ _ parts))

  pub flat_in : first c < size P
  flat_in = ltb-true _ _ (and_2 (ltb (c / 2 % P.w + 1) P.w) _ (and_1 _ _ parts))

  pub flat_differ : differ (high P k (first c)) (high P k (first c + 1)) ≡ true
  flat_differ = and_2 (ltb (c / 2 % P.w + 1) P.w && ltb (c / 2) (size P)) _ parts

  pub rises_is : rises P W c ≡ not (high P k (first c))
  rises_is =
      by_test (high P k (c / 2))
      (λ e.
      let d : high P k (c / 2 + 1) ≡ false = differ_high _ _ e flat_differ in
      rw e (le-ltb (at P (c / 2)) (at P (c / 2 + 1)) (omega (arith, ltb-true k (at P (c / 2)) e, ltb-false k (at P (c / 2 + 1)) d))))
      (λ e.
      let d : high P k (c / 2 + 1) ≡ true = differ_low _ _ e flat_differ in
      rw e (lt-ltb (at P (c / 2)) (at P (c / 2 + 1)) (omega (arith, ltb-false k (at P (c / 2)) e, ltb-true k (at P (c / 2 + 1)) d))))

  pub flat_heading : heading_at (high P k) c ≡ heading_of true (high P k (first c))
  flat_heading = ap (heading_at (high P k)) (flat_is c f) ∙ heading_flat (high P k) (c / 2)

-- ---- rows
pub row_le : (w a b : ℕ) → 0 < w → a ≤ b → a / w ≤ b / w
row_le w a b p l =
    by_test (ltb (b / w) (a / w))
    (λ e.
    let m : suc (b / w) * w ≤ a / w * w = mul-le-mul_right w (ltb-true (b / w) (a / w) e) in
    absurd (omega (arith, div-add-mod' a w, div-add-mod' b w, mod-lt b p)))
    (λ e. ltb-false (b / w) (a / w) e)

-- horizontal codes on one row are ordered by column
pub apart_row : (w d c : ℕ) → horizontal d ≡ true → horizontal c ≡ true → row w d ≡ row w c → d + 2 * column w c ≡ c + 2 * column w d
apart_row w d c g f r =
    let m : d % 2 ≡ 0 = eqb-true (d % 2) 0 g in
    let n : c % 2 ≡ 0 = eqb-true (c % 2) 0 f in
    let q : d / 2 / w * w ≡ c / 2 / w * w = ap (λ (z : ℕ). z * w) r in
    omega (arith, div-add-mod' (d / 2) w, div-add-mod' (c / 2) w)
