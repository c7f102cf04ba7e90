-- Edgels by the columns and rows of the samples that they join. Assumes nothing.
-- Definitions: `Across`, `Down` a code is that of the edgel from (x, y) to its neighbour to the right, or below.
-- Main laws: `across_edgel`, `down_edgel` each pair of neighbours has its edgel; `edgel_between` every edgel joins such a pair; `across_cut`, `down_cut` it is crossed exactly if one of the two samples is above the
--   level and the other is not; `codes_below` with sides that fit codes are below 2^23.
use mathlib.Core.Path.{◌≡◌, refl, sym, ap, ap₂, ◌∙◌}
use mathlib.Core.Bool.{Bool, true, false, ◌&&◌}
use mathlib.Core.Logic.{◌⊎◌, inl, inr, ⊎_elim}
use Prim.Native.Nat.{ℕ, suc, ◌+◌, ◌*◌, ◌/◌, ◌%◌, ◌^◌, ◌≤◌, ◌<◌}
use native.Mathlib.Nat.{div-add-mod', mul-le-mul, mod-lt, add-div_right}
use native.Mathlib.Omega.{arith}
use lib.Dec.{ltb}
use lib.Arith.{digits_lt}
use borrow.Author.Tests.{lt-ltb, ltb-true}
use Rattle.tally.specs.Tally.{differ}
use Rattle.tally.proofs.Test.{by_test, and_1, and_2, both}
use Rattle.matte.specs.Picture.{Picture, high, side_fits}
use Rattle.edgel.specs.Edgel.{across, down, horizontal, edgel}
use Rattle.refuse.proofs.Sides.{sides_in}
use Rattle.outline.specs.Line.{cut_at}
use Rattle.outline.proofs.Codes.{col_is, row_in, pos_left, cut_flat, cut_tall, flat_is, tall_is}

-- (x, y) and (x + 1, y) are samples, and c is the edgel that joins them
pub record Across (w h c : ℕ) : Type 0 where
  pub x : ℕ
  pub y : ℕ
  pub right : suc x < w
  pub within : y < h
  pub code : c ≡ across w x y

-- (x, y) and (x, y + 1) are
pub record Down (w h c : ℕ) : Type 0 where
  pub x : ℕ
  pub y : ℕ
  pub within : x < w
  pub below : suc y < h
  pub code : c ≡ down w x y

-- ---- by place
edgel_flat : (w h i : ℕ) → edgel w h (2 * i) ≡ ltb (i % w + 1) w && ltb i (w * h)
unfolding edgel
edgel_flat w h i =
    let a : (2 * i) % 2 ≡ 0 = omega arith in
    let b : (2 * i) / 2 ≡ i = omega arith in
    rw (a, b)

edgel_tall : (w h i : ℕ) → edgel w h (2 * i + 1) ≡ ltb (i + w) (w * h)
unfolding edgel
edgel_tall w h i =
    let a : (2 * i + 1) % 2 ≡ 1 = omega arith in
    let b : (2 * i + 1) / 2 ≡ i = omega arith in
    rw (a, b)

module _ (w h x y : ℕ) where
  flat_in : suc x < w → y < h → (ltb ((y * w + x) % w + 1) w && ltb (y * w + x) (w * h)) ≡ true
  flat_in a b =
      let c : (y * w + x) % w ≡ x = col_is w (y * w + x) y x refl (omega arith) in
      let l : y * w + x < h * w = digits_lt b (omega arith) in
      both (lt-ltb ((y * w + x) % w + 1) w (omega arith)) (lt-ltb (y * w + x) (w * h) (omega arith))

  tall_in : x < w → suc y < h → ltb (y * w + x + w) (w * h) ≡ true
  tall_in a b =
      let l : suc y * w + x < h * w = digits_lt b a in
      lt-ltb (y * w + x + w) (w * h) (omega arith)

  -- ---- by column and row
  pub across_edgel : suc x < w → y < h → edgel w h (across w x y) ≡ true
  across_edgel a b = edgel_flat w h (y * w + x) ∙ flat_in a b

  pub down_edgel : x < w → suc y < h → edgel w h (down w x y) ≡ true
  down_edgel a b = edgel_tall w h (y * w + x) ∙ tall_in a b

pub edgel_between : (w h c : ℕ) → edgel w h c ≡ true → Across w h c ⊎ Down w h c
edgel_between w h c e =
    let i = c / 2 in
    by_test (horizontal c)
    (λ t.
    let s : c ≡ 2 * i = flat_is c t in
    let z = sym (edgel_flat w h i) ∙ ap (edgel w h) (sym s) ∙ e in
    let a : i % w + 1 < w = ltb-true _ _ (and_1 (ltb (i % w + 1) w) (ltb i (w * h)) z) in
    let l : i < w * h = ltb-true _ _ (and_2 (ltb (i % w + 1) w) (ltb i (w * h)) z) in
    inl (record { x = i % w; y = i / w; right = omega arith; within = row_in w h i (omega arith) l; code = omega (arith, div-add-mod' i w) }))
    (λ t.
    let s : c ≡ 2 * i + 1 = tall_is c t in
    let l : i + w < w * h = ltb-true _ _ (sym (edgel_tall w h i) ∙ ap (edgel w h) (sym s) ∙ e) in
    let p : 0 < w = pos_left w h (omega arith) in
    let q : (i + w) / w ≡ i / w + 1 = add-div_right i p in
    let r : (i + w) / w < h = row_in w h (i + w) p l in
    inr (record { x = i % w; y = i / w; within = mod-lt i p; below = omega arith; code = omega (arith, div-add-mod' i w) }))

module _ (P : Picture) (k x y : ℕ) where
  pub across_cut : suc x < P.w → y < P.h → cut_at P k (across P.w x y) ≡ differ (high P k (y * P.w + x)) (high P k (y * P.w + suc x))
  across_cut a b =
      let n : y * P.w + x + 1 ≡ y * P.w + suc x = omega arith in
      cut_flat (high P k) P.w P.h (y * P.w + x)
      ∙ ap₂ (λ (t : Bool) (i : ℕ). t && differ (high P k (y * P.w + x)) (high P k i)) (flat_in P.w P.h x y a b) n

  pub down_cut : x < P.w → suc y < P.h → cut_at P k (down P.w x y) ≡ differ (high P k (y * P.w + x)) (high P k (suc y * P.w + x))
  down_cut a b =
      let n : y * P.w + x + P.w ≡ suc y * P.w + x = omega arith in
      cut_tall (high P k) P.w P.h (y * P.w + x)
      ∙ ap₂ (λ (t : Bool) (i : ℕ). t && differ (high P k (y * P.w + x)) (high P k i)) (tall_in P.w P.h x y a b) n

pub codes_below : (w h c : ℕ) → (side_fits w && side_fits h) ≡ true → edgel w h c ≡ true → c < 2 ^ 23
codes_below w h c s e =
    let S = sides_in w h s in
    let m : h * w ≤ 2048 * 2048 = mul-le-mul S.h_most S.w_most in
    ⊎_elim
    (λ (a : Across w h c).
    let l : a.y * w + a.x < h * w = digits_lt a.within (omega (arith, a.right)) in
    omega (arith, a.code))
    (λ (a : Down w h c).
    let l : a.y * w + a.x < h * w = digits_lt (omega (arith, a.below)) a.within in
    omega (arith, a.code)) (edgel_between w h c e)
