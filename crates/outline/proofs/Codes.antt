-- Places and codes of a picture, given as high or low at each place. Assumes nothing.
-- Definitions: `Cell w h t` t is the top left place of a cell; `Frame H w h v` the border is v.
-- Main laws: `col_is`, `row_in`, `right_in` columns and rows of places; `heading_flat`, `heading_tall`, `cut_flat`, `cut_tall` heading and crossing of a horizontal and a vertical code; `flat_is`,
--   `tall_is` a code from its first end; `flat_out` a cell's side is horizontal where its heading is vertical; `into_out`, `out_inj` cells and their sides; `vertical_heading`; `cut_bound` crossed
--   codes are below 2 w h.
use mathlib.Core.Path.{◌≡◌, refl, sym, ap, ◌∙◌}
use mathlib.Core.Bool.{Bool, true, false, ◌&&◌}
use mathlib.Core.Logic.{◌≢◌}
use Prim.Native.Nat.{ℕ, zero, suc, ◌+◌, ◌-◌, ◌*◌, ◌/◌, ◌%◌, ◌≤◌, ◌<◌}
use native.Mathlib.Nat.{div-add-mod', mul-le-mul_right, zero-mul}
use native.Mathlib.Omega.{arith}
use lib.Dec.{ltb}
use lib.Arith.{digits_mod, digits_lt}
use borrow.Author.Tests.{ltb-true, ltb-false, eqb-true, eqb-false, eq-eqb, ne_eqb}
use Rattle.tally.specs.Tally.{differ}
use Rattle.tally.proofs.Test.{by_test, and_1, and_2}
use Rattle.edgel.specs.declared.Heading.{Heading}
use Rattle.edgel.specs.declared.Heading.TheVariants.{South, East, North, West}
use Rattle.edgel.specs.Edgel.{horizontal, heading_of, heading_at, edgel, crossed, cut}
use Rattle.cell.specs.Turn.{out, into}
use Rattle.cell.proofs.Five.{back, vertical}

pub record Cell (w h t : ℕ) : Type 0 where
  pub col : t % w + 1 < w
  pub row : t + w < w * h

pub record Frame (H : ℕ → Bool) (w h : ℕ) (v : Bool) : Type 0 where
  pub top : (i : ℕ) → i < w → H i ≡ v
  pub bottom : (i : ℕ) → i < w * h → w * h ≤ i + w → H i ≡ v
  pub lefts : (i : ℕ) → i < w * h → i % w ≡ 0 → H i ≡ v
  pub rights : (i : ℕ) → i < w * h → i % w + 1 ≡ w → H i ≡ v

-- ---- places
pub col_is : (w i q r : ℕ) → i ≡ q * w + r → r < w → i % w ≡ r
col_is w i q r e h = rw e (digits_mod q h)

pub row_in : (w h i : ℕ) → 0 < w → i < w * h → i / w < h
row_in w h i p l =
    by_test (ltb (i / w) h) (λ e. ltb-true _ _ e)
    (λ e.
    let a : h ≤ i / w = ltb-false _ _ e in
    let b : h * w ≤ i / w * w = mul-le-mul_right w a in
    absurd (omega (arith, div-add-mod' i w)))

pub right_in : (w h i : ℕ) → i < w * h → i % w + 1 < w → i + 1 < w * h
right_in w h i l c = omega (arith, digits_lt (row_in w h i (omega arith) l) c, div-add-mod' i w)

-- ---- codes
pub heading_flat : (H : ℕ → Bool) (i : ℕ) → heading_at H (2 * i) ≡ heading_of true (H i)
unfolding heading_at
heading_flat H i =
    let a : (2 * i) % 2 ≡ 0 = omega arith in
    let b : (2 * i) / 2 ≡ i = omega arith in
    rw (a, b)

pub heading_tall : (H : ℕ → Bool) (i : ℕ) → heading_at H (2 * i + 1) ≡ heading_of false (H i)
unfolding heading_at
heading_tall H i =
    let a : (2 * i + 1) % 2 ≡ 1 = omega arith in
    let b : (2 * i + 1) / 2 ≡ i = omega arith in
    rw (a, b)

pub cut_flat : (H : ℕ → Bool) (w h i : ℕ) → cut H w h (2 * i) ≡ (ltb (i % w + 1) w && ltb i (w * h)) && differ (H i) (H (i + 1))
unfolding cut edgel crossed
cut_flat H w h i =
    let a : (2 * i) % 2 ≡ 0 = omega arith in
    let b : (2 * i) / 2 ≡ i = omega arith in
    rw (a, b)

pub cut_tall : (H : ℕ → Bool) (w h i : ℕ) → cut H w h (2 * i + 1) ≡ ltb (i + w) (w * h) && differ (H i) (H (i + w))
unfolding cut edgel crossed
cut_tall H w h i =
    let a : (2 * i + 1) % 2 ≡ 1 = omega arith in
    let b : (2 * i + 1) / 2 ≡ i = omega arith in
    rw (a, b)

pub flat_is : (c : ℕ) → horizontal c ≡ true → c ≡ 2 * (c / 2)
flat_is c e = let a : c % 2 ≡ 0 = eqb-true (c % 2) 0 e in omega arith

pub tall_is : (c : ℕ) → horizontal c ≡ false → c ≡ 2 * (c / 2) + 1
tall_is c e = let a : c % 2 ≢ 0 = eqb-false (c % 2) 0 e in omega arith

pub flat_out : (w : ℕ) (g : Heading) (t : ℕ) → horizontal (out w g t) ≡ vertical g
flat_out w South t = eq-eqb (2 * (t + w) % 2) 0 (omega arith)
flat_out w East t = ne_eqb ((2 * (t + 1) + 1) % 2) 0 (omega arith)
flat_out w North t = eq-eqb (2 * t % 2) 0 (omega arith)
flat_out w West t = ne_eqb ((2 * t + 1) % 2) 0 (omega arith)

pub into_out : (w : ℕ) (g : Heading) (t : ℕ) → into w g (out w (back g) t) ≡ t
into_out w South t = omega arith
into_out w East t = omega arith
into_out w North t = omega arith
into_out w West t = omega arith

pub out_inj : (w : ℕ) (g : Heading) (t u : ℕ) → out w g t ≡ out w g u → t ≡ u
out_inj w South t u e = omega arith
out_inj w East t u e = omega arith
out_inj w North t u e = omega arith
out_inj w West t u e = omega arith

vertical_of : (x y : Bool) → vertical (heading_of x y) ≡ x
vertical_of true true = refl
vertical_of true false = refl
vertical_of false true = refl
vertical_of false false = refl

pub vertical_heading : (H : ℕ → Bool) (c : ℕ) → vertical (heading_at H c) ≡ horizontal c
unfolding heading_at
vertical_heading H c = vertical_of (horizontal c) (H (c / 2))

pub pos_left : (w h : ℕ) → 0 < w * h → 0 < w
pos_left zero h l = absurd (omega (arith, zero-mul h))
pos_left (suc w) h l = omega arith

pub cut_bound : (H : ℕ → Bool) (w h c : ℕ) → cut H w h c ≡ true → c < 2 * (w * h)
cut_bound H w h c o =
    by_test (horizontal c)
    (λ e.
    let s : c ≡ 2 * (c / 2) = flat_is c e in
    let z = sym (cut_flat H w h (c / 2)) ∙ ap (cut H w h) (sym s) ∙ o in
    let l : c / 2 < w * h = ltb-true _ _ (and_2 (ltb (c / 2 % w + 1) w) _ (and_1 _ _ z)) in
    omega arith)
    (λ e.
    let s : c ≡ 2 * (c / 2) + 1 = tall_is c e in
    let z = sym (cut_tall H w h (c / 2)) ∙ ap (cut H w h) (sym s) ∙ o in
    let l : c / 2 + w < w * h = ltb-true _ _ (and_1 _ _ z) in
    omega (arith, pos_left w h (omega arith)))
