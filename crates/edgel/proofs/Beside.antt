-- Counting a list's codes beside a sample: left of it on its row, and above it in its column. Assumes nothing.
-- Definitions: none of its own.
-- Main laws: `tally_west`, `tally_north` the codes of a list left of a sample and above it, as sums along row and column; `odd_lines_lem` an odd number of lines counts odd exactly if all their codes together do.
use mathlib.Core.Path.{◌≡◌, refl, sym, ap, ◌∙◌}
use mathlib.Core.Bool.{Bool, true, not, ◌&&◌}
use mathlib.Core.List.{List, [], ◌∷◌}
use mathlib.Core.Logic.{◌≢◌}
use Prim.Native.Nat.{ℕ, ◌+◌, ◌*◌, ◌/◌, ◌%◌, ◌≤◌, ◌<◌}
use native.Mathlib.Nat.{div-add-mod'}
use native.Mathlib.Omega.{arith}
use lib.Dec.{eqb, ltb}
use lib.Arith.{digits_mod, digits_div}
use borrow.Author.Tests.{ltb-true, lt-ltb, eqb-true, eqb-false, eq-eqb, ne_eqb, not-true}
use Rattle.tally.specs.Tally.{one, odd, differ, sum, count, tally, flat}
use Rattle.tally.proofs.Test.{by_test, no, and_1, and_2}
use Rattle.tally.proofs.Sum.{sum_same, sum_zero, sum_plus, sum_on}
use Rattle.tally.proofs.Count.{tally_append}
use Rattle.tally.proofs.Parity.{odd_plus, odd_one}
use Rattle.edgel.specs.Edgel.{across, down, horizontal}
use Rattle.edgel.specs.Beside.{west_of, north_of, odd_west, odd_lines}

-- ---- along a line of codes
-- a test that picks out the first n values of a function, no two alike: one word's share, and a list's
module _ (p : ℕ → Bool) (f g : ℕ → ℕ) (n : ℕ) (back : (c : ℕ) → p c ≡ true → (c ≡ f (g c)) × (g c < n)) (on : (i : ℕ) → i < n → p (f i) ≡ true) (once : (i j : ℕ) → f i ≡ f j → i ≡ j) where
  share : (c : ℕ) → one (p c) ≡ sum (λ i. one (eqb (f i) c)) n
  share c =
      by_test (p c)
      (λ e.
      let b = back c e in
      ap one e
      ∙ sym (sum_on (g c) n b.1)
      ∙ sum_same (λ i. one (eqb i (g c))) (λ i. one (eqb (f i) c)) n
      (λ i h. by_test (eqb i (g c))
      (λ d. ap one (d ∙ sym (eq-eqb (f i) c (ap f (eqb-true i (g c) d) ∙ sym b.0))))
      (λ d. ap one (d ∙ sym (ne_eqb (f i) c (λ z. eqb-false i (g c) d (once i (g c) (z ∙ b.0))))))))
      (λ e.
      ap one e
      ∙ sym (sum_zero n)
      ∙ sum_same (λ i. 0) (λ i. one (eqb (f i) c)) n
      (λ i h. ap one (sym (ne_eqb (f i) c (λ z. no (on i h) (ap p z ∙ e))))))

  tally_along : (l : List ℕ) → tally p l ≡ sum (λ i. count (f i) l) n
  unfolding tally count
  tally_along [] = sym (sum_zero n)
  tally_along (c ∷ l) = rw (share c, tally_along l) (sym (sum_plus (λ i. one (eqb (f i) c)) (λ i. count (f i) l) n))

-- ---- along the row
west_at : (w x y c : ℕ) → west_of w x y c ≡ true → (c ≡ across w (c / 2 % w) y) × (c / 2 % w < x)
unfolding west_of
west_at w x y c e =
    let f : c % 2 ≡ 0 = eqb-true (c % 2) 0 (and_1 (horizontal c) _ e) in
    let g = and_2 (horizontal c) (eqb (c / 2 / w) y && ltb (c / 2 % w) x) e in
    let r : c / 2 / w ≡ y = eqb-true (c / 2 / w) y (and_1 (eqb (c / 2 / w) y) (ltb (c / 2 % w) x) g) in
    let l : c / 2 % w < x = ltb-true (c / 2 % w) x (and_2 (eqb (c / 2 / w) y) (ltb (c / 2 % w) x) g) in
    let b : y * w + c / 2 % w ≡ c / 2 = ap (λ (z : ℕ). z * w + c / 2 % w) (sym r) ∙ div-add-mod' (c / 2) w in
    (omega arith, l)

at_west : (w x y i : ℕ) → i < w → i < x → west_of w x y (across w i y) ≡ true
unfolding west_of
at_west w x y i a b =
    let f : (2 * (y * w + i)) % 2 ≡ 0 = omega arith in
    let g : (2 * (y * w + i)) / 2 ≡ y * w + i = omega arith in
    rw (f, g, digits_div y a, digits_mod y a, eq-eqb y y refl, lt-ltb i x b)

pub tally_west : (w x y : ℕ) → x ≤ w → (l : List ℕ) → tally (west_of w x y) l ≡ sum (λ i. count (across w i y) l) x
tally_west w x y h =
    tally_along (west_of w x y) (λ i. across w i y) (λ c. c / 2 % w) x (west_at w x y) (λ i l. at_west w x y i (omega arith) l) (λ i j e. omega arith)

-- ---- along the column
north_at : (w x y c : ℕ) → north_of w x y c ≡ true → (c ≡ down w x (c / 2 / w)) × (c / 2 / w < y)
unfolding north_of
north_at w x y c e =
    let f : c % 2 ≢ 0 = eqb-false (c % 2) 0 (not-true (horizontal c) (and_1 (not (horizontal c)) _ e)) in
    let g = and_2 (not (horizontal c)) (eqb (c / 2 % w) x && ltb (c / 2 / w) y) e in
    let r : c / 2 % w ≡ x = eqb-true (c / 2 % w) x (and_1 (eqb (c / 2 % w) x) (ltb (c / 2 / w) y) g) in
    let l : c / 2 / w < y = ltb-true (c / 2 / w) y (and_2 (eqb (c / 2 % w) x) (ltb (c / 2 / w) y) g) in
    let b : c / 2 / w * w + x ≡ c / 2 = ap (λ (z : ℕ). c / 2 / w * w + z) (sym r) ∙ div-add-mod' (c / 2) w in
    (omega arith, l)

at_north : (w x y j : ℕ) → x < w → j < y → north_of w x y (down w x j) ≡ true
unfolding north_of
at_north w x y j a b =
    let f : (2 * (j * w + x) + 1) % 2 ≡ 1 = omega arith in
    let g : (2 * (j * w + x) + 1) / 2 ≡ j * w + x = omega arith in
    rw (f, g, digits_div j a, digits_mod j a, eq-eqb x x refl, lt-ltb j y b)

down_inj : (w x i j : ℕ) → x < w → down w x i ≡ down w x j → i ≡ j
down_inj w x i j a e =
    let s : i * w + x ≡ j * w + x = omega arith in
    sym (digits_div i a) ∙ ap (λ (z : ℕ). z / w) s ∙ digits_div j a

pub tally_north : (w x y : ℕ) → x < w → (l : List ℕ) → tally (north_of w x y) l ≡ sum (λ j. count (down w x j) l) y
tally_north w x y h =
    tally_along (north_of w x y) (down w x) (λ c. c / 2 / w) y (north_at w x y) (λ j l. at_north w x y j h l) (λ i j e. down_inj w x i j h e)

-- ---- over all lines
pub odd_lines_lem : (w : ℕ) (ls : List (List ℕ)) (x y : ℕ) → odd (odd_lines w ls x y) ≡ odd_west w (flat ls) x y
unfolding odd_lines flat tally
odd_lines_lem w [] x y = refl
odd_lines_lem w (l ∷ ls) x y =
    odd_plus (one (odd_west w l x y)) (odd_lines w ls x y)
    ∙ ap (λ (z : Bool). differ z (odd (odd_lines w ls x y))) (odd_one (odd_west w l x y))
    ∙ ap (λ (z : Bool). differ (odd_west w l x y) z) (odd_lines_lem w ls x y)
    ∙ sym (ap odd (tally_append (west_of w x y) l (flat ls)) ∙ odd_plus (tally (west_of w x y) l) (tally (west_of w x y) (flat ls)))
