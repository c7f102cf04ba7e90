-- Twos have no part in the greatest common divisor of an odd number and another. Assumes nothing.
-- Definitions: `Odd` what is left of a number without its twos.
-- Main laws: `gcd_half` the other number may be halved; `odd_part` the shift by its trailing zeros gives what is left; `turn_odd`, `turn_keeps`
--   a turn of the loop keeps an odd number and the gcd.
use mathlib.Core.Path.{◌≡◌, sym, ap, ap₂, subst, ◌∙◌}
use Prim.Native.Nat.{ℕ, zero, suc, ◌+◌, ◌*◌, ◌/◌, ◌%◌, ◌^◌, ◌<◌, ◌∣◌, min}
use native.Mathlib.Nat.{mul_comm, mul-add, mul-one, mul_left_comm, pow-suc, pow-succ', div-one, div-div-eq-div-mul, dvd_trans, dvd_of_mod-eq-zero, mod-eq-zero_of_dvd, dvd-mul_left, dvd-mul_left_of_dvd, dvd-add_iff_right}
use native.Mathlib.Omega.{arith}
use lib.Dec.{eqb, ltb}
use lib.Count.{count_trailing_zeros}
use borrow.Author.Tests.{eqb-true, eqb-false, ltb-true, ltb-false}
use Rattle.tally.specs.Tally.{apart}
use Rattle.tally.proofs.Test.{by_test}
use Rattle.ratio.specs.Lowest.{gcd}
use Rattle.ratio.proofs.Divisor.{gcd_is, gcd_common, gcd_less}

-- a divisor of an odd number is odd
odd_divisor : (d x : ℕ) → x % 2 ≡ 1 → d ∣ x → d % 2 ≡ 1
odd_divisor d x o p =
    by_test (eqb (d % 2) 0)
    (λ e. let z : x % 2 ≡ 0 = mod-eq-zero_of_dvd 2 (dvd_trans 2 (dvd_of_mod-eq-zero 2 (eqb-true (d % 2) 0 e)) p) in absurd (omega arith))
    (λ e. omega (arith, eqb-false (d % 2) 0 e))

-- an odd number that divides 2·y divides y: y·d = (d / 2)·(2·y) + y
halved : (d y : ℕ) → d % 2 ≡ 1 → d ∣ 2 * y → d ∣ y
halved d y o p =
    let k = d / 2 in
    let e : d ≡ 2 * k + 1 = omega arith in
    let z : y * d ≡ k * (2 * y) + y = ap (λ (x : ℕ). y * x) e ∙ mul-add y (2 * k) 1 ∙ omega (arith, mul_left_comm y 2 k, mul_left_comm k 2 y, mul_comm y k, mul-one y) in
    (dvd-add_iff_right d (dvd-mul_left_of_dvd d p k)).1 (subst (λ (x : ℕ). d ∣ x) z (dvd-mul_left d y))

pub gcd_half : (x y : ℕ) → x % 2 ≡ 1 → gcd x (2 * y) ≡ gcd x y
gcd_half x y o =
    let c = gcd_common x y in
    gcd_is x (2 * y) (gcd x y) (record {
      first = c.first;
      second = dvd-mul_left_of_dvd (gcd x y) c.second 2;
      most = λ d p q. c.most d p (halved d y (odd_divisor d x o p) q);
    })

-- y without its twos
pub record Odd (k y t : ℕ) : Type 0 where
  pub within : t < k
  pub odd : y / 2 ^ t % 2 ≡ 1
  pub keeps : (x : ℕ) → x % 2 ≡ 1 → gcd x y ≡ gcd x (y / 2 ^ t)

already : (k y : ℕ) → y % 2 ≡ 1 → Odd (suc k) y 0
already k y o = record { within = omega arith; odd = ap (λ (z : ℕ). z % 2) (div-one y) ∙ o; keeps = λ x p. ap (gcd x) (sym (div-one y)) }

once_more : (k y t : ℕ) → y % 2 ≡ 0 → Odd k (y / 2) t → Odd (suc k) y (suc t)
once_more k y t e r =
    let z : y / 2 / 2 ^ t ≡ y / 2 ^ suc t = div-div-eq-div-mul y 2 (2 ^ t) ∙ ap (λ (n : ℕ). y / n) (sym (pow-succ' 2 t)) in
    let w : y ≡ 2 * (y / 2) = omega arith in
    record {
      within = omega (arith, r.within);
      odd = ap (λ (n : ℕ). n % 2) (sym z) ∙ r.odd;
      keeps = λ x p. ap (gcd x) w ∙ gcd_half x (y / 2) p ∙ r.keeps x p ∙ ap (gcd x) z;
    }

-- LAW: the shift by the trailing zeros
pub odd_part : (k y : ℕ) → 0 < y → y < 2 ^ k → Odd k y (count_trailing_zeros k y)
unfolding count_trailing_zeros
odd_part zero y p h = absurd (omega arith)
odd_part (suc k) y p h =
    by_test (eqb (y % 2) 0)
    (λ e.
    let z : y % 2 ≡ 0 = eqb-true (y % 2) 0 e in
    rw z (once_more k y (count_trailing_zeros k (y / 2)) z (odd_part k (y / 2) (omega arith) (omega (arith, pow-suc 2 k)))))
    (λ e.
    let o : y % 2 ≡ 1 = omega (arith, eqb-false (y % 2) 0 e) in
    rw o (already k y o))

-- ---- a turn of the loop: the twos go out of y, and x and y become the smaller of the two and their distance
module _ (k x y t d s : ℕ) (o : x % 2 ≡ 1) (r : Odd k y t) (ed : d ≡ apart x (y / 2 ^ t)) (es : s ≡ min x (y / 2 ^ t)) where
  pub turn_odd : s % 2 ≡ 1
  turn_odd =
      by_test (ltb x (y / 2 ^ t))
      (λ e. let z : s ≡ x = omega (arith, ltb-true x (y / 2 ^ t) e) in ap (λ (n : ℕ). n % 2) z ∙ o)
      (λ e. let z : s ≡ y / 2 ^ t = omega (arith, ltb-false x (y / 2 ^ t) e) in ap (λ (n : ℕ). n % 2) z ∙ r.odd)

  pub turn_keeps : gcd s d ≡ gcd x y
  turn_keeps = ap₂ gcd es ed ∙ sym (gcd_less x (y / 2 ^ t)) ∙ sym (r.keeps x o)
