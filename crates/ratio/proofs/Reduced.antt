-- A fraction in lowest terms: the same fraction, nothing in common, and no other. Assumes nothing.
-- Definitions: `Apart` two numbers have no common divisor but 1.
-- Main laws: `times_num`, `times_den` the parts taken back; `lowest-pos` the gcd that they are divided by; `lowest_equal` a/b and its lowest terms are equal, by cross-multiplication; `lowest_apart` their parts have no common divisor
--   but 1; `lowest_only` no other such pair is equal to a/b.
use mathlib.Core.Path.{◌≡◌, sym, ap, ap₂, subst, ◌∙◌}
use Prim.Native.Nat.{ℕ, ◌*◌, ◌<◌, ◌∣◌}
use native.Mathlib.Nat.{mul-one, mul_comm, mul_assoc, mul_left_comm, mul-div_cancel', eq_of_mul-eq-mul_left, eq-one_of_dvd-one}
use Rattle.ratio.specs.Lowest.{gcd, lowest}
use Rattle.ratio.proofs.Divisor.{gcd_common, gcd_times, gcd_pos}

abbrev pub Apart : ℕ → ℕ → Type 0
Apart n m = (d : ℕ) → d ∣ n → d ∣ m → d ≡ 1

apart_gcd : (n m : ℕ) → Apart n m → gcd n m ≡ 1
apart_gcd n m h = h (gcd n m) (gcd_common n m).first (gcd_common n m).second

gcd_apart : (n m : ℕ) → gcd n m ≡ 1 → Apart n m
gcd_apart n m e d p q = eq-one_of_dvd-one (subst (λ (x : ℕ). d ∣ x) e ((gcd_common n m).most d p q))

-- two equal fractions, each with nothing in common, are one: n = n·gcd(i, j) = gcd(n·i, n·j) = gcd(i·n, i·m) = i·gcd(n, m) = i
module _ (n m i j : ℕ) (e : gcd n m ≡ 1) (f : gcd i j ≡ 1) (z : n * j ≡ i * m) where
  one_num : n ≡ i
  one_num =
      sym (mul-one n)
      ∙ ap (λ (x : ℕ). n * x) (sym f)
      ∙ sym (gcd_times i j n)
      ∙ ap₂ gcd (mul_comm n i) z
      ∙ gcd_times n m i
      ∙ ap (λ (x : ℕ). i * x) e
      ∙ mul-one i

  one_den : m ≡ j
  one_den =
      sym (mul-one m)
      ∙ ap (λ (x : ℕ). m * x) (sym f)
      ∙ sym (gcd_times i j m)
      ∙ ap₂ gcd (mul_comm m i ∙ sym z ∙ mul_comm n j) (mul_comm m j)
      ∙ gcd_times n m j
      ∙ ap (λ (x : ℕ). j * x) e
      ∙ mul-one j

module _ (a b : ℕ) where
  pub times_num : gcd a b * (lowest a b).num ≡ a
  times_num = mul-div_cancel' (gcd a b) (gcd_common a b).first

  pub times_den : gcd a b * (lowest a b).den ≡ b
  times_den = mul-div_cancel' (gcd a b) (gcd_common a b).second

  -- LAW: the same fraction
  pub lowest_equal : (lowest a b).num * b ≡ a * (lowest a b).den
  lowest_equal =
      let n = (lowest a b).num in
      let m = (lowest a b).den in
      ap (λ (x : ℕ). n * x) (sym times_den) ∙ mul_left_comm n (gcd a b) m ∙ sym (mul_assoc (gcd a b) n m) ∙ ap (λ (x : ℕ). x * m) times_num

  module _ (p : 0 < a) where
    lowest_one : gcd (lowest a b).num (lowest a b).den ≡ 1
    lowest_one =
        eq_of_mul-eq-mul_left (gcd a b) (gcd_pos a b p) _ 1
        (sym (gcd_times (lowest a b).num (lowest a b).den (gcd a b)) ∙ ap₂ gcd times_num times_den ∙ sym (mul-one (gcd a b)))

    -- LAW: nothing in common
    pub lowest_apart : Apart (lowest a b).num (lowest a b).den
    lowest_apart = gcd_apart (lowest a b).num (lowest a b).den lowest_one

    -- LAW: no other pair
    pub lowest_only : (n m : ℕ) → Apart n m → n * b ≡ a * m → (n ≡ (lowest a b).num) × (m ≡ (lowest a b).den)
    lowest_only n m h e =
        let i = (lowest a b).num in
        let j = (lowest a b).den in
        let z : n * j ≡ i * m =
        eq_of_mul-eq-mul_left (gcd a b) (gcd_pos a b p) _ _
        (mul_left_comm (gcd a b) n j ∙ ap (λ (x : ℕ). n * x) times_den ∙ e ∙ ap (λ (x : ℕ). x * m) (sym times_num) ∙ mul_assoc (gcd a b) i m) in
        (one_num n m i j (apart_gcd n m h) lowest_one z, one_den n m i j (apart_gcd n m h) lowest_one z)
