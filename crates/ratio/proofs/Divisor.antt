-- The greatest common divisor is a multiple of every common divisor, and taking the smaller number from the larger keeps it. Assumes nothing.
-- Definitions: `Common` a number is a common divisor of two, and every common divisor divides it.
-- Main laws: `gcd_is` a number that is so is the gcd; `gcd_common` the gcd is so; `gcd_most` no common divisor is greater; `gcd_pos` it is not 0 beside a number that is not; `gcd_none`
--   beside 0; `gcd_less` the smaller number and the distance have the same; `gcd_times` of two multiples by one number.
use mathlib.Core.Path.{◌≡◌, sym, ap, ap₂, subst, ◌∙◌}
use mathlib.Core.Bool.{true, ◌&&◌}
use Prim.Native.Nat.{ℕ, zero, suc, ◌+◌, ◌-◌, ◌*◌, ◌/◌, ◌%◌, ◌≤◌, ◌<◌, ◌∣◌, min}
use native.Mathlib.Nat.{
  mul-zero,
  mul-one,
  one-mul,
  mul_assoc,
  mul-add,
  div-add-mod,
  mod-lt,
  le_antisymm,
  dvd_refl,
  dvd-zero,
  dvd-mul_right_of_dvd,
  dvd-add,
  dvd-add_iff_right,
  dvd_of_mod-eq-zero,
  mod-eq-zero_of_dvd,
  eq-zero_of_zero-dvd,
  pos_of_dvd_of_pos,
  le_of_dvd,
}
use native.Mathlib.Omega.{arith}
use lib.Dec.{leb, ltb}
use borrow.Author.Tests.{eqb-true, eq-eqb, leb-true, leb-false, ltb-true, ltb-false}
use Rattle.tally.specs.Tally.{apart}
use Rattle.tally.proofs.Test.{by_test, no, and_1, and_2, both}
use Rattle.ratio.specs.Lowest.{divides, greatest, gcd}

pub record Common (a b g : ℕ) : Type 0 where
  pub first : g ∣ a
  pub second : g ∣ b
  pub most : (d : ℕ) → d ∣ a → d ∣ b → d ∣ g

turned : {a b g : ℕ} → Common a b g → Common b a g
turned c = record { first = c.second; second = c.first; most = λ d p q. c.most d q p }

-- ---- what the search finds
module _ (a b : ℕ) where
  found : (n : ℕ) → 0 < greatest n a b → (greatest n a b ∣ a) × (greatest n a b ∣ b)
  unfolding greatest
  found zero p = absurd (omega arith)
  found (suc n) p =
      by_test (divides (suc n) a && divides (suc n) b)
      (λ e. rw e (dvd_of_mod-eq-zero (suc n) (eqb-true (a % suc n) 0 (and_1 (divides (suc n) a) (divides (suc n) b) e)), dvd_of_mod-eq-zero (suc n) (eqb-true (b % suc n) 0 (and_2 (divides (suc n) a) (divides (suc n) b) e))))
      (λ e. rw e (found n (rw e at p)))

  reached : (n d : ℕ) → d ≤ n → d ∣ a → d ∣ b → d ≤ greatest n a b
  unfolding greatest
  reached zero d l p q = omega arith
  reached (suc n) d l p q =
      by_test (divides (suc n) a && divides (suc n) b)
      (λ e. rw e l)
      (λ e.
      by_test (leb d n)
      (λ k. rw e (reached n d (leb-true d n k) p q))
      (λ k.
      let z : d ≡ suc n = omega (arith, leb-false d n k) in
      let u : divides (suc n) a ≡ true = eq-eqb (a % suc n) 0 (mod-eq-zero_of_dvd (suc n) (subst (λ (x : ℕ). x ∣ a) z p)) in
      let v : divides (suc n) b ≡ true = eq-eqb (b % suc n) 0 (mod-eq-zero_of_dvd (suc n) (subst (λ (x : ℕ). x ∣ b) z q)) in
      no (both u v) e))

-- LAW: a common divisor that every common divisor divides is the greatest
module _ (a b g : ℕ) (c : Common a b g) where
  nothing : a + b ≡ 0 → gcd a b ≡ g
  unfolding gcd greatest
  nothing z =
      let x : a ≡ 0 = omega arith in
      let y : b ≡ 0 = omega arith in
      let o : 0 ∣ g = c.most 0 (subst (λ (n : ℕ). 0 ∣ n) (sym x) (dvd-zero 0)) (subst (λ (n : ℕ). 0 ∣ n) (sym y) (dvd-zero 0)) in
      ap (λ (n : ℕ). greatest n a b) z ∙ sym (eq-zero_of_zero-dvd o)

  something : 0 < a + b → gcd a b ≡ g
  unfolding gcd
  something p =
      let s : 0 < g = pos_of_dvd_of_pos (dvd-add g c.first c.second) p in
      let l : g ≤ greatest (a + b) a b = reached a b (a + b) g (le_of_dvd p (dvd-add g c.first c.second)) c.first c.second in
      let f = found a b (a + b) (omega arith) in
      le_antisymm (le_of_dvd s (c.most (greatest (a + b) a b) f.0 f.1)) l

  pub gcd_is : gcd a b ≡ g
  gcd_is = by_test (ltb 0 (a + b)) (λ e. something (ltb-true 0 (a + b) e)) (λ e. nothing (omega (arith, ltb-false 0 (a + b) e)))

-- ---- Euclid's steps
-- what divides y and x divides y and the rest of x, and the other way round
module _ (x y q r g : ℕ) (e : x ≡ y * q + r) where
  step : Common y r g → Common x y g
  step c =
      record {
        first = subst (λ (n : ℕ). g ∣ n) (sym e) (dvd-add g (dvd-mul_right_of_dvd g c.first q) c.second);
        second = c.first;
        most = λ d p o. c.most d o ((dvd-add_iff_right d (dvd-mul_right_of_dvd d o q)).1 (subst (λ (n : ℕ). d ∣ n) e p));
      }

  back : Common x y g → Common y r g
  back c =
      record {
        first = c.second;
        second = (dvd-add_iff_right g (dvd-mul_right_of_dvd g c.second q)).1 (subst (λ (n : ℕ). g ∣ n) e c.first);
        most = λ d p o. c.most d (subst (λ (n : ℕ). d ∣ n) (sym e) (dvd-add d (dvd-mul_right_of_dvd d p q) o)) p;
      }

-- the last divisor, of all multiples at once
abbrev Last : ℕ → ℕ → Type 0
Last a b = (g : ℕ) × ((c : ℕ) → Common (c * a) (c * b) (c * g))

ended : (a b : ℕ) → b ≡ 0 → Last a b
ended a b z =
    (a, λ c. record { first = dvd_refl (c * a); second = subst (λ (x : ℕ). c * a ∣ x) (sym (ap (λ (x : ℕ). c * x) z ∙ mul-zero c)) (dvd-zero (c * a)); most = λ d p q. p })

split : (a b c : ℕ) → c * a ≡ c * b * (a / b) + c * (a % b)
split a b c = ap (λ (x : ℕ). c * x) (sym (div-add-mod a b)) ∙ mul-add c (b * (a / b)) (a % b) ∙ ap (λ (x : ℕ). x + c * (a % b)) (sym (mul_assoc c b (a / b)))

euclid : (n a b : ℕ) → b ≤ n → Last a b
euclid zero a b l = ended a b (omega arith)
euclid (suc n) a b l =
    by_test (ltb 0 b)
    (λ e.
    let p : 0 < b = ltb-true 0 b e in
    let k : a % b < b = mod-lt a p in
    let t = euclid n b (a % b) (omega arith) in
    (t.0, λ c. step (c * a) (c * b) (a / b) (c * (a % b)) (c * t.0) (split a b c) (t.1 c)))
    (λ e. ended a b (omega (arith, ltb-false 0 b e)))

last : ℕ → ℕ → ℕ
last a b = (euclid b a b (omega arith)).0

times : (c a b : ℕ) → gcd (c * a) (c * b) ≡ c * last a b
unfolding last
times c a b = gcd_is (c * a) (c * b) (c * last a b) ((euclid b a b (omega arith)).1 c)

module _ (a b : ℕ) where
  gcd_last : gcd a b ≡ last a b
  gcd_last = ap₂ gcd (sym (one-mul a)) (sym (one-mul b)) ∙ times 1 a b ∙ one-mul (last a b)

  pub gcd_common : Common a b (gcd a b)
  unfolding last
  gcd_common = rw gcd_last (simp one-mul at ((euclid b a b (omega arith)).1 1))

  pub gcd_times : (c : ℕ) → gcd (c * a) (c * b) ≡ c * gcd a b
  gcd_times c = times c a b ∙ ap (λ (x : ℕ). c * x) (sym gcd_last)

  pub gcd_pos : 0 < a → 0 < gcd a b
  gcd_pos p = pos_of_dvd_of_pos gcd_common.first p

  pub gcd_most : 0 < a → (d : ℕ) → d ∣ a → d ∣ b → d ≤ gcd a b
  gcd_most p d x y = le_of_dvd (gcd_pos p) (gcd_common.most d x y)

  -- LAW: of the smaller and the distance
  pub gcd_less : gcd a b ≡ gcd (min a b) (apart a b)
  gcd_less =
      by_test (ltb a b)
      (λ e.
      let l : a < b = ltb-true a b e in
      let m : min a b ≡ a = omega arith in
      let d : apart a b ≡ b - a = omega arith in
      sym (ap₂ gcd m d ∙ gcd_is a (b - a) (gcd a b) (back b a 1 (b - a) (gcd a b) (omega (arith, mul-one a)) (turned gcd_common))))
      (λ e.
      let l : b ≤ a = ltb-false a b e in
      let m : min a b ≡ b = omega arith in
      let d : apart a b ≡ a - b = omega arith in
      sym (ap₂ gcd m d ∙ gcd_is b (a - b) (gcd a b) (back a b 1 (a - b) (gcd a b) (omega (arith, mul-one b)) gcd_common)))

pub gcd_none : (a : ℕ) → gcd a 0 ≡ a
gcd_none a = gcd_is a 0 a (record { first = dvd_refl a; second = dvd-zero a; most = λ d p q. p })
