-- Odd and even: of sums, and of how many numbers below x pass a test. Assumes nothing.
-- Definitions: `flips p x` an odd number of the i below x pass p.
-- Main laws: `odd_plus` of a sum; `odd_one`; `odd_sum` the odd or even of a sum of marks is `flips`; `flips_same`, `flips_none`, `flips_cut`; `even_half` an even number is twice its half.
use mathlib.Core.Path.{◌≡◌, refl, sym, ap, ◌∙◌}
use mathlib.Core.Bool.{Bool, true, false, not}
use mathlib.Core.Logic.{◌≢◌}
use Prim.Native.Nat.{ℕ, zero, suc, ◌+◌, ◌*◌, ◌/◌, ◌%◌, ◌<◌}
use native.Mathlib.Nat.{add-zero, add-suc}
use native.Mathlib.Omega.{arith}
use borrow.Author.Tests.{eqb-true, eqb-false, eq-eqb, ne_eqb}
use Rattle.tally.specs.Tally.{one, differ, odd, sum}
use Rattle.tally.proofs.Test.{by_test, differ_assoc}

pub odd_plus : (a b : ℕ) → odd (a + b) ≡ differ (odd a) (odd b)
odd_plus a b =
    by_test (odd a)
    (λ e.
    let p : a % 2 ≡ 1 = eqb-true (a % 2) 1 e in
    by_test (odd b)
    (λ d.
    let q : b % 2 ≡ 1 = eqb-true (b % 2) 1 d in
    ne_eqb ((a + b) % 2) 1 (omega arith) ∙ sym (ap (λ (z : Bool). differ z (odd b)) e ∙ ap not d))
    (λ d.
    let q : b % 2 ≢ 1 = eqb-false (b % 2) 1 d in
    eq-eqb ((a + b) % 2) 1 (omega arith) ∙ sym (ap (λ (z : Bool). differ z (odd b)) e ∙ ap not d)))
    (λ e.
    let p : a % 2 ≢ 1 = eqb-false (a % 2) 1 e in
    by_test (odd b)
    (λ d.
    let q : b % 2 ≡ 1 = eqb-true (b % 2) 1 d in
    eq-eqb ((a + b) % 2) 1 (omega arith) ∙ sym (ap (λ (z : Bool). differ z (odd b)) e ∙ d))
    (λ d.
    let q : b % 2 ≢ 1 = eqb-false (b % 2) 1 d in
    ne_eqb ((a + b) % 2) 1 (omega arith) ∙ sym (ap (λ (z : Bool). differ z (odd b)) e ∙ d)))

pub odd_one : (b : Bool) → odd (one b) ≡ b
odd_one true = refl
odd_one false = refl

pub even_half : (n : ℕ) → odd n ≡ false → n ≡ 2 * (n / 2)
even_half n e = omega (arith, eqb-false (n % 2) 1 e)

unfoldable pub flips : (ℕ → Bool) → ℕ → Bool
flips p zero = false
flips p (suc x) = differ (flips p x) (p x)

pub flips_same : (p q : ℕ → Bool) (x : ℕ) → ((i : ℕ) → i < x → p i ≡ q i) → flips p x ≡ flips q x
unfolding flips
flips_same p q zero e = refl
flips_same p q (suc x) e = rw (flips_same p q x (λ i h. e i (omega arith)), e x (omega arith))

pub flips_none : (p : ℕ → Bool) (x : ℕ) → ((i : ℕ) → i < x → p i ≡ false) → flips p x ≡ false
unfolding flips
flips_none p zero e = refl
flips_none p (suc x) e = rw (flips_none p x (λ i h. e i (omega arith)), e x (omega arith))

pub odd_sum : (p : ℕ → Bool) (x : ℕ) → odd (sum (λ i. one (p i)) x) ≡ flips p x
unfolding flips sum
odd_sum p zero = refl
odd_sum p (suc x) =
    odd_plus (sum (λ i. one (p i)) x) (one (p x))
    ∙ ap (λ (z : Bool). differ z (odd (one (p x)))) (odd_sum p x)
    ∙ ap (λ (z : Bool). differ (flips p x) z) (odd_one (p x))

pub flips_cut : (p : ℕ → Bool) (m n : ℕ) → flips p (m + n) ≡ differ (flips p m) (flips (λ i. p (m + i)) n)
unfolding flips
flips_cut p m zero = rw (add-zero m) (sym (plain (flips p m)))
  where
    plain : (b : Bool) → differ b false ≡ b
    plain true = refl
    plain false = refl
flips_cut p m (suc n) =
    rw (add-suc m n, flips_cut p m n) (differ_assoc (flips p m) (flips (λ i. p (m + i)) n) (p (m + n)))
