-- Numbers in decimal: how they are built, how long they are, how they begin. Assumes nothing.
-- Main laws: `by_digits` induction from a number's tenth; `decimal_small` one digit; `decimal_more` the last digit apart; `decimal_next` one digit more at the end; `decimal_some` there is a digit;
--   `decimal_length` at most as many digits as the power of ten says; `decimal_head` no leading zero.
use mathlib.Core.Path.{◌≡◌, ap, ◌∙◌}
use mathlib.Core.List.{List, [], ◌∷◌, ◌++◌}
use Prim.Native.Nat.{ℕ, zero, suc, ◌+◌, ◌*◌, ◌/◌, ◌%◌, ◌^◌, ◌≤◌, ◌<◌}
use native.Mathlib.Nat.{pow-suc}
use native.Mathlib.Omega.{arith}
use borrow.Author.Tests.{lt-ltb, le-ltb, ltb-true, ltb-false}
use lib.Dec.{ltb}
use lib.ListN.{length, length-append}
use Rattle.tally.proofs.Test.{by_test}
use Rattle.form.specs.Decimal.{decimal_by, decimal}

-- ---- from a number's tenth
module _ (P : ℕ → Type 0) (small : (n : ℕ) → n < 10 → P n) (more : (n : ℕ) → 10 ≤ n → P (n / 10) → P n) where
  below : (f n : ℕ) → n < f → P n
  below zero n h = absurd (omega arith)
  below (suc f) n h = by_test (ltb n 10) (λ t. small n (ltb-true n 10 t)) (λ t. let g = ltb-false n 10 t in more n g (below f (n / 10) (omega arith)))

  pub by_digits : (n : ℕ) → P n
  by_digits n = below (suc n) n (omega arith)

-- ---- how a number is built
fuel : (f g n : ℕ) → n < f → n < g → decimal_by f n ≡ decimal_by g n
unfolding decimal_by
fuel zero g n h k = absurd (omega arith)
fuel (suc f) zero n h k = absurd (omega arith)
fuel (suc f) (suc g) n h k =
    by_test (ltb n 10)
    (λ t. rw (t, decimal_by))
    (λ t. let m = ltb-false n 10 t in rw (t, decimal_by) (ap (λ (l : List ℕ). l ++ ((48 + n % 10) ∷ [])) (fuel f g (n / 10) (omega arith) (omega arith))))

pub decimal_small : (n : ℕ) → n < 10 → decimal n ≡ (48 + n) ∷ []
unfolding decimal decimal_by
decimal_small n h = rw (lt-ltb n 10 h, decimal_by)

pub decimal_more : (n : ℕ) → 10 ≤ n → decimal n ≡ decimal (n / 10) ++ ((48 + n % 10) ∷ [])
unfolding decimal decimal_by
decimal_more n h = rw (le-ltb n 10 h, decimal_by) (ap (λ (l : List ℕ). l ++ ((48 + n % 10) ∷ [])) (fuel n (suc (n / 10)) (n / 10) (omega arith) (omega arith)))

pub decimal_next : (v d : ℕ) → 1 ≤ v → d < 10 → decimal (v * 10 + d) ≡ decimal v ++ ((48 + d) ∷ [])
decimal_next v d h k =
    let q : (v * 10 + d) / 10 ≡ v = omega arith in
    let r : (v * 10 + d) % 10 ≡ d = omega arith in
    decimal_more (v * 10 + d) (omega arith) ∙ rw (q, r)

-- ---- how long it is
pub decimal_some : (n : ℕ) → 1 ≤ length (decimal n)
decimal_some =
    by_digits (λ n. 1 ≤ length (decimal n))
    (λ n h. rw (decimal_small n h) (omega arith))
    (λ n h e. rw (decimal_more n h) (simp length-append (omega arith)))

pub decimal_length : (k n : ℕ) → n < 10 ^ suc k → length (decimal n) ≤ suc k
decimal_length zero n h = rw (decimal_small n h) (omega arith)
decimal_length (suc k) n h =
    by_test (ltb n 10)
    (λ t. rw (decimal_small n (ltb-true n 10 t)) (omega arith))
    (λ t.
    let g = ltb-false n 10 t in
    let e = decimal_length k (n / 10) (omega (arith, pow-suc 10 (suc k))) in
    rw (decimal_more n g) (simp length-append (omega arith)))

-- ---- how it begins
pub record Leads (n : ℕ) (l : List ℕ) : Type 0 where
  pub first : ℕ
  pub after : List ℕ
  pub is : l ≡ first ∷ after
  pub least : 48 ≤ first
  pub most : first ≤ 57
  pub high : 1 ≤ n → 49 ≤ first

pub decimal_head : (n : ℕ) → Leads n (decimal n)
decimal_head =
    by_digits (λ n. Leads n (decimal n))
    (λ n h.
    record {
      first = 48 + n;
      after = [];
      is = decimal_small n h;
      least = omega arith;
      most = omega arith;
      high = λ p. omega arith;
    })
    (λ n h e.
    record {
      first = e.first;
      after = e.after ++ ((48 + n % 10) ∷ []);
      is = decimal_more n h ∙ ap (λ (l : List ℕ). l ++ ((48 + n % 10) ∷ [])) e.is;
      least = e.least;
      most = e.most;
      high = λ p. e.high (omega arith);
    })
