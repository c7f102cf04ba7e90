-- Among n + 1 numbers below n two are equal; so an injective map that stays below n comes back to where it began. Assumes nothing.
-- Definitions: `Twice` two places with the same value; `iter f i c` the i-th image.
-- Main laws: `pigeon`; `iter_add`; for a set that f keeps, below n, on which f is injective: `iter_ok`, `cancel`, `returns` (c comes again within n steps).
use mathlib.Core.Path.{◌≡◌, sym, ap, ◌∙◌}
use mathlib.Core.Bool.{cond}
use mathlib.Core.Logic.{◌⊎◌, ◌≢◌, ⊎_elim, inl, inr}
use Prim.Native.Nat.{ℕ, zero, suc, ◌+◌, ◌-◌, ◌≤◌, ◌<◌}
use native.Mathlib.Nat.{zero-add, suc-add}
use native.Mathlib.Omega.{arith}
use lib.Dec.{eqb}
use borrow.Author.Tests.{eqb-true, eqb-false, eq-eqb, ne_eqb}
use Rattle.tally.proofs.Test.{by_test}

pub record Twice (g : ℕ → ℕ) (n : ℕ) : Type 0 where
  pub first : ℕ
  pub second : ℕ
  pub apart : first < second
  pub within : second ≤ n
  pub same : g first ≡ g second

-- v stands at some place up to n, or at none
seek : (g : ℕ → ℕ) (v n : ℕ) → ((i : ℕ) × (i < n) × (g i ≡ v)) ⊎ ((i : ℕ) → i < n → g i ≢ v)
seek g v zero = inr (λ i h. absurd (omega arith))
seek g v (suc n) =
    by_test (eqb (g n) v)
    (λ e. inl (n, omega arith, eqb-true (g n) v e))
    (λ e. ⊎_elim
    (λ p. inl (p.0, omega arith, p.2))
    (λ q. inr (λ i h. by_test (eqb i n) (λ d. rw (eqb-true i n d) (eqb-false (g n) v e)) (λ d. q i (omega (arith, eqb-false i n d)))))
    (seek g v n))

-- g with the value n replaced by v
abbrev put : (ℕ → ℕ) → ℕ → ℕ → ℕ → ℕ
put g n v i = cond (eqb (g i) n) v (g i)

put_at : (g : ℕ → ℕ) (n v i : ℕ) → g i ≡ n → put g n v i ≡ v
put_at g n v i e = rw (eq-eqb (g i) n e)

put_off : (g : ℕ → ℕ) (n v i : ℕ) → g i ≢ n → put g n v i ≡ g i
put_off g n v i e = rw (ne_eqb (g i) n e)

small : (g : ℕ → ℕ) (n : ℕ) → ((i : ℕ) → i ≤ suc n → g i < suc n) → ((i : ℕ) → i < suc n → g i ≢ g (suc n)) → (i : ℕ) → i ≤ n → put g n (g (suc n)) i < n
small g n h q i k =
    by_test (eqb (g i) n)
    (λ e.
    let d : g i ≡ n = eqb-true (g i) n e in
    let a : g (suc n) < suc n = h (suc n) (omega arith) in
    let b : g (suc n) ≢ n = λ z. q i (omega arith) (d ∙ sym z) in
    rw (put_at g n (g (suc n)) i d) (omega arith))
    (λ e.
    let d : g i ≢ n = eqb-false (g i) n e in
    let a : g i < suc n = h i (omega arith) in
    rw (put_off g n (g (suc n)) i d) (omega arith))

unput : (g : ℕ → ℕ) (n v i j : ℕ) → g i ≢ v → g j ≢ v → put g n v i ≡ put g n v j → g i ≡ g j
unput g n v i j a b p =
    by_test (eqb (g i) n)
    (λ e. by_test (eqb (g j) n)
    (λ d. eqb-true (g i) n e ∙ sym (eqb-true (g j) n d))
    (λ d. absurd (b (sym (sym (put_at g n v i (eqb-true (g i) n e)) ∙ p ∙ put_off g n v j (eqb-false (g j) n d))))))
    (λ e. by_test (eqb (g j) n)
    (λ d. absurd (a (sym (put_off g n v i (eqb-false (g i) n e)) ∙ p ∙ put_at g n v j (eqb-true (g j) n d))))
    (λ d. sym (put_off g n v i (eqb-false (g i) n e)) ∙ p ∙ put_off g n v j (eqb-false (g j) n d)))

pub pigeon : (n : ℕ) (g : ℕ → ℕ) → ((i : ℕ) → i ≤ n → g i < n) → Twice g n
pigeon zero g h = absurd (omega (arith, h 0 (omega arith)))
pigeon (suc n) g h =
    ⊎_elim
    (λ p. record { first = p.0; second = suc n; apart = p.1; within = omega arith; same = p.2 })
    (λ q.
    let t = pigeon n (put g n (g (suc n))) (small g n h q) in
    record {
      first = t.first;
      second = t.second;
      apart = t.apart;
      within = omega (arith, t.within);
      same = unput g n (g (suc n)) t.first t.second (q t.first (omega (arith, t.apart, t.within))) (q t.second (omega (arith, t.within))) t.same;
    })
    (seek g (g (suc n)) (suc n))

abbrev pub iter : (ℕ → ℕ) → ℕ → ℕ → ℕ
iter f zero c = c
iter f (suc n) c = f (iter f n c)

pub iter_add : (f : ℕ → ℕ) (m n c : ℕ) → iter f (m + n) c ≡ iter f m (iter f n c)
iter_add f zero n c = rw (zero-add n)
iter_add f (suc m) n c = rw (suc-add m n) (ap f (iter_add f m n c))

-- a map that keeps a set of numbers below n and is injective on it comes back
module _ (f : ℕ → ℕ) (ok : ℕ → Type 0) (n : ℕ) (bound : (c : ℕ) → ok c → c < n) (stays : (c : ℕ) → ok c → ok (f c)) (inj : (c d : ℕ) → ok c → ok d → f c ≡ f d → c ≡ d) where
  pub iter_ok : (i c : ℕ) → ok c → ok (iter f i c)
  iter_ok zero c h = h
  iter_ok (suc i) c h = stays (iter f i c) (iter_ok i c h)

  pub cancel : (i c d : ℕ) → ok c → ok d → iter f i c ≡ iter f i d → c ≡ d
  cancel zero c d h k e = e
  cancel (suc i) c d h k e = cancel i c d h k (inj (iter f i c) (iter f i d) (iter_ok i c h) (iter_ok i d k) e)

  pub returns : (c : ℕ) → ok c → (m : ℕ) × (0 < m) × (m ≤ n) × (iter f m c ≡ c)
  returns c h =
      let t = pigeon n (λ i. iter f i c) (λ i k. bound (iter f i c) (iter_ok i c h)) in
      let m = t.second - t.first in
      let e : t.first + m ≡ t.second = omega (arith, t.apart) in (
        m,
        omega (arith, t.apart),
        omega (arith, t.within),
        sym (cancel t.first c (iter f m c) h (iter_ok m c h) (t.same ∙ ap (λ (z : ℕ). iter f z c) (sym e) ∙ iter_add f t.first m c)),
      )
