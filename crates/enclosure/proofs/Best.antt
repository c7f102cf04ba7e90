-- The best of the first n numbers, by a test and a measure that is positive where the test passes. Assumes nothing.
-- Definitions: `Top p f n b` b is one more than a number that passes, and none that passes has a larger measure.
-- Main laws: `best_is` what `best` finds, or that no number passes.
use mathlib.Core.Path.{◌≡◌, refl, sym, ap, ◌∙◌}
use mathlib.Core.Bool.{Bool, true, false, ◌&&◌}
use mathlib.Core.Logic.{◌⊎◌, ⊎_elim, inl, inr}
use Prim.Native.Nat.{ℕ, zero, suc, ◌≤◌, ◌<◌}
use native.Mathlib.Omega.{arith}
use lib.Dec.{eqb, ltb}
use borrow.Author.Tests.{ltb-true, ltb-false, lt-ltb, eqb-true, eqb-false}
use Rattle.tally.proofs.Test.{by_test, no, and_1, and_2, both}
use Rattle.enclosure.specs.Tree.{measured, best}

pub record Top (p : ℕ → Bool) (f : ℕ → ℕ) (n b : ℕ) : Type 0 where
  pub it : ℕ
  pub is : b ≡ suc it
  pub within : it < n
  pub holds : p it ≡ true
  pub top : (m : ℕ) → m < n → p m ≡ true → f m ≤ f it

module _ (p : ℕ → Bool) (f : ℕ → ℕ) (q : (m : ℕ) → p m ≡ true → 0 < f m) where
  abbrev None : ℕ → Type 0
  None n = (best p f n ≡ 0) × ((m : ℕ) → m < n → p m ≡ false)

  -- the new number is better
  better : (n : ℕ) → (p n && ltb (measured f (best p f n)) (f n)) ≡ true → Top p f n (best p f n) ⊎ None n → Top p f (suc n) (best p f (suc n))
  unfolding best
  better n e r =
      record {
        it = n;
        is = rw e;
        within = omega arith;
        holds = and_1 (p n) _ e;
        top = λ m a y.
            let l : measured f (best p f n) < f n = ltb-true _ _ (and_2 (p n) _ e) in
            by_test (eqb m n)
            (λ t. let s : f m ≡ f n = ap f (eqb-true m n t) in omega arith)
            (λ t.
            let u : m < n = omega (arith, eqb-false m n t) in
            ⊎_elim
            (λ (T : Top p f n (best p f n)). let z : measured f (best p f n) ≡ f T.it = ap (measured f) T.is in omega (arith, T.top m u y))
            (λ z. no y (z.1 m u))
            r);
      }

  -- it is not: the old best stands
  stays : (n : ℕ) → (p n && ltb (measured f (best p f n)) (f n)) ≡ false → Top p f n (best p f n) → Top p f (suc n) (best p f (suc n))
  unfolding best
  stays n e T =
      record {
        it = T.it;
        is = rw e T.is;
        within = omega (arith, T.within);
        holds = T.holds;
        top = λ m a y.
            by_test (eqb m n)
            (λ t.
            let s : m ≡ n = eqb-true m n t in
            let z : measured f (best p f n) ≡ f T.it = ap (measured f) T.is in
            let r : ltb (measured f (best p f n)) (f n) ≡ false = sym (ap (λ (x : Bool). x && ltb (measured f (best p f n)) (f n)) (sym (ap p s) ∙ y)) ∙ e in
            let o : f m ≡ f n = ap f s in
            omega (arith, ltb-false (measured f (best p f n)) (f n) r))
            (λ t. T.top m (omega (arith, eqb-false m n t)) y);
      }

  -- and none did before
  none : (n : ℕ) → (p n && ltb (measured f (best p f n)) (f n)) ≡ false → None n → None (suc n)
  unfolding best
  none n e z = (
    rw e z.0,
    λ m a.
        by_test (eqb m n)
        (λ t.
        let s : m ≡ n = eqb-true m n t in
        by_test (p m)
        (λ y.
        let g : 0 < f n = q n (sym (ap p s) ∙ y) in
        let c : measured f (best p f n) ≡ 0 = ap (measured f) z.0 in
        no (both (sym (ap p s) ∙ y) (lt-ltb (measured f (best p f n)) (f n) (omega arith))) e)
        (λ y. y))
        (λ t. z.1 m (omega (arith, eqb-false m n t))),
  )

  pub best_is : (n : ℕ) → Top p f n (best p f n) ⊎ ((best p f n ≡ 0) × ((m : ℕ) → m < n → p m ≡ false))
  unfolding best
  best_is zero = inr (refl, λ m h. absurd (omega arith))
  best_is (suc n) =
      by_test (p n && ltb (measured f (best p f n)) (f n))
      (λ e. inl (better n e (best_is n)))
      (λ e. ⊎_elim (λ (T : Top p f n (best p f n)). inl (stays n e T)) (λ (z : None n). inr (none n e z)) (best_is n))
