-- A walk over numbers that lists g j for each j that passes. Assumes nothing.
-- Definitions: `More` one step of the walk at its end.
-- Main laws: `pick_yes`, `pick_no` one step at the front; `pick_none`, `pick_one` how often a number stands in the lists together; `pick_more` one step at the end, as lists joined, and `pick_snoc` as a
--   list of lists; `pick_even` a walk over all numbers of which no odd one passes is the walk over their halves; `pick_two` lists that each have two that pass; `pick_length` how many are listed;
--   `flat_append`.
use mathlib.Core.Path.{◌≡◌, refl, sym, ap, ◌∙◌}
use mathlib.Core.Bool.{Bool, true, false}
use mathlib.Core.List.{List, [], ◌∷◌, ◌++◌, append_assoc, append-nil}
use mathlib.Core.Logic.{◌≢◌}
use Prim.Native.Nat.{ℕ, zero, suc, ◌+◌, ◌*◌, ◌≤◌, ◌<◌}
use native.Mathlib.Nat.{add-zero}
use native.Mathlib.Omega.{arith}
use lib.Dec.{eqb}
use lib.ListN.{length}
use borrow.Author.Tests.{eqb-true, eqb-false}
use Rattle.tally.specs.Tally.{count, tally, flat, pick}
use Rattle.tally.proofs.Test.{by_test}
use Rattle.tally.proofs.Count.{count_append, tally_append}

pub pick_yes : (p : ℕ → Bool) (g : ℕ → List ℕ) (i m : ℕ) → p i ≡ true → pick p g i (suc m) ≡ g i ∷ pick p g (suc i) m
unfolding pick
pick_yes p g i m e = rw (e, pick)

pub pick_no : (p : ℕ → Bool) (g : ℕ → List ℕ) (i m : ℕ) → p i ≡ false → pick p g i (suc m) ≡ pick p g (suc i) m
unfolding pick
pick_no p g i m e = rw (e, pick)

pub pick_none : (p : ℕ → Bool) (g : ℕ → List ℕ) (d i m : ℕ) → ((j : ℕ) → i ≤ j → p j ≡ true → count d (g j) ≡ 0) → count d (flat (pick p g i m)) ≡ 0
unfolding flat pick count
pick_none p g d i zero q = refl
pick_none p g d i (suc m) q =
    let r : count d (flat (pick p g (suc i) m)) ≡ 0 = pick_none p g d (suc i) m (λ j h k. q j (omega arith) k) in
    by_test (p i)
    (λ e. rw (pick_yes p g i m e, count_append d (g i) (flat (pick p g (suc i) m)), r, q i (omega arith) e))
    (λ e. rw (pick_no p g i m e) r)

pub pick_one : (p : ℕ → Bool) (g : ℕ → List ℕ) (d i m k : ℕ) → i ≤ k → k < i + m → p k ≡ true → count d (g k) ≡ 1
    → ((j : ℕ) → p j ≡ true → j ≢ k → count d (g j) ≡ 0) → count d (flat (pick p g i m)) ≡ 1
unfolding flat
pick_one p g d i zero k a b h e q = absurd (omega arith)
pick_one p g d i (suc m) k a b h e q =
    by_test (eqb i k)
    (λ t.
    let s : i ≡ k = eqb-true i k t in
    let r : count d (flat (pick p g (suc i) m)) ≡ 0 = pick_none p g d (suc i) m (λ j u v. q j v (omega arith)) in
    rw (pick_yes p g i m (rw s h), count_append d (g i) (flat (pick p g (suc i) m)), r, add-zero (count d (g i))) (rw s e))
    (λ t.
    let s : i ≢ k = eqb-false i k t in
    let r : count d (flat (pick p g (suc i) m)) ≡ 1 = pick_one p g d (suc i) m k (omega arith) (omega arith) h e q in
    by_test (p i)
    (λ u. rw (pick_yes p g i m u, count_append d (g i) (flat (pick p g (suc i) m)), r, q i u s))
    (λ u. rw (pick_no p g i m u) r))

-- ---- one step at the end
pub record More (p : ℕ → Bool) (g : ℕ → List ℕ) (i m k : ℕ) : Type 0 where
  pub yes : p k ≡ true → pick p g i (suc m) ≡ pick p g i m ++ (g k ∷ [])
  pub nay : p k ≡ false → pick p g i (suc m) ≡ pick p g i m

pub pick_snoc : (p : ℕ → Bool) (g : ℕ → List ℕ) (i m k : ℕ) → k ≡ i + m → More p g i m k
unfolding pick
pick_snoc p g i zero k s =
    let t : k ≡ i = omega arith in
    rw t (record { yes = λ e. rw (pick_yes p g i 0 e); nay = λ e. rw (pick_no p g i 0 e) })
pick_snoc p g i (suc m) k s =
    let r = pick_snoc p g (suc i) m k (omega arith) in
    by_test (p i)
    (λ t. record {
      yes = λ e. rw (pick_yes p g i (suc m) t, pick_yes p g i m t) (ap (λ (l : List (List ℕ)). g i ∷ l) (r.yes e));
      nay = λ e. rw (pick_yes p g i (suc m) t, pick_yes p g i m t) (ap (λ (l : List (List ℕ)). g i ∷ l) (r.nay e));
    })
    (λ t. record {
      yes = λ e. rw (pick_no p g i (suc m) t, pick_no p g i m t) (r.yes e);
      nay = λ e. rw (pick_no p g i (suc m) t, pick_no p g i m t) (r.nay e);
    })

pub flat_append : (ls ms : List (List ℕ)) → flat (ls ++ ms) ≡ flat ls ++ flat ms
unfolding flat
flat_append [] ms = refl
flat_append (l ∷ ls) ms = rw (append_assoc l (flat ls) (flat ms)) (ap (λ (t : List ℕ). l ++ t) (flat_append ls ms))

pub pick_more : (p : ℕ → Bool) (g : ℕ → List ℕ) (m : ℕ) → p m ≡ true → flat (pick p g 0 (suc m)) ≡ flat (pick p g 0 m) ++ g m
unfolding flat
pick_more p g m e =
    ap flat ((pick_snoc p g 0 m m (omega arith)).yes e)
    ∙ flat_append (pick p g 0 m) (g m ∷ [])
    ∙ ap (λ (t : List ℕ). flat (pick p g 0 m) ++ t) (append-nil (g m))

pub pick_still : (p : ℕ → Bool) (g : ℕ → List ℕ) (m : ℕ) → p m ≡ false → flat (pick p g 0 (suc m)) ≡ flat (pick p g 0 m)
pick_still p g m e = ap flat ((pick_snoc p g 0 m m (omega arith)).nay e)

-- ---- a walk over all numbers, of which no odd one passes
pub pick_even : (p : ℕ → Bool) (g : ℕ → List ℕ) → ((j : ℕ) → p (suc (2 * j)) ≡ false) → (i m : ℕ)
    → pick p g (2 * i) (2 * m) ≡ pick (λ j. p (2 * j)) (λ j. g (2 * j)) i m
unfolding pick
pick_even p g q i zero = refl
pick_even p g q i (suc m) =
    let r : pick p g (2 * suc i) (2 * m) ≡ pick (λ j. p (2 * j)) (λ j. g (2 * j)) (suc i) m = pick_even p g q (suc i) m in
    let s : 2 * suc m ≡ suc (suc (2 * m)) = omega arith in
    let o : p (suc (2 * i)) ≡ false = q i in
    let t : pick p g (suc (2 * i)) (suc (2 * m)) ≡ pick (λ j. p (2 * j)) (λ j. g (2 * j)) (suc i) m =
    pick_no p g (suc (2 * i)) (2 * m) o ∙ ap (λ (z : ℕ). pick p g z (2 * m)) (omega arith) ∙ r in
    ap (λ (z : ℕ). pick p g (2 * i) z) s
    ∙ by_test (p (2 * i))
    (λ e. pick_yes p g (2 * i) (suc (2 * m)) e ∙ ap (λ (l : List (List ℕ)). g (2 * i) ∷ l) t ∙ sym (pick_yes (λ j. p (2 * j)) (λ j. g (2 * j)) i m e))
    (λ e. pick_no p g (2 * i) (suc (2 * m)) e ∙ t ∙ sym (pick_no (λ j. p (2 * j)) (λ j. g (2 * j)) i m e))

-- ---- how many
pub pick_two : (p : ℕ → Bool) (g : ℕ → List ℕ) (q : ℕ → Bool) → ((j : ℕ) → p j ≡ true → 2 ≤ tally q (g j)) → (i m : ℕ)
    → 2 * length (pick p g i m) ≤ tally q (flat (pick p g i m))
unfolding pick flat tally
pick_two p g q e i zero = omega arith
pick_two p g q e i (suc m) =
    let r : 2 * length (pick p g (suc i) m) ≤ tally q (flat (pick p g (suc i) m)) = pick_two p g q e (suc i) m in
    by_test (p i)
    (λ t. rw (pick_yes p g i m t) (omega (arith, e i t, tally_append q (g i) (flat (pick p g (suc i) m)))))
    (λ t. rw (pick_no p g i m t) r)

pub pick_length : (p : ℕ → Bool) (g : ℕ → List ℕ) (i m : ℕ) → length (pick p g i m) ≤ m
unfolding pick
pick_length p g i zero = omega arith
pick_length p g i (suc m) =
    by_test (p i)
    (λ t. rw (pick_yes p g i m t) (omega (arith, pick_length p g (suc i) m)))
    (λ t. rw (pick_no p g i m t) (omega (arith, pick_length p g (suc i) m)))
