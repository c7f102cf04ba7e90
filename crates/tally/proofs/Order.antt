-- The order of a walk: which list stands where. Assumes nothing.
-- Definitions: `Here p g i m n` the n-th list of the walk is g j, for a j that passes; `Next p g i m n` so are the n-th and the one after it, for larger and larger j.
-- Main laws: `pick_at` every list of the walk is such; `pick_next` the walk goes upwards; `pick_has` every number that passes has its list there.
use mathlib.Core.Path.{◌≡◌, ap, ◌∙◌}
use mathlib.Core.Bool.{Bool, true, false}
use mathlib.Core.List.{List, []}
use Prim.Native.Nat.{ℕ, zero, suc, ◌+◌, ◌≤◌, ◌<◌}
use native.Mathlib.Omega.{arith}
use lib.Dec.{eqb}
use lib.ListN.{length, get_or}
use borrow.Author.Tests.{eqb-true, eqb-false}
use Rattle.tally.specs.Tally.{pick}
use Rattle.tally.proofs.Test.{by_test}
use Rattle.tally.proofs.Pick.{pick_yes, pick_no}

pub record Here (p : ℕ → Bool) (g : ℕ → List ℕ) (i m n : ℕ) : Type 0 where
  pub it : ℕ
  pub from : i ≤ it
  pub upto : it < i + m
  pub passes : p it ≡ true
  pub list : get_or (pick p g i m) n [] ≡ g it

pub record Next (p : ℕ → Bool) (g : ℕ → List ℕ) (i m n : ℕ) : Type 0 where
  pub it : ℕ
  pub after : ℕ
  pub less : it < after
  pub passes : p it ≡ true
  pub passes_after : p after ≡ true
  pub list : get_or (pick p g i m) n [] ≡ g it
  pub list_after : get_or (pick p g i m) (suc n) [] ≡ g after

module _ (p : ℕ → Bool) (g : ℕ → List ℕ) where
  -- the walk's lists, one place on or not
  skip : (i m n : ℕ) → p i ≡ false → get_or (pick p g i (suc m)) n [] ≡ get_or (pick p g (suc i) m) n []
  skip i m n t = ap (λ (l : List (List ℕ)). get_or l n []) (pick_no p g i m t)

  on : (i m n : ℕ) → p i ≡ true → get_or (pick p g i (suc m)) (suc n) [] ≡ get_or (pick p g (suc i) m) n []
  on i m n t = ap (λ (l : List (List ℕ)). get_or l (suc n) []) (pick_yes p g i m t)

  now : (i m : ℕ) → p i ≡ true → get_or (pick p g i (suc m)) 0 [] ≡ g i
  now i m t = ap (λ (l : List (List ℕ)). get_or l 0 []) (pick_yes p g i m t)

  skip_length : (i m : ℕ) → p i ≡ false → length (pick p g i (suc m)) ≡ length (pick p g (suc i) m)
  skip_length i m t = ap length (pick_no p g i m t)

  on_length : (i m : ℕ) → p i ≡ true → length (pick p g i (suc m)) ≡ suc (length (pick p g (suc i) m))
  on_length i m t = ap length (pick_yes p g i m t)

  later : (i m n x : ℕ) → get_or (pick p g i (suc m)) x [] ≡ get_or (pick p g (suc i) m) n [] → Here p g (suc i) m n → Here p g i (suc m) x
  later i m n x e r =
      record { it = r.it; from = omega (arith, r.from); upto = omega (arith, r.upto); passes = r.passes; list = e ∙ r.list }

  pub pick_at : (i m n : ℕ) → n < length (pick p g i m) → Here p g i m n
  unfolding pick
  pick_at i zero n h = absurd (omega arith)
  pick_at i (suc m) zero h =
      by_test (p i)
      (λ t. record { it = i; from = omega arith; upto = omega arith; passes = t; list = now i m t })
      (λ t. later i m 0 0 (skip i m 0 t) (pick_at (suc i) m 0 (omega (arith, skip_length i m t))))
  pick_at i (suc m) (suc n) h =
      by_test (p i)
      (λ t. later i m n (suc n) (on i m n t) (pick_at (suc i) m n (omega (arith, on_length i m t))))
      (λ t. later i m (suc n) (suc n) (skip i m (suc n) t) (pick_at (suc i) m (suc n) (omega (arith, skip_length i m t))))

  shift : (i m n x : ℕ) → get_or (pick p g i (suc m)) x [] ≡ get_or (pick p g (suc i) m) n [] → get_or (pick p g i (suc m)) (suc x) [] ≡ get_or (pick p g (suc i) m) (suc n) []
      → Next p g (suc i) m n → Next p g i (suc m) x
  shift i m n x e d r =
      record {
        it = r.it;
        after = r.after;
        less = r.less;
        passes = r.passes;
        passes_after = r.passes_after;
        list = e ∙ r.list;
        list_after = d ∙ r.list_after;
      }

  pub pick_next : (i m n : ℕ) → suc n < length (pick p g i m) → Next p g i m n
  unfolding pick
  pick_next i zero n h = absurd (omega arith)
  pick_next i (suc m) zero h =
      by_test (p i)
      (λ t.
      let r = pick_at (suc i) m 0 (omega (arith, on_length i m t)) in
      record {
        it = i;
        after = r.it;
        less = omega (arith, r.from);
        passes = t;
        passes_after = r.passes;
        list = now i m t;
        list_after = on i m 0 t ∙ r.list;
      })
      (λ t. shift i m 0 0 (skip i m 0 t) (skip i m 1 t) (pick_next (suc i) m 0 (omega (arith, skip_length i m t))))
  pick_next i (suc m) (suc n) h =
      by_test (p i)
      (λ t. shift i m n (suc n) (on i m n t) (on i m (suc n) t) (pick_next (suc i) m n (omega (arith, on_length i m t))))
      (λ t. shift i m (suc n) (suc n) (skip i m (suc n) t) (skip i m (suc (suc n)) t) (pick_next (suc i) m (suc n) (omega (arith, skip_length i m t))))

  pub pick_has : (i m j : ℕ) → i ≤ j → j < i + m → p j ≡ true → (n : ℕ) × (n < length (pick p g i m)) × (get_or (pick p g i m) n [] ≡ g j)
  pick_has i zero j a b t = absurd (omega arith)
  pick_has i (suc m) j a b t =
      by_test (eqb i j)
      (λ e.
      let s : i ≡ j = eqb-true i j e in
      let u : p i ≡ true = rw s t in
      (0, omega (arith, on_length i m u), now i m u ∙ ap g s))
      (λ e.
      let r = pick_has (suc i) m j (omega (arith, eqb-false i j e)) (omega arith) t in
      by_test (p i)
      (λ u. (suc r.0, omega (arith, r.1, on_length i m u), on i m r.0 u ∙ r.2))
      (λ u. (r.0, omega (arith, r.1, skip_length i m u), skip i m r.0 u ∙ r.2)))
