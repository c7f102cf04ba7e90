-- Orbits of a map that keeps a decidable set of numbers below n and is injective on it. Assumes nothing.
-- Definitions: `run f m c` the first m iterates; `Closed f ok n` the map keeps the set `ok`, which is below n, and is injective on it; `Period f c m` m is the least return time of c;
--   `Reach f c d` d is an iterate of c.
-- Main laws: `orbit_stop`, `orbit_go` one step; `period` every ok number has a period at most n; `orbit_period`, `orbit_is` the orbit is the run of exactly one period; `orbit_within`
--   it is at most n long; `orbit_same` maps that agree on a kept set have the same orbits; `reach_self`, `reach_trans`, `reach_back` reaching is an
--   equivalence; `count_in`, `count_out` a number stands in the orbit once where reached, else never.
use mathlib.Core.Path.{◌≡◌, refl, sym, ap, ◌∙◌, subst}
use mathlib.Core.Bool.{Bool, true, false}
use mathlib.Core.List.{List, [], ◌∷◌}
use mathlib.Core.Logic.{◌≢◌}
use Prim.Native.Nat.{ℕ, zero, suc, ◌+◌, ◌-◌, ◌≤◌, ◌<◌}
use native.Mathlib.Nat.{zero-add}
use native.Mathlib.Omega.{arith}
use lib.Dec.{eqb}
use lib.ListN.{length}
use borrow.Author.Tests.{eqb-true, eqb-false, eq-eqb, ne_eqb}
use Rattle.tally.specs.Tally.{count}
use Rattle.tally.proofs.Test.{by_test, no}
use Rattle.tally.proofs.First.{least}
use Rattle.orbit.specs.Orbit.{orbit}
use Rattle.orbit.proofs.Pigeon.{iter, iter_add, cancel, iter_ok, returns}

pub orbit_stop : (f : ℕ → ℕ) (a n c : ℕ) → eqb (f c) a ≡ true → orbit f a (suc n) c ≡ c ∷ []
unfolding orbit
orbit_stop f a n c e = rw e

pub orbit_go : (f : ℕ → ℕ) (a n c : ℕ) → eqb (f c) a ≡ false → orbit f a (suc n) c ≡ c ∷ orbit f a n (f c)
unfolding orbit
orbit_go f a n c e = rw e

unfoldable pub run : (ℕ → ℕ) → ℕ → ℕ → List ℕ
run f zero c = []
run f (suc m) c = c ∷ run f m (f c)

pub record Closed (f : ℕ → ℕ) (ok : ℕ → Bool) (n : ℕ) : Type 0 where
  pub bound : (c : ℕ) → ok c ≡ true → c < n
  pub stays : (c : ℕ) → ok c ≡ true → ok (f c) ≡ true
  pub inj : (c d : ℕ) → ok c ≡ true → ok d ≡ true → f c ≡ f d → c ≡ d

-- m is the least return time of c
pub record Period (f : ℕ → ℕ) (c m : ℕ) : Type 0 where
  pub positive : 0 < m
  pub back : iter f m c ≡ c
  pub first : (i : ℕ) → 0 < i → i < m → iter f i c ≢ c

pub iter_shift : (f : ℕ → ℕ) (i c : ℕ) → iter f i (f c) ≡ f (iter f i c)
iter_shift f zero c = refl
iter_shift f (suc i) c = ap f (iter_shift f i c)

-- the orbit up to a number a that comes at step m for the first time
orbit_to : (f : ℕ → ℕ) (a n m c : ℕ) → m < n → iter f m (f c) ≡ a → ((i : ℕ) → i < m → iter f i (f c) ≢ a) → orbit f a n c ≡ run f (suc m) c
unfolding orbit run
orbit_to f a zero m c h e q = absurd (omega arith)
orbit_to f a (suc n) zero c h e q = rw (eq-eqb (f c) a e)
orbit_to f a (suc n) (suc m) c h e q =
    rw (ne_eqb (f c) a (q 0 (omega arith)))
    (ap (λ (l : List ℕ). c ∷ l)
    (orbit_to f a n m (f c) (omega arith) (iter_shift f m (f c) ∙ e) (λ i k z. q (suc i) (omega arith) (sym (iter_shift f i (f c)) ∙ z))))

pub length_run : (f : ℕ → ℕ) (m c : ℕ) → length (run f m c) ≡ m
unfolding run
length_run f zero c = refl
length_run f (suc m) c = ap suc (length_run f m (f c))

pub count_run_out : (f : ℕ → ℕ) (d m c : ℕ) → ((i : ℕ) → i < m → iter f i c ≢ d) → count d (run f m c) ≡ 0
unfolding run count
count_run_out f d zero c q = refl
count_run_out f d (suc m) c q =
    rw (ne_eqb d c (λ z. q 0 (omega arith) (sym z)), zero-add (count d (run f m (f c))))
    (count_run_out f d m (f c) (λ i h z. q (suc i) (omega arith) (sym (iter_shift f i c) ∙ z)))

pub count_run_in : (f : ℕ → ℕ) (d m c i : ℕ) → i < m → iter f i c ≡ d → ((j : ℕ) → j < m → iter f j c ≡ d → j ≡ i) → count d (run f m c) ≡ 1
unfolding run count
count_run_in f d zero c i h e u = absurd (omega arith)
count_run_in f d (suc m) c zero h e u =
    rw (eq-eqb d c (sym e), count_run_out f d m (f c) (λ j k z. absurd (omega (arith, u (suc j) (omega arith) (sym (iter_shift f j c) ∙ z)))))
count_run_in f d (suc m) c (suc i) h e u =
    rw (ne_eqb d c (λ z. absurd (omega (arith, u 0 (omega arith) (sym z)))), zero-add (count d (run f m (f c))))
    (count_run_in f d m (f c) i (omega arith) (iter_shift f i c ∙ e) (λ j k z. let r : suc j ≡ suc i = u (suc j) (omega arith) (sym (iter_shift f j c) ∙ z) in omega arith))

pub orbit_same : (f e : ℕ → ℕ) (good : ℕ → Bool) → ((c : ℕ) → good c ≡ true → good (f c) ≡ true) → ((c : ℕ) → good c ≡ true → e c ≡ f c)
    → (a n c : ℕ) → good c ≡ true → orbit e a n c ≡ orbit f a n c
unfolding orbit
orbit_same f e good st ag a zero c h = refl
orbit_same f e good st ag a (suc n) c h =
    by_test (eqb (f c) a)
    (λ t. orbit_stop e a n c (rw (ag c h) t) ∙ sym (orbit_stop f a n c t))
    (λ t. orbit_go e a n c (rw (ag c h) t)
    ∙ ap (λ (z : ℕ). c ∷ orbit e a n z) (ag c h)
    ∙ ap (λ (l : List ℕ). c ∷ l) (orbit_same f e good st ag a n (f c) (st c h))
    ∙ sym (orbit_go f a n c t))

-- d is reached from c
pub record Reach (f : ℕ → ℕ) (c d : ℕ) : Type 0 where
  pub steps : ℕ
  pub comes : iter f steps c ≡ d

pub reach_self : (f : ℕ → ℕ) (c : ℕ) → Reach f c c
reach_self f c = record { steps = 0; comes = refl }

pub reach_next : (f : ℕ → ℕ) (c d : ℕ) → Reach f c d → Reach f c (f d)
reach_next f c d r = record { steps = suc r.steps; comes = ap f r.comes }

pub reach_trans : (f : ℕ → ℕ) (c d e : ℕ) → Reach f c d → Reach f d e → Reach f c e
reach_trans f c d e r s =
    record { steps = s.steps + r.steps; comes = iter_add f s.steps r.steps c ∙ ap (λ (z : ℕ). iter f s.steps z) r.comes ∙ s.comes }

-- a step within the period
reduce : (f : ℕ → ℕ) (c m : ℕ) → Period f c m → (i : ℕ) → (j : ℕ) × (j < m) × (iter f j c ≡ iter f i c)
reduce f c m P zero = (0, P.positive, refl)
reduce f c m P (suc i) =
    let r = reduce f c m P i in
    by_test (eqb (suc r.0) m)
    (λ e. (0, P.positive, sym P.back ∙ ap (λ (z : ℕ). iter f z c) (sym (eqb-true (suc r.0) m e)) ∙ ap f r.2))
    (λ e. (suc r.0, omega (arith, eqb-false (suc r.0) m e, r.1), ap f r.2))

module _ {f : ℕ → ℕ} {ok : ℕ → Bool} {n : ℕ} (K : Closed f ok n) where
  pub ok_iter : (i c : ℕ) → ok c ≡ true → ok (iter f i c) ≡ true
  ok_iter i c h = iter_ok f (λ x. ok x ≡ true) n K.bound K.stays K.inj i c h

  pub ok_reach : (c d : ℕ) → ok c ≡ true → Reach f c d → ok d ≡ true
  ok_reach c d h r = rw (sym r.comes) (ok_iter r.steps c h)

  -- what period c has: the returned time of the pigeonhole, made least
  pub period : (c : ℕ) → ok c ≡ true → (m : ℕ) × (m ≤ n) × Period f c m
  period c h =
      let r = returns f (λ x. ok x ≡ true) n K.bound K.stays K.inj c h in
      let k = r.0 - 1 in
      let e : suc k ≡ r.0 = omega (arith, r.1) in
      let l = least (λ i. eqb (iter f (suc i) c) c) k (eq-eqb _ _ (ap (λ (z : ℕ). iter f z c) e ∙ r.3)) in (
        suc l.it,
        omega (arith, l.within, r.2),
        record {
          positive = omega arith;
          back = eqb-true _ _ l.holds;
          first = λ i a b z. no (eq-eqb (iter f i c) c z) (let s : suc (i - 1) ≡ i = omega arith in ap (λ (x : ℕ). eqb (iter f x c) c) (sym s) ∙ l.below (i - 1) (omega arith));
        },
      )

  -- two steps within the period that come to the same number are the same
  apart : (c m i j : ℕ) → ok c ≡ true → Period f c m → i < m → j < m → iter f i c ≡ iter f j c → i < j → ⊥
  apart c m i j h P a b e l =
      let t = j - i in
      let s : i + t ≡ j = omega arith in
      P.first t (omega arith) (omega arith)
      (sym (cancel f (λ x. ok x ≡ true) n K.bound K.stays K.inj i c (iter f t c) h (ok_iter t c h) (e ∙ ap (λ (z : ℕ). iter f z c) (sym s) ∙ iter_add f i t c)))

  unique : (c m i j : ℕ) → ok c ≡ true → Period f c m → i < m → j < m → iter f i c ≡ iter f j c → i ≡ j
  unique c m i j h P a b e =
      let p : ¬ (i < j) = apart c m i j h P a b e in
      let q : ¬ (j < i) = apart c m j i h P b a (sym e) in
      omega arith

  orbit_run : (c m : ℕ) → m ≤ n → Period f c m → orbit f c n c ≡ run f m c
  orbit_run c m h P =
      let s : suc (m - 1) ≡ m = omega (arith, P.positive) in
      orbit_to f c n (m - 1) c (omega (arith, P.positive)) (iter_shift f (m - 1) c ∙ ap (λ (z : ℕ). iter f z c) s ∙ P.back)
      (λ i k z. P.first (suc i) (omega arith) (omega arith) (sym (iter_shift f i c) ∙ z))
      ∙ ap (λ (z : ℕ). run f z c) s

  -- the orbit's length is the period
  pub orbit_period : (c : ℕ) → ok c ≡ true → Period f c (length (orbit f c n c))
  orbit_period c h =
      let p = period c h in
      rw (orbit_run c p.0 p.1 p.2, length_run f p.0 c) p.2

  pub orbit_within : (c : ℕ) → ok c ≡ true → length (orbit f c n c) ≤ n
  orbit_within c h =
      let p = period c h in
      rw (orbit_run c p.0 p.1 p.2, length_run f p.0 c) p.1

  pub orbit_is : (c : ℕ) → ok c ≡ true → orbit f c n c ≡ run f (length (orbit f c n c)) c
  orbit_is c h =
      let p = period c h in
      let e : orbit f c n c ≡ run f p.0 c = orbit_run c p.0 p.1 p.2 in
      e ∙ ap (λ (z : ℕ). run f z c) (sym (ap length e ∙ length_run f p.0 c))

  pub count_in : (c d : ℕ) → ok c ≡ true → Reach f c d → count d (orbit f c n c) ≡ 1
  count_in c d h r =
      let p = period c h in
      let i = reduce f c p.0 p.2 r.steps in
      rw (orbit_run c p.0 p.1 p.2)
      (count_run_in f d p.0 c i.0 i.1 (i.2 ∙ r.comes) (λ j k z. unique c p.0 j i.0 h p.2 k i.1 (z ∙ sym (i.2 ∙ r.comes))))

  pub count_out : (c d : ℕ) → ok c ≡ true → (Reach f c d → ⊥) → count d (orbit f c n c) ≡ 0
  count_out c d h q =
      let p = period c h in
      rw (orbit_run c p.0 p.1 p.2) (count_run_out f d p.0 c (λ i k z. q (record { steps = i; comes = z })))

  step_back : (c : ℕ) → ok c ≡ true → Reach f (f c) c
  step_back c h =
      let p = period c h in
      let s : suc (p.0 - 1) ≡ p.0 = omega (arith, p.2.positive) in
      record { steps = p.0 - 1; comes = iter_shift f (p.0 - 1) c ∙ ap (λ (z : ℕ). iter f z c) s ∙ p.2.back }

  steps_back : (i c : ℕ) → ok c ≡ true → Reach f (iter f i c) c
  steps_back zero c h = reach_self f c
  steps_back (suc i) c h = reach_trans f (f (iter f i c)) (iter f i c) c (step_back (iter f i c) (ok_iter i c h)) (steps_back i c h)

  pub reach_back : (c d : ℕ) → ok c ≡ true → Reach f c d → Reach f d c
  reach_back c d h r = subst (λ (z : ℕ). Reach f z c) r.comes (steps_back r.steps c h)
