-- General laws about counting in lists and about searching numbers. Nothing here knows of pictures. Assumes nothing.
-- Definitions: `Last p m` the last number below m that passes p.
-- Main laws: `and_false`, `and_true`, `differ_none`; `tally_some` a count that is not 0 has a witness; `tally_split`, `tally_members` a count as the sum of two; `tally_at` the count of one
--   number; `count_where` where a number stands in a list; `map_join`, `at_map` mapped lists; `last_or` the last number that passes, or none; `max_or` a maximum is one of the two.
use mathlib.Core.Path.{◌≡◌, refl, sym, ap}
use mathlib.Core.Bool.{Bool, true, false, ◌&&◌, cond}
use mathlib.Core.List.{List, [], ◌∷◌, ◌++◌, map}
use mathlib.Core.Logic.{◌⊎◌, ⊎_elim, inl, inr}
use Prim.Native.Nat.{ℕ, zero, suc, ◌+◌, ◌≤◌, ◌<◌, max}
use native.Mathlib.Nat.{max-eq_left, max-eq_right}
use native.Mathlib.Omega.{arith}
use lib.Dec.{eqb, ltb}
use lib.ListN.{length, get_or}
use borrow.Author.Tests.{ltb-true, ltb-false, eqb-true, eqb-false, eq-eqb}
use Rattle.tally.specs.Tally.{one, differ, count, tally}
use Rattle.tally.proofs.Test.{by_test}

pub and_false : (x : Bool) → (x && false) ≡ false
and_false true = refl
and_false false = refl

pub and_true : (x : Bool) → (x && true) ≡ x
and_true true = refl
and_true false = refl

pub differ_none : (x : Bool) → differ x false ≡ x
differ_none true = refl
differ_none false = refl

pub max_or : (a b : ℕ) → (max a b ≡ a) ⊎ (max a b ≡ b)
max_or a b =
    by_test (ltb a b)
    (λ e. let l : a ≤ b = omega (arith, ltb-true a b e) in inr (max-eq_right l))
    (λ e. inl (max-eq_left (ltb-false a b e)))

pub tally_some : (p : ℕ → Bool) (l : List ℕ) → 0 < tally p l → (d : ℕ) × (p d ≡ true) × (0 < count d l)
unfolding tally count
tally_some p [] h = absurd (omega arith)
tally_some p (c ∷ l) h =
    by_test (p c)
    (λ e. (c, e, rw (eq-eqb c c refl) (omega arith)))
    (λ e. let r = tally_some p l (omega (arith, rw e at h)) in (r.0, r.1, omega (arith, r.2)))

-- over the members of the list, and over all numbers
pub tally_members : (p q r : ℕ → Bool) (l : List ℕ) → ((d : ℕ) → 0 < count d l → one (p d) ≡ one (q d) + one (r d)) → tally p l ≡ tally q l + tally r l
unfolding tally count
tally_members p q r [] e = refl
tally_members p q r (d ∷ l) e =
    let i : tally p l ≡ tally q l + tally r l = tally_members p q r l (λ c h. e c (omega arith)) in
    let y : one (p d) ≡ one (q d) + one (r d) = e d (rw (eq-eqb d d refl) (omega arith)) in
    omega arith

pub tally_split : (p q r : ℕ → Bool) (l : List ℕ) → ((d : ℕ) → one (p d) ≡ one (q d) + one (r d)) → tally p l ≡ tally q l + tally r l
tally_split p q r l e = tally_members p q r l (λ d h. e d)

pub tally_at : (c : ℕ) (b : Bool) (l : List ℕ) → tally (λ d. eqb c d && b) l ≡ cond b (count c l) 0
unfolding tally count
tally_at c true [] = refl
tally_at c false [] = refl
tally_at c true (d ∷ l) = let i : tally (λ d. eqb c d && true) l ≡ count c l = tally_at c true l in by_test (eqb c d) (λ e. rw (e, i)) (λ e. rw (e, i))
tally_at c false (d ∷ l) = let i : tally (λ d. eqb c d && false) l ≡ 0 = tally_at c false l in by_test (eqb c d) (λ e. rw (e, i)) (λ e. rw (e, i))

pub count_where : (x : ℕ) (l : List ℕ) → 0 < count x l → (i : ℕ) × (i < length l) × (get_or l i 0 ≡ x)
unfolding count
count_where x [] h = absurd (omega arith)
count_where x (y ∷ l) h =
    by_test (eqb x y)
    (λ e. (0, omega arith, sym (eqb-true x y e)))
    (λ e. let r = count_where x l (omega (arith, rw e at h)) in (suc r.0, omega (arith, r.1), r.2))

-- ---- lists of lists
pub map_join : (f : ℕ → List ℕ) (l m : List ℕ) → map f (l ++ m) ≡ map f l ++ map f m
map_join f [] m = refl
map_join f (x ∷ l) m = ap (λ (z : List (List ℕ)). f x ∷ z) (map_join f l m)

pub at_map : (f : ℕ → List ℕ) (l : List ℕ) (n : ℕ) → n < length l → get_or (map f l) n [] ≡ f (get_or l n 0)
at_map f [] n h = absurd (omega arith)
at_map f (x ∷ l) zero h = refl
at_map f (x ∷ l) (suc n) h = at_map f l n (omega arith)

-- ---- the last number that passes
pub record Last (p : ℕ → Bool) (m : ℕ) : Type 0 where
  pub it : ℕ
  pub within : it < m
  pub holds : p it ≡ true
  pub above : (i : ℕ) → it < i → i < m → p i ≡ false

pub last_or : (p : ℕ → Bool) (m : ℕ) → Last p m ⊎ ((i : ℕ) → i < m → p i ≡ false)
last_or p zero = inr (λ i h. absurd (omega arith))
last_or p (suc m) =
    by_test (p m)
    (λ e. inl (record { it = m; within = omega arith; holds = e; above = λ i a b. absurd (omega arith) }))
    (λ e. ⊎_elim
    (λ l. inl (record {
      it = l.it;
      within = omega (arith, l.within);
      holds = l.holds;
      above = λ i a b. by_test (eqb i m) (λ t. rw (eqb-true i m t) e) (λ t. l.above i a (omega (arith, eqb-false i m t)));
    }))
    (λ q. inr (λ i a. by_test (eqb i m) (λ t. rw (eqb-true i m t) e) (λ t. q i (omega (arith, eqb-false i m t)))))
    (last_or p m))
