-- Insertion sort, to say which element of the sorted list the median is. Assumes nothing.
-- Definitions: `insert` a number into a list; `sort` a list sorted; `From a l` l ascends from a on.
-- Main laws: `sort_from` a sorted list ascends; `sort_tally`, `sort_long` it has the elements of the list; `enough` up to its element k are k + 1; `few` below that value are at most k.
use mathlib.Core.Path.{◌≡◌, refl, ap, ◌∙◌}
use mathlib.Core.Bool.{Bool, true, false, cond}
use mathlib.Core.List.{List, [], ◌∷◌}
use Prim.Native.Nat.{ℕ, zero, suc, ◌+◌, ◌≤◌, ◌<◌}
use native.Mathlib.Omega.{arith}
use lib.Dec.{leb}
use lib.ListN.{length, get_or}
use borrow.Author.Tests.{leb-true, leb-false, le-leb, lt-leb}
use Rattle.tally.specs.Tally.{one, tally}
use Rattle.tally.proofs.Test.{by_test, one_le}

unfoldable pub insert : ℕ → List ℕ → List ℕ
insert x [] = x ∷ []
insert x (y ∷ l) = cond (leb x y) (x ∷ y ∷ l) (y ∷ insert x l)

unfoldable pub sort : List ℕ → List ℕ
sort [] = []
sort (x ∷ l) = insert x (sort l)

pub data From : ℕ → List ℕ → Type 0 where
  none : {a : ℕ} → From a []
  next : {a x : ℕ} {l : List ℕ} → a ≤ x → From x l → From a (x ∷ l)

insert_low : (x y : ℕ) (l : List ℕ) → leb x y ≡ true → insert x (y ∷ l) ≡ x ∷ y ∷ l
unfolding insert
insert_low x y l e = simp e

insert_high : (x y : ℕ) (l : List ℕ) → leb x y ≡ false → insert x (y ∷ l) ≡ y ∷ insert x l
unfolding insert
insert_high x y l e = simp e

insert_from : (a x : ℕ) (l : List ℕ) → a ≤ x → From a l → From a (insert x l)
unfolding insert
insert_from a x [] h none = next h none
insert_from a x (y ∷ l) h (next p f) =
    by_test (leb x y)
    (λ e. rw (insert_low x y l e) (next h (next (leb-true x y e) f)))
    (λ e. rw (insert_high x y l e) (next p (insert_from y x l (omega (arith, leb-false x y e)) f)))

pub sort_from : (l : List ℕ) → From 0 (sort l)
unfolding sort
sort_from [] = none
sort_from (x ∷ l) = insert_from 0 x (sort l) (omega arith) (sort_from l)

insert_tally : (p : ℕ → Bool) (x : ℕ) (l : List ℕ) → tally p (insert x l) ≡ one (p x) + tally p l
unfolding insert tally
insert_tally p x [] = refl
insert_tally p x (y ∷ l) =
    by_test (leb x y)
    (λ e. ap (tally p) (insert_low x y l e))
    (λ e. ap (tally p) (insert_high x y l e) ∙ (let r : tally p (insert x l) ≡ one (p x) + tally p l = insert_tally p x l in omega arith))

pub sort_tally : (p : ℕ → Bool) (l : List ℕ) → tally p (sort l) ≡ tally p l
unfolding sort tally
sort_tally p [] = refl
sort_tally p (x ∷ l) = insert_tally p x (sort l) ∙ ap (λ (z : ℕ). one (p x) + z) (sort_tally p l)

insert_long : (x : ℕ) (l : List ℕ) → length (insert x l) ≡ suc (length l)
unfolding insert
insert_long x [] = refl
insert_long x (y ∷ l) =
    by_test (leb x y)
    (λ e. ap length (insert_low x y l e))
    (λ e. ap length (insert_high x y l e) ∙ ap suc (insert_long x l))

pub sort_long : (l : List ℕ) → length (sort l) ≡ length l
unfolding sort
sort_long [] = refl
sort_long (x ∷ l) = insert_long x (sort l) ∙ ap suc (sort_long l)

-- ---- an ascending list
from_at : {a : ℕ} (l : List ℕ) (k : ℕ) → From a l → k < length l → a ≤ get_or l k 0
from_at [] k f h = absurd (omega arith)
from_at (x ∷ l) zero (next p f) h = p
from_at (x ∷ l) (suc k) (next p f) h = omega (arith, from_at l k f (omega arith), p)

none_below : {a : ℕ} (v : ℕ) (l : List ℕ) → From a l → v < a → tally (λ s. leb s v) l ≡ 0
unfolding tally
none_below v [] f h = refl
none_below v (x ∷ l) (next p f) h = rw (lt-leb x v (omega (arith, p)), none_below v l f (omega (arith, p)))

pub enough : {a : ℕ} (l : List ℕ) (k : ℕ) → From a l → k < length l → suc k ≤ tally (λ s. leb s (get_or l k 0)) l
unfolding tally
enough [] k f h = absurd (omega arith)
enough (x ∷ l) zero (next p f) h = rw (le-leb x x (omega arith)) (omega arith)
enough (x ∷ l) (suc k) (next p f) h =
    rw (le-leb x (get_or l k 0) (from_at l k f (omega arith))) (omega (arith, enough l k f (omega arith)))

pub few : {a : ℕ} (l : List ℕ) (k v : ℕ) → From a l → k < length l → v < get_or l k 0 → tally (λ s. leb s v) l ≤ k
unfolding tally
few [] k v f h q = absurd (omega arith)
few (x ∷ l) zero v (next p f) h q = rw (lt-leb x v q, none_below v l f q) (omega arith)
few (x ∷ l) (suc k) v (next p f) h q = omega (arith, one_le (leb x v), few l k v f (omega arith) q)
