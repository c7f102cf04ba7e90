-- Where the first stands that passes a test: in a list, among the numbers from i on, and the least of all. Assumes nothing.
-- Definitions: `Least p m` the least number that passes p, at most m.
-- Main laws: `first_le`, `first_before` none before it passes, `first_passes` it passes if it is inside, `first_is` where it is from these facts; `from_ge`, `from_le`, `from_before`, `from_passes`,
--   `from_is` the same among numbers; `from_same` tests that agree find the same, `from_over` the first past numbers that fail, `from_long` one that is found stays the first of more; `least_or`, `least`.
use mathlib.Core.Path.{◌≡◌, sym, ◌∙◌}
use mathlib.Core.Bool.{Bool, true, false}
use mathlib.Core.List.{List, [], ◌∷◌}
use mathlib.Core.Logic.{◌⊎◌, ⊎_elim, inl, inr}
use Prim.Native.Nat.{ℕ, zero, suc, ◌+◌, ◌-◌, ◌≤◌, ◌<◌}
use native.Mathlib.Omega.{arith}
use lib.Dec.{eqb, ltb}
use lib.ListN.{length, get_or}
use borrow.Author.Tests.{eqb-true, eqb-false, ltb-true, ltb-false}
use Rattle.tally.specs.Tally.{first_at, first_from}
use Rattle.tally.proofs.Test.{by_test, no}

-- ---- in a list
pub first_yes : (p : ℕ → Bool) (x : ℕ) (l : List ℕ) → p x ≡ true → first_at p (x ∷ l) ≡ 0
unfolding first_at
first_yes p x l e = rw (e, first_at)

pub first_no : (p : ℕ → Bool) (x : ℕ) (l : List ℕ) → p x ≡ false → first_at p (x ∷ l) ≡ suc (first_at p l)
unfolding first_at
first_no p x l e = rw (e, first_at)

pub first_le : (p : ℕ → Bool) (l : List ℕ) → first_at p l ≤ length l
unfolding first_at
first_le p [] = omega arith
first_le p (x ∷ l) =
    by_test (p x)
    (λ e. rw (first_yes p x l e) (omega arith))
    (λ e. rw (first_no p x l e) (omega (arith, first_le p l)))

pub first_before : (p : ℕ → Bool) (l : List ℕ) (i : ℕ) → i < first_at p l → p (get_or l i 0) ≡ false
unfolding first_at
first_before p [] i h = absurd (omega arith)
first_before p (x ∷ l) zero h = by_test (p x) (λ e. absurd (omega (arith, rw (first_yes p x l e) at h))) (λ e. e)
first_before p (x ∷ l) (suc i) h =
    by_test (p x)
    (λ e. absurd (omega (arith, rw (first_yes p x l e) at h)))
    (λ e. first_before p l i (omega (arith, rw (first_no p x l e) at h)))

pub first_passes : (p : ℕ → Bool) (l : List ℕ) → first_at p l < length l → p (get_or l (first_at p l) 0) ≡ true
unfolding first_at
first_passes p [] h = absurd (omega arith)
first_passes p (x ∷ l) h =
    by_test (p x)
    (λ e. rw (first_yes p x l e) e)
    (λ e. rw (first_no p x l e) (first_passes p l (omega (arith, rw (first_no p x l e) at h))))

pub first_is : (p : ℕ → Bool) (l : List ℕ) (n : ℕ) → n ≤ length l → ((i : ℕ) → i < n → p (get_or l i 0) ≡ false) → (n < length l → p (get_or l n 0) ≡ true) → first_at p l ≡ n
first_is p l n b q t =
    by_test (ltb (first_at p l) n)
    (λ e.
    let h : first_at p l < n = ltb-true _ _ e in
    no (first_passes p l (omega arith)) (q (first_at p l) h))
    (λ e.
    by_test (ltb n (first_at p l))
    (λ d.
    let h : n < first_at p l = ltb-true _ _ d in
    no (t (omega (arith, first_le p l))) (first_before p l n h))
    (λ d. omega (arith, ltb-false (first_at p l) n e, ltb-false n (first_at p l) d)))

-- ---- among numbers
pub from_yes : (p : ℕ → Bool) (i m : ℕ) → p i ≡ true → first_from p i (suc m) ≡ i
unfolding first_from
from_yes p i m e = rw (e, first_from)

pub from_no : (p : ℕ → Bool) (i m : ℕ) → p i ≡ false → first_from p i (suc m) ≡ first_from p (suc i) m
unfolding first_from
from_no p i m e = rw (e, first_from)

pub from_ge : (p : ℕ → Bool) (i m : ℕ) → i ≤ first_from p i m
unfolding first_from
from_ge p i zero = omega arith
from_ge p i (suc m) =
    by_test (p i)
    (λ e. rw (from_yes p i m e) (omega arith))
    (λ e. rw (from_no p i m e) (omega (arith, from_ge p (suc i) m)))

pub from_le : (p : ℕ → Bool) (i m : ℕ) → first_from p i m ≤ i + m
unfolding first_from
from_le p i zero = omega arith
from_le p i (suc m) =
    by_test (p i)
    (λ e. rw (from_yes p i m e) (omega arith))
    (λ e. rw (from_no p i m e) (omega (arith, from_le p (suc i) m)))

pub from_before : (p : ℕ → Bool) (i m j : ℕ) → i ≤ j → j < first_from p i m → p j ≡ false
unfolding first_from
from_before p i zero j a b = absurd (omega arith)
from_before p i (suc m) j a b =
    by_test (p i)
    (λ e. absurd (omega (arith, rw (from_yes p i m e) at b)))
    (λ e. by_test (eqb j i)
    (λ t. rw (eqb-true j i t) e)
    (λ t. from_before p (suc i) m j (omega (arith, eqb-false j i t)) (rw (from_no p i m e) at b)))

pub from_passes : (p : ℕ → Bool) (i m : ℕ) → first_from p i m < i + m → p (first_from p i m) ≡ true
unfolding first_from
from_passes p i zero h = absurd (omega arith)
from_passes p i (suc m) h =
    by_test (p i)
    (λ e. rw (from_yes p i m e) e)
    (λ e. rw (from_no p i m e) (from_passes p (suc i) m (omega (arith, rw (from_no p i m e) at h))))

pub from_is : (p : ℕ → Bool) (i m n : ℕ) → i ≤ n → n ≤ i + m → ((j : ℕ) → i ≤ j → j < n → p j ≡ false) → (n < i + m → p n ≡ true) → first_from p i m ≡ n
from_is p i m n a b q t =
    by_test (ltb (first_from p i m) n)
    (λ e.
    let h : first_from p i m < n = ltb-true _ _ e in
    no (from_passes p i m (omega arith)) (q (first_from p i m) (from_ge p i m) h))
    (λ e.
    by_test (ltb n (first_from p i m))
    (λ d.
    let h : n < first_from p i m = ltb-true _ _ d in
    no (t (omega (arith, from_le p i m))) (from_before p i m n a h))
    (λ d. omega (arith, ltb-false (first_from p i m) n e, ltb-false n (first_from p i m) d)))

pub from_same : (p q : ℕ → Bool) (i m : ℕ) → ((j : ℕ) → i ≤ j → j < i + m → p j ≡ q j) → first_from p i m ≡ first_from q i m
from_same p q i m e =
    let n = first_from q i m in
    let u : n ≤ i + m = from_le q i m in
    from_is p i m n (from_ge q i m) u
    (λ j x y. e j x (omega arith) ∙ from_before q i m j x y)
    (λ t. e n (from_ge q i m) t ∙ from_passes q i m t)

pub from_over : (p : ℕ → Bool) (b c n : ℕ) → b ≤ c → c ≤ n → ((j : ℕ) → b ≤ j → j < c → p j ≡ false) → first_from p c (n - c) ≡ first_from p b (n - b)
from_over p b c n g h q =
    let r = first_from p c (n - c) in
    let u : c ≤ r = from_ge p c (n - c) in
    let v : r ≤ c + (n - c) = from_le p c (n - c) in
    sym
    (from_is p b (n - b) r (omega arith) (omega arith)
    (λ j x y. by_test (ltb j c)
    (λ t. q j x (ltb-true j c t))
    (λ t. from_before p c (n - c) j (ltb-false j c t) y))
    (λ t. from_passes p c (n - c) (omega arith)))

pub from_long : (p : ℕ → Bool) (i m n : ℕ) → m ≤ n → first_from p i m < i + m → first_from p i m ≡ first_from p i n
from_long p i m n h l = sym (from_is p i n (first_from p i m) (from_ge p i m) (omega arith) (λ j x y. from_before p i m j x y) (λ t. from_passes p i m l))

-- ---- the least number that passes
pub record Least (p : ℕ → Bool) (m : ℕ) : Type 0 where
  pub it : ℕ
  pub within : it ≤ m
  pub holds : p it ≡ true
  pub below : (i : ℕ) → i < it → p i ≡ false

pub least_or : (p : ℕ → Bool) (m : ℕ) → Least p m ⊎ ((i : ℕ) → i ≤ m → p i ≡ false)
least_or p zero =
    by_test (p 0)
    (λ e. inl (record { it = 0; within = omega arith; holds = e; below = λ i h. absurd (omega arith) }))
    (λ e. inr (λ i h. let z : i ≡ 0 = omega arith in rw z e))
least_or p (suc m) =
    ⊎_elim
    (λ l. inl (record { it = l.it; within = omega (arith, l.within); holds = l.holds; below = l.below }))
    (λ q. by_test (p (suc m))
    (λ e. inl (record { it = suc m; within = omega arith; holds = e; below = λ i h. q i (omega arith) }))
    (λ e. inr (λ i h. by_test (eqb i (suc m)) (λ d. rw (eqb-true i (suc m) d) e) (λ d. q i (omega (arith, eqb-false i (suc m) d))))))
    (least_or p m)

pub least : (p : ℕ → Bool) (m : ℕ) → p m ≡ true → Least p m
least p m h = ⊎_elim (λ l. l) (λ q. no h (q m (omega arith))) (least_or p m)
