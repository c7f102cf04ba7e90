-- Sums over the numbers below n. Assumes nothing.
-- Main laws: `sum_same` equal terms, equal sums; `sum_next` one term more; `sum_zero`, `sum_none`; `sum_plus`, `sum_cut` a sum in two parts; `sum_off`, `sum_on` the sum of one number's mark; `sum_le`; `sum_even` over pairs;
--   `total_same`, `total_append`, `total_plus`, `total_le`, `total_times` the same for the sum over a list; `total_sum` sums over a list and over numbers change places.
use mathlib.Core.Path.{◌≡◌, refl, sym, ap, ◌∙◌}
use mathlib.Core.List.{List, [], ◌∷◌, ◌++◌}
use Prim.Native.Nat.{ℕ, zero, suc, ◌+◌, ◌*◌, ◌≤◌, ◌<◌}
use native.Mathlib.Nat.{zero-add, add-zero, add-suc}
use native.Mathlib.Numerals.{add-one}
use native.Mathlib.Omega.{arith}
use lib.Dec.{eqb}
use borrow.Author.Tests.{eqb-true, eqb-false, eq-eqb, ne_eqb}
use Rattle.tally.specs.Tally.{one, sum, total, count}
use Rattle.tally.proofs.Test.{by_test}

pub sum_same : (g k : ℕ → ℕ) (n : ℕ) → ((i : ℕ) → i < n → g i ≡ k i) → sum g n ≡ sum k n
unfolding sum
sum_same g k zero q = refl
sum_same g k (suc n) q = rw (sum_same g k n (λ i h. q i (omega arith)), q n (omega arith))

pub sum_next : (g : ℕ → ℕ) (n : ℕ) → sum g (n + 1) ≡ sum g n + g n
unfolding sum
sum_next g n = rw add-one

pub sum_zero : (n : ℕ) → sum (λ i. 0) n ≡ 0
unfolding sum
sum_zero zero = refl
sum_zero (suc n) = rw (add-zero (sum (λ i. 0) n)) (sum_zero n)

pub sum_none : (g : ℕ → ℕ) (n : ℕ) → ((i : ℕ) → i < n → g i ≡ 0) → sum g n ≡ 0
sum_none g n q = sum_same g (λ i. 0) n q ∙ sum_zero n

pub sum_plus : (g k : ℕ → ℕ) (n : ℕ) → sum (λ i. g i + k i) n ≡ sum g n + sum k n
unfolding sum
sum_plus g k zero = refl
sum_plus g k (suc n) = let r : sum (λ i. g i + k i) n ≡ sum g n + sum k n = sum_plus g k n in omega arith

pub sum_cut : (g : ℕ → ℕ) (m n : ℕ) → sum g (m + n) ≡ sum g m + sum (λ i. g (m + i)) n
unfolding sum
sum_cut g m zero = rw (add-zero m, add-zero (sum g m))
sum_cut g m (suc n) =
    let r : sum g (m + n) ≡ sum g m + sum (λ i. g (m + i)) n = sum_cut g m n in
    rw (add-suc m n) (omega arith)

pub sum_le : (g k : ℕ → ℕ) (n : ℕ) → ((i : ℕ) → i < n → g i ≤ k i) → sum g n ≤ sum k n
unfolding sum
sum_le g k zero q = omega arith
sum_le g k (suc n) q = omega (arith, sum_le g k n (λ i h. q i (omega arith)), q n (omega arith))

-- over 2 n numbers, two at a time
pub sum_even : (g : ℕ → ℕ) (n : ℕ) → sum g (2 * n) ≡ sum (λ i. g (2 * i) + g (2 * i + 1)) n
unfolding sum
sum_even g zero = refl
sum_even g (suc n) =
    let s : 2 * suc n ≡ suc (suc (2 * n)) = omega arith in
    let t : suc (2 * n) ≡ 2 * n + 1 = omega arith in
    ap (sum g) s ∙ rw (t, sum_even g n) (omega arith)

pub sum_off : (y n : ℕ) → n ≤ y → sum (λ i. one (eqb i y)) n ≡ 0
unfolding sum
sum_off y zero h = refl
sum_off y (suc n) h = rw (ne_eqb n y (omega arith), sum_off y n (omega arith))

pub sum_on : (y n : ℕ) → y < n → sum (λ i. one (eqb i y)) n ≡ 1
unfolding sum
sum_on y zero h = absurd (omega arith)
sum_on y (suc n) h =
    by_test (eqb n y)
    (λ e. rw (e, sum_off y n (omega (arith, eqb-true n y e))))
    (λ e. rw (e, sum_on y n (omega (arith, eqb-false n y e))))

-- ---- over a list
pub total_same : (g k : ℕ → ℕ) (l : List ℕ) → ((x : ℕ) → 0 < count x l → g x ≡ k x) → total g l ≡ total k l
unfolding total count
total_same g k [] q = refl
total_same g k (x ∷ l) q = rw (total_same g k l (λ d h. q d (omega arith)), q x (rw (eq-eqb x x refl) (omega arith)))

pub total_append : (g : ℕ → ℕ) (l m : List ℕ) → total g (l ++ m) ≡ total g l + total g m
unfolding total
total_append g [] m = rw (zero-add (total g m))
total_append g (x ∷ l) m = let r : total g (l ++ m) ≡ total g l + total g m = total_append g l m in omega arith

pub total_plus : (g k : ℕ → ℕ) (l : List ℕ) → total (λ i. g i + k i) l ≡ total g l + total k l
unfolding total
total_plus g k [] = refl
total_plus g k (x ∷ l) = let r : total (λ i. g i + k i) l ≡ total g l + total k l = total_plus g k l in omega arith

pub total_sum : (f : ℕ → ℕ → ℕ) (n : ℕ) (l : List ℕ) → total (λ k. sum (f k) n) l ≡ sum (λ c. total (λ k. f k c) l) n
unfolding total
total_sum f n [] = sym (sum_zero n)
total_sum f n (x ∷ l) = rw (total_sum f n l) (sym (sum_plus (f x) (λ c. total (λ k. f k c) l) n))

pub total_le : (g k : ℕ → ℕ) (l : List ℕ) → ((x : ℕ) → g x ≤ k x) → total g l ≤ total k l
unfolding total
total_le g k [] q = omega arith
total_le g k (x ∷ l) q = omega (arith, q x, total_le g k l q)

pub total_times : (m : ℕ) (g : ℕ → ℕ) (l : List ℕ) → total (λ x. m * g x) l ≡ m * total g l
unfolding total
total_times m g [] = omega arith
total_times m g (x ∷ l) = let r : total (λ x. m * g x) l ≡ m * total g l = total_times m g l in omega arith
