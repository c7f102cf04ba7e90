-- Counting in lists: how often a number stands there, how many pass a test. Assumes nothing.
-- Main laws: `count_self`, `count_later`, `count_at` an element of a list counts; `count_append`, `tally_append`; `tally_same`, `tally_le`, `tally_has`, `tally_none`, `tally_eq`; `length_counts`,
--   `tally_counts` a length and a tally as sums of counts; `tally_all` a test that all pass gives the length; `tally_length` a tally is at most the length; `tally_total` it is a sum over the list.
use mathlib.Core.Path.{◌≡◌, refl, sym, ap, ◌∙◌}
use mathlib.Core.Bool.{Bool, true, false, cond}
use mathlib.Core.List.{List, [], ◌∷◌, ◌++◌}
use Prim.Native.Nat.{ℕ, zero, suc, ◌+◌, ◌≤◌, ◌<◌}
use native.Mathlib.Nat.{zero-add}
use native.Mathlib.Omega.{arith}
use lib.Dec.{eqb}
use lib.ListN.{length, get_or}
use borrow.Author.Tests.{eqb-true, eq-eqb}
use Rattle.tally.specs.Tally.{one, sum, count, tally, total}
use Rattle.tally.proofs.Test.{by_test, one_le}
use Rattle.tally.proofs.Sum.{sum_same, sum_zero, sum_plus, sum_on}

pub count_self : (x : ℕ) (l : List ℕ) → 0 < count x (x ∷ l)
unfolding count
count_self x l = rw (eq-eqb x x refl) (omega arith)

pub count_later : (x y : ℕ) (l : List ℕ) → 0 < count x l → 0 < count x (y ∷ l)
unfolding count
count_later x y l h = omega arith

-- an element stands in its list
pub count_at : (l : List ℕ) (i : ℕ) → i < length l → 0 < count (get_or l i 0) l
unfolding count
count_at [] i h = absurd (omega arith)
count_at (y ∷ l) zero h = rw (eq-eqb y y refl) (omega arith)
count_at (y ∷ l) (suc i) h = omega (arith, count_at l i (omega arith))

pub count_append : (x : ℕ) (l m : List ℕ) → count x (l ++ m) ≡ count x l + count x m
unfolding count
count_append x [] m = rw (zero-add (count x m))
count_append x (y ∷ l) m = let r : count x (l ++ m) ≡ count x l + count x m = count_append x l m in omega arith

pub tally_append : (p : ℕ → Bool) (l m : List ℕ) → tally p (l ++ m) ≡ tally p l + tally p m
unfolding tally
tally_append p [] m = rw (zero-add (tally p m))
tally_append p (c ∷ l) m = let r : tally p (l ++ m) ≡ tally p l + tally p m = tally_append p l m in omega arith

pub tally_same : (p q : ℕ → Bool) (l : List ℕ) → ((c : ℕ) → 0 < count c l → p c ≡ q c) → tally p l ≡ tally q l
unfolding tally count
tally_same p q [] e = refl
tally_same p q (c ∷ l) e = rw (tally_same p q l (λ d h. e d (omega arith)), e c (rw (eq-eqb c c refl) (omega arith)))

pub tally_none : (p : ℕ → Bool) (l : List ℕ) → ((c : ℕ) → 0 < count c l → p c ≡ false) → tally p l ≡ 0
unfolding tally count
tally_none p [] e = refl
tally_none p (c ∷ l) e = rw (tally_none p l (λ d h. e d (omega arith)), e c (rw (eq-eqb c c refl) (omega arith)))

pub tally_all : (p : ℕ → Bool) (l : List ℕ) → ((c : ℕ) → 0 < count c l → p c ≡ true) → tally p l ≡ length l
unfolding tally count
tally_all p [] e = refl
tally_all p (c ∷ l) e =
    let r : tally p l ≡ length l = tally_all p l (λ d h. e d (omega arith)) in
    rw (r, e c (rw (eq-eqb c c refl) (omega arith))) (omega arith)

pub tally_has : (p : ℕ → Bool) (c : ℕ) (l : List ℕ) → p c ≡ true → 0 < count c l → 0 < tally p l
unfolding tally count
tally_has p c [] e h = absurd (omega arith)
tally_has p c (d ∷ l) e h =
    by_test (eqb c d)
    (λ t. rw (sym (eqb-true c d t), e) (omega arith))
    (λ t. let r : 0 < tally p l = tally_has p c l e (omega (arith, rw (t, zero-add (count c l)) at h)) in omega arith)

pub tally_eq : (x : ℕ) (l : List ℕ) → tally (eqb x) l ≡ count x l
unfolding tally count
tally_eq x [] = refl
tally_eq x (y ∷ l) = rw (tally_eq x l)

pub tally_le : (p q : ℕ → Bool) (l : List ℕ) → ((c : ℕ) → p c ≡ true → q c ≡ true) → tally p l ≤ tally q l
unfolding tally
tally_le p q [] e = omega arith
tally_le p q (c ∷ l) e =
    let r : tally p l ≤ tally q l = tally_le p q l e in
    by_test (p c)
    (λ t. rw (t, e c t) (omega arith))
    (λ t. rw t (omega arith))

pub tally_total : (p : ℕ → Bool) (l : List ℕ) → total (λ x. one (p x)) l ≡ tally p l
unfolding tally total
tally_total p [] = refl
tally_total p (c ∷ l) = rw (tally_total p l)

pub tally_length : (p : ℕ → Bool) (l : List ℕ) → tally p l ≤ length l
unfolding tally
tally_length p [] = omega arith
tally_length p (c ∷ l) = omega (arith, tally_length p l, one_le (p c))

-- ---- by sums
pub length_counts : (n : ℕ) (l : List ℕ) → ((d : ℕ) → 0 < count d l → d < n) → length l ≡ sum (λ d. count d l) n
unfolding count
length_counts n [] q = sym (sum_zero n)
length_counts n (y ∷ l) q =
    let r : length l ≡ sum (λ d. count d l) n = length_counts n l (λ d h. q d (omega arith)) in
    let s : sum (λ d. one (eqb d y)) n ≡ 1 = sum_on y n (q y (rw (eq-eqb y y refl) (omega arith))) in
    omega (arith, sum_plus (λ d. one (eqb d y)) (λ d. count d l) n)

one_word : (p : ℕ → Bool) (n c : ℕ) → c < n → sum (λ d. cond (p d) (one (eqb d c)) 0) n ≡ one (p c)
one_word p n c h =
    by_test (p c)
    (λ e. sum_same (λ d. cond (p d) (one (eqb d c)) 0) (λ d. one (eqb d c)) n
    (λ d l. by_test (eqb d c) (λ t. rw (eqb-true d c t, e)) (λ t. by_test (p d) (λ u. rw u) (λ u. rw (t, u))))
    ∙ sum_on c n h ∙ ap one (sym e))
    (λ e. sum_same (λ d. cond (p d) (one (eqb d c)) 0) (λ d. 0) n
    (λ d l. by_test (eqb d c) (λ t. rw (eqb-true d c t, e)) (λ t. by_test (p d) (λ u. rw (t, u)) (λ u. rw u)))
    ∙ sum_zero n ∙ ap one (sym e))

split : (b : Bool) (x y : ℕ) → cond b (x + y) 0 ≡ cond b x 0 + cond b y 0
split true x y = refl
split false x y = refl

pub tally_counts : (p : ℕ → Bool) (n : ℕ) (l : List ℕ) → ((d : ℕ) → 0 < count d l → d < n) → tally p l ≡ sum (λ d. cond (p d) (count d l) 0) n
unfolding tally count
tally_counts p n [] q = sym (sum_same (λ d. cond (p d) 0 0) (λ d. 0) n (λ d h. by_test (p d) (λ u. rw u) (λ u. rw u)) ∙ sum_zero n)
tally_counts p n (c ∷ l) q =
    let r : tally p l ≡ sum (λ d. cond (p d) (count d l) 0) n = tally_counts p n l (λ d h. q d (omega arith)) in
    let s : sum (λ d. cond (p d) (one (eqb d c)) 0) n ≡ one (p c) = one_word p n c (q c (rw (eq-eqb c c refl) (omega arith))) in
    let t : sum (λ d. cond (p d) (one (eqb d c) + count d l) 0) n ≡ sum (λ d. cond (p d) (one (eqb d c)) 0 + cond (p d) (count d l) 0) n =
    sum_same (λ d. cond (p d) (one (eqb d c) + count d l) 0) (λ d. cond (p d) (one (eqb d c)) 0 + cond (p d) (count d l) 0) n (λ d h. split (p d) (one (eqb d c)) (count d l)) in
    omega (arith, sum_plus (λ d. cond (p d) (one (eqb d c)) 0) (λ d. cond (p d) (count d l) 0) n)
