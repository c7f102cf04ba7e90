-- Level lists that ascend. Assumes nothing.
-- Main laws: `level_below` a listed level is below the largest sample; `level_once` it is listed once; `levels_ascend` the list ascends strictly; `not_listed` a level below the first possible one
--   is not listed.
use mathlib.Core.Path.{◌≡◌}
use mathlib.Core.Bool.{true, false}
use mathlib.Core.List.{List, [], ◌∷◌}
use Prim.Native.Nat.{ℕ, zero, suc, ◌+◌, ◌≤◌, ◌<◌}
use native.Mathlib.Nat.{zero-add}
use native.Mathlib.Omega.{arith}
use lib.Dec.{eqb, ltb, leb}
use lib.ListN.{length, get_or}
use borrow.Author.Tests.{ltb-true, ltb-false, leb-true, eqb-true}
use Rattle.tally.specs.Tally.{count}
use Rattle.tally.proofs.Test.{by_test, and_1, and_2}
use Rattle.matte.specs.Layout.{Layout}
use Rattle.matte.specs.Picture.{ascend, levels_fit}

module _ (L : Layout) where
  -- what the test says of its first level, and of the rest
  head_ge : (low k : ℕ) (ks : List ℕ) → ascend L low (k ∷ ks) ≡ true → low ≤ k
  unfolding ascend
  head_ge low k ks e = leb-true low k (and_1 (leb low k) _ e)

  head_lt : (low k : ℕ) (ks : List ℕ) → ascend L low (k ∷ ks) ≡ true → k < L.most
  unfolding ascend
  head_lt low k ks e = ltb-true k L.most (and_1 (ltb k L.most) _ (and_2 (leb low k) _ e))

  tail_is : (low k : ℕ) (ks : List ℕ) → ascend L low (k ∷ ks) ≡ true → ascend L (k + 1) ks ≡ true
  unfolding ascend
  tail_is low k ks e = and_2 (ltb k L.most) _ (and_2 (leb low k) _ e)

  rest_of : (j k : ℕ) (ks : List ℕ) → eqb j k ≡ false → 0 < count j (k ∷ ks) → 0 < count j ks
  unfolding count
  rest_of j k ks e h = omega (arith, rw (e, zero-add (count j ks)) at h)

  pub ascend_ge : (low : ℕ) (ks : List ℕ) → ascend L low ks ≡ true → (j : ℕ) → 0 < count j ks → low ≤ j
  unfolding count
  ascend_ge low [] e j h = absurd (omega arith)
  ascend_ge low (k ∷ ks) e j h =
      by_test (eqb j k)
      (λ t. omega (arith, eqb-true j k t, head_ge low k ks e))
      (λ t. omega (arith, head_ge low k ks e, ascend_ge (k + 1) ks (tail_is low k ks e) j (rest_of j k ks t h)))

  pub ascend_lt : (low : ℕ) (ks : List ℕ) → ascend L low ks ≡ true → (j : ℕ) → 0 < count j ks → j < L.most
  unfolding count
  ascend_lt low [] e j h = absurd (omega arith)
  ascend_lt low (k ∷ ks) e j h =
      by_test (eqb j k)
      (λ t. omega (arith, eqb-true j k t, head_lt low k ks e))
      (λ t. ascend_lt (k + 1) ks (tail_is low k ks e) j (rest_of j k ks t h))

  -- a level below the least possible one is not listed
  pub not_listed : (low : ℕ) (ks : List ℕ) → ascend L low ks ≡ true → (j : ℕ) → j < low → count j ks ≡ 0
  not_listed low ks e j l =
      by_test (ltb 0 (count j ks))
      (λ t. absurd (omega (arith, ascend_ge low ks e j (ltb-true 0 (count j ks) t))))
      (λ t. omega (arith, ltb-false 0 (count j ks) t))

  pub ascend_once : (low : ℕ) (ks : List ℕ) → ascend L low ks ≡ true → (j : ℕ) → 0 < count j ks → count j ks ≡ 1
  unfolding count
  ascend_once low [] e j h = absurd (omega arith)
  ascend_once low (k ∷ ks) e j h =
      by_test (eqb j k)
      (λ t. rw (t, not_listed (k + 1) ks (tail_is low k ks e) j (omega (arith, eqb-true j k t))))
      (λ t. rw (t, zero-add (count j ks)) (ascend_once (k + 1) ks (tail_is low k ks e) j (rest_of j k ks t h)))

  module _ (ks : List ℕ) (e : levels_fit L ks ≡ true) where
    pub level_below : (k : ℕ) → 0 < count k ks → k < L.most
    level_below k h = ascend_lt 0 ks e k h

    pub level_once : (k : ℕ) → 0 < count k ks → count k ks ≡ 1
    level_once k h = ascend_once 0 ks e k h

    pub level_at_most : (k : ℕ) → count k ks ≤ 1
    level_at_most k =
        by_test (ltb 0 (count k ks))
        (λ t. omega (arith, level_once k (ltb-true 0 (count k ks) t)))
        (λ t. omega (arith, ltb-false 0 (count k ks) t))

  pub ascend_next : (low : ℕ) (ks : List ℕ) → ascend L low ks ≡ true → (i : ℕ) → suc i < length ks → get_or ks i 0 < get_or ks (suc i) 0
  ascend_next low [] e i h = absurd (omega arith)
  ascend_next low (k ∷ []) e i h = absurd (omega arith)
  ascend_next low (k ∷ j ∷ ks) e zero h = omega (arith, head_ge (k + 1) j ks (tail_is low k (j ∷ ks) e))
  ascend_next low (k ∷ j ∷ ks) e (suc i) h = ascend_next (k + 1) (j ∷ ks) (tail_is low k (j ∷ ks) e) i (omega arith)

  pub levels_ascend : (ks : List ℕ) → levels_fit L ks ≡ true → (i : ℕ) → suc i < length ks → get_or ks i 0 < get_or ks (suc i) 0
  levels_ascend ks e i h = ascend_next 0 ks e i h
