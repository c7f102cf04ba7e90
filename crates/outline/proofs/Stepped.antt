-- Painting back: turned over once for each listed word left of a sample, the border gives the stepped picture. Assumes nothing.
-- Definitions: none of its own.
-- Main laws: `turned_back` at one listed level, the border turned over by the words of that level left of a sample is high exactly if the sample is; `paint_back` counted over the levels, that is
--   the number of listed levels the sample is high at; `all_levels_lem` with every level listed that number is the sample itself.
use mathlib.Core.Path.{◌≡◌, refl, ap, ◌∙◌}
use mathlib.Core.Bool.{Bool, true}
use mathlib.Core.List.{List}
use Prim.Native.Nat.{ℕ, zero, suc, ◌+◌, ◌*◌, ◌≤◌, ◌<◌}
use native.Mathlib.Omega.{arith}
use lib.Dec.{ltb}
use borrow.Author.Tests.{ltb-true, ltb-false, lt-ltb}
use Rattle.tally.specs.Tally.{one, differ, odd, sum, count, tally, build}
use Rattle.tally.proofs.Test.{by_test, twice}
use Rattle.tally.proofs.Count.{tally_same}
use Rattle.tally.proofs.Build.{build_tally}
use Rattle.matte.specs.Layout.{Layout}
use Rattle.matte.specs.Picture.{Picture, at, levels_fit}
use Rattle.edgel.specs.Beside.{west_of}
use Rattle.outline.specs.List.{listed}
use Rattle.outline.proofs.Border.{Border}
use Rattle.outline.proofs.Above.{west_all}
use Rattle.outline.proofs.Words.{of_level}
use Rattle.outline.proofs.Listed.{Fits, tally_own}

module _ (L : Layout) (P : Picture) (F : Fits L P) (B : Border P) (ks : List ℕ) (e : levels_fit L ks ≡ true) where
  pub turned_back : (k : ℕ) → 0 < count k ks → (x y : ℕ) → x < P.w → y < P.h
      → differ (ltb k (at P 0)) (odd (tally (of_level L k (west_of P.w x y)) (listed L P ks))) ≡ ltb k (at P (y * P.w + x))
  turned_back k h x y a b =
      ap (λ (z : ℕ). differ (ltb k (at P 0)) (odd z)) (tally_own L P F B ks e k (west_of P.w x y) h)
      ∙ ap (λ (z : Bool). differ (ltb k (at P 0)) z) (west_all P B k x y a b)
      ∙ twice (ltb k (at P 0)) (ltb k (at P (y * P.w + x)))

  pub paint_back : (x y : ℕ) → x < P.w → y < P.h
      → tally (λ k. differ (ltb k (at P 0)) (odd (tally (of_level L k (west_of P.w x y)) (listed L P ks)))) ks ≡ tally (λ k. ltb k (at P (y * P.w + x))) ks
  paint_back x y a b =
      tally_same (λ k. differ (ltb k (at P 0)) (odd (tally (of_level L k (west_of P.w x y)) (listed L P ks)))) (λ k. ltb k (at P (y * P.w + x))) ks
      (λ k h. turned_back k h x y a b)

-- a number is how many numbers below n are below it, where it is at most n
below : (s n : ℕ) → n ≤ s → sum (λ k. one (ltb k s)) n ≡ n
unfolding sum
below s zero h = refl
below s (suc n) h = rw (lt-ltb n s h, below s n (omega arith)) (omega arith)

below_all : (s n : ℕ) → s ≤ n → sum (λ k. one (ltb k s)) n ≡ s
unfolding sum
below_all s zero h = omega arith
below_all s (suc n) h =
    by_test (ltb n s)
    (λ t. let l : n < s = ltb-true n s t in rw (t, below s n (omega arith)) (omega arith))
    (λ t. rw (t, below_all s n (ltb-false n s t)) (omega arith))

-- with all levels the stepped value is the sample
pub all_levels_lem : (n s : ℕ) → s ≤ n → tally (λ k. ltb k s) (build (λ i. i) 0 n) ≡ s
all_levels_lem n s h = build_tally (λ k. ltb k s) (λ i. i) n ∙ below_all s n h
