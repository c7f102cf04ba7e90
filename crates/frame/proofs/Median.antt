-- What the lower median is. Assumes nothing.
-- Definitions: `Within` all of a list are at most the largest sample.
-- Main laws: `median_half` at least half do not exceed it; `median_least` of no smaller value is that so; `median_one` it is one of the list; `median_sorted` it is the element in the middle of the sorted
--   list, `median_even` for an even number the smaller of the middle two; `border_within`, `border_median` the same for the border's samples.
use mathlib.Core.Path.{◌≡◌, sym, ◌∙◌}
use mathlib.Core.Bool.{Bool}
use mathlib.Core.List.{List, [], ◌∷◌}
use Prim.Native.Nat.{ℕ, zero, suc, ◌+◌, ◌-◌, ◌*◌, ◌≤◌, ◌<◌}
use native.Mathlib.Omega.{arith}
use lib.Dec.{ltb, leb}
use lib.ListN.{length, get_or, length-append}
use borrow.Author.Tests.{ltb-true, ltb-false, leb-true, leb-false, le-leb, lt-leb}
use Rattle.tally.specs.Tally.{sum, count, tally}
use Rattle.tally.proofs.Test.{by_test}
use Rattle.tally.proofs.Count.{tally_append}
use Rattle.tally.proofs.First.{from_is, from_le, from_passes, from_before}
use Rattle.matte.specs.Layout.{Layout}
use Rattle.matte.specs.Picture.{Picture, picture, at, on_border}
use Rattle.refuse.specs.Shape.{Sides}
use Rattle.frame.specs.Frame.{border_samples, median}
use Rattle.frame.proofs.Seen.{seen, seen_none, seen_on, seen_still}
use Rattle.frame.proofs.Halves.{at_most}
use Rattle.frame.proofs.Many.{border_many}
use Rattle.frame.proofs.Sort.{sort, sort_from, sort_tally, sort_long, enough, few}

-- no sample is above the largest
abbrev pub Within : Layout → List ℕ → Type 0
Within L l = tally (λ s. leb s L.most) l ≡ length l

module _ (L : Layout) (l : List ℕ) where
  abbrev halves : ℕ → Bool
  halves v = leb (length l) (2 * tally (λ s. leb s v) l)

  pub median_le : median L l ≤ L.most
  unfolding median
  median_le = omega (arith, from_le halves 0 L.most)

  pub median_half : Within L l → length l ≤ 2 * tally (λ s. leb s (median L l)) l
  unfolding median
  median_half W =
      by_test (ltb (median L l) L.most)
      (λ e. leb-true _ _ (from_passes halves 0 L.most (omega (arith, ltb-true (median L l) L.most e))))
      (λ e.
      let s : median L l ≡ L.most = omega (arith, ltb-false (median L l) L.most e, median_le) in
      rw (s, W) (omega arith))

  pub median_least : (v : ℕ) → v < median L l → 2 * tally (λ s. leb s v) l < length l
  unfolding median
  median_least v h = leb-false _ _ (from_before halves 0 L.most v (omega arith) h)

  -- where no sample equals v, as many are at most v as are below it
  gap : (v : ℕ) → count v l ≡ 0 → sum (λ i. count i l) v ≡ tally (λ s. leb s v) l
  unfolding sum
  gap v e = let r : sum (λ i. count i l) v + count v l ≡ tally (λ s. leb s v) l = at_most v l in omega arith

  one_of : (m : ℕ) → length l ≤ 2 * tally (λ s. leb s m) l → ((v : ℕ) → v < m → 2 * tally (λ s. leb s v) l < length l) → 0 < length l → 0 < count m l
  unfolding sum
  one_of zero a b h =
      by_test (ltb 0 (count zero l)) (λ e. ltb-true _ _ e)
      (λ e. absurd (omega (arith, gap zero (omega (arith, ltb-false 0 (count zero l) e)))))
  one_of (suc v) a b h =
      by_test (ltb 0 (count (suc v) l)) (λ e. ltb-true _ _ e)
      (λ e. absurd (omega (arith, gap (suc v) (omega (arith, ltb-false 0 (count (suc v) l) e)), at_most v l, b v (omega arith))))

  pub median_one : Within L l → 0 < length l → 0 < count (median L l) l
  median_one W h = one_of (median L l) (median_half W) median_least h

  pub median_sorted : Within L l → (k : ℕ) → 2 * k < length l → length l ≤ 2 * suc k → median L l ≡ get_or (sort l) k 0
  unfolding median
  median_sorted W k a b =
      let s = sort l in
      let m = get_or s k 0 in
      let h : k < length s = omega (arith, sort_long l) in
      let same : (v : ℕ) → tally (λ x. leb x v) s ≡ tally (λ x. leb x v) l = λ v. sort_tally (λ x. leb x v) l in
      let big : m ≤ L.most =
      by_test (leb m L.most) (λ e. leb-true _ _ e)
      (λ e. absurd (omega (arith, few s k L.most (sort_from l) h (leb-false m L.most e), same L.most, W))) in
      from_is halves 0 L.most m (omega arith) (omega arith)
      (λ v p q. lt-leb (length l) (2 * tally (λ x. leb x v) l) (omega (arith, few s k v (sort_from l) h q, same v)))
      (λ q. le-leb (length l) (2 * tally (λ x. leb x m) l) (omega (arith, enough s k (sort_from l) h, same m)))

  pub median_even : Within L l → (n : ℕ) → length l ≡ 2 * n → 0 < n → median L l ≡ get_or (sort l) (n - 1) 0
  median_even W n e h = median_sorted W (n - 1) (omega arith) (omega arith)

-- ---- the border's samples
seen_within : (L : Layout) (P : Picture) → ((i : ℕ) → at P i ≤ L.most) → (i : ℕ) → Within L (seen P i)
unfolding tally
seen_within L P q zero = rw (seen_none P)
seen_within L P q (suc i) =
    by_test (on_border P.w P.h i)
    (λ e.
    let r : tally (λ s. leb s L.most) (seen P i) ≡ length (seen P i) = seen_within L P q i in
    rw (seen_on P i e)
    (tally_append (λ s. leb s L.most) (seen P i) (at P i ∷ [])
    ∙ rw (r, le-leb (at P i) L.most (q i)) (sym (length-append (seen P i) (at P i ∷ [])))))
    (λ e. rw (seen_still P i e) (seen_within L P q i))

pub border_within : (L : Layout) (P : Picture) → ((i : ℕ) → at P i ≤ L.most) → Within L (border_samples P)
unfolding border_samples seen
border_within L P q = seen_within L P q (P.w * P.h)

-- of the 2·(w + h) − 4 border samples, sorted, the median is the last of the lower half
pub border_median : (L : Layout) (w h : ℕ) → Sides w h → (px : List ℕ) → ((i : ℕ) → get_or px i 0 ≤ L.most)
    → median L (border_samples (picture w h px)) ≡ get_or (sort (border_samples (picture w h px))) (w + h - 3) 0
border_median L w h S px q =
    let W : 2 ≤ w = S.w_least in
    let H : 2 ≤ h = S.h_least in
    let n : length (border_samples (picture w h px)) ≡ 2 * (w + h) - 4 = border_many w h S px in
    median_sorted L (border_samples (picture w h px)) (border_within L (picture w h px) q) (w + h - 3) (omega arith) (omega arith)
