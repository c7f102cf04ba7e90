-- Counting crossed edgels place by place. Assumes nothing.
-- Main laws: `sum_begin`, `sum_more` a sum as far as a loop has come; `crossings_sum` the crossed edgels of a level are those that start above the last row, two a place; `pair_most`, `pairs_most`, `all_most` how many they can be; `row_fits` a row is within the picture; `levels_few`, `levels_most` there are at most as many levels as samples have values above 0;
--   `counted_none`, `counted_more`, `counted_all` the sum over the levels is the length of the list.
use mathlib.Core.Path.{◌≡◌, refl, sym, ap, ◌∙◌}
use mathlib.Core.Bool.{Bool, true, false, ◌&&◌}
use mathlib.Core.List.{List, [], ◌∷◌}
use Prim.Native.Nat.{ℕ, zero, suc, ◌+◌, ◌-◌, ◌*◌, ◌≤◌, ◌<◌}
use native.Mathlib.Nat.{mod-lt, add-zero, mul-le-mul}
use native.Mathlib.Numerals.{add-one}
use native.Mathlib.Omega.{arith}
use lib.Dec.{ltb, leb}
use lib.ListN.{length, get_or, take}
use lib.Seq.{take-suc, take_all}
use borrow.Author.Tests.{ltb-true, lt-ltb, le-ltb, leb-true}
use Rattle.tally.specs.Tally.{one, differ, sum, total}
use Rattle.tally.proofs.Test.{by_test, no, and_1, and_2, one_le, differ_self}
use Rattle.tally.proofs.Sum.{sum_same, sum_next, sum_none, sum_cut, sum_even, total_append}
use Rattle.matte.specs.Layout.{Layout, eight, ten, layout_of}
use Rattle.matte.specs.Picture.{Picture, size, high, ascend, levels_fit}
use Rattle.outline.specs.Line.{cut_at}
use Rattle.outline.specs.List.{listed}
use Rattle.outline.proofs.Listed.{listed_length}
use Rattle.outline.proofs.Codes.{cut_flat, cut_tall}
use Rattle.refuse.specs.Shape.{Ground}
use Rattle.count.specs.Count.{crossings, pair, pair_at}
use Rattle.count.proofs.Flat.{border_of, crossed_cut, cut_crossed}

-- ---- a sum as far as a loop has come: of nothing, and of one number more
pub sum_begin : (g : ℕ → ℕ) → 0 ≡ sum g 0
unfolding sum
sum_begin g = refl

pub sum_more : (g : ℕ → ℕ) (i n r : ℕ) → n ≡ sum g i → r ≡ g i → n + r ≡ sum g (i + 1)
sum_more g i n r e h = ap (λ (z : ℕ). z + r) e ∙ ap (λ (z : ℕ). sum g i + z) h ∙ sym (sum_next g i)

module _ (P : Picture) (G : Ground P) (k : ℕ) where
  abbrev H : ℕ → Bool
  H = high P k

  -- a place above the last row
  flat_at : (i : ℕ) → i + P.w < size P → cut_at P k (2 * i) ≡ differ (H i) (H (i + 1))
  flat_at i l =
      by_test (differ (H i) (H (i + 1)))
      (λ e. crossed_cut P G k i (omega (arith, G.sides.w_least)) e ∙ sym e)
      (λ e. by_test (cut_at P k (2 * i)) (λ t. no (cut_crossed P G k i t).1 e) (λ t. t ∙ sym e))

  tall_at : (i : ℕ) → i + P.w < size P → cut_at P k (2 * i + 1) ≡ differ (H i) (H (i + P.w))
  tall_at i l = cut_tall H P.w P.h i ∙ ap (λ (b : Bool). b && differ (H i) (H (i + P.w))) (lt-ltb (i + P.w) (size P) l)

  -- the last row
  flat_last : (i : ℕ) → i < size P → size P ≤ i + P.w → cut_at P k (2 * i) ≡ false
  flat_last i l m =
      by_test (cut_at P k (2 * i))
      (λ t.
      let B = border_of P G in
      let c = cut_crossed P G k i t in
      let r : i + 1 < size P = Rattle.outline.proofs.Codes.right_in P.w P.h i l c.0 in
      no c.1
      (ap (λ (z : ℕ). differ (ltb k z) (H (i + 1))) (B.bottom i l m)
      ∙ ap (λ (z : ℕ). differ (H 0) (ltb k z)) (B.bottom (i + 1) r (omega arith))
      ∙ differ_self (H 0)))
      (λ t. t)

  tall_last : (i : ℕ) → size P ≤ i + P.w → cut_at P k (2 * i + 1) ≡ false
  tall_last i m = cut_tall H P.w P.h i ∙ ap (λ (b : Bool). b && differ (H i) (H (i + P.w))) (le-ltb (i + P.w) (size P) m)

  pub crossings_sum : crossings P k ≡ sum (pair_at P.px P.w k) (size P - P.w)
  unfolding crossings
  crossings_sum =
      let f : ℕ → ℕ = λ c. one (cut_at P k c) in
      let g : ℕ → ℕ = λ i. f (2 * i) + f (2 * i + 1) in
      let n = size P - P.w in
      let wide : P.w ≤ size P = omega (arith, native.Mathlib.Nat.mul-le-mul_left P.w G.sides.h_least) in
      let s : n + P.w ≡ size P = omega arith in
      sum_even f (size P)
      ∙ ap (sum g) (sym s)
      ∙ sum_cut g n P.w
      ∙ ap (λ (z : ℕ). sum g n + z)
      (sum_none (λ i. g (n + i)) P.w
      (λ i h. ap (λ (b : Bool). one b + f (2 * (n + i) + 1)) (flat_last (n + i) (omega arith) (omega arith)) ∙ ap (λ (b : Bool). 0 + one b) (tall_last (n + i) (omega arith))))
      ∙ add-zero (sum g n)
      ∙ sum_same g (pair_at P.px P.w k) n
      (λ i h. ap (λ (b : Bool). one b + f (2 * i + 1)) (flat_at i (omega arith)) ∙ ap (λ (b : Bool). one (differ (H i) (H (i + 1))) + one b) (tall_at i (omega arith)))

pub pair_most : (k a b c : ℕ) → pair k a b c ≤ 2
pair_most k a b c = omega (arith, one_le (differ (ltb k a) (ltb k b)), one_le (differ (ltb k a) (ltb k c)))

sum_two : (g : ℕ → ℕ) → ((i : ℕ) → g i ≤ 2) → (n : ℕ) → sum g n ≤ 2 * n
unfolding sum
sum_two g q zero = omega arith
sum_two g q (suc n) = omega (arith, sum_two g q n, q n)

pub pairs_most : (px : List ℕ) (w k from n : ℕ) → sum (λ i. pair_at px w k (from + i)) n ≤ 2 * n
pairs_most px w k from n =
    sum_two (λ i. pair_at px w k (from + i)) (λ i. pair_most k (get_or px (from + i) 0) (get_or px (from + i + 1) 0) (get_or px (from + i + w) 0)) n

pub all_most : (px : List ℕ) (w k n : ℕ) → sum (pair_at px w k) n ≤ 2 * n
all_most px w k n = sum_two (pair_at px w k) (λ i. pair_most k (get_or px i 0) (get_or px (i + 1) 0) (get_or px (i + w) 0)) n

few : (L : Layout) (low : ℕ) (ks : List ℕ) → low ≤ L.most → ascend L low ks ≡ true → low + length ks ≤ L.most
unfolding ascend
few L low [] h e = omega arith
few L low (k ∷ ks) h e =
    let a : low ≤ k = leb-true low k (and_1 (leb low k) _ e) in
    let r = and_2 (leb low k) (ltb k L.most && ascend L (k + 1) ks) e in
    let b : k < L.most = ltb-true k L.most (and_1 (ltb k L.most) _ r) in
    omega (arith, few L (k + 1) ks (omega arith) (and_2 (ltb k L.most) _ r))

pub levels_few : (L : Layout) (ks : List ℕ) → levels_fit L ks ≡ true → length ks ≤ L.most
levels_few L ks e = omega (arith, few L 0 ks (omega arith) e)

pub levels_most : (wide : Bool) (ks : List ℕ) → levels_fit (layout_of wide) ks ≡ true → length ks ≤ 1023
levels_most true ks e = levels_few ten ks e
levels_most false ks e = omega (arith, levels_few eight ks e)

pub row_fits : {P : Picture} → Ground P → P.w + P.w ≤ length P.px
row_fits {P} G = omega (arith, G.whole, native.Mathlib.Nat.mul-le-mul_left P.w G.sides.h_least)

-- ---- over the levels
module _ (P : Picture) (ks : List ℕ) where
  pub counted_none : total (crossings P) (take 0 ks) ≡ 0
  unfolding total
  counted_none = refl

  pub counted_more : (j : ℕ) → j < length ks → total (crossings P) (take (j + 1) ks) ≡ total (crossings P) (take j ks) + crossings P (get_or ks j 0)
  unfolding total
  counted_more j h =
      ap (total (crossings P)) (ap (λ (z : ℕ). take z ks) (add-one j) ∙ take-suc ks j 0 h)
      ∙ total_append (crossings P) (take j ks) (get_or ks j 0 ∷ [])
      ∙ omega arith

  pub counted_all : (L : Layout) → Ground P → (j : ℕ) → length ks ≤ j → total (crossings P) (take j ks) ≡ length (listed L P ks)
  unfolding crossings
  counted_all L G j h = ap (total (crossings P)) (take_all j ks h) ∙ sym (listed_length L P (border_of P G) ks)
