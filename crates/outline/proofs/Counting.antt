-- How many words a list will have, counted before anything is followed. Assumes nothing.
-- Definitions: `steps ks s` how many listed levels the sample s is high at; `crossings P ks c` how often the listed levels cross the code c.
-- Main laws: `cut_steps` an edgel is crossed as often as the steps of its ends are apart; `not_edgel`; `length_codes`, `length_places` the list's length as a sum over codes, and over places;
--   `heads_places` the horizontal crossings of a level by places; `heads_even` their number is even; `lines_heads` twice the number of lines is at most theirs.
use mathlib.Core.Path.{◌≡◌, refl, ap, ◌∙◌}
use mathlib.Core.Bool.{Bool, true, false, cond}
use mathlib.Core.List.{List, [], ◌∷◌}
use Prim.Native.Nat.{ℕ, zero, suc, ◌+◌, ◌-◌, ◌*◌, ◌%◌, ◌≤◌, ◌<◌}
use native.Mathlib.Nat.{zero-mul}
use native.Mathlib.Omega.{arith}
use lib.Dec.{ltb}
use lib.Arith.{digits_mod}
use lib.ListN.{length}
use borrow.Author.Tests.{ltb-true, ltb-false, lt-ltb, le-ltb, eq-eqb, ne_eqb}
use Rattle.tally.specs.Tally.{one, differ, apart, odd, sum, tally, total, flat}
use Rattle.tally.proofs.Test.{by_test, differ_self, differ_comm}
use Rattle.tally.proofs.Sum.{sum_same, sum_even, total_sum, total_le, total_times}
use Rattle.tally.proofs.Count.{tally_same, tally_none, tally_total}
use Rattle.tally.proofs.Parity.{flips, flips_cut, odd_sum}
use Rattle.matte.specs.Layout.{Layout}
use Rattle.matte.specs.Picture.{Picture, size, at, high}
use Rattle.edgel.specs.Edgel.{horizontal, first, second, edgel, crossed, cut}
use Rattle.outline.specs.Line.{cut_at, lines}
use Rattle.outline.specs.List.{listed}
use Rattle.outline.proofs.Codes.{cut_flat}
use Rattle.outline.proofs.Border.{Border, frame}
use Rattle.outline.proofs.Paper.{bit}
use Rattle.outline.proofs.Parity.{by_row, row_cut, in_row}
use Rattle.outline.proofs.Heads.{lines_half, heads_total}
use Rattle.outline.proofs.Listed.{listed_length}

abbrev pub steps : List ℕ → ℕ → ℕ
steps ks s = tally (λ k. ltb k s) ks

abbrev pub crossings : Picture → List ℕ → ℕ → ℕ
crossings P ks c = tally (λ k. cut_at P k c) ks

-- ---- one edgel
up : (ks : List ℕ) (a b : ℕ) → a ≤ b → steps ks a + tally (λ k. differ (ltb k a) (ltb k b)) ks ≡ steps ks b
unfolding tally
up [] a b h = refl
up (k ∷ ks) a b h =
    let r : steps ks a + tally (λ j. differ (ltb j a) (ltb j b)) ks ≡ steps ks b = up ks a b h in
    by_test (ltb k a)
    (λ t. let l : k < a = ltb-true k a t in rw (t, lt-ltb k b (omega arith)) (omega arith))
    (λ t. rw t (omega arith))

pub cut_steps : (ks : List ℕ) (a b : ℕ) → tally (λ k. differ (ltb k a) (ltb k b)) ks ≡ apart (steps ks a) (steps ks b)
cut_steps ks a b =
    by_test (ltb b a)
    (λ t.
    let r : steps ks b + tally (λ k. differ (ltb k b) (ltb k a)) ks ≡ steps ks a = up ks b a (omega (arith, ltb-true b a t)) in
    tally_same (λ k. differ (ltb k a) (ltb k b)) (λ k. differ (ltb k b) (ltb k a)) ks (λ k h. differ_comm (ltb k a) (ltb k b)) ∙ omega arith)
    (λ t.
    let r : steps ks a + tally (λ k. differ (ltb k a) (ltb k b)) ks ≡ steps ks b = up ks a b (ltb-false b a t) in
    omega arith)

module _ (P : Picture) (ks : List ℕ) where
  pub edgel_steps : (c : ℕ) → edgel P.w P.h c ≡ true → crossings P ks c ≡ apart (steps ks (at P (first c))) (steps ks (at P (second P.w c)))
  unfolding cut crossed
  edgel_steps c e =
      tally_same (λ k. cut_at P k c) (λ k. differ (ltb k (at P (first c))) (ltb k (at P (second P.w c)))) ks (λ k h. rw e)
      ∙ cut_steps ks (at P (first c)) (at P (second P.w c))

  pub not_edgel : (c : ℕ) → edgel P.w P.h c ≡ false → crossings P ks c ≡ 0
  unfolding cut crossed
  not_edgel c e = tally_none (λ k. cut_at P k c) ks (λ k h. rw e)

  -- ---- the whole list
  pub length_codes : (L : Layout) → Border P → length (listed L P ks) ≡ sum (crossings P ks) (2 * size P)
  length_codes L B =
      listed_length L P B ks
      ∙ total_sum (λ k c. one (cut_at P k c)) (2 * size P) ks
      ∙ sum_same (λ c. total (λ k. one (cut_at P k c)) ks) (crossings P ks) (2 * size P) (λ c h. tally_total (λ k. cut_at P k c) ks)

  pub length_places : (L : Layout) → Border P → length (listed L P ks) ≡ sum (λ i. crossings P ks (2 * i) + crossings P ks (2 * i + 1)) (size P)
  length_places L B = length_codes L B ∙ sum_even (crossings P ks) (size P)

-- ---- horizontal crossings
module _ (P : Picture) (B : Border P) (k : ℕ) where
  pub heads_places : tally horizontal (flat (lines P k)) ≡ sum (λ i. one (cut_at P k (2 * i))) (size P)
  heads_places =
      heads_total P B k
      ∙ sum_even (λ d. cond (horizontal d) (one (cut_at P k d)) 0) (size P)
      ∙ sum_same (λ i. cond (horizontal (2 * i)) (one (cut_at P k (2 * i))) 0 + cond (horizontal (2 * i + 1)) (one (cut_at P k (2 * i + 1))) 0) (λ i. one (cut_at P k (2 * i))) (size P)
      (λ i h. rw (eq-eqb (2 * i % 2) 0 (omega arith), ne_eqb ((2 * i + 1) % 2) 0 (omega arith)) (omega arith))

  -- one row has an even number of them
  row_flips : (y : ℕ) → 0 < P.w → y < P.h → flips (λ i. cut_at P k (2 * (y * P.w + i))) P.w ≡ false
  unfolding flips by_row
  row_flips y p b =
      let u : P.w - 1 < P.w = omega arith in
      let s : P.w ≡ suc (P.w - 1) = omega arith in
      let c : (y * P.w + (P.w - 1)) % P.w ≡ P.w - 1 = digits_mod y u in
      let l : y * P.w + (P.w - 1) < P.w * P.h = in_row P.w P.h (P.w - 1) y u b in
      let o : cut_at P k (2 * (y * P.w + (P.w - 1))) ≡ false =
      cut_flat (high P k) P.w P.h (y * P.w + (P.w - 1)) ∙ rw (c, le-ltb (P.w - 1 + 1) P.w (omega arith)) in
      let r : flips (λ i. cut_at P k (2 * (y * P.w + i))) (P.w - 1) ≡ false =
      row_cut (high P k) (bit P k) P.w P.h (high P k 0) (frame P B k) (P.w - 1) y u b
      ∙ ap (λ (z : Bool). differ (high P k 0) z) ((frame P B k).rights (y * P.w + (P.w - 1)) l (rw c (omega arith)))
      ∙ differ_self (high P k 0) in
      ap (flips (λ i. cut_at P k (2 * (y * P.w + i)))) s ∙ rw (r, o)

  rows_flips : (y : ℕ) → 0 < P.w → y ≤ P.h → flips (λ i. cut_at P k (2 * i)) (y * P.w) ≡ false
  unfolding flips
  rows_flips zero p b = rw (zero-mul P.w)
  rows_flips (suc y) p b =
      let s : suc y * P.w ≡ y * P.w + P.w = omega arith in
      ap (flips (λ i. cut_at P k (2 * i))) s
      ∙ flips_cut (λ i. cut_at P k (2 * i)) (y * P.w) P.w
      ∙ rw (rows_flips y p (omega arith), row_flips y p b)

  pub heads_even : 0 < P.w → odd (sum (λ i. one (cut_at P k (2 * i))) (size P)) ≡ false
  heads_even p =
      let s : size P ≡ P.h * P.w = omega arith in
      odd_sum (λ i. cut_at P k (2 * i)) (size P) ∙ ap (flips (λ i. cut_at P k (2 * i))) s ∙ rows_flips P.h p (omega arith)

pub lines_heads : (P : Picture) → Border P → (ks : List ℕ) → 2 * total (λ k. length (lines P k)) ks ≤ total (λ k. sum (λ i. one (cut_at P k (2 * i))) (size P)) ks
lines_heads P B ks =
    let a : total (λ k. 2 * length (lines P k)) ks ≤ total (λ k. sum (λ i. one (cut_at P k (2 * i))) (size P)) ks =
    total_le (λ k. 2 * length (lines P k)) (λ k. sum (λ i. one (cut_at P k (2 * i))) (size P)) ks (λ k. omega (arith, lines_half P B k, heads_places P B k)) in
    omega (arith, total_times 2 (λ k. length (lines P k)) ks)
