-- A tree entry as one number: the parent below the flag, the kind in the flag. Assumes nothing.
-- Definitions: none of its own.
-- Main laws: `lines_few` four times the number of lines fit below the flag, so a line's number has room for three marks; `parent_le` a parent's number + 1 is at most the number of lines;
--   `entry_parent`, `entry_kind` what an entry says; `entry_lower` it says lower exactly if the left end of the lead is high; `straight_lead`, `straight_heading` a crossing with its lead's heading;
--   `kind_heading` a line is upper exactly if its lead heads S.
use mathlib.Core.Path.{◌≡◌, refl, sym, ap, ◌∙◌}
use mathlib.Core.Bool.{Bool, true, false, not, ◌&&◌}
use mathlib.Core.List.{List, [], ◌∷◌}
use Prim.Native.Nat.{ℕ, zero, suc, ◌+◌, ◌-◌, ◌*◌, ◌%◌, ◌≤◌, ◌<◌}
use native.Mathlib.Nat.{mul-le-mul_left, mul-le-mul_right, zero-mul}
use native.Mathlib.Omega.{arith}
use lib.Dec.{eqb, ltb, leb}
use lib.Arith.{digits_mod}
use lib.ListN.{length}
use borrow.Author.Tests.{ltb-true, ltb-false, leb-true, le-leb, lt-leb, eqb-true, eqb-false}
use Rattle.tally.specs.Tally.{one, differ, sum, total}
use Rattle.tally.proofs.Test.{by_test, and_1, and_2, one_le, differ_self}
use Rattle.tally.proofs.Sum.{sum_le, total_le}
use Rattle.matte.specs.Layout.{Layout, flag}
use Rattle.matte.specs.Picture.{Picture, size, high, ascend}
use Rattle.edgel.specs.declared.Heading.{Heading}
use Rattle.edgel.specs.declared.Heading.TheVariants.{South}
use Rattle.edgel.specs.Edgel.{first, heading_of, heading_at}
use Rattle.edgel.specs.Word.{flagged}
use Rattle.outline.specs.Line.{cut_at}
use Rattle.cell.proofs.Five.{same}
use Rattle.enclosure.specs.Tree.{line_count, level_at, lead_at, parent, kind, entry}
use Rattle.enclosure.specs.Call.{heads, half}
use Rattle.enclosure.proofs.Order.{flat_heading}
use Rattle.enclosure.proofs.Lines.{Setting, lead_cut, pass_cut, lead_pass}
use Rattle.enclosure.proofs.Tree.{line_of}
use Rattle.enclosure.proofs.Numbers.{lines_within}
use Rattle.enclosure.proofs.Entry.{straight, parent_in}
use Rattle.enclosure.proofs.Rank.{On, pass_on}

-- ---- how many levels and crossings there can be
levels_few : (L : Layout) (low : ℕ) (ks : List ℕ) → ascend L low ks ≡ true → 0 < length ks → low + length ks ≤ L.most
unfolding ascend
levels_few L low [] e h = absurd (omega arith)
levels_few L low (k ∷ []) e h =
    let r = and_2 (leb low k) (ltb k L.most && ascend L (k + 1) []) e in
    omega (arith, leb-true low k (and_1 (leb low k) _ e), ltb-true k L.most (and_1 (ltb k L.most) _ r))
levels_few L low (k ∷ j ∷ ks) e h =
    let r = and_2 (leb low k) (ltb k L.most && ascend L (k + 1) (j ∷ ks)) e in
    let t : ascend L (k + 1) (j ∷ ks) ≡ true = and_2 (ltb k L.most) _ r in
    omega (arith, leb-true low k (and_1 (leb low k) _ e), levels_few L (k + 1) (j ∷ ks) t (omega arith))

ones : (n : ℕ) → sum (λ i. 1) n ≡ n
unfolding sum
ones zero = refl
ones (suc n) = omega (arith, ones n)

total_flat : (m : ℕ) (ks : List ℕ) → total (λ k. m) ks ≡ length ks * m
unfolding total
total_flat m [] = omega (arith, zero-mul m)
total_flat m (k ∷ ks) = let r : total (λ k. m) ks ≡ length ks * m = total_flat m ks in omega arith

heads_few : (P : Picture) (ks : List ℕ) → total (heads P) ks ≤ length ks * size P
unfolding heads
heads_few P ks =
    let a : total (heads P) ks ≤ total (λ k. size P) ks =
    total_le (heads P) (λ k. size P) ks (λ k. omega (arith, sum_le (λ i. one (cut_at P k (2 * i))) (λ i. 1) (size P) (λ i h. one_le (cut_at P k (2 * i))), ones (size P))) in
    omega (arith, total_flat (size P) ks)

module _ {L : Layout} {P : Picture} {ks : List ℕ} (S : Setting L P ks) where
  pub lines_few : 4 * line_count L P ks ≤ flag L
  unfolding half
  lines_few =
      by_test (ltb 0 (length ks))
      (λ t.
      let l : length ks ≤ L.levels = omega (arith, levels_few L 0 ks S.levels (ltb-true 0 (length ks) t), S.fits.tops) in
      let a : length ks * size P ≤ L.levels * size P = mul-le-mul_right (size P) l in
      let b : L.levels * (2 * size P) ≤ L.levels * L.codes = mul-le-mul_left L.levels S.fits.room in
      omega (arith, lines_within S, heads_few P ks))
      (λ t.
      let u : length ks ≡ 0 = omega (arith, ltb-false 0 (length ks) t) in
      let z : length ks * size P ≡ 0 * size P = ap (λ (x : ℕ). x * size P) u in
      omega (arith, lines_within S, heads_few P ks, zero-mul (size P)))

  pub parent_le : (n : ℕ) → n < line_count L P ks → parent L P ks n ≤ line_count L P ks
  parent_le n a =
      by_test (eqb (parent L P ks n) 0)
      (λ e. omega (arith, eqb-true (parent L P ks n) 0 e))
      (λ e.
      let p = parent L P ks n - 1 in
      let s : parent L P ks n ≡ suc p = omega (arith, eqb-false (parent L P ks n) 0 e) in
      omega (arith, parent_in S n a p s))

  pub parent_small : (n : ℕ) → n < line_count L P ks → parent L P ks n < flag L
  parent_small n a = omega (arith, parent_le n a, lines_few)

  -- ---- what an entry says
  pub entry_parent : (n : ℕ) → n < line_count L P ks → entry L P ks n % flag L ≡ parent L P ks n
  unfolding entry
  entry_parent n a =
      let p = parent L P ks n in
      let b = one (not (kind L P ks n)) in
      let s : p + b * flag L ≡ b * flag L + p = omega arith in
      ap (λ (z : ℕ). z % flag L) s ∙ digits_mod b (parent_small n a)

  pub entry_kind : (n : ℕ) → n < line_count L P ks → flagged L (entry L P ks n) ≡ not (kind L P ks n)
  unfolding entry
  entry_kind n a =
      let l = parent_small n a in
      by_test (not (kind L P ks n))
      (λ e. rw e (le-leb (flag L) (parent L P ks n + 1 * flag L) (omega arith)))
      (λ e. rw e (lt-leb (flag L) (parent L P ks n + 0 * flag L) (omega (arith, zero-mul (flag L)))))

  pub entry_lower : (n : ℕ) → n < line_count L P ks → flagged L (entry L P ks n) ≡ high P (level_at L P ks n) (first (lead_at L P ks n))
  unfolding kind
  entry_lower n a = entry_kind n a ∙ back (high P (level_at L P ks n) (first (lead_at L P ks n)))
    where
      back : (b : Bool) → not (not b) ≡ b
      back true = refl
      back false = refl

  -- ---- headings
  pub straight_lead : (m : ℕ) → straight L P ks m (lead_at L P ks m) ≡ true
  straight_lead m = ap not (differ_self (high P (level_at L P ks m) (first (lead_at L P ks m))))

  same_of : (x y : Bool) → not (differ x y) ≡ same (heading_of true x) (heading_of true y)
  same_of true true = refl
  same_of true false = refl
  same_of false true = refl
  same_of false false = refl

  south_of : (x : Bool) → not x ≡ same (heading_of true x) South
  south_of true = refl
  south_of false = refl

  lead_heading : (m : ℕ) → m < line_count L P ks
      → heading_at (high P (level_at L P ks m)) (lead_at L P ks m) ≡ heading_of true (high P (level_at L P ks m) (first (lead_at L P ks m)))
  unfolding line_of
  lead_heading m a = let M = line_of S m a in flat_heading P L.levels M.lvl M.lead (lead_pass S M).flat (lead_cut S M)

  -- a crossing has the heading of its line's lead
  pub straight_heading : (m d : ℕ) → On L P ks m d
      → straight L P ks m d ≡ same (heading_at (high P (level_at L P ks m)) d) (heading_at (high P (level_at L P ks m)) (lead_at L P ks m))
  unfolding line_of
  straight_heading m d A =
      let M = line_of S m A.number in
      let k = level_at L P ks m in
      let h : heading_at (high P k) d ≡ heading_of true (high P k (first d)) = flat_heading P L.levels M.lvl d A.flat (pass_cut S M d (pass_on S m d A)) in
      same_of (high P k (first d)) (high P k (first (lead_at L P ks m)))
      ∙ ap (λ (z : Heading). same z (heading_of true (high P k (first (lead_at L P ks m))))) (sym h)
      ∙ ap (λ (z : Heading). same (heading_at (high P k) d) z) (sym (lead_heading m A.number))

  -- upper exactly if the lead heads S
  pub kind_heading : (m : ℕ) → m < line_count L P ks → kind L P ks m ≡ same (heading_at (high P (level_at L P ks m)) (lead_at L P ks m)) South
  unfolding kind
  kind_heading m a = south_of (high P (level_at L P ks m) (first (lead_at L P ks m))) ∙ ap (λ (z : Heading). same z South) (sym (lead_heading m a))
