-- How many lines a level can have: each has at least two horizontal crossings, an even number on each row. Assumes nothing.
-- Definitions: none of its own.
-- Main laws: `row_even` a mark that following keeps is on an even number of horizontal codes of each row; `line_row_even` so is a line; `two` a line through a horizontal code has at least two of them;
--   `lines_half` twice the number of lines is at most the number of horizontal crossings; `heads_total` these are as many as the crossed horizontal codes.
use mathlib.Core.Path.{◌≡◌, refl, sym, ap, ◌∙◌}
use mathlib.Core.Bool.{Bool, true, false, cond}
use mathlib.Core.Logic.{◌≢◌}
use Prim.Native.Nat.{ℕ, suc, ◌+◌, ◌-◌, ◌*◌, ◌/◌, ◌%◌, ◌≤◌, ◌<◌}
use native.Mathlib.Nat.{add-mod_right}
use native.Mathlib.Omega.{arith}
use lib.Dec.{ltb}
use lib.Arith.{digits_mod}
use lib.ListN.{length}
use borrow.Author.Tests.{ltb-true, lt-ltb, eqb-true, eqb-false, eq-eqb}
use Rattle.tally.specs.Tally.{one, differ, odd, sum, count, tally, flat}
use Rattle.tally.proofs.Test.{by_test, no, and_1, and_2, both, differ_self}
use Rattle.tally.proofs.Sum.{sum_same}
use Rattle.tally.proofs.Count.{tally_has, tally_le, tally_counts}
use Rattle.tally.proofs.Pick.{pick_two}
use Rattle.tally.proofs.Parity.{flips_none}
use Rattle.orbit.proofs.On.{on, on_self}
use Rattle.matte.specs.Picture.{Picture, size, high}
use Rattle.edgel.specs.Edgel.{horizontal, down}
use Rattle.edgel.specs.Beside.{west_of, odd_west}
use Rattle.outline.specs.Line.{cut_at, line, is_lead, lines}
use Rattle.outline.proofs.Codes.{Frame, cut_flat, cut_tall, row_in}
use Rattle.outline.proofs.Follow.{Kept}
use Rattle.outline.proofs.Border.{Border, frame}
use Rattle.outline.proofs.Paper.{bit, closed_at}
use Rattle.outline.proofs.Parity.{by_row, by_col, row_col}
use Rattle.outline.proofs.Whole.{on_line, each_once, line_count_lem, line_kept, west_row}
use Rattle.outline.proofs.Places.{lead_cut, flat_even}

module _ (H S : ℕ → Bool) (w h : ℕ) (v : Bool) (F : Frame H w h v) where
  off_right : (M : ℕ → Bool) → Kept H S w h M → (y : ℕ) → 0 < w → suc y < h → M (down w (w - 1) y) ≡ false
  off_right M k y p b =
      by_test (M (down w (w - 1) y))
      (λ e.
      let i = y * w + (w - 1) in
      let u : w - 1 < w = omega arith in
      let c : (y * w + (w - 1)) % w ≡ w - 1 = digits_mod y u in
      let z = sym (cut_tall H w h i) ∙ k.only (down w (w - 1) y) e in
      let d : differ (H i) (H (i + w)) ≡ true = and_2 (ltb (i + w) (w * h)) _ z in
      let r : i + w < w * h = ltb-true _ _ (and_1 _ _ z) in
      let l : H i ≡ v = F.rights i (omega arith) (rw c (omega arith)) in
      let m : H (i + w) ≡ v = F.rights (i + w) r (rw (add-mod_right i w, c) (omega arith)) in
      no d (ap (λ (x : Bool). differ x (H (i + w))) l ∙ ap (λ (x : Bool). differ v x) m ∙ differ_self v))
      (λ e. e)

  pub row_even : (M : ℕ → Bool) → Kept H S w h M → (y : ℕ) → 0 < w → y < h → by_row w M (w - 1) y ≡ false
  unfolding by_col
  row_even M k y p b =
      row_col H S w h v F M k (w - 1) y (omega arith) b ∙ flips_none (λ j. M (down w (w - 1) j)) y (λ j l. off_right M k j p (omega arith))

module _ (P : Picture) (B : Border P) (k : ℕ) where
  module _ (c : ℕ) (o : cut_at P k c ≡ true) where
    pub line_row_even : (y : ℕ) → 0 < P.w → y < P.h → odd_west P.w (line P k c) (P.w - 1) y ≡ false
    line_row_even y p r =
        west_row P B k c o (P.w - 1) y (omega arith)
        ∙ row_even (high P k) (bit P k) P.w P.h (high P k 0) (frame P B k) (on_line P k c) (line_kept P B k c o) y p r

    pub line_self : count c (line P k c) ≡ 1
    unfolding line on
    line_self = line_count_lem P B k c o c ∙ ap one (on_self (closed_at P B k) c o)

    pub two : horizontal c ≡ true → 2 ≤ tally horizontal (line P k c)
    unfolding west_of
    two e =
        let l = line P k c in
        let y = c / 2 / P.w in
        let m : c % 2 ≡ 0 = eqb-true (c % 2) 0 e in
        let s : 2 * (c / 2) ≡ c = omega arith in
        let z = sym (cut_flat (high P k) P.w P.h (c / 2)) ∙ ap (cut_at P k) s ∙ o in
        let a : c / 2 % P.w + 1 < P.w = ltb-true _ _ (and_1 _ _ (and_1 _ _ z)) in
        let b : c / 2 < P.w * P.h = ltb-true _ _ (and_2 (ltb (c / 2 % P.w + 1) P.w) _ (and_1 _ _ z)) in
        let r : y < P.h = row_in P.w P.h (c / 2) (omega arith) b in
        let q : odd (tally (west_of P.w (P.w - 1) y) l) ≡ false = line_row_even y (omega arith) r in
        let u : count c l ≡ 1 = line_self in
        let g : west_of P.w (P.w - 1) y c ≡ true = both e (both (eq-eqb y y refl) (lt-ltb (c / 2 % P.w) (P.w - 1) (omega arith))) in
        let t : 0 < tally (west_of P.w (P.w - 1) y) l = tally_has (west_of P.w (P.w - 1) y) c l g (omega arith) in
        let d : tally (west_of P.w (P.w - 1) y) l % 2 ≢ 1 = eqb-false (tally (west_of P.w (P.w - 1) y) l % 2) 1 q in
        omega (arith, tally_le (west_of P.w (P.w - 1) y) horizontal l (λ x i. and_1 (horizontal x) _ i))

  pub lines_half : 2 * length (lines P k) ≤ tally horizontal (flat (lines P k))
  unfolding lines
  lines_half =
      pick_two (λ i. is_lead P k (2 * i)) (λ i. line P k (2 * i)) horizontal
      (λ j e. two (2 * j) (lead_cut P B k (2 * j) e) (flat_even j)) 0 (size P)

  pub heads_total : tally horizontal (flat (lines P k)) ≡ sum (λ d. cond (horizontal d) (one (cut_at P k d)) 0) (2 * size P)
  heads_total =
      let L = flat (lines P k) in
      tally_counts horizontal (2 * size P) L
      (λ d i. by_test (cut_at P k d) (λ e. (closed_at P B k).bound d e) (λ e. absurd (omega (arith, each_once P B k d ∙ ap one e))))
      ∙ sum_same (λ d. cond (horizontal d) (count d L) 0) (λ d. cond (horizontal d) (one (cut_at P k d)) 0) (2 * size P)
      (λ d i. ap (λ (z : ℕ). cond (horizontal d) z 0) (each_once P B k d))
