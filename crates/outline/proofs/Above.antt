-- The customer's third demand for a picture with a constant border, over the listed lines of one level. Assumes nothing.
-- Main laws: `stands_once` a crossed edgel stands in exactly one line, once, and no other edgel in any; `row_is_column` counting left along the row and up along the column gives the same odd or even;
--   `between_east`, `between_south` neighbours differ in it exactly if the line passes between them; `above` a sample is high, against the border, exactly if an odd number of lines counts odd for it;
--   `above_even`, `above_odd` the same in two sentences.
use mathlib.Core.Path.{◌≡◌, refl, sym, ap, ◌∙◌}
use mathlib.Core.Bool.{Bool, true, false, not}
use mathlib.Core.List.{List}
use Prim.Native.Nat.{ℕ, suc, ◌+◌, ◌*◌, ◌<◌}
use native.Mathlib.Omega.{arith}
use Rattle.tally.specs.Tally.{one, differ, odd, count, flat, stands}
use Rattle.tally.proofs.Test.{twice, differ_false}
use Rattle.matte.specs.Picture.{Picture, high}
use Rattle.edgel.specs.Edgel.{across, down}
use Rattle.edgel.specs.Beside.{odd_west, odd_north, odd_lines}
use Rattle.edgel.proofs.Beside.{odd_lines_lem}
use Rattle.outline.specs.Line.{cut_at, line, lines}
use Rattle.outline.proofs.Border.{Border, frame}
use Rattle.outline.proofs.Paper.{bit}
use Rattle.outline.proofs.Parity.{row_cut}
use Rattle.outline.proofs.Beside.{odd_west_lem}
use Rattle.outline.proofs.Whole.{each_once, line_east, line_south, line_column}
use Rattle.outline.proofs.Lines.{IsLine}
use Rattle.outline.proofs.Places.{lead_cut}

module _ (P : Picture) (B : Border P) (k : ℕ) where
  pub stands_once : (c : ℕ) → count c (flat (lines P k)) ≡ one (cut_at P k c)
  stands_once c = each_once P B k c

  module _ (l : List ℕ) (I : IsLine P k l) where
    pub row_is_column : (x y : ℕ) → x < P.w → y < P.h → odd_west P.w l x y ≡ odd_north P.w l x y
    row_is_column x y a b = rw I.list (line_column P B k I.lead (lead_cut P B k I.lead I.leading) x y a b)

    pub between_east : (x y : ℕ) → suc x < P.w → y < P.h → differ (odd_west P.w l x y) (odd_west P.w l (suc x) y) ≡ stands (across P.w x y) l
    between_east x y a b =
        rw I.list
        (ap (λ (z : Bool). differ (odd_west P.w (line P k I.lead) x y) z) (line_east P B k I.lead (lead_cut P B k I.lead I.leading) x y (omega arith))
        ∙ twice (odd_west P.w (line P k I.lead) x y) (stands (across P.w x y) (line P k I.lead)))

    pub between_south : (x y : ℕ) → x < P.w → suc y < P.h → differ (odd_west P.w l x y) (odd_west P.w l x (suc y)) ≡ stands (down P.w x y) l
    between_south x y a b =
        rw I.list
        (ap (λ (z : Bool). differ (odd_west P.w (line P k I.lead) x y) z) (line_south P B k I.lead (lead_cut P B k I.lead I.leading) x y a b)
        ∙ twice (odd_west P.w (line P k I.lead) x y) (stands (down P.w x y) (line P k I.lead)))

  -- all crossings of the level left of a sample
  pub west_all : (x y : ℕ) → x < P.w → y < P.h → odd_west P.w (flat (lines P k)) x y ≡ differ (high P k 0) (high P k (y * P.w + x))
  west_all x y a b =
      odd_west_lem P.w (flat (lines P k)) (cut_at P k) stands_once x y (omega arith)
      ∙ row_cut (high P k) (bit P k) P.w P.h (high P k 0) (frame P B k) x y a b

  pub above : (x y : ℕ) → x < P.w → y < P.h → odd (odd_lines P.w (lines P k) x y) ≡ differ (high P k 0) (high P k (y * P.w + x))
  above x y a b = odd_lines_lem P.w (lines P k) x y ∙ west_all x y a b

  pub above_even : (x y : ℕ) → x < P.w → y < P.h → odd (odd_lines P.w (lines P k) x y) ≡ false → high P k (y * P.w + x) ≡ high P k 0
  above_even x y a b e = sym (differ_false (high P k 0) (high P k (y * P.w + x)) (sym (above x y a b) ∙ e))

  pub above_odd : (x y : ℕ) → x < P.w → y < P.h → odd (odd_lines P.w (lines P k) x y) ≡ true → high P k (y * P.w + x) ≡ not (high P k 0)
  above_odd x y a b e = opposite (high P k 0) (high P k (y * P.w + x)) (sym (above x y a b) ∙ e)
    where
      opposite : (p q : Bool) → differ p q ≡ true → q ≡ not p
      opposite true true d = sym d
      opposite true false d = refl
      opposite false q d = d
