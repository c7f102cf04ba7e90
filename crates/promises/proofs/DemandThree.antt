-- The customer's third demand, a theorem for each of its sentences, of the list that the list call writes. Assumes nothing.
-- Definitions: `Scan` a picture with fitting sides and a constant border, levels that fit.
-- Main laws: `each_crossing_once` every edge between neighbours that a listed level crosses stands in exactly one line of that level, once, and no other edge does, so `words_counted` the list is as long as there are
--   crossings; `row_as_column` for each line, counting left along the row and above along the column gives the same odd or even; `differ_east`, `differ_south` neighbours differ exactly if the line passes between them;
--   `as_border`, `not_as_border` above the level exactly if the border is, where an even number of lines counts odd, and else exactly if the border is not.
use mathlib.Core.Path.{◌≡◌, sym, ap, ◌∙◌}
use mathlib.Core.Bool.{Bool, true, false, not, ◌&&◌}
use mathlib.Core.List.{List, []}
use Prim.Native.Nat.{ℕ, suc, ◌+◌, ◌*◌, ◌<◌}
use native.Mathlib.Omega.{arith}
use lib.Dec.{eqb, ltb}
use lib.ListN.{length, get_or}
use Rattle.tally.specs.Tally.{one, odd, differ, count, stands, tally, sum, total, flat}
use Rattle.tally.proofs.Test.{and_1, and_2}
use Rattle.matte.specs.Layout.{eight}
use Rattle.matte.specs.Picture.{Picture, size, at, high, side_fits, levels_fit, border_fits}
use Rattle.edgel.specs.Edgel.{across, down}
use Rattle.edgel.specs.Word.{code_of, level_of}
use Rattle.edgel.specs.Beside.{odd_west, odd_north, odd_lines}
use Rattle.refuse.proofs.Sides.{sides_in}
use Rattle.outline.specs.Line.{cut_at, lines}
use Rattle.outline.specs.List.{listed}
use Rattle.outline.proofs.Border.{Border, border_fits_lem}
use Rattle.outline.proofs.Lines.{line_at_lem}
use Rattle.outline.proofs.Listed.{Fits, fits_eight, listed_length, listed_once}
use Rattle.outline.proofs.Above.{stands_once, row_is_column, between_east, between_south, above_even, above_odd}

-- sides, levels and border pass their tests, so that the list call gives none of 1, 3 and 4
pub record Scan (P : Picture) (ks : List ℕ) : Type 0 where
  pub sides : (side_fits P.w && side_fits P.h) ≡ true
  pub levels : levels_fit eight ks ≡ true
  pub border : border_fits P ≡ true

module _ (P : Picture) (ks : List ℕ) (S : Scan P ks) where
  pub B : Border P
  B = border_fits_lem P (omega (arith, (sides_in P.w P.h S.sides).h_least)) S.border

  pub fits : Fits eight P
  fits = fits_eight P (and_1 (side_fits P.w) (side_fits P.h) S.sides) (and_2 (side_fits P.w) (side_fits P.h) S.sides)

  -- the words of level k and code c in the whole list: one where the code names an edgel that k crosses, else none
  pub each_crossing_once : (k c : ℕ) → 0 < count k ks → tally (λ u. eqb (level_of eight u) k && eqb c (code_of eight u)) (listed eight P ks) ≡ one (cut_at P k c)
  each_crossing_once k c h = listed_once eight P fits B ks S.levels k c h

  -- the same by lines: in all lines of the level together the code stands once or not at all
  pub in_one_line : (k c : ℕ) → count c (flat (lines P k)) ≡ one (cut_at P k c)
  in_one_line k c = stands_once P B k c

  -- so the list has as many words as there are crossings
  pub words_counted : length (listed eight P ks) ≡ total (λ k. sum (λ c. one (cut_at P k c)) (2 * size P)) ks
  words_counted = listed_length eight P B ks

  -- line n of level k
  module _ (k n : ℕ) (m : n < length (lines P k)) where
    abbrev pub l : List ℕ
    l = get_or (lines P k) n []

    pub row_as_column : (x y : ℕ) → x < P.w → y < P.h → odd_west P.w l x y ≡ odd_north P.w l x y
    row_as_column x y a b = row_is_column P B k l (line_at_lem P k n m) x y a b

    pub differ_east : (x y : ℕ) → suc x < P.w → y < P.h → differ (odd_west P.w l x y) (odd_west P.w l (suc x) y) ≡ stands (across P.w x y) l
    differ_east x y a b = between_east P B k l (line_at_lem P k n m) x y a b

    pub differ_south : (x y : ℕ) → x < P.w → suc y < P.h → differ (odd_west P.w l x y) (odd_west P.w l x (suc y)) ≡ stands (down P.w x y) l
    differ_south x y a b = between_south P B k l (line_at_lem P k n m) x y a b

  -- a sample against the border, at any level
  pub as_border : (k x y : ℕ) → x < P.w → y < P.h → odd (odd_lines P.w (lines P k) x y) ≡ false → high P k (y * P.w + x) ≡ high P k 0
  as_border k x y a b e = above_even P B k x y a b e

  pub not_as_border : (k x y : ℕ) → x < P.w → y < P.h → odd (odd_lines P.w (lines P k) x y) ≡ true → high P k (y * P.w + x) ≡ not (high P k 0)
  not_as_border k x y a b e = above_odd P B k x y a b e
