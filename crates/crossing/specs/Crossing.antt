-- One crossing: its exact fraction, its point as floats, and the call. Assumes nothing.
-- Definitions: `gap`, `span` how far the level is from the left or top sample, and the other sample, doubled; `num`, `den` the fraction of the way in lowest terms; `passage` heading and fraction;
--   `along` a coordinate moved by it, `point_x`, `point_y` the point; `crossing_rows`, `crossing_verdict`, `crossing_answer` the call.
use Rattle.std.specs.Prelude.{not, cond, List, [], ◌∷◌, ◌++◌, ℕ, ◌+◌, ◌*◌, pos, Float}
use Rattle.std.specs.Float.{binary64}
use Rattle.std.specs.Float.Ieee.{add, div, of_int}
use Rattle.tally.specs.Tally.{apart}
use Rattle.refuse.specs.Refusal.{Verdict}
use Rattle.matte.specs.Layout.{Layout}
use Rattle.matte.specs.Picture.{Picture, at, high}
use Rattle.refuse.specs.Refusal.{Row, verdict, row, answer, afterwards}
use Rattle.refuse.specs.Shape.{level_rows}
use Rattle.edgel.specs.Heading.{number}
use Rattle.edgel.specs.Edgel.{horizontal, first, second, column, crossed, heading_at}
use Rattle.edgel.specs.Edgel as Edgel
use Rattle.words.specs.Fit.{code_row}
use Rattle.ratio.specs.Lowest.{lowest}
use Rattle.crossing.specs.declared.Crossing.{Crossing}
use Rattle.crossing.specs.declared.Passage.{Passage}

-- a whole number as a float
abbrev pub whole : ℕ → Float
whole n = of_int binary64 (pos n)

-- n plus the quotient a/b: one division and one addition, each rounded once (01, Picture, levels, edgels)
unfoldable pub along : ℕ → ℕ → ℕ → Float
along n a b = add binary64 (whole n) (div binary64 (whole a) (whole b))

module _ (P : Picture) (k c : ℕ) where
  -- |2k + 1 − 2·the left or top sample| (01, Picture, levels, edgels)
  unfoldable pub gap : ℕ
  gap = apart (2 * k + 1) (2 * at P (first c))

  -- 2·|difference of the ends| (01, Picture, levels, edgels)
  unfoldable pub span : ℕ
  span = 2 * apart (at P (first c)) (at P (second P.w c))

  -- num/den is gap/span in lowest terms (02, R-5)
  unfoldable pub num : ℕ
  num = (lowest gap span).num

  unfoldable pub den : ℕ
  den = (lowest gap span).den

  -- the heading and the fraction of the way (01, Picture, levels, edgels)
  abbrev pub passage : Passage
  passage = record { heading = heading_at (high P k) c; num = num; den = den }

  -- the coordinate along the edgel is moved, the other is whole (01, Picture, levels, edgels)
  abbrev pub point_x : Float
  point_x = cond (horizontal c) (along (column P.w c) num den) (whole (column P.w c))

  abbrev pub point_y : Float
  point_y = cond (horizontal c) (whole (Edgel.row P.w c)) (along (Edgel.row P.w c) num den)

module _ (L : Layout) (P : Picture) (k c : ℕ) where
  -- 1 2 3 8 10 (01, Numbers for a refused call)
  abbrev pub crossing_rows : List Row
  crossing_rows = level_rows L P (k ∷ []) ++ (code_row P.w P.h c ∷ row 10 (not (crossed (high P k) P.w c)) ∷ [])

  abbrev pub crossing_verdict : Verdict
  crossing_verdict = verdict crossing_rows

  -- refused, every further number is 0 (01, Numbers for a refused call)
  abbrev pub crossing_answer : Crossing
  crossing_answer =
      record {
        answer = answer crossing_verdict 0 0;
        heading = afterwards crossing_verdict 0 (number (heading_at (high P k) c));
        num = afterwards crossing_verdict 0 (num P k c);
        den = afterwards crossing_verdict 0 (den P k c);
        x = afterwards crossing_verdict (whole 0) (point_x P k c);
        y = afterwards crossing_verdict (whole 0) (point_y P k c);
      }
