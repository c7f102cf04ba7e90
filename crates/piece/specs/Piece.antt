-- The piece of a level line in one cell, and the call. Assumes nothing.
-- Definitions: `is_zero` a whole number is 0; `ratio` a quotient as a float, `within` it lies from 0 to 1; `b`, `c`, `d`, `s` of the cell's corners by place; `met` an edgel of the
--   cell is crossed; `centre`, `delta`; `Case` a case's number and values, `case_of` those of each case of the enum; `piece_of` which piece it is; `Told` an answer with its piece's number and values,
--   `told` that of the code's answer; `piece_rows`, `piece_verdict`, `piece_answer` the call.
use Rattle.std.specs.Prelude.{Bool, false, not, ◌&&◌, ◌||◌, cond, List, [], ◌∷◌, ◌++◌, ℕ, suc, ◌+◌, ◌*◌, eqb, ltb, leb, ℤ, pos, negsuc, neg_ℤ, ◌+ℤ◌, ◌-ℤ◌, ◌*ℤ◌, Float}
use Rattle.std.specs.Float.{binary64}
use Rattle.std.specs.Float.Ieee.{div, of_int}
use Rattle.refuse.specs.declared.Answer.{Answer}
use Rattle.refuse.specs.Refusal.{Verdict}
use Rattle.matte.specs.Layout.{Layout}
use Rattle.matte.specs.Picture.{Picture, at, high}
use Rattle.refuse.specs.Refusal.{Row, verdict, row, answer, afterwards}
use Rattle.refuse.specs.Shape.{level_rows}
use Rattle.edgel.specs.declared.Heading.TheVariants.{South, East, North, West}
use Rattle.edgel.specs.Edgel.{crossed}
use Rattle.cell.specs.Turn.{out}
use Rattle.piece.specs.declared.Centre.{Centre}
use Rattle.piece.specs.declared.Found.{Found}
use Rattle.piece.specs.declared.Piece.{Piece}
use Rattle.piece.specs.declared.Piece.TheVariants.{Refused, Straight, Corner, Branch}

abbrev pub is_zero : ℤ → Bool
is_zero (pos n) = eqb n 0
is_zero (negsuc n) = false

-- one division of exact whole numbers, the divisor made positive first, so that zero is +0 (01, The piece in one cell)
abbrev pub ratio : ℤ → ℤ → Float
ratio n (pos m) = div binary64 (of_int binary64 n) (of_int binary64 (pos m))
ratio n (negsuc m) = div binary64 (of_int binary64 (neg_ℤ n)) (of_int binary64 (pos (suc m)))

-- the quotient n/m lies from 0 to 1, decided in whole numbers (01, The piece in one cell)
abbrev pub up_to : ℤ → ℕ → Bool
up_to (pos n) m = leb n m
up_to (negsuc n) m = false

abbrev pub within : ℤ → ℤ → Bool
within n (pos m) = up_to n m
within n (negsuc m) = up_to (neg_ℤ n) (suc m)

-- a case of the piece: its number, and the floats that it holds (01, Forms by place in the code)
pub record Case : Type 0 where
  pub number : ℕ
  pub values : List Float

-- 0 refused, 1 straight, 2 corner with the centre, 3 branch with the centre and δ (01, Forms by place in the code)
abbrev pub case_of : Piece → Case
case_of Refused = record { number = 0; values = [] }
case_of Straight = record { number = 1; values = [] }
case_of (Corner z) = record { number = 2; values = z.xs ∷ z.ys ∷ [] }
case_of (Branch z e) = record { number = 3; values = z.xs ∷ z.ys ∷ e ∷ [] }

-- the corners by place: p0 top left, p1 bottom left, p2 bottom right, p3 top right (01, The piece in one cell)
module _ (p0 p1 p2 p3 : ℕ) where
  abbrev pub b : ℤ
  b = pos p3 -ℤ pos p0

  abbrev pub c : ℤ
  c = pos p1 -ℤ pos p0

  abbrev pub d : ℤ
  d = (pos p0 +ℤ pos p2) -ℤ (pos p1 +ℤ pos p3)

  abbrev pub s : ℤ
  s = pos (p0 * p2) -ℤ pos (p1 * p3)

  -- xs = −c/d and ys = −b/d (01, The piece in one cell)
  abbrev pub centre : Centre
  centre = record { xs = ratio (neg_ℤ c) d; ys = ratio (neg_ℤ b) d }

  -- both parts of the centre are from 0 to 1 (01, The piece in one cell)
  abbrev pub inside : Bool
  inside = within (neg_ℤ c) d && within (neg_ℤ b) d

  module _ (k : ℕ) where
    -- (2k+1)·d − 2s: zero where the level meets the saddle (01, The piece in one cell)
    abbrev pub excess : ℤ
    excess = (pos (2 * k + 1) *ℤ d) -ℤ (pos 2 *ℤ s)

    -- δ = ((2k+1)·d − 2s)/(2·d²) (01, The piece in one cell)
    abbrev pub delta : Float
    delta = ratio excess (pos 2 *ℤ (d *ℤ d))

    -- straight if d = 0, or where the saddle is met and the centre is outside; corner where it is met and the centre is inside; else a branch (01, The piece in one cell)
    unfoldable pub piece_of : Case
    piece_of =
        cond (is_zero d) (case_of Straight)
        (cond (is_zero excess) (cond inside (case_of (Corner centre)) (case_of Straight))
        (case_of (Branch centre delta)))

-- an answer with its piece's number and values
pub record Told : Type 0 where
  pub answer : Answer
  pub piece : Case

abbrev pub told : Found → Told
told f = record { answer = f.answer; piece = case_of f.piece }

module _ (P : Picture) (k x y : ℕ) where
  -- the place of the cell's top left sample (01, The piece in one cell)
  abbrev pub cell_at : ℕ
  cell_at = y * P.w + x

  abbrev pub is_cell : Bool
  is_cell = ltb (x + 1) P.w && ltb (y + 1) P.h

  -- an edgel of the cell is crossed at k (01, Numbers for a refused call, 10)
  abbrev pub met : Bool
  met =
      crossed (high P k) P.w (out P.w South cell_at)
      || (crossed (high P k) P.w (out P.w East cell_at)
      || (crossed (high P k) P.w (out P.w North cell_at)
      || crossed (high P k) P.w (out P.w West cell_at)))

module _ (L : Layout) (P : Picture) (k x y : ℕ) where
  -- 1 2 3 11 10 (01, Numbers for a refused call)
  abbrev pub piece_rows : List Row
  piece_rows = level_rows L P (k ∷ []) ++ (row 11 (not (is_cell P k x y)) ∷ row 10 (not (met P k x y)) ∷ [])

  abbrev pub piece_verdict : Verdict
  piece_verdict = verdict piece_rows

  -- refused, the case that says so (01, Numbers for a refused call)
  abbrev pub piece_answer : Told
  piece_answer =
      record {
        answer = answer piece_verdict 0 0;
        piece = afterwards piece_verdict (case_of Refused)
            (piece_of (at P (cell_at P k x y)) (at P ((cell_at P k x y) + P.w)) (at P ((cell_at P k x y) + P.w + 1)) (at P ((cell_at P k x y) + 1)) k);
      }
