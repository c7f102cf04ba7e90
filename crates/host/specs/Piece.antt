-- The piece as plain numbers, for hosts that have no enums with data. Assumes nothing.
-- Definitions: `first`, `second`, `third` a case's floats, +0 where it holds fewer; `told_piece` what is told of the piece call's answer, as one record of numbers.
use Rattle.std.specs.Prelude.{List, [], ◌∷◌, ℕ, pos, Float}
use Rattle.std.specs.Float.{binary64}
use Rattle.std.specs.Float.Ieee.{of_int}
use Rattle.piece.specs.Piece.{Told}
use Rattle.host.specs.declared.ToldPiece.{ToldPiece}

abbrev pub nought : Float
nought = of_int binary64 (pos 0)

abbrev pub first : List Float → Float
first [] = nought
first (x ∷ l) = x

abbrev pub second : List Float → Float
second [] = nought
second (x ∷ l) = first l

abbrev pub third : List Float → Float
third [] = nought
third (x ∷ l) = second l

-- the case by its number, 0 for refused, and its values (01, The piece in one cell)
abbrev pub told_piece : Told → ToldPiece
told_piece t =
    record {
      answer = t.answer;
      kind = t.piece.number;
      xs = first t.piece.values;
      ys = second t.piece.values;
      delta = third t.piece.values;
    }
