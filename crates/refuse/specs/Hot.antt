-- Refusals 4, 17, 18 and 19: which border sample differs from sample 0, and on which edge it is. Assumes nothing.
-- Definitions: `is_hot` a border sample differs from sample 0; `hot` the place of the first that does; `edge` the refusal's number by the edge that a place is on; `edge_row` the row of one edge;
--   `border_rows` the rows 4 17 18 19.
use Rattle.std.specs.Prelude.{Bool, not, ◌&&◌, cond, List, [], ◌∷◌, ℕ, ◌+◌, ◌/◌, ◌%◌, eqb, ltb}
use Rattle.tally.specs.Tally.{first_from}
use Rattle.matte.specs.Picture.{Picture, size, at, on_border}
use Rattle.refuse.specs.Refusal.{Row, row_at}

-- 4 top row, 17 bottom row, 18 left column, 19 right column, a corner counting as its row: the number for the border place y·w + x (02, R-1)
abbrev pub edge : ℕ → ℕ → ℕ → ℕ
edge w h i = cond (eqb (i / w) 0) 4 (cond (eqb (i / w + 1) h) 17 (cond (eqb (i % w) 0) 18 19))

module _ (P : Picture) where
  -- the place is on the border and its sample differs from sample 0 (02, R-1)
  abbrev pub is_hot : ℕ → Bool
  is_hot i = on_border P.w P.h i && not (eqb (at P i) (at P 0))

  -- the index of the first border sample, row by row, that differs from sample 0; w·h with none (02, R-1)
  unfoldable pub hot : ℕ
  hot = first_from is_hot 0 (size P)

  -- number n: a border sample differs from sample 0, and the first that does is on n's edge; its index is the place (02, R-1)
  abbrev pub edge_row : ℕ → Row
  edge_row n = row_at n (ltb hot (size P) && eqb (edge P.w P.h hot) n) hot

  -- 4 17 18 19, in the place that 4 had (02, R-1)
  abbrev pub border_rows : List Row
  border_rows = edge_row 4 ∷ edge_row 17 ∷ edge_row 18 ∷ edge_row 19 ∷ []
