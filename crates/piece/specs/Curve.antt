-- The piece of a curved cell, with d made positive: what the code decides and divides. Assumes nothing.
-- Definitions: `over` a quotient with a positive divisor; `curved_of` corner, straight or branch from the numerators of the centre, the excess and the size of d; `term` one side of the saddle's
--   test; `mixed` some of four corners are high and some low; `corners_at` the corners of a cell;
--   `strict_up_to`, `strict_within` a quotient lies strictly between 0 and 1; `above` a whole number is above 0.
use Rattle.std.specs.Prelude.{Bool, false, ◌&&◌, ◌||◌, cond, List, ℕ, suc, ◌+◌, ◌*◌, ltb, ℤ, pos, negsuc, neg_ℤ, get_or, Float}
use Rattle.std.specs.Float.{binary64}
use Rattle.std.specs.Float.Ieee.{div, of_int}
use Rattle.tally.specs.Tally.{differ}
use Rattle.piece.specs.declared.Corners.{Corners}
use Rattle.piece.specs.declared.Piece.TheVariants.{Straight, Corner, Branch}
use Rattle.piece.specs.Piece.{is_zero, up_to, Case, case_of}

-- one division of exact whole numbers
unfoldable pub over : ℤ → ℕ → Float
over z m = div binary64 (of_int binary64 z) (of_int binary64 (pos m))

-- x and y over m are the centre, e the excess, m the size of d (01, The piece in one cell)
unfoldable pub curved_of : ℤ → ℤ → ℤ → ℕ → Case
curved_of x y e m =
    cond (is_zero e) (cond (up_to x m && up_to y m) (case_of (Corner (record { xs = over x m; ys = over y m }))) (case_of Straight))
    (case_of (Branch (record { xs = over x m; ys = over y m }) (over e (2 * (m * m)))))

-- (2k+1)·d > 2s has this on either side, with each product where it is positive (01, Following a line)
abbrev pub term : ℕ → ℕ → ℕ → ℕ → ℕ → ℕ
term k a b c d = (2 * k + 1) * (a + b) + 2 * (c * d)

-- one of the four sides has a high and a low end
abbrev pub mixed : Bool → Bool → Bool → Bool → Bool
mixed h0 h1 h2 h3 = differ h1 h2 || (differ h3 h2 || (differ h0 h3 || differ h0 h1))

-- p0 top left, p1 bottom left, p2 bottom right, p3 top right of the cell at the place t (01, The piece in one cell)
abbrev pub corners_at : ℕ → List ℕ → ℕ → Corners
corners_at w px t = record { p0 = get_or px t 0; p1 = get_or px (t + w) 0; p2 = get_or px (t + w + 1) 0; p3 = get_or px (t + 1) 0 }

-- the quotient n/m lies strictly between 0 and 1, decided in whole numbers as `within` decides it with the ends
abbrev pub strict_up_to : ℤ → ℕ → Bool
strict_up_to (pos n) m = ltb 0 n && ltb n m
strict_up_to (negsuc n) m = false

abbrev pub strict_within : ℤ → ℤ → Bool
strict_within n (pos m) = strict_up_to n m
strict_within n (negsuc m) = strict_up_to (neg_ℤ n) (suc m)

-- a whole number is above 0
abbrev pub above : ℤ → Bool
above (pos n) = ltb 0 n
above (negsuc n) = false
