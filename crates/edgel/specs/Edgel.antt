-- Edgels by their codes; which are crossed, and with which heading. Assumes nothing.
-- Definitions: `across`, `down` the code of the edgel that starts at (x, y); `horizontal`, `first`, `second`, `column`, `row` what a code says; `edgel` a code names an edgel of a size;
--   `crossed` its ends are one high, one low; `cut` both; `heading_at` the heading of the crossing. `H` says which places are high.
use Rattle.std.specs.Prelude.{Bool, true, false, ◌&&◌, cond, ℕ, ◌+◌, ◌*◌, ◌/◌, ◌%◌, eqb, ltb}
use Rattle.tally.specs.Tally.{differ}
use Rattle.edgel.specs.declared.Heading.{Heading}
use Rattle.edgel.specs.declared.Heading.TheVariants.{South, East, North, West}

-- the code is 2·(y·w + x), and one more if vertical (01, Picture, levels, edgels)
abbrev pub across : ℕ → ℕ → ℕ → ℕ
across w x y = 2 * (y * w + x)

abbrev pub down : ℕ → ℕ → ℕ → ℕ
down w x y = 2 * (y * w + x) + 1

abbrev pub horizontal : ℕ → Bool
horizontal c = eqb (c % 2) 0

-- the place of the left or top end, and of the right or bottom end (01, Picture, levels, edgels)
abbrev pub first : ℕ → ℕ
first c = c / 2

abbrev pub second : ℕ → ℕ → ℕ
second w c = cond (horizontal c) (c / 2 + 1) (c / 2 + w)

-- column and row of the left or top end
abbrev pub column : ℕ → ℕ → ℕ
column w c = c / 2 % w

abbrev pub row : ℕ → ℕ → ℕ
row w c = c / 2 / w

-- horizontal: x + 1 < w, on a row of the picture; vertical: the place below is in the picture (01, Picture, levels, edgels)
unfoldable pub edgel : ℕ → ℕ → ℕ → Bool
edgel w h c = cond (horizontal c) (ltb (column w c + 1) w && ltb (first c) (w * h)) (ltb (first c + w) (w * h))

-- one end is high and the other low (01, Picture, levels, edgels)
unfoldable pub crossed : (ℕ → Bool) → ℕ → ℕ → Bool
crossed H w c = differ (H (first c)) (H (second w c))

-- an edgel of the size that is crossed
unfoldable pub cut : (ℕ → Bool) → ℕ → ℕ → ℕ → Bool
cut H w h c = edgel w h c && crossed H w c

-- high ground at the left hand: horizontal with its left end low is S, else N; vertical with its top end high is E, else W (01, Following a line)
abbrev pub heading_of : Bool → Bool → Heading
heading_of true false = South
heading_of true true = North
heading_of false true = East
heading_of false false = West

unfoldable pub heading_at : (ℕ → Bool) → ℕ → Heading
heading_at H c = heading_of (horizontal c) (H (first c))
