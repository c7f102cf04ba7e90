-- The edgels beside a sample: those left of it along its row and above it along its column. Assumes nothing.
-- Definitions: `west_of`, `north_of` the two tests on a code; `odd_west`, `odd_north` whether an odd number of a list of codes passes them;
--   `odd_lines` for how many lines an odd number does.
use Rattle.std.specs.Prelude.{Bool, not, ◌&&◌, List, [], ◌∷◌, ℕ, ◌+◌, eqb, ltb}
use Rattle.tally.specs.Tally.{one, odd, tally}
use Rattle.edgel.specs.Edgel.{horizontal, column, row}

-- horizontal, on row y, with its column below x (01, Framing, membership, painting)
unfoldable pub west_of : ℕ → ℕ → ℕ → ℕ → Bool
west_of w x y c = horizontal c && (eqb (row w c) y && ltb (column w c) x)

-- vertical, in column x, with its row below y (mission, demand 3)
unfoldable pub north_of : ℕ → ℕ → ℕ → ℕ → Bool
north_of w x y c = not (horizontal c) && (eqb (column w c) x && ltb (row w c) y)

abbrev pub odd_west : ℕ → List ℕ → ℕ → ℕ → Bool
odd_west w l x y = odd (tally (west_of w x y) l)

abbrev pub odd_north : ℕ → List ℕ → ℕ → ℕ → Bool
odd_north w l x y = odd (tally (north_of w x y) l)

-- how many of the lines count odd for the sample (mission, demand 3)
unfoldable pub odd_lines : ℕ → List (List ℕ) → ℕ → ℕ → ℕ
odd_lines w [] x y = 0
odd_lines w (l ∷ ls) x y = one (odd_west w l x y) + odd_lines w ls x y
