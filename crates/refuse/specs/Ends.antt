-- What the search for a hot sample looks at. Serves contracts of inner functions. Assumes nothing.
-- Definitions: `other_at` the sample at a place is not v; `end_other` the place is the first or the last of its row, and its sample is not v.
use Rattle.std.specs.Prelude.{Bool, not, ◌&&◌, ◌||◌, List, ℕ, ◌+◌, ◌%◌, eqb, get_or}

abbrev pub other_at : List ℕ → ℕ → ℕ → Bool
other_at px v i = not (eqb (get_or px i 0) v)

abbrev pub end_other : ℕ → List ℕ → ℕ → ℕ → Bool
end_other w px v i = (eqb (i % w) 0 || eqb (i % w + 1) w) && other_at px v i
