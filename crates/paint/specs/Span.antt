-- Parts of a list and of a row, as the code goes through them. Assumes nothing.
-- Definitions: `whole` the line that a list starts with; `in_span` a horizontal code whose place is among the x places from lo on.
use Rattle.std.specs.Prelude.{Bool, ◌&&◌, List, [], ◌∷◌, ℕ, ◌+◌, ltb, leb}
use Rattle.matte.specs.Layout.{Layout}
use Rattle.edgel.specs.Edgel.{horizontal, first}
use Rattle.paint.specs.Part.{rest}

-- the first word, and those before the next flagged one (01, Framing, membership, painting)
unfoldable pub whole : Layout → List ℕ → List ℕ
whole L [] = []
whole L (u ∷ ws) = u ∷ rest L ws

-- left of column x on the row that starts at the place lo (01, Framing, membership, painting)
unfoldable pub in_span : ℕ → ℕ → ℕ → Bool
in_span lo x c = horizontal c && (leb lo (first c) && ltb (first c) (lo + x))
