-- Crossed edgels by the place where they start. Assumes nothing.
-- Definitions: `crossings` how many edgels are crossed at a level; `pair` how many of a sample's edgels to the right and below are crossed; `pair_at` the same at a place of a picture.
use Rattle.std.specs.Prelude.{List, ℕ, ◌+◌, ◌*◌, ltb, get_or}
use Rattle.tally.specs.Tally.{one, differ, sum}
use Rattle.matte.specs.Picture.{Picture, size}
use Rattle.outline.specs.Line.{cut_at}

-- how many edgels of the picture are crossed at k
unfoldable pub crossings : Picture → ℕ → ℕ
crossings P k = sum (λ c. one (cut_at P k c)) (2 * size P)

abbrev pub pair : ℕ → ℕ → ℕ → ℕ → ℕ
pair k a b c = one (differ (ltb k a) (ltb k b)) + one (differ (ltb k a) (ltb k c))

abbrev pub pair_at : List ℕ → ℕ → ℕ → ℕ → ℕ
pair_at px w k i = pair k (get_or px i 0) (get_or px (i + 1) 0) (get_or px (i + w) 0)
