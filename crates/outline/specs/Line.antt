-- The lines of one level. Assumes nothing.
-- Definitions: `cut_at` an edgel is crossed at a level; `line` the crossings of the line through a crossing, from it onward; `is_lead` a crossing is its line's first horizontal one; `lines` the lines of
--   a level in the order of their leads.
use Rattle.std.specs.Prelude.{Bool, List, ℕ, ◌*◌}
use Rattle.tally.specs.Tally.{pick}
use Rattle.orbit.specs.Orbit.{orbit, leads}
use Rattle.matte.specs.Picture.{Picture, size, high}
use Rattle.edgel.specs.Edgel.{horizontal, cut}
use Rattle.cell.specs.Turn.{next}

module _ (P : Picture) (k : ℕ) where
  -- the code names an edgel of the picture that is crossed at k (01, Picture, levels, edgels)
  abbrev pub cut_at : ℕ → Bool
  cut_at = cut (high P k) P.w P.h

  -- from the crossing c onward until the next step would be c again; there are fewer than 2·w·h edgels (01, Following a line)
  unfoldable pub line : ℕ → List ℕ
  line c = orbit (next P k) c (2 * size P) c

  -- c is horizontal and crossed, and no horizontal crossing of its line has a lower code (01, Following a line)
  unfoldable pub is_lead : ℕ → Bool
  is_lead c = leads (next P k) cut_at horizontal (2 * size P) c

  -- the lines in the order of their leads, row by row (01, Following a line)
  unfoldable pub lines : List (List ℕ)
  lines = pick (λ i. is_lead (2 * i)) (λ i. line (2 * i)) 0 (size P)
