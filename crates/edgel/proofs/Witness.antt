-- Demand 3's counting at one small outline, worked out: what an edit of a definition makes false shows here. Assumes nothing.
-- Definitions: `ring` the outline 6 9 8 3 around the centre of a picture of 3 by 3.
-- Main laws: `ring_between` two neighbours in a row differ exactly if it passes between them; `ring_both_ways` along the row and along the column it counts the same for each sample; `ring_lines` only the centre has an
--   odd number of outlines that count odd.
use mathlib.Core.Path.{◌≡◌, refl}
use mathlib.Core.List.{List, [], ◌∷◌}
use Prim.Native.Nat.{ℕ, ◌+◌, ◌/◌, ◌%◌}
use Rattle.tally.specs.Tally.{one, odd, differ, build, count, tally, stands}
use Rattle.edgel.specs.Edgel.{across}
use Rattle.edgel.specs.Beside.{west_of, north_of, odd_west, odd_north, odd_lines}

abbrev pub ring : List ℕ
ring = 6 ∷ 9 ∷ 8 ∷ 3 ∷ []

pub ring_between : build (λ x. one (differ (odd_west 3 ring x 1) (odd_west 3 ring (x + 1) 1))) 0 2 ≡ build (λ x. one (stands (across 3 x 1) ring)) 0 2
unfolding build count tally west_of
ring_between = refl

pub ring_both_ways : build (λ i. one (odd_north 3 ring (i % 3) (i / 3))) 0 9 ≡ build (λ i. one (odd_west 3 ring (i % 3) (i / 3))) 0 9
unfolding build tally west_of north_of
ring_both_ways = refl

pub ring_lines : build (λ i. one (odd (odd_lines 3 (ring ∷ []) (i % 3) (i / 3)))) 0 9 ≡ 0 ∷ 0 ∷ 0 ∷ 0 ∷ 1 ∷ 0 ∷ 0 ∷ 0 ∷ 0 ∷ []
unfolding build tally west_of odd_lines
ring_lines = refl
