-- Medians of short lists, worked out: what an edit of the median makes false shows here. Assumes nothing.
-- Main laws: `medians_worked` of four samples the smaller of the middle two, of three the middle one, in whatever order they stand.
use mathlib.Core.Path.{◌≡◌, refl}
use mathlib.Core.List.{[], ◌∷◌, map}
use Rattle.tally.specs.Tally.{tally, first_from}
use Rattle.matte.specs.Layout.{eight}
use Rattle.frame.specs.Frame.{median}

pub medians_worked : map (median eight) ((4 ∷ 1 ∷ 3 ∷ 2 ∷ []) ∷ (5 ∷ 0 ∷ 7 ∷ []) ∷ (9 ∷ 9 ∷ 6 ∷ 6 ∷ []) ∷ []) ≡ 2 ∷ 5 ∷ 6 ∷ []
unfolding tally first_from median
medians_worked = refl
