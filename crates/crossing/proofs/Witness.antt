-- Two crossings of the paper's example, worked out: what an edit of the fraction makes false shows here. Assumes nothing.
-- Definitions: `pair` the paper's 4 by 4 picture.
-- Main laws: `pair_fractions` code 8 is crossed at level 0 after 1/6 and at level 1 after 1/2, code 11 at level 0 after 5/6, as the paper's listing has them in lowest terms.
use mathlib.Core.Path.{◌≡◌, refl}
use mathlib.Core.List.{[], ◌∷◌}
use Rattle.matte.specs.Picture.{Picture, picture}
use Rattle.ratio.specs.Lowest.{greatest, gcd}
use Rattle.crossing.specs.Crossing.{gap, span, num, den}

abbrev pub pair : Picture
pair = picture 4 4 (0 ∷ 0 ∷ 0 ∷ 0 ∷ 0 ∷ 3 ∷ 0 ∷ 0 ∷ 0 ∷ 0 ∷ 3 ∷ 0 ∷ 0 ∷ 0 ∷ 0 ∷ 0 ∷ [])

pub pair_fractions : num pair 0 8 ∷ den pair 0 8 ∷ num pair 1 8 ∷ den pair 1 8 ∷ num pair 0 11 ∷ den pair 0 11 ∷ [] ≡ 1 ∷ 6 ∷ 1 ∷ 2 ∷ 5 ∷ 6 ∷ []
unfolding num den gap span gcd greatest
pair_fractions = refl
