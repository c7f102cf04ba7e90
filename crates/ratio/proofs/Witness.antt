-- Some fractions in lowest terms, worked out: what an edit of the definitions makes false shows here. Assumes nothing.
-- Main laws: `divisors` gcds of two numbers, one of them 0, 1, or a multiple; `fractions` 3/6 is 1/2, 5/6 stays, 45/105 is 3/7.
use mathlib.Core.Path.{◌≡◌, refl}
use mathlib.Core.List.{[], ◌∷◌}
use Rattle.ratio.specs.Lowest.{greatest, gcd, lowest}

pub divisors : gcd 6 0 ∷ gcd 0 6 ∷ gcd 0 0 ∷ gcd 1 6 ∷ gcd 3 6 ∷ gcd 6 3 ∷ gcd 45 105 ∷ gcd 509 510 ∷ [] ≡ 6 ∷ 6 ∷ 0 ∷ 1 ∷ 3 ∷ 3 ∷ 15 ∷ 1 ∷ []
unfolding gcd greatest
divisors = refl

pub fractions : (lowest 3 6).num ∷ (lowest 3 6).den ∷ (lowest 5 6).num ∷ (lowest 5 6).den ∷ (lowest 45 105).num ∷ (lowest 45 105).den ∷ [] ≡ 1 ∷ 2 ∷ 5 ∷ 6 ∷ 3 ∷ 7 ∷ []
unfolding gcd greatest
fractions = refl
