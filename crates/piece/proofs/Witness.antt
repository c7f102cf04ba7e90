-- The cases of a piece and one surface, worked out: what an edit of either makes false shows here. Assumes nothing.
-- Definitions: `plain` a whole number that is not negative, as a natural.
-- Main laws: `case_numbers` the four cases are 0, 1, 2, 3; `corner_heights` the surface of a cell with 10, 20, 30 and 40 at its corners has these at them, and 25 in the middle, with 4 cleared.
use mathlib.Core.Path.{◌≡◌, refl}
use mathlib.Core.List.{[], ◌∷◌}
use Prim.Native.Nat.{ℕ}
use lib.IntN.{ℤ, pos, negsuc}
use lib.Ieee.{Float}
use Rattle.piece.specs.declared.Centre.{Centre}
use Rattle.piece.specs.declared.Piece.TheVariants.{Refused, Straight, Corner, Branch}
use Rattle.piece.specs.Piece.{case_of}
use Rattle.piece.specs.Surface.{height}

abbrev plain : ℤ → ℕ
plain (pos n) = n
plain (negsuc n) = 0

pub case_numbers : (z : Centre) (e : Float) → (case_of Refused).number ∷ (case_of Straight).number ∷ (case_of (Corner z)).number ∷ (case_of (Branch z e)).number ∷ [] ≡ 0 ∷ 1 ∷ 2 ∷ 3 ∷ []
case_numbers z e = refl

-- top left, bottom left, bottom right, top right
pub corner_heights : plain (height 10 20 30 40 (pos 1) (pos 0) (pos 0))
    ∷ plain (height 10 20 30 40 (pos 1) (pos 0) (pos 1))
    ∷ plain (height 10 20 30 40 (pos 1) (pos 1) (pos 1))
    ∷ plain (height 10 20 30 40 (pos 1) (pos 1) (pos 0))
    ∷ plain (height 10 20 30 40 (pos 2) (pos 1) (pos 1))
    ∷ []
    ≡ 10 ∷ 20 ∷ 30 ∷ 40 ∷ 100 ∷ []
corner_heights = refl
