-- One step of the loop that follows a line. Assumes nothing.
-- Definitions: `Gone` the state after a state, in a picture of any height; `is_east`, `is_west` a heading is that one.
use Rattle.std.specs.Prelude.{◌≡◌, Bool, true, false, List, ℕ}
use Rattle.matte.specs.Picture.{picture}
use Rattle.edgel.specs.declared.Heading.{Heading}
use Rattle.edgel.specs.declared.Heading.TheVariants.{South, East, North, West}
use Rattle.step.specs.declared.State.{State}
use Rattle.step.specs.Step.{after}

-- r is the state after s at level k
abbrev pub Gone : List ℕ → ℕ → ℕ → State → State → Type 0
Gone px w k s r = (h : ℕ) → r ≡ after (picture w h px) k s

abbrev pub is_east : Heading → Bool
is_east South = false
is_east East = true
is_east North = false
is_east West = false

abbrev pub is_west : Heading → Bool
is_west South = false
is_west East = false
is_west North = false
is_west West = true
