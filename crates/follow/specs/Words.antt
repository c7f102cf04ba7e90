-- How the words of a line are made and go in. Assumes nothing.
-- Definitions: `upper` the places above the last row; `pasted` a list with another one in it; `Base` what a level adds to its codes.
use Rattle.std.specs.Prelude.{◌≡◌, Bool, List, ◌++◌, ℕ, ◌+◌, ◌-◌, ◌*◌, ◌≤◌, length, take, drop}
use Rattle.matte.specs.Layout.{layout_of}
use Rattle.matte.specs.Picture.{Picture, size}

-- how many places are above the last row: no edgel that starts further on is crossed
abbrev pub upper : Picture → ℕ
upper P = size P - P.w

-- the list d, with the list f in it from the place n on
abbrev pub pasted : List ℕ → ℕ → List ℕ → List ℕ
pasted d n f = take n d ++ f ++ drop (n + length f) d

-- what level k adds to its codes; no word without its flag comes to 2^31
pub record Base (wide : Bool) (k base : ℕ) : Type 0 where
  pub is : base ≡ k * (layout_of wide).codes
  pub low : base + (layout_of wide).codes ≤ 2147483648
