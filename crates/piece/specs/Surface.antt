-- The bilinear surface of a cell, in whole numbers. Assumes nothing.
-- Definitions: `height` the surface at a point, its denominator cleared.
use Rattle.std.specs.Prelude.{ℕ, ℤ, pos, ◌+ℤ◌, ◌-ℤ◌, ◌*ℤ◌}

-- at (u/m, v/m) from the top left corner, m² times the height: p0 top left, p1 bottom left, p2 bottom right, p3 top right, each weighed by the area between the point and the corner across (000, formula 2)
abbrev pub height : ℕ → ℕ → ℕ → ℕ → ℤ → ℤ → ℤ → ℤ
height p0 p1 p2 p3 m u v =
    pos p0 *ℤ ((m -ℤ u) *ℤ (m -ℤ v)) +ℤ pos p3 *ℤ (u *ℤ (m -ℤ v)) +ℤ pos p1 *ℤ ((m -ℤ u) *ℤ v) +ℤ pos p2 *ℤ (u *ℤ v)
