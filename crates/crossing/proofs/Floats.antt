-- The crossing's floats are those of the fraction before it was reduced: both quotients are one rational, rounded once. Assumes nothing.
-- Definitions: `unreduced_x`, `unreduced_y` the point by the fraction gap/span, as it was before R-5.
-- Main laws: `along_same` a coordinate moved by num/den is the one moved by gap/span; `x_same`, `y_same` so is the point of every crossed edgel whose span a float holds.
use mathlib.Core.Path.{◌≡◌, ap}
use mathlib.Core.Bool.{true, cond}
use Prim.Native.Nat.{ℕ, ◌^◌, ◌≤◌}
use native.Mathlib.Omega.{arith}
use lib.Ieee.{Float, binary64, add}
use Rattle.matte.specs.Picture.{Picture, high}
use Rattle.ratio.proofs.Quotient.{quotient_same}
use Rattle.edgel.specs.Edgel.{horizontal, column, crossed}
use Rattle.edgel.specs.Edgel as Edgel
use Rattle.crossing.specs.Crossing.{whole, along, gap, span, num, den, point_x, point_y}
use Rattle.crossing.proofs.Lowest.{num_few, den_few, same_fraction}
use Rattle.crossing.proofs.Between.{between, gap_span}

module _ (P : Picture) (k c : ℕ) where
  -- the coordinate along the edgel is moved by gap/span, the other is whole (01, Picture, levels, edgels)
  abbrev pub unreduced_x : Float
  unreduced_x = cond (horizontal c) (along (column P.w c) (gap P k c) (span P k c)) (whole (column P.w c))

  abbrev pub unreduced_y : Float
  unreduced_y = cond (horizontal c) (whole (Edgel.row P.w c)) (along (Edgel.row P.w c) (gap P k c) (span P k c))

  module _ (e : crossed (high P k) P.w c ≡ true) (few : span P k c ≤ 2 ^ 53) where
    pub along_same : (n : ℕ) → along n (num P k c) (den P k c) ≡ along n (gap P k c) (span P k c)
    unfolding along
    along_same n =
        let b = between P k c e in
        let s = gap_span P k c e in
        ap (λ (x : Float). add binary64 (whole n) x)
        (quotient_same (num P k c) (den P k c) (gap P k c) (span P k c) (omega (arith, num_few P k c)) (omega (arith, den_few P k c)) (omega arith) few (omega arith) (omega arith) (same_fraction P k c))

    -- LAW: bit for bit as before (02, R-5)
    pub x_same : point_x P k c ≡ unreduced_x
    x_same = ap (λ (f : Float). cond (horizontal c) f (whole (column P.w c))) (along_same (column P.w c))

    pub y_same : point_y P k c ≡ unreduced_y
    y_same = ap (λ (f : Float). cond (horizontal c) (whole (Edgel.row P.w c)) f) (along_same (Edgel.row P.w c))
