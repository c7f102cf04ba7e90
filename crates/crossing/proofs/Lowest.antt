-- num/den is gap/span in lowest terms, for every picture, level and code: the gap is odd, so never 0. Assumes nothing.
-- Definitions: `common` what gap and span have in common.
-- Main laws: `num_back`, `den_back` gap and span from num and den; `num_few`, `den_few` num and den are no greater; `same_fraction` the two fractions are equal, by cross-multiplication; `no_common` num and den have no common
--   divisor but 1; `only_pair` no other such pair is equal to gap/span.
use mathlib.Core.Path.{◌≡◌}
use Prim.Native.Nat.{ℕ, ◌*◌, ◌≤◌, ◌<◌}
use native.Mathlib.Nat.{div-le_self}
use native.Mathlib.Omega.{arith}
use Rattle.matte.specs.Picture.{Picture}
use Rattle.ratio.specs.Lowest.{gcd}
use Rattle.ratio.proofs.Divisor.{gcd_pos}
use Rattle.ratio.proofs.Reduced.{Apart, times_num, times_den, lowest_equal, lowest_apart, lowest_only}
use Rattle.crossing.specs.Crossing.{gap, span, num, den}

module _ (P : Picture) (k c : ℕ) where
  abbrev pub common : ℕ
  common = gcd (gap P k c) (span P k c)

  pub gap_pos : 0 < gap P k c
  unfolding gap
  gap_pos = omega arith

  pub common_pos : 0 < common
  common_pos = gcd_pos (gap P k c) (span P k c) gap_pos

  pub num_back : common * num P k c ≡ gap P k c
  unfolding num
  num_back = times_num (gap P k c) (span P k c)

  pub den_back : common * den P k c ≡ span P k c
  unfolding den
  den_back = times_den (gap P k c) (span P k c)

  pub num_few : num P k c ≤ gap P k c
  unfolding num
  num_few = div-le_self (gap P k c) common

  pub den_few : den P k c ≤ span P k c
  unfolding den
  den_few = div-le_self (span P k c) common

  -- LAW: num/den = gap/span (02, R-5)
  pub same_fraction : num P k c * span P k c ≡ gap P k c * den P k c
  unfolding num den
  same_fraction = lowest_equal (gap P k c) (span P k c)

  -- LAW: in lowest terms (02, R-5)
  pub no_common : Apart (num P k c) (den P k c)
  unfolding num den
  no_common = lowest_apart (gap P k c) (span P k c) gap_pos

  -- LAW: no other fraction is both (02, R-5)
  pub only_pair : (n d : ℕ) → Apart n d → n * span P k c ≡ gap P k c * d → (n ≡ num P k c) × (d ≡ den P k c)
  unfolding num den
  only_pair = lowest_only (gap P k c) (span P k c) gap_pos
