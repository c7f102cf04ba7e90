-- Positions along a row, by the fraction of the way that the crossing call answers, in lowest terms. Assumes nothing.
-- Definitions: `position P k c` the numerator of column + num/den over den, for the crossing of level k on the horizontal edgel c. Two positions are compared by cross-multiplication.
-- Main laws: `key_is_position` on a row the tree's keys are ordered as the positions; `left_is_position` the tree's strictly left is a smaller position; `position_once` no two crossings of a row have one position.
use mathlib.Core.Path.{◌≡◌, sym, ap, ap₂, ◌∙◌}
use mathlib.Core.Bool.{Bool, true, ◌&&◌}
use Prim.Native.Nat.{ℕ, ◌+◌, ◌*◌, ◌<◌}
use native.Mathlib.Nat.{mul_comm, mul_left_comm, mul-add, mul-pos, mul-mul-mul_comm, mul-lt-mul_of_pos_left, lt_of_mul-lt-mul_left}
use lib.Dec.{eqb, ltb}
use borrow.Author.Tests.{eq-eqb, ltb-true, lt-ltb}
use Rattle.tally.proofs.Test.{iff}
use Rattle.matte.specs.Picture.{Picture}
use Rattle.edgel.specs.Edgel.{horizontal, column, row}
use Rattle.crossing.specs.Crossing.{gap, span, num, den}
use Rattle.crossing.proofs.Lowest.{common, common_pos, num_back, den_back}
use Rattle.outline.specs.Line.{cut_at}
use Rattle.enclosure.specs.Position.{key, on_left}
use Rattle.enclosure.proofs.Fraction.{over, key_order, key_once}
use Rattle.enclosure.proofs.Fraction as Fraction

-- column + num/den = position/den
abbrev pub position : Picture → ℕ → ℕ → ℕ
position P k c = column P.w c * den P k c + num P k c

-- ---- the tree's fractions, which are not reduced: both parts times what they have in common
module _ (P : Picture) (k c : ℕ) where
  over_back : over P k c ≡ common P k c * position P k c
  unfolding gap span
  over_back =
      let g = common P k c in
      let x = column P.w c in
      ap₂ (λ (a b : ℕ). x * a + b) (sym (den_back P k c)) (sym (num_back P k c)) ∙ ap (λ (a : ℕ). a + g * num P k c) (mul_left_comm x g (den P k c)) ∙ sym (mul-add g (x * den P k c) (num P k c))

  span_back : Fraction.span P c ≡ common P k c * den P k c
  unfolding gap span
  span_back = sym (den_back P k c)

-- two such products have one factor in common, that of both
module _ (P : Picture) (j k d c : ℕ) where
  abbrev both : ℕ
  both = common P j d * common P k c

  both_pos : 0 < both
  both_pos = mul-pos (common_pos P j d) (common_pos P k c)

  left_times : over P j d * Fraction.span P c ≡ both * (position P j d * den P k c)
  left_times = ap₂ (λ (a b : ℕ). a * b) (over_back P j d) (span_back P k c) ∙ mul-mul-mul_comm (common P j d) (position P j d) (common P k c) (den P k c)

  right_times : over P k c * Fraction.span P d ≡ both * (position P k c * den P j d)
  right_times =
      ap₂ (λ (a b : ℕ). a * b) (over_back P k c) (span_back P j d)
      ∙ mul-mul-mul_comm (common P k c) (position P k c) (common P j d) (den P j d)
      ∙ ap (λ (m : ℕ). m * (position P k c * den P j d)) (mul_comm (common P k c) (common P j d))

less_times : (m x y : ℕ) → 0 < m → ltb (m * x) (m * y) ≡ ltb x y
less_times m x y p =
    iff (λ e. lt-ltb x y (lt_of_mul-lt-mul_left m (ltb-true (m * x) (m * y) e))) (λ e. lt-ltb (m * x) (m * y) (mul-lt-mul_of_pos_left (ltb-true x y e) p))

-- the crossings of level j on d and of level k on c, both horizontal and on one row
module _ (P : Picture) (W j k d c : ℕ) (a : j < W) (b : k < W) (g : horizontal d ≡ true) (p : cut_at P j d ≡ true) (f : horizontal c ≡ true) (o : cut_at P k c ≡ true)
    (r : row P.w d ≡ row P.w c) where
  pub key_is_position : ltb (key P W j d) (key P W k c) ≡ ltb (position P j d * den P k c) (position P k c * den P j d)
  key_is_position =
      key_order P W j k d c a b g p f o r
      ∙ ap₂ ltb (left_times P j k d c) (right_times P j k d c)
      ∙ less_times (both P j k d c) (position P j d * den P k c) (position P k c * den P j d) (both_pos P j k d c)

  pub left_is_position : on_left P W j k c d ≡ ltb (position P j d * den P k c) (position P k c * den P j d)
  unfolding on_left
  left_is_position =
      ap₂ (λ (x y : Bool). x && (y && ltb (key P W j d) (key P W k c))) g (eq-eqb (row P.w d) (row P.w c) r) ∙ key_is_position

  pub position_once : position P j d * den P k c ≡ position P k c * den P j d → (d ≡ c) × (j ≡ k)
  position_once e = key_once P W j k d c a b g p f o r (left_times P j k d c ∙ ap (λ (x : ℕ). both P j k d c * x) e ∙ sym (right_times P j k d c))
