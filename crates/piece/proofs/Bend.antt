-- The piece by its definition over whole numbers, and by the code's naturals. Assumes nothing.
-- Definitions: `piece_from` the piece from b, c, d and the excess.
-- Main laws: `excess_is` the excess as a difference of naturals; `up_lt`, `up_ge` the test of a part of the centre; `piece_flat`, `piece_over`, `piece_under` the piece where d is 0, above and below it;
--   `curved_branch`, `curved_out_x`, `curved_out_y`, `curved_corner` the cases of a curved cell.
use mathlib.Core.Path.{◌≡◌, refl, sym, ap, ◌∙◌}
use mathlib.Core.Bool.{true, false, ◌&&◌, cond}
use Prim.Native.Nat.{ℕ, suc, ◌+◌, ◌-◌, ◌*◌, ◌≤◌, ◌<◌}
use native.Mathlib.Omega.{arith}
use lib.Dec.{ltb, leb}
use lib.IntN.{ℤ, pos, negsuc, neg_ℤ, ◌+ℤ◌, ◌-ℤ◌, ◌*ℤ◌, neg_ℤ-neg_ℤ}
use lib.Ieee.{Float}
use borrow.Author.Tests.{ltb-true, ltb-false, eq-eqb, ne_eqb}
use Rattle.tally.proofs.Test.{by_test}
use Rattle.piece.specs.declared.Piece.TheVariants.{Straight, Corner, Branch}
use Rattle.piece.specs.Piece.{is_zero, ratio, up_to, within, b, c, d, s, excess, Case, case_of, piece_of}
use Rattle.piece.specs.Curve.{over, curved_of, term}
use Rattle.piece.proofs.Minus.{minus_lt, minus_ge, minus_zero_lem, neg_minus, plus_minus, times_minus}

-- (2k+1)·d − 2s
pub excess_is : (p0 p1 p2 p3 k : ℕ) → excess p0 p1 p2 p3 k ≡ pos (term k p0 p2 p1 p3) -ℤ pos (term k p1 p3 p0 p2)
excess_is p0 p1 p2 p3 k =
    ap (λ (z : ℤ). z -ℤ (pos 2 *ℤ (pos (p0 * p2) -ℤ pos (p1 * p3)))) (times_minus (2 * k + 1) (p0 + p2) (p1 + p3))
    ∙ ap (λ (z : ℤ). (pos ((2 * k + 1) * (p0 + p2)) -ℤ pos ((2 * k + 1) * (p1 + p3))) +ℤ z)
    (ap neg_ℤ (times_minus 2 (p0 * p2) (p1 * p3)) ∙ neg_minus (2 * (p0 * p2)) (2 * (p1 * p3)))
    ∙ plus_minus ((2 * k + 1) * (p0 + p2)) ((2 * k + 1) * (p1 + p3)) (2 * (p1 * p3)) (2 * (p0 * p2))

-- ---- parts of the centre
pub up_lt : (a b m : ℕ) → a < b → false ≡ up_to (pos a -ℤ pos b) m
up_lt a b m l = sym (ap (λ (z : ℤ). up_to z m) (minus_lt a b l))

pub up_ge : (a b m : ℕ) → b ≤ a → leb (a - b) m ≡ up_to (pos a -ℤ pos b) m
up_ge a b m l = sym (ap (λ (z : ℤ). up_to z m) (minus_ge a b l))

-- ---- the definition, by the sign of d
unfoldable piece_from : ℤ → ℤ → ℤ → ℤ → Case
piece_from bz cz dz ez =
    cond (is_zero dz) (case_of Straight)
    (cond (is_zero ez)
    (cond (within (neg_ℤ cz) dz && within (neg_ℤ bz) dz) (case_of (Corner (record { xs = ratio (neg_ℤ cz) dz; ys = ratio (neg_ℤ bz) dz }))) (case_of Straight))
    (case_of (Branch (record { xs = ratio (neg_ℤ cz) dz; ys = ratio (neg_ℤ bz) dz }) (ratio ez (pos 2 *ℤ (dz *ℤ dz))))))

piece_from_lem : (p0 p1 p2 p3 k : ℕ) → piece_of p0 p1 p2 p3 k ≡ piece_from (b p0 p1 p2 p3) (c p0 p1 p2 p3) (d p0 p1 p2 p3) (excess p0 p1 p2 p3 k)
unfolding piece_of piece_from
piece_from_lem p0 p1 p2 p3 k = refl

from_over : (bz cz ez : ℤ) (n : ℕ) → piece_from bz cz (pos (suc n)) ez ≡ curved_of (neg_ℤ cz) (neg_ℤ bz) ez (suc n)
unfolding piece_from curved_of over
from_over bz cz ez n = rw (ne_eqb (suc n) 0 (omega arith))

from_under : (bz cz ez : ℤ) (n : ℕ) → piece_from bz cz (negsuc n) ez ≡ curved_of (neg_ℤ (neg_ℤ cz)) (neg_ℤ (neg_ℤ bz)) ez (suc n)
unfolding piece_from curved_of over
from_under bz cz ez n = refl

module _ (p0 p1 p2 p3 k : ℕ) where
  abbrev ez : ℤ
  ez = pos (term k p0 p2 p1 p3) -ℤ pos (term k p1 p3 p0 p2)

  told : (dz : ℤ) → d p0 p1 p2 p3 ≡ dz → piece_of p0 p1 p2 p3 k ≡ piece_from (b p0 p1 p2 p3) (c p0 p1 p2 p3) dz ez
  told dz e =
      piece_from_lem p0 p1 p2 p3 k
      ∙ ap (λ (z : ℤ). piece_from (b p0 p1 p2 p3) (c p0 p1 p2 p3) z (excess p0 p1 p2 p3 k)) e
      ∙ ap (piece_from (b p0 p1 p2 p3) (c p0 p1 p2 p3) dz) (excess_is p0 p1 p2 p3 k)

  pub piece_flat : p0 + p2 ≡ p1 + p3 → case_of Straight ≡ piece_of p0 p1 p2 p3 k
  unfolding piece_from
  piece_flat e = sym (told (pos 0) (minus_zero_lem (p0 + p2) (p1 + p3) e))

  pub piece_over : p1 + p3 < p0 + p2 → curved_of (pos p0 -ℤ pos p1) (pos p0 -ℤ pos p3) ez (p0 + p2 - (p1 + p3)) ≡ piece_of p0 p1 p2 p3 k
  piece_over g =
      let n = p0 + p2 - suc (p1 + p3) in
      let e : p0 + p2 - (p1 + p3) ≡ suc n = omega arith in
      sym
      (told (pos (suc n)) (minus_ge (p0 + p2) (p1 + p3) (omega arith) ∙ ap pos e)
      ∙ from_over (b p0 p1 p2 p3) (c p0 p1 p2 p3) ez n
      ∙ ap (λ (z : ℤ). curved_of z (neg_ℤ (b p0 p1 p2 p3)) ez (suc n)) (neg_minus p1 p0)
      ∙ ap (λ (z : ℤ). curved_of (pos p0 -ℤ pos p1) z ez (suc n)) (neg_minus p3 p0)
      ∙ ap (curved_of (pos p0 -ℤ pos p1) (pos p0 -ℤ pos p3) ez) (sym e))

  pub piece_under : p0 + p2 < p1 + p3 → curved_of (pos p1 -ℤ pos p0) (pos p3 -ℤ pos p0) ez (p1 + p3 - (p0 + p2)) ≡ piece_of p0 p1 p2 p3 k
  piece_under g =
      let n = p1 + p3 - suc (p0 + p2) in
      let e : p1 + p3 - (p0 + p2) ≡ suc n = omega arith in
      sym
      (told (negsuc n) (minus_lt (p0 + p2) (p1 + p3) g)
      ∙ from_under (b p0 p1 p2 p3) (c p0 p1 p2 p3) ez n
      ∙ ap (λ (z : ℤ). curved_of z (neg_ℤ (neg_ℤ (b p0 p1 p2 p3))) ez (suc n)) (neg_ℤ-neg_ℤ (c p0 p1 p2 p3))
      ∙ ap (λ (z : ℤ). curved_of (pos p1 -ℤ pos p0) z ez (suc n)) (neg_ℤ-neg_ℤ (b p0 p1 p2 p3))
      ∙ ap (curved_of (pos p1 -ℤ pos p0) (pos p3 -ℤ pos p0) ez) (sym e))

-- ---- the cases of a curved cell
minus_not : (l r : ℕ) → (l ≡ r → ⊥) → is_zero (pos l -ℤ pos r) ≡ false
minus_not l r z =
    by_test (ltb l r)
    (λ t. ap is_zero (minus_lt l r (ltb-true l r t)))
    (λ t.
    let g : r ≤ l = ltb-false l r t in
    ap is_zero (minus_ge l r g) ∙ ne_eqb (l - r) 0 (λ q. z (omega arith)))

module _ (x y : ℤ) (l r m : ℕ) (f g : Float) (p : f ≡ over x m) (q : g ≡ over y m) where
  pub curved_branch : (l ≡ r → ⊥) → (e : Float) → e ≡ over (pos l -ℤ pos r) (2 * (m * m))
      → case_of (Branch (record { xs = f; ys = g }) e) ≡ curved_of x y (pos l -ℤ pos r) m
  unfolding curved_of
  curved_branch z e s = rw (p, q, s, minus_not l r z)

  module _ (z : l ≡ r) where
    met_zero : is_zero (pos l -ℤ pos r) ≡ true
    met_zero = ap is_zero (minus_zero_lem l r z) ∙ eq-eqb 0 0 refl

    pub curved_out_x : up_to x m ≡ false → case_of Straight ≡ curved_of x y (pos l -ℤ pos r) m
    unfolding curved_of
    curved_out_x u = rw (met_zero, u)

    pub curved_out_y : up_to x m ≡ true → up_to y m ≡ false → case_of Straight ≡ curved_of x y (pos l -ℤ pos r) m
    unfolding curved_of
    curved_out_y u v = rw (met_zero, u, v)

    pub curved_corner : up_to x m ≡ true → up_to y m ≡ true → case_of (Corner (record { xs = f; ys = g })) ≡ curved_of x y (pos l -ℤ pos r) m
    unfolding curved_of
    curved_corner u v = rw (p, q, met_zero, u, v)
