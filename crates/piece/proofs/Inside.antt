-- The centre of a corner lies strictly inside its cell: a part equal to 0 or 1 would make the saddle's height a sample's. Assumes nothing.
-- Main laws: `sides_differ` where the level meets the saddle no side of the cell has equal ends; `corner_inside` both parts of a corner's centre are strictly between 0 and 1.
use mathlib.Core.Path.{◌≡◌, sym, ap, ◌∙◌}
use mathlib.Core.Bool.{true}
use Prim.Native.Nat.{ℕ, suc, ◌+◌, ◌-◌, ◌*◌, ◌≤◌, ◌<◌}
use native.Mathlib.Nat.{eq_of_mul-eq-mul_right}
use native.Mathlib.Omega.{arith}
use lib.Dec.{ltb}
use lib.IntN.{ℤ, pos, neg_ℤ, ◌-ℤ◌, neg_ℤ-neg_ℤ}
use borrow.Author.Tests.{lt-ltb, ltb-true, ltb-false, leb-true}
use Rattle.tally.proofs.Test.{by_test, no, and_1, and_2, both}
use Rattle.piece.specs.Piece.{up_to, within, b, c, d, piece_of}
use Rattle.piece.specs.Curve.{term, strict_up_to, strict_within}
use Rattle.piece.proofs.Minus.{minus_lt, minus_ge, minus_zero_lem, minus_equal, neg_minus}
use Rattle.piece.proofs.Bend.{excess_is, up_lt, up_ge}
use Rattle.piece.proofs.Cases.{excess_zero, corner_told}

-- an odd number and an even one
odd_even : (k p n : ℕ) → (2 * k + 1) * suc n ≡ 2 * p * suc n → ⊥
odd_even k p n e = omega (arith, eq_of_mul-eq-mul_right (suc n) (omega arith) (2 * k + 1) (2 * p) e)

flat : (k p a b : ℕ) → (2 * k + 1) * a + 2 * p * b ≡ (2 * k + 1) * b + 2 * p * a → a ≡ b
flat k p a b e =
    by_test (ltb a b)
    (λ t.
    let l : a < b = ltb-true a b t in
    let n : b ≡ a + suc (b - suc a) = omega arith in
    absurd (odd_even k p (b - suc a) (step k p a b (b - suc a) n e)))
    (λ t.
    let g : b ≤ a = ltb-false a b t in
    by_test (ltb b a)
    (λ u.
    let l : b < a = ltb-true b a u in
    let n : a ≡ b + suc (a - suc b) = omega arith in
    absurd (odd_even k p (a - suc b) (step k p b a (a - suc b) n (sym e))))
    (λ u.
    let l : a ≤ b = ltb-false b a u in
    omega arith))
  where
    step : (k p a b n : ℕ) → b ≡ a + suc n → (2 * k + 1) * a + 2 * p * b ≡ (2 * k + 1) * b + 2 * p * a → (2 * k + 1) * suc n ≡ 2 * p * suc n
    step k p a b n q e = omega (arith, rw q at e)

-- no side of the cell has equal ends
pub record SidesDiffer (p0 p1 p2 p3 : ℕ) : Type 0 where
  pub west : p0 ≡ p1 → ⊥
  pub south : p1 ≡ p2 → ⊥
  pub east : p3 ≡ p2 → ⊥
  pub north : p0 ≡ p3 → ⊥

pub sides_differ : (p0 p1 p2 p3 k : ℕ) → term k p0 p2 p1 p3 ≡ term k p1 p3 p0 p2 → (p0 + p2 ≡ p1 + p3 → ⊥) → SidesDiffer p0 p1 p2 p3
sides_differ p0 p1 p2 p3 k e z =
    record {
      west = λ q. z (omega (arith, flat k p1 p2 p3 (omega (arith, rw q at e))));
      south = λ q. z (omega (arith, flat k p2 p0 p3 (omega (arith, rw q at e))));
      east = λ q. z (omega (arith, flat k p2 p0 p1 (omega (arith, rw q at e))));
      north = λ q. z (omega (arith, flat k p3 p2 p1 (omega (arith, rw q at e))));
    }

strict_up : (a b m : ℕ) → up_to (pos a -ℤ pos b) m ≡ true → (a ≡ b → ⊥) → (a ≡ b + m → ⊥) → strict_up_to (pos a -ℤ pos b) m ≡ true
strict_up a b m u x y =
    by_test (ltb a b)
    (λ t. no u (sym (up_lt a b m (ltb-true a b t))))
    (λ t.
    let l : b ≤ a = ltb-false a b t in
    let g : a - b ≤ m = leb-true (a - b) m (up_ge a b m l ∙ u) in
    let s : 0 < a - b = omega arith in
    let r : a - b < m = omega arith in
    ap (λ (z : ℤ). strict_up_to z m) (minus_ge a b l) ∙ both (lt-ltb 0 (a - b) s) (lt-ltb (a - b) m r))

-- a part of the centre that is neither 0 nor 1
strict_part : (p q i j : ℕ) → (i ≡ j → ⊥) → within (neg_ℤ (pos q -ℤ pos p)) (pos i -ℤ pos j) ≡ true → (p ≡ q → ⊥) → (p + j ≡ i + q → ⊥)
    → strict_within (neg_ℤ (pos q -ℤ pos p)) (pos i -ℤ pos j) ≡ true
strict_part p q i j z u x y =
    by_test (ltb i j)
    (λ t.
    let l : i < j = ltb-true i j t in
    let e = minus_lt i j l in
    let n = neg_ℤ-neg_ℤ (pos q -ℤ pos p) in
    ap (strict_within (neg_ℤ (pos q -ℤ pos p))) e
    ∙ ap (λ (v : ℤ). strict_up_to v (suc (j - suc i))) n
    ∙ strict_up q p (suc (j - suc i))
    (sym (ap (within (neg_ℤ (pos q -ℤ pos p))) e ∙ ap (λ (v : ℤ). up_to v (suc (j - suc i))) n) ∙ u)
    (λ r. x (sym r)) (λ r. y (omega arith)))
    (λ t.
    let l : j ≤ i = ltb-false i j t in
    let e = minus_ge i j l in
    let n = neg_minus q p in
    ap (strict_within (neg_ℤ (pos q -ℤ pos p))) e
    ∙ ap (λ (v : ℤ). strict_up_to v (i - j)) n
    ∙ strict_up p q (i - j) (sym (ap (within (neg_ℤ (pos q -ℤ pos p))) e ∙ ap (λ (v : ℤ). up_to v (i - j)) n) ∙ u) x (λ r. y (omega arith)))

-- the centre is strictly inside (01, The piece in one cell)
pub corner_inside : (p0 p1 p2 p3 k : ℕ) → (piece_of p0 p1 p2 p3 k).number ≡ 2
    → (strict_within (neg_ℤ (c p0 p1 p2 p3)) (d p0 p1 p2 p3) ≡ true) × (strict_within (neg_ℤ (b p0 p1 p2 p3)) (d p0 p1 p2 p3) ≡ true)
corner_inside p0 p1 p2 p3 k z =
    let T = corner_told p0 p1 p2 p3 k z in
    let f : p0 + p2 ≡ p1 + p3 → ⊥ = λ e. T.bent (minus_zero_lem (p0 + p2) (p1 + p3) e) in
    let e : term k p0 p2 p1 p3 ≡ term k p1 p3 p0 p2 =
    minus_equal _ _ (sym (excess_is p0 p1 p2 p3 k) ∙ excess_zero p0 p1 p2 p3 k T.meets) in
    let S = sides_differ p0 p1 p2 p3 k e f in
    let wx = within (neg_ℤ (c p0 p1 p2 p3)) (d p0 p1 p2 p3) in
    let wy = within (neg_ℤ (b p0 p1 p2 p3)) (d p0 p1 p2 p3) in (
      strict_part p0 p1 (p0 + p2) (p1 + p3) f (and_1 wx wy T.within) S.west (λ r. S.east (omega arith)),
      strict_part p0 p3 (p0 + p2) (p1 + p3) f (and_2 wx wy T.within) S.north (λ r. S.south (omega arith)),
    )
