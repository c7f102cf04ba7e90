-- The saddle's test of the follower, with both sides positive, is the paper's signed formula. Assumes nothing.
-- Main laws: `saddle_paper` the test is that (2k+1)·d − 2s is above 0, corners named from the entry; `saddle_place` by corners by place it has the other sign where the entry is east or west; `d_below` where the test is asked d
--   is negative; `saddle_height` so it is that the level is below the surface at the centre of the cell.
use mathlib.Core.Path.{◌≡◌, refl, sym, ap, ◌∙◌}
use mathlib.Core.Bool.{true, false}
use Prim.Native.Nat.{ℕ, zero, suc, ◌+◌, ◌-◌, ◌*◌, ◌≤◌, ◌<◌}
use native.Mathlib.Omega.{arith}
use lib.Dec.{ltb}
use lib.IntN.{ℤ, pos, negsuc, neg_ℤ, ◌-ℤ◌, ◌*ℤ◌}
use borrow.Author.Tests.{lt-ltb, le-ltb, ltb-true, ltb-false}
use Rattle.tally.proofs.Test.{by_test, no}
use Rattle.cell.specs.Turn.{saddle}
use Rattle.piece.specs.Piece.{b, c, d, excess}
use Rattle.piece.specs.Curve.{term, above}
use Rattle.piece.specs.Surface.{height}
use Rattle.piece.proofs.Minus.{minus_lt, minus_ge, neg_minus}
use Rattle.piece.proofs.Bend.{excess_is}
use Rattle.piece.proofs.Surface.{centre_level}

above_minus : (l r : ℕ) → ltb r l ≡ above (pos l -ℤ pos r)
above_minus l r =
    by_test (ltb l r)
    (λ t.
    let g : l < r = ltb-true l r t in
    le-ltb r l (omega arith) ∙ sym (ap above (minus_lt l r g)))
    (λ t.
    let g : r ≤ l = ltb-false l r t in
    by_test (ltb r l)
    (λ u.
    let m : r < l = ltb-true r l u in
    u ∙ sym (ap above (minus_ge l r g) ∙ lt-ltb 0 (l - r) (omega arith)))
    (λ u.
    let m : l ≤ r = ltb-false r l u in
    u ∙ sym (ap above (minus_ge l r g) ∙ le-ltb 0 (l - r) (omega arith))))

-- (2k+1)·d > 2s (01, Following a line)
pub saddle_paper : (k p0 p1 p2 p3 : ℕ) → saddle k (record { p0 = p0; p1 = p1; p2 = p2; p3 = p3 }) ≡ above (excess p0 p1 p2 p3 k)
unfolding saddle
saddle_paper k p0 p1 p2 p3 =
    let l : 2 * (p1 * p3) + (2 * k + 1) * (p0 + p2) ≡ term k p0 p2 p1 p3 = omega arith in
    let r : 2 * (p0 * p2) + (2 * k + 1) * (p1 + p3) ≡ term k p1 p3 p0 p2 = omega arith in
    ap (λ (n : ℕ). ltb n (2 * (p1 * p3) + (2 * k + 1) * (p0 + p2))) r
    ∙ ap (ltb (term k p1 p3 p0 p2)) l
    ∙ above_minus (term k p0 p2 p1 p3) (term k p1 p3 p0 p2)
    ∙ sym (ap above (excess_is p0 p1 p2 p3 k))

-- one corner further on, as a quarter turn of the entry names them, d and s change sign
pub saddle_place : (k p0 p1 p2 p3 : ℕ) → saddle k (record { p0 = p1; p1 = p2; p2 = p3; p3 = p0 }) ≡ above (neg_ℤ (excess p0 p1 p2 p3 k))
saddle_place k p0 p1 p2 p3 =
    let a : term k p1 p3 p2 p0 ≡ term k p1 p3 p0 p2 = omega arith in
    let b : term k p2 p0 p1 p3 ≡ term k p0 p2 p1 p3 = omega arith in
    saddle_paper k p1 p2 p3 p0
    ∙ ap above
    (excess_is p1 p2 p3 p0 k
    ∙ ap (λ (n : ℕ). pos n -ℤ pos (term k p2 p0 p1 p3)) a
    ∙ ap (λ (n : ℕ). pos (term k p1 p3 p0 p2) -ℤ pos n) b
    ∙ sym (ap neg_ℤ (excess_is p0 p1 p2 p3 k) ∙ neg_minus (term k p0 p2 p1 p3) (term k p1 p3 p0 p2)))

-- ---- against the surface at the centre
below_none : (n : ℕ) → above (neg_ℤ (pos n)) ≡ false
below_none zero = le-ltb 0 0 (omega arith)
below_none (suc n) = refl

above_times : (j : ℕ) (z : ℤ) → above (pos (suc j) *ℤ z) ≡ above z
above_times j (pos zero) = le-ltb 0 (suc j * 0) (omega arith) ∙ sym (le-ltb 0 0 (omega arith))
above_times j (pos (suc n)) = lt-ltb 0 (suc j * suc n) (omega arith) ∙ sym (lt-ltb 0 (suc n) (omega arith))
above_times j (negsuc n) = below_none (suc j * suc n)

above_scaled : (x z : ℤ) → above x ≡ true → above (x *ℤ z) ≡ above z
above_scaled (pos zero) z e = no e (le-ltb 0 0 (omega arith))
above_scaled (pos (suc j)) z e = above_times j z
above_scaled (negsuc j) z e = no e refl

pub d_below : (k p0 p1 p2 p3 : ℕ) → p0 ≤ k → k < p1 → p2 ≤ k → k < p3 → above (neg_ℤ (d p0 p1 p2 p3)) ≡ true
d_below k p0 p1 p2 p3 l0 l1 l2 l3 =
    ap above (neg_minus (p0 + p2) (p1 + p3)) ∙ sym (above_minus (p1 + p3) (p0 + p2)) ∙ lt-ltb (p0 + p2) (p1 + p3) (omega arith)

-- p1 and p3 high, p0 and p2 low: the test is that (2k+1)·d² is below 2·d² times the height at the centre
pub saddle_height : (k p0 p1 p2 p3 : ℕ) → p0 ≤ k → k < p1 → p2 ≤ k → k < p3
    → saddle k (record { p0 = p0; p1 = p1; p2 = p2; p3 = p3 })
    ≡ above (pos 2 *ℤ height p0 p1 p2 p3 (d p0 p1 p2 p3) (neg_ℤ (c p0 p1 p2 p3)) (neg_ℤ (b p0 p1 p2 p3)) -ℤ pos (2 * k + 1) *ℤ (d p0 p1 p2 p3 *ℤ d p0 p1 p2 p3))
saddle_height k p0 p1 p2 p3 l0 l1 l2 l3 =
    saddle_paper k p0 p1 p2 p3
    ∙ sym (above_scaled (neg_ℤ (d p0 p1 p2 p3)) (excess p0 p1 p2 p3 k) (d_below k p0 p1 p2 p3 l0 l1 l2 l3))
    ∙ ap above (sym (centre_level p0 p1 p2 p3 k))
