-- The saddle's test is the paper's signed formula: (2k+1)·d > 2s with d = p0+p2−p1−p3 and s = p0·p2−p1·p3. Assumes nothing.
-- Definitions: `d_of`, `s_of` the paper's d and s, signed.
-- Main laws: `saddle_right`, `right_saddle` the test holds exactly if (2k+1)·d > 2s; `saddle_left` it fails exactly otherwise, equality included; `d_negative` where p1 and p3 are high and p0 and p2
--   low, d is negative; `saddle_round` the test is the same from opposite entries.
use mathlib.Core.Path.{◌≡◌, ap, ◌∙◌}
use mathlib.Core.Bool.{true, false}
use Prim.Native.Nat.{ℕ, ◌+◌, ◌*◌, ◌≤◌, ◌<◌}
use native.Mathlib.Omega.{arith}
use lib.Dec.{ltb}
use lib.IntN.{ℤ, pos, ◌+ℤ◌, ◌-ℤ◌, ◌*ℤ◌}
use borrow.Author.Tests.{ltb-true, lt-ltb}
use Rattle.tally.proofs.Test.{by_test, no}
use Rattle.cell.specs.Turn.{Corners, saddle}
use Rattle.cell.proofs.Signed.{Is, is_pos, is_sub, is_mul, ◌<ℤ◌, is_less, less_is}

abbrev pub d_of : Corners → ℤ
d_of q = pos q.p0 +ℤ pos q.p2 -ℤ pos q.p1 -ℤ pos q.p3

abbrev pub s_of : Corners → ℤ
s_of q = pos q.p0 *ℤ pos q.p2 -ℤ pos q.p1 *ℤ pos q.p3

module _ (k : ℕ) (q : Corners) where
  d_is : Is (d_of q) (q.p0 + q.p2 + 0 + 0) (0 + q.p1 + q.p3)
  d_is =
      is_sub (pos q.p0 +ℤ pos q.p2 -ℤ pos q.p1) (pos q.p3) (q.p0 + q.p2 + 0) (0 + q.p1) q.p3 0
      (is_sub (pos q.p0 +ℤ pos q.p2) (pos q.p1) (q.p0 + q.p2) 0 q.p1 0 (is_pos (q.p0 + q.p2)) (is_pos q.p1))
      (is_pos q.p3)

  s_is : Is (s_of q) (q.p0 * q.p2 + 0) (0 + q.p1 * q.p3)
  s_is = is_sub (pos (q.p0 * q.p2)) (pos (q.p1 * q.p3)) (q.p0 * q.p2) 0 (q.p1 * q.p3) 0 (is_pos (q.p0 * q.p2)) (is_pos (q.p1 * q.p3))

  pub saddle_right : saddle k q ≡ true → pos 2 *ℤ s_of q <ℤ pos (2 * k + 1) *ℤ d_of q
  unfolding saddle
  saddle_right e =
      let h : 2 * (q.p0 * q.p2) + (2 * k + 1) * (q.p1 + q.p3) < 2 * (q.p1 * q.p3) + (2 * k + 1) * (q.p0 + q.p2) = ltb-true _ _ e in
      is_less (pos 2 *ℤ s_of q) (pos (2 * k + 1) *ℤ d_of q)
      (2 * (q.p0 * q.p2 + 0)) (2 * (0 + q.p1 * q.p3)) ((2 * k + 1) * (q.p0 + q.p2 + 0 + 0)) ((2 * k + 1) * (0 + q.p1 + q.p3))
      (is_mul 2 (s_of q) (q.p0 * q.p2 + 0) (0 + q.p1 * q.p3) s_is)
      (is_mul (2 * k + 1) (d_of q) (q.p0 + q.p2 + 0 + 0) (0 + q.p1 + q.p3) d_is)
      (omega arith)

  pub right_saddle : pos 2 *ℤ s_of q <ℤ pos (2 * k + 1) *ℤ d_of q → saddle k q ≡ true
  unfolding saddle
  right_saddle l =
      let h : 2 * (q.p0 * q.p2 + 0) + (2 * k + 1) * (0 + q.p1 + q.p3) < 2 * (0 + q.p1 * q.p3) + (2 * k + 1) * (q.p0 + q.p2 + 0 + 0) =
      less_is (pos 2 *ℤ s_of q) (pos (2 * k + 1) *ℤ d_of q)
      (2 * (q.p0 * q.p2 + 0)) (2 * (0 + q.p1 * q.p3)) ((2 * k + 1) * (q.p0 + q.p2 + 0 + 0)) ((2 * k + 1) * (0 + q.p1 + q.p3))
      (is_mul 2 (s_of q) (q.p0 * q.p2 + 0) (0 + q.p1 * q.p3) s_is)
      (is_mul (2 * k + 1) (d_of q) (q.p0 + q.p2 + 0 + 0) (0 + q.p1 + q.p3) d_is)
      l in
      lt-ltb (2 * (q.p0 * q.p2) + (2 * k + 1) * (q.p1 + q.p3)) (2 * (q.p1 * q.p3) + (2 * k + 1) * (q.p0 + q.p2)) (omega arith)

  pub saddle_left : saddle k q ≡ false → pos 2 *ℤ s_of q <ℤ pos (2 * k + 1) *ℤ d_of q → ⊥
  saddle_left e l = no (right_saddle l) e

  pub left_saddle : (pos 2 *ℤ s_of q <ℤ pos (2 * k + 1) *ℤ d_of q → ⊥) → saddle k q ≡ false
  left_saddle n = by_test (saddle k q) (λ e. absurd (n (saddle_right e))) (λ e. e)

  pub d_negative : k < q.p1 → k < q.p3 → q.p0 ≤ k → q.p2 ≤ k → d_of q <ℤ pos 0
  d_negative a b c d = is_less (d_of q) (pos 0) (q.p0 + q.p2 + 0 + 0) (0 + q.p1 + q.p3) 0 0 d_is (is_pos 0) (omega arith)

-- both entries of a saddle see the same two sums and the same two products
pub saddle_round : (k a b c d : ℕ) → saddle k (record { p0 = a; p1 = b; p2 = c; p3 = d }) ≡ saddle k (record { p0 = c; p1 = d; p2 = a; p3 = b })
unfolding saddle
saddle_round k a b c d =
    let x : 2 * (a * c) + (2 * k + 1) * (b + d) ≡ 2 * (c * a) + (2 * k + 1) * (d + b) = omega arith in
    let y : 2 * (b * d) + (2 * k + 1) * (a + c) ≡ 2 * (d * b) + (2 * k + 1) * (c + a) = omega arith in
    ap (λ (z : ℕ). ltb z (2 * (b * d) + (2 * k + 1) * (a + c))) x ∙ ap (λ (z : ℕ). ltb (2 * (c * a) + (2 * k + 1) * (d + b)) z) y
