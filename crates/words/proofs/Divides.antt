-- The last column, found by a product in place of a division: 2^33 / w + 1 times a number, and what is left of it modulo 2^33. Assumes nothing.
-- Main laws: `factor_least`, `factor_most` how large the factor is; `spread` a number of a full rows and x more, times the factor; `last_column` for a place of the picture
--   the remainder is at least the factor exactly if its column is not the last.
use mathlib.Core.Path.{◌≡◌, sym, ap, ◌∙◌}
use mathlib.Core.Bool.{true, false}
use Prim.Native.Nat.{ℕ, ◌+◌, ◌*◌, ◌-◌, ◌/◌, ◌%◌, ◌<◌, ◌≤◌}
use native.Mathlib.Nat.{mul-add, add-mul, mul_assoc, mul_comm, add_assoc, mod-lt, div-add-mod', le-div_iff_mul-le, mul-le-mul, mul-le-mul_left, mul-le-mul_right, lt_of_mul-lt-mul_right}
use native.Mathlib.Omega.{arith}
use lib.Arith.{digits_mod}
use lib.Dec.{leb, ltb}
use borrow.Author.Tests.{le-leb, lt-leb, ltb-true, ltb-false}
use Rattle.tally.proofs.Test.{by_test}
use Rattle.refuse.specs.Shape.{Sides}

module _ (w : ℕ) (l : 2 ≤ w) (m : w ≤ 2048) where
  pub factor_least : 4194304 ≤ 8589934592 / w
  factor_least = (le-div_iff_mul-le {k = w} {x = 4194304} {y = 8589934592} (omega arith)).1 (omega arith)

  pub factor_most : 8589934592 / w ≤ 4294967296
  factor_most = omega (arith, div-add-mod' 8589934592 w, mul-le-mul_left (8589934592 / w) l)

module _ (w q s : ℕ) (e : q * w + s ≡ 8589934592) (l : s ≤ w) where
  full : w * (q + 1) ≡ 8589934592 + (w - s)
  full = omega (arith, mul-add w q 1, mul_comm w q)

  pub spread : (a x : ℕ) → (a * w + x) * (q + 1) ≡ a * 8589934592 + (a * (w - s) + x * (q + 1))
  spread a x =
      add-mul (a * w) x (q + 1)
      ∙ ap (λ (z : ℕ). z + x * (q + 1)) (mul_assoc a w (q + 1) ∙ ap (λ (z : ℕ). a * z) full ∙ mul-add a 8589934592 (w - s))
      ∙ add_assoc (a * 8589934592) (a * (w - s)) (x * (q + 1))

  -- the remainder, where it stays below the power of two
  left : (a x p : ℕ) → p + 1 ≡ a * w + x → a * (w - s) + x * (q + 1) < 8589934592 → (p + 1) * (q + 1) % 8589934592 ≡ a * (w - s) + x * (q + 1)
  left a x p d b = ap (λ (z : ℕ). z * (q + 1) % 8589934592) d ∙ ap (λ (z : ℕ). z % 8589934592) (spread a x) ∙ digits_mod a b

  -- x more after a full rows, not up to the end of the next: the remainder is at least the factor
  some : (a x p : ℕ) → p + 1 ≡ a * w + x → 1 ≤ x → x + 1 ≤ w → a * w + w ≤ q → leb (q + 1) ((p + 1) * (q + 1) % 8589934592) ≡ true
  some a x p d b c f =
      let n : a * (w - s) ≤ a * w = mul-le-mul_left a (omega arith) in
      let t : (x + 1) * (q + 1) ≤ w * (q + 1) = mul-le-mul_right (q + 1) c in
      let u : 1 * (q + 1) ≤ x * (q + 1) = mul-le-mul_right (q + 1) b in
      let r : a * (w - s) + x * (q + 1) < 8589934592 = omega (arith, full, add-mul x 1 (q + 1)) in
      le-leb (q + 1) ((p + 1) * (q + 1) % 8589934592) (omega (arith, left a x p d r))

  -- a full rows: the remainder is below the factor
  none : (a p : ℕ) → p + 1 ≡ a * w → a * w ≤ q → q < 8589934592 → leb (q + 1) ((p + 1) * (q + 1) % 8589934592) ≡ false
  none a p d f g =
      let n : a * (w - s) ≤ a * w = mul-le-mul_left a (omega arith) in
      lt-leb (q + 1) ((p + 1) * (q + 1) % 8589934592) (omega (arith, left a 0 p (omega arith) (omega arith)))

module _ (w h p : ℕ) (S : Sides w h) (l : p + 1 ≤ w * h) where
  area_most : w * h ≤ 4194304
  area_most = mul-le-mul S.w_most S.h_most

  -- the row of a place ends within the picture
  row_end : p / w * w + w ≤ w * h
  row_end =
      let a : p / w * w < h * w = omega (arith, div-add-mod' p w, mul_comm w h) in
      let b : p / w < h = lt_of_mul-lt-mul_right w a in
      omega (arith, mul-le-mul_right w (let c : p / w + 1 ≤ h = omega arith in c), add-mul (p / w) 1 w, mul_comm w h)

  pub last_column : leb (8589934592 / w + 1) ((p + 1) * (8589934592 / w + 1) % 8589934592) ≡ ltb (p % w + 1) w
  last_column =
      let q = 8589934592 / w in
      let s = 8589934592 % w in
      let o : s < w = mod-lt 8589934592 (omega (arith, S.w_least)) in
      let e : q * w + s ≡ 8589934592 = div-add-mod' 8589934592 w in
      let z : 4194304 ≤ q = factor_least w S.w_least S.w_most in
      let y : q ≤ 4294967296 = factor_most w S.w_least S.w_most in
      by_test (ltb (p % w + 1) w)
      (λ t.
      some w q s e (omega arith) (p / w) (p % w + 1) p (omega (arith, div-add-mod' p w)) (omega arith)
      (omega (arith, ltb-true (p % w + 1) w t)) (omega (arith, row_end, area_most)) ∙ sym t)
      (λ t.
      let b : p % w < w = mod-lt p (omega (arith, S.w_least)) in
      let f : p / w * w + w ≡ (p / w + 1) * w = omega (arith, add-mul (p / w) 1 w) in
      let v : w ≤ p % w + 1 = ltb-false (p % w + 1) w t in
      none w q s e (omega arith) (p / w + 1) p (omega (arith, div-add-mod' p w, f)) (omega (arith, f, row_end, area_most)) (omega arith)
      ∙ sym t)
