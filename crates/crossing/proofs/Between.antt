-- A crossing lies strictly between the ends of its edgel. Assumes nothing.
-- Main laws: `between` on a crossed edgel 0 < num and num < den, in lowest terms; `height` there the surface is half a step above the level; `done_between`, `done_height` so in every answer that is not refused.
use mathlib.Core.Path.{◌≡◌, refl, sym, ap, ap₂, ◌∙◌}
use mathlib.Core.Bool.{true}
use Prim.Native.Nat.{ℕ, ◌+◌, ◌*◌, ◌≤◌, ◌<◌}
use native.Mathlib.Nat.{mul-zero, mul_comm, mul_assoc, mul_left_comm, mul-add, add-mul, lt_of_mul-lt-mul_left, eq_of_mul-eq-mul_left}
use native.Mathlib.Omega.{arith}
use lib.Dec.{ltb}
use borrow.Author.Tests.{ltb-true, ltb-false, not-true}
use Rattle.tally.specs.Tally.{apart, differ}
use Rattle.tally.proofs.Test.{by_test}
use Rattle.matte.specs.Layout.{eight}
use Rattle.matte.specs.Picture.{Picture, at, high}
use Rattle.edgel.specs.Edgel.{first, second, crossed}
use Rattle.crossing.specs.Crossing.{gap, span, num, den, crossing_verdict}
use Rattle.crossing.proofs.Lowest.{common, common_pos, num_back, den_back}
use Rattle.crossing.proofs.Told.{fine}

numbers : (k a b : ℕ) → differ (ltb k a) (ltb k b) ≡ true → (0 < apart (2 * k + 1) (2 * a)) × (apart (2 * k + 1) (2 * a) < 2 * apart a b)
numbers k a b d =
    by_test (ltb k a)
    (λ e.
    let p : k < a = ltb-true k a e in
    let q : b ≤ k = ltb-false k b (not-true (ltb k b) (rw e at d)) in
    (omega arith, omega arith))
    (λ e.
    let p : a ≤ k = ltb-false k a e in
    let q : k < b = ltb-true k b (rw e at d) in
    (omega arith, omega arith))

-- from the lower end a, with m of 2·d of the way gone and r left
weighed : (a d m r : ℕ) → m + r ≡ 2 * d → 2 * (a * r + (a + d) * m) ≡ (m + 2 * a) * (2 * d)
weighed a d m r e =
    let p : a * m + a * r ≡ a * (2 * d) = sym (mul-add a m r) ∙ ap (λ (x : ℕ). a * x) e in
    let q : (a + d) * m ≡ a * m + d * m = add-mul a d m in
    let s : m * (2 * d) ≡ 2 * (m * d) = mul_left_comm m 2 d in
    let t : m * d ≡ d * m = mul_comm m d in
    let u : 2 * a * (2 * d) ≡ 2 * (a * (2 * d)) = mul_assoc 2 a (2 * d) in
    let v : (m + 2 * a) * (2 * d) ≡ m * (2 * d) + 2 * a * (2 * d) = add-mul m (2 * a) (2 * d) in
    let x : 2 * (a * r + (a + d) * m) ≡ 2 * (a * r) + 2 * ((a + d) * m) = mul-add 2 (a * r) ((a + d) * m) in
    omega arith

halfway : (k a b r : ℕ) →
    differ (ltb k a) (ltb k b) ≡ true → apart (2 * k + 1) (2 * a) + r ≡ 2 * apart a b → 2 * (a * r + b * apart (2 * k + 1) (2 * a)) ≡ (2 * k + 1) * (2 * apart a b)
halfway k a b r d z =
    by_test (ltb k a)
    (λ e.
    let p : k < a = ltb-true k a e in
    let q : b ≤ k = ltb-false k b (not-true (ltb k b) (rw e at d)) in
    let m = apart (2 * k + 1) (2 * a) in
    let g : b + apart a b ≡ a = omega arith in
    let s : r + 2 * b ≡ 2 * k + 1 = omega arith in
    let f : a * r + b * m ≡ b * m + a * r = omega arith in
    ap (λ (x : ℕ). 2 * x) f ∙ rw (g, s) at (weighed b (apart a b) r m (omega arith)))
    (λ e.
    let p : a ≤ k = ltb-false k a e in
    let q : k < b = ltb-true k b (rw e at d) in
    let g : a + apart a b ≡ b = omega arith in
    let s : apart (2 * k + 1) (2 * a) + 2 * a ≡ 2 * k + 1 = omega arith in
    rw (g, s) at (weighed a (apart a b) (apart (2 * k + 1) (2 * a)) r z))

-- a factor g of both weights and of their sum goes out
lowered : (g a b r n d m s t : ℕ) → 0 < g → g * n ≡ m → g * d ≡ s → 2 * (a * (g * r) + b * m) ≡ t * s → 2 * (a * r + b * n) ≡ t * d
lowered g a b r n d m s t p en ed h =
    eq_of_mul-eq-mul_left g p _ _
    (mul_left_comm g 2 (a * r + b * n)
    ∙ ap (λ (x : ℕ). 2 * x) (mul-add g (a * r) (b * n) ∙ ap₂ (λ (x y : ℕ). x + y) (mul_left_comm g a r) (mul_left_comm g b n ∙ ap (λ (x : ℕ). b * x) en))
    ∙ h
    ∙ ap (λ (x : ℕ). t * x) (sym ed)
    ∙ mul_left_comm t g d)

-- ---- the fraction in lowest terms: gap = g·num and span = g·den
module _ (P : Picture) (k c : ℕ) (e : crossed (high P k) P.w c ≡ true) where
  pub gap_span : (0 < gap P k c) × (gap P k c < span P k c)
  unfolding crossed gap span
  gap_span = numbers k (at P (first c)) (at P (second P.w c)) e

  gap_height : (r : ℕ) → gap P k c + r ≡ span P k c → 2 * (at P (first c) * r + at P (second P.w c) * gap P k c) ≡ (2 * k + 1) * span P k c
  unfolding crossed gap span
  gap_height r z = halfway k (at P (first c)) (at P (second P.w c)) r e z

  -- (01, Picture, levels, edgels) (02, R-5)
  pub between : (0 < num P k c) × (num P k c < den P k c)
  between =
      let g = common P k c in
      let n : g * num P k c ≡ gap P k c = num_back P k c in
      let d : g * den P k c ≡ span P k c = den_back P k c in
      let s = gap_span in
      (lt_of_mul-lt-mul_left g {m = 0} (omega (arith, mul-zero g)), lt_of_mul-lt-mul_left g (omega arith))

  -- the mean of the two ends, weighed by what is left and what is gone of the way, is k + ½ (01, Picture, levels, edgels) (02, R-5)
  pub height : (r : ℕ) → num P k c + r ≡ den P k c → 2 * (at P (first c) * r + at P (second P.w c) * num P k c) ≡ (2 * k + 1) * den P k c
  height r z =
      let g = common P k c in
      let t : gap P k c + g * r ≡ span P k c = ap (λ (x : ℕ). x + g * r) (sym (num_back P k c)) ∙ sym (mul-add g (num P k c) r) ∙ ap (λ (x : ℕ). g * x) z ∙ den_back P k c in
      lowered g (at P (first c)) (at P (second P.w c)) r (num P k c) (den P k c) (gap P k c) (span P k c) (2 * k + 1) (common_pos P k c) (num_back P k c) (den_back P k c) (gap_height (g * r) t)

pub done_between : (P : Picture) (k c : ℕ) → (crossing_verdict eight P k c).number ≡ 0 → (0 < num P k c) × (num P k c < den P k c)
done_between P k c z = between P k c (fine P k c (crossing_verdict eight P k c) refl z).cut

pub done_height : (P : Picture) (k c r : ℕ) →
    (crossing_verdict eight P k c).number ≡ 0 → num P k c + r ≡ den P k c → 2 * (at P (first c) * r + at P (second P.w c) * num P k c) ≡ (2 * k + 1) * den P k c
done_height P k c r z = height P k c (fine P k c (crossing_verdict eight P k c) refl z).cut r
