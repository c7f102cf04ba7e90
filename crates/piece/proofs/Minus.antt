-- Whole numbers as differences of naturals. Assumes nothing.
-- Main laws: `minus_lt`, `minus_ge` a difference below 0 and one that is not; `minus_zero_lem`, `minus_equal` of equals; `cross` equal differences; `neg_minus`, `plus_minus`, `times_minus` what negation, sums and
--   multiples make of them.
use mathlib.Core.Path.{◌≡◌, refl, sym, ap, ◌∙◌}
use mathlib.Core.Bool.{Bool, cond}
use Prim.Native.Nat.{ℕ, zero, suc, ◌+◌, ◌-◌, ◌*◌, ◌≤◌, ◌<◌}
use native.Mathlib.Omega.{arith}
use lib.Dec.{ltb}
use lib.IntN.{ℤ, pos, negsuc, neg_ℤ, sub_ℕ, ◌+ℤ◌, ◌-ℤ◌, ◌*ℤ◌, pos-ne-negsuc}
use borrow.Author.Tests.{lt-ltb, le-ltb, ltb-true, ltb-false}
use Rattle.tally.proofs.Test.{by_test}

minus_is : (a b : ℕ) → pos a -ℤ pos b ≡ sub_ℕ a b
minus_is a zero = rw (le-ltb a 0 (omega arith)) (ap pos (omega arith))
minus_is a (suc b) = refl

pub minus_lt : (a b : ℕ) → a < b → pos a -ℤ pos b ≡ negsuc (b - suc a)
minus_lt a b l = minus_is a b ∙ ap (λ (t : Bool). cond t (negsuc (b - suc a)) (pos (a - b))) (lt-ltb a b l)

pub minus_ge : (a b : ℕ) → b ≤ a → pos a -ℤ pos b ≡ pos (a - b)
minus_ge a b l = minus_is a b ∙ ap (λ (t : Bool). cond t (negsuc (b - suc a)) (pos (a - b))) (le-ltb a b l)

pub minus_zero_lem : (a b : ℕ) → a ≡ b → pos a -ℤ pos b ≡ pos 0
minus_zero_lem a b e = minus_ge a b (omega arith) ∙ ap pos (omega arith)

pub minus_equal : (a b : ℕ) → pos a -ℤ pos b ≡ pos 0 → a ≡ b
minus_equal a b e =
    by_test (ltb a b)
    (λ t. absurd (pos-ne-negsuc 0 (b - suc a) (sym e ∙ minus_lt a b (ltb-true a b t))))
    (λ t.
    let l : b ≤ a = ltb-false a b t in
    let z : pos (a - b) ≡ pos 0 = sym (minus_ge a b l) ∙ e in
    let n : a - b ≡ 0 = cc in
    omega arith)

pub cross : (a b c d : ℕ) → a + d ≡ c + b → pos a -ℤ pos b ≡ pos c -ℤ pos d
cross a b c d e =
    by_test (ltb a b)
    (λ t.
    let l : a < b = ltb-true a b t in
    minus_lt a b l ∙ ap negsuc (omega arith) ∙ sym (minus_lt c d (omega arith)))
    (λ t.
    let l : b ≤ a = ltb-false a b t in
    minus_ge a b l ∙ ap pos (omega arith) ∙ sym (minus_ge c d (omega arith)))

pub neg_minus : (a b : ℕ) → neg_ℤ (pos a -ℤ pos b) ≡ pos b -ℤ pos a
neg_minus a b =
    by_test (ltb a b)
    (λ t.
    let l : a < b = ltb-true a b t in
    ap neg_ℤ (minus_lt a b l) ∙ ap pos (omega arith) ∙ sym (minus_ge b a (omega arith)))
    (λ t.
    let l : b ≤ a = ltb-false a b t in
    by_test (ltb b a)
    (λ u.
    let m : b < a = ltb-true b a u in
    ap neg_ℤ (minus_ge a b l ∙ ap pos (from m)) ∙ sym (minus_lt b a m))
    (λ u.
    let m : a ≤ b = ltb-false b a u in
    ap neg_ℤ (minus_zero_lem a b (omega arith)) ∙ sym (minus_zero_lem b a (omega arith))))
  where
    from : {a b : ℕ} → b < a → a - b ≡ suc (a - suc b)
    from h = omega arith

pub plus_minus : (a b c d : ℕ) → (pos a -ℤ pos b) +ℤ (pos c -ℤ pos d) ≡ pos (a + c) -ℤ pos (b + d)
plus_minus a b c d =
    by_test (ltb a b)
    (λ t.
    let l : a < b = ltb-true a b t in
    by_test (ltb c d)
    (λ u.
    let m : c < d = ltb-true c d u in
    rw (minus_lt a b l, minus_lt c d m) (ap negsuc (omega arith) ∙ sym (minus_lt (a + c) (b + d) (omega arith))))
    (λ u.
    let m : d ≤ c = ltb-false c d u in
    rw (minus_lt a b l, minus_ge c d m) (cross (c - d) (suc (b - suc a)) (a + c) (b + d) (omega arith))))
    (λ t.
    let l : b ≤ a = ltb-false a b t in
    by_test (ltb c d)
    (λ u.
    let m : c < d = ltb-true c d u in
    rw (minus_ge a b l, minus_lt c d m) (cross (a - b) (suc (d - suc c)) (a + c) (b + d) (omega arith)))
    (λ u.
    let m : d ≤ c = ltb-false c d u in
    rw (minus_ge a b l, minus_ge c d m) (ap pos (omega arith) ∙ sym (minus_ge (a + c) (b + d) (omega arith)))))

times_up : (k b n : ℕ) → pos k *ℤ pos n ≡ pos (k * (b + n)) -ℤ pos (k * b)
times_up k b n = sym (minus_ge (k * (b + n)) (k * b) (omega arith) ∙ ap pos (omega arith))

times_down : (k a n : ℕ) → pos k *ℤ negsuc n ≡ pos (k * a) -ℤ pos (k * (a + suc n))
times_down k a n =
    let e : k * suc n - 0 ≡ k * suc n = omega arith in
    ap neg_ℤ (sym (minus_ge (k * suc n) 0 (omega arith) ∙ ap pos e))
    ∙ neg_minus (k * suc n) 0
    ∙ cross 0 (k * suc n) (k * a) (k * (a + suc n)) (omega arith)

pub times_minus : (k a b : ℕ) → pos k *ℤ (pos a -ℤ pos b) ≡ pos (k * a) -ℤ pos (k * b)
times_minus k a b =
    by_test (ltb a b)
    (λ t.
    let l : a < b = ltb-true a b t in
    let e : a + suc (b - suc a) ≡ b = omega arith in
    ap (λ (z : ℤ). pos k *ℤ z) (minus_lt a b l) ∙ times_down k a (b - suc a) ∙ ap (λ (z : ℕ). pos (k * a) -ℤ pos (k * z)) e)
    (λ t.
    let l : b ≤ a = ltb-false a b t in
    let e : b + (a - b) ≡ a = omega arith in
    ap (λ (z : ℤ). pos k *ℤ z) (minus_ge a b l) ∙ times_up k b (a - b) ∙ ap (λ (z : ℕ). pos (k * z) -ℤ pos (k * b)) e)
