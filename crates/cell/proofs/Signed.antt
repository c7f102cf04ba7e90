-- Whole numbers with a sign as differences of naturals, and their order. Assumes nothing.
-- Definitions: `Is z a b` z is a − b; `◌<ℤ◌` the strict order: the difference is positive.
-- Main laws: `is_pos`, `is_neg`, `is_add`, `is_sub`, `is_mul` of a natural, its opposite, a sum, a difference, a multiple; `less_is`, `is_less` the order of two differences as an order of naturals.
use mathlib.Core.Path.{◌≡◌, refl, ap, subst}
use Prim.Native.Nat.{ℕ, zero, suc, ◌+◌, ◌-◌, ◌*◌, ◌≤◌, ◌<◌}
use native.Mathlib.Omega.{arith}
use lib.Dec.{ltb}
use lib.IntN.{ℤ, pos, negsuc, neg_ℤ, sub_ℕ, ◌+ℤ◌, ◌-ℤ◌, ◌*ℤ◌}
use borrow.Author.Tests.{ltb-true, ltb-false}
use Rattle.tally.proofs.Test.{by_test}

abbrev pub Is : ℤ → ℕ → ℕ → Type 0
Is (pos n) a b = n + b ≡ a
Is (negsuc n) a b = a + suc n ≡ b

pub is_pos : (n : ℕ) → Is (pos n) n 0
is_pos n = omega arith

pub is_neg : (z : ℤ) (a b : ℕ) → Is z a b → Is (neg_ℤ z) b a
is_neg (pos zero) a b e = omega arith
is_neg (pos (suc n)) a b e = omega arith
is_neg (negsuc n) a b e = omega arith

-- the same difference of other naturals
is_same : (z : ℤ) (p q a b : ℕ) → p + b ≡ a + q → Is z p q → Is z a b
is_same (pos n) p q a b s e = omega arith
is_same (negsuc n) p q a b s e = omega arith

is_subℕ : (a b : ℕ) → Is (sub_ℕ a b) a b
is_subℕ a b =
    by_test (ltb a b)
    (λ t. let h : a < b = ltb-true a b t in rw t (omega arith))
    (λ t. let h : b ≤ a = ltb-false a b t in rw t (omega arith))

pub is_add : (x y : ℤ) (a b c d : ℕ) → Is x a b → Is y c d → Is (x +ℤ y) (a + c) (b + d)
is_add (pos m) (pos n) a b c d e f = omega arith
is_add (pos m) (negsuc n) a b c d e f = is_same (sub_ℕ m (suc n)) m (suc n) (a + c) (b + d) (omega arith) (is_subℕ m (suc n))
is_add (negsuc m) (pos n) a b c d e f = is_same (sub_ℕ n (suc m)) n (suc m) (a + c) (b + d) (omega arith) (is_subℕ n (suc m))
is_add (negsuc m) (negsuc n) a b c d e f = omega arith

pub is_sub : (x y : ℤ) (a b c d : ℕ) → Is x a b → Is y c d → Is (x -ℤ y) (a + d) (b + c)
is_sub x y a b c d e f = is_add x (neg_ℤ y) a b d c e (is_neg y c d f)

pub is_mul : (m : ℕ) (x : ℤ) (a b : ℕ) → Is x a b → Is (pos m *ℤ x) (m * a) (m * b)
is_mul m (pos n) a b e = let r : m * (n + b) ≡ m * a = ap (λ (z : ℕ). m * z) e in omega arith
is_mul m (negsuc n) a b e =
    let r : m * (a + suc n) ≡ m * b = ap (λ (z : ℕ). m * z) e in
    is_neg (pos (m * suc n)) (m * b) (m * a) (omega arith)

-- ---- the order
infix 4 ◌<ℤ◌
abbrev pub ◌<ℤ◌ : ℤ → ℤ → Type 0
x <ℤ y = (n : ℕ) × (y -ℤ x ≡ pos (suc n))

positive : (z : ℤ) (a b : ℕ) → Is z a b → b < a → (n : ℕ) × (z ≡ pos (suc n))
positive (pos zero) a b e h = absurd (omega arith)
positive (pos (suc n)) a b e h = (n, refl)
positive (negsuc n) a b e h = absurd (omega arith)

pub is_less : (x y : ℤ) (a b c d : ℕ) → Is x a b → Is y c d → a + d < b + c → x <ℤ y
is_less x y a b c d e f h = positive (y -ℤ x) (c + b) (d + a) (is_sub y x c d a b f e) (omega arith)

pub less_is : (x y : ℤ) (a b c d : ℕ) → Is x a b → Is y c d → x <ℤ y → a + d < b + c
less_is x y a b c d e f l =
    let r : Is (pos (suc l.0)) (c + b) (d + a) = subst (λ (z : ℤ). Is z (c + b) (d + a)) l.1 (is_sub y x c d a b f e) in
    omega arith
