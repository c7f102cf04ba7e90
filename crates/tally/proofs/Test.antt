-- Booleans: cases on a test, connectives taken apart, `differ`, and truths over all booleans by computing. Assumes nothing.
-- Definitions: `by_test` cases on a test, with its equation; `implies`; `all1` a test holds of both booleans.
-- Main laws: `no` a test is not both; `iff` tests that follow from each other are equal; `and_1`, `and_2`, `both` for &&; `or_true`, `or_false`, `or_1`, `or_2`, `or_cases` for ||; `mp` for
--   `implies`; `each1` what is computed for both booleans holds of each; `differ_self`, `differ_comm`, `differ_assoc`, `twice`, `chain`, `equal`, `differ_low`, `differ_high`, `differ_false`,
--   `alike`; `one_le`, `one_pos`, `one_same`.
use mathlib.Core.Path.{◌≡◌, refl, sym, ap, ◌∙◌}
use mathlib.Core.Bool.{Bool, true, false, not, ◌&&◌, ◌||◌}
use mathlib.Core.Logic.{◌⊎◌, inl, inr}
use Prim.Native.Nat.{ℕ, ◌≤◌, ◌<◌}
use native.Mathlib.Omega.{arith}
use borrow.Author.Tests.{not-true}
use Rattle.tally.specs.Tally.{one, differ}

pub by_test : {P : Type 0} (b : Bool) → (b ≡ true → P) → (b ≡ false → P) → P
by_test true f g = f refl
by_test false f g = g refl

pub no : {P : Type 0} {b : Bool} → b ≡ true → b ≡ false → P
no p q = let z : ◌≡◌ {A = ℕ} 0 1 = cc in absurd (omega arith)

pub iff : {a b : Bool} → (a ≡ true → b ≡ true) → (b ≡ true → a ≡ true) → a ≡ b
iff {a} {b} p q = by_test a (λ e. e ∙ sym (p e)) (λ e. by_test b (λ d. absurd (no (q d) e)) (λ d. e ∙ sym d))

-- ---- and, or, implies
pub and_1 : (a b : Bool) → (a && b) ≡ true → a ≡ true
and_1 true b e = refl
and_1 false b e = e

pub and_2 : (a b : Bool) → (a && b) ≡ true → b ≡ true
and_2 true b e = e
and_2 false b e = no e refl

pub both : {x y : Bool} → x ≡ true → y ≡ true → (x && y) ≡ true
both {x = true} {y = y} e h = h
both {x = false} {y = y} e h = e

pub or_true : (b : Bool) → (b || true) ≡ true
or_true true = refl
or_true false = refl

pub or_false : (b : Bool) → (b || false) ≡ b
or_false true = refl
or_false false = refl

pub or_1 : (a b : Bool) → a ≡ true → (a || b) ≡ true
or_1 true b e = refl
or_1 false b e = no e refl

pub or_2 : (a b : Bool) → b ≡ true → (a || b) ≡ true
or_2 true b e = refl
or_2 false b e = e

pub or_cases : (a b : Bool) → (a || b) ≡ true → (a ≡ true) ⊎ (b ≡ true)
or_cases true b e = inl refl
or_cases false b e = inr e

abbrev pub implies : Bool → Bool → Bool
implies x y = not x || y

pub mp : {x y : Bool} → implies x y ≡ true → x ≡ true → y ≡ true
mp {x = true} {y = y} e h = e
mp {x = false} {y = y} e h = no h refl

-- ---- truths over all booleans, computed
abbrev pub all1 : (Bool → Bool) → Bool
all1 p = p true && p false

pub each1 : (p : Bool → Bool) → all1 p ≡ true → (x : Bool) → p x ≡ true
each1 p e true = and_1 (p true) (p false) e
each1 p e false = and_2 (p true) (p false) e

-- ---- differ
pub differ_self : (x : Bool) → differ x x ≡ false
differ_self true = refl
differ_self false = refl

pub differ_comm : (x y : Bool) → differ x y ≡ differ y x
differ_comm true true = refl
differ_comm true false = refl
differ_comm false true = refl
differ_comm false false = refl

pub differ_assoc : (x y z : Bool) → differ (differ x y) z ≡ differ x (differ y z)
differ_assoc true true z = not_not z
  where
    not_not : (b : Bool) → b ≡ not (not b)
    not_not true = refl
    not_not false = refl
differ_assoc true false z = refl
differ_assoc false y z = refl

pub twice : (x y : Bool) → differ x (differ x y) ≡ y
twice true true = refl
twice true false = refl
twice false y = refl

pub chain : (x y z : Bool) → differ (differ x y) (differ y z) ≡ differ x z
chain true true true = refl
chain true true false = refl
chain true false true = refl
chain true false false = refl
chain false true true = refl
chain false true false = refl
chain false false z = refl

pub equal : (x y : Bool) → not (differ x y) ≡ true → x ≡ y
equal true true e = refl
equal true false e = no e refl
equal false true e = no e refl
equal false false e = refl

pub differ_false : (x y : Bool) → differ x y ≡ false → x ≡ y
differ_false x y e = equal x y (ap not e)

pub differ_low : (x y : Bool) → x ≡ false → differ x y ≡ true → y ≡ true
differ_low true y e d = no refl e
differ_low false y e d = d

pub differ_high : (x y : Bool) → x ≡ true → differ x y ≡ true → y ≡ false
differ_high true y e d = not-true y d
differ_high false y e d = no e refl

-- two that are alike do not differ
pub alike : {P : Type 0} (x y v : Bool) → x ≡ v → y ≡ v → differ x y ≡ true → P
alike x y true a b d = no d (rw (a, b))
alike x y false a b d = no d (rw (a, b))

-- ---- one
pub one_le : (b : Bool) → one b ≤ 1
one_le true = omega arith
one_le false = omega arith

pub one_pos : (b : Bool) → 0 < one b → b ≡ true
one_pos true h = refl
one_pos false h = absurd (omega arith)

pub one_same : (a b : Bool) → one a ≡ one b → a ≡ b
one_same true true e = refl
one_same true false e = absurd (omega arith)
one_same false true e = absurd (omega arith)
one_same false false e = refl
