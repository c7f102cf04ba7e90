-- A test that every number below n passes. Assumes nothing.
-- Main laws: `every_at` each of them passes; `every_from` back; `every_same`; `every_more`, `every_next` one number more; `every_none` of no number; `every_not` one that does not pass
--   refutes it; `every_others` a count of those that do not pass stays 0 exactly as long as all pass,
--   `byte_most` a byte for yes or no is at most 1,
--   `every_byte` the same where each of them counts as its byte.
use mathlib.Core.Path.{◌≡◌, refl, sym, ap, ◌∙◌}
use mathlib.Core.Bool.{Bool, true, false, not, ◌&&◌}
use Prim.Native.Nat.{ℕ, zero, suc, ◌+◌, ◌-◌, ◌≤◌, ◌<◌}
use native.Mathlib.Numerals.{add-one}
use native.Mathlib.Omega.{arith}
use lib.Dec.{eqb}
use borrow.Author.Tests.{eqb-true, eqb-false, eq-eqb}
use mir.Val.{bool_byte}
use Rattle.tally.specs.Tally.{one, every}
use Rattle.tally.proofs.Test.{by_test, no, iff, and_1, and_2, both, one_pos}

pub every_at : (p : ℕ → Bool) (n : ℕ) → every p n ≡ true → (i : ℕ) → i < n → p i ≡ true
unfolding every
every_at p zero e i h = absurd (omega arith)
every_at p (suc n) e i h =
    by_test (eqb i n)
    (λ t. rw (eqb-true i n t) (and_2 (every p n) (p n) e))
    (λ t. every_at p n (and_1 (every p n) (p n) e) i (omega (arith, eqb-false i n t)))

pub every_from : (p : ℕ → Bool) (n : ℕ) → ((i : ℕ) → i < n → p i ≡ true) → every p n ≡ true
unfolding every
every_from p zero q = refl
every_from p (suc n) q = both (every_from p n (λ i h. q i (omega arith))) (q n (omega arith))

pub every_same : (p q : ℕ → Bool) (n : ℕ) → ((i : ℕ) → i < n → p i ≡ q i) → every p n ≡ every q n
unfolding every
every_same p q zero e = refl
every_same p q (suc n) e = rw (every_same p q n (λ i h. e i (omega arith)), e n (omega arith))

pub every_more : (p : ℕ → Bool) (n : ℕ) → every p (suc n) ≡ (every p n && p n)
unfolding every
every_more p n = refl

pub every_not : (p : ℕ → Bool) (n i : ℕ) → i < n → p i ≡ false → every p n ≡ false
every_not p n i h e = by_test (every p n) (λ t. no (every_at p n t i h) e) (λ t. t)

pub every_none : (p : ℕ → Bool) → every p 0 ≡ true
unfolding every
every_none p = refl

pub every_next : (p : ℕ → Bool) (n : ℕ) → every p n ≡ true → p n ≡ true → every p (n + 1) ≡ true
every_next p n e h = ap (every p) (add-one n) ∙ every_more p n ∙ both e h

-- one number more, x being 1 if it passes
pub every_others : (p : ℕ → Bool) (n j x : ℕ) → eqb n 0 ≡ every p j → x ≡ one (p j) → eqb (n + (1 - x)) 0 ≡ every p (j + 1)
every_others p n j x e f =
    iff
    (λ h.
    let z : n + (1 - x) ≡ 0 = eqb-true (n + (1 - x)) 0 h in
    every_next p j (sym e ∙ eq-eqb n 0 (omega arith)) (one_pos (p j) (omega arith)))
    (λ h.
    let z : n ≡ 0 = eqb-true n 0 (e ∙ every_from p j (λ i l. every_at p (j + 1) h i (omega arith))) in
    let y : x ≡ 1 = f ∙ ap one (every_at p (j + 1) h j (omega arith)) in
    eq-eqb (n + (1 - x)) 0 (omega arith))

byte_not : (b : Bool) → bool_byte (not b) ≡ 1 - one b
byte_not true = refl
byte_not false = refl

pub byte_most : (b : Bool) → bool_byte b ≤ 1
byte_most true = omega arith
byte_most false = omega arith

pub every_byte : (p : ℕ → Bool) (n j : ℕ) → eqb n 0 ≡ every p j → eqb (n + bool_byte (not (p j))) 0 ≡ every p (j + 1)
every_byte p n j e = ap (λ (x : ℕ). eqb (n + x) 0) (byte_not (p j)) ∙ every_others p n j (one (p j)) e refl
