-- Notes as one number: what each of their bits says. Assumes nothing.
-- Main laws: `bit_yes`, `bit_no` a bit looked at in its place, `bit_kept` what is kept of it; `note_line`, `note_straight`, `note_lead`, `note_lower` what a note says.
use mathlib.Core.Path.{◌≡◌, ap, ◌∙◌}
use mathlib.Core.Bool.{Bool, true, false}
use Rattle.std.proofs.lemmas.Nat.Bits.{and_pow}
use Rattle.std.specs.Int.Bits.{bit_and}
use Prim.Native.Nat.{ℕ, ◌*◌, ◌^◌, ◌/◌, ◌%◌, ◌<◌}
use native.Mathlib.Omega.{arith}
use native.Mathlib.Nat.{zero-mul, one-mul}
use Rattle.std.proofs.lemmas.Nat.{pow_pos}
use Rattle.tally.proofs.Test.{by_test}
use borrow.Author.Tests.{eqb-true, eqb-false, eq-eqb, ne_eqb}
use Rattle.tally.specs.Tally.{one, odd}
use Rattle.tree.specs.Note.{note_of}

is_odd : (x : ℕ) → x % 2 ≡ 1 → odd x ≡ true
is_odd x h = eq-eqb (x % 2) 1 h

not_odd : (x : ℕ) → x % 2 ≡ 0 → odd x ≡ false
not_odd x h = ne_eqb (x % 2) 1 (λ z. omega arith)

-- a bit that is looked at in its place
module _ (x k v : ℕ) (e : v ≡ 2 ^ k) where
  kept : bit_and x v ≡ x / v % 2 * v
  kept = rw e (and_pow x k)

  bit_one : (n : ℕ) → n % 2 ≡ one (odd n)
  bit_one n = by_test (odd n) (λ t. rw t (eqb-true (n % 2) 1 t)) (λ t. rw t (omega (arith, eqb-false (n % 2) 1 t)))

  pub bit_yes : (bit_and x v ≡ 0 → ⊥) → odd (x / v) ≡ true
  bit_yes h =
      by_test (odd (x / v)) (λ t. t)
      (λ t. let z : x / v % 2 ≡ 0 = omega (arith, eqb-false (x / v % 2) 1 t) in absurd (h (kept ∙ ap (λ (n : ℕ). n * v) z ∙ zero-mul v)))

  pub bit_no : bit_and x v ≡ 0 → odd (x / v) ≡ false
  bit_no h =
      by_test (odd (x / v))
      (λ t. let z : bit_and x v ≡ 1 * v = kept ∙ ap (λ (n : ℕ). n * v) (eqb-true (x / v % 2) 1 t) in absurd (omega (arith, z, h, one-mul v, e, pow_pos k)))
      (λ t. t)

  pub bit_kept : bit_and x v ≡ one (odd (x / v)) * v
  bit_kept = kept ∙ ap (λ (n : ℕ). n * v) (bit_one (x / v))

module _ (n : ℕ) (h : n < 536870912) where
  pub note_line : (s l u : Bool) → note_of n s l u % 536870912 ≡ n
  note_line true true true = omega arith
  note_line true true false = omega arith
  note_line true false true = omega arith
  note_line true false false = omega arith
  note_line false true true = omega arith
  note_line false true false = omega arith
  note_line false false true = omega arith
  note_line false false false = omega arith

  pub note_straight : (s l u : Bool) → odd (note_of n s l u / 536870912) ≡ s
  note_straight true true true = is_odd (note_of n true true true / 536870912) (omega arith)
  note_straight true true false = is_odd (note_of n true true false / 536870912) (omega arith)
  note_straight true false true = is_odd (note_of n true false true / 536870912) (omega arith)
  note_straight true false false = is_odd (note_of n true false false / 536870912) (omega arith)
  note_straight false true true = not_odd (note_of n false true true / 536870912) (omega arith)
  note_straight false true false = not_odd (note_of n false true false / 536870912) (omega arith)
  note_straight false false true = not_odd (note_of n false false true / 536870912) (omega arith)
  note_straight false false false = not_odd (note_of n false false false / 536870912) (omega arith)

  pub note_lead : (s l u : Bool) → odd (note_of n s l u / 1073741824) ≡ l
  note_lead true true true = is_odd (note_of n true true true / 1073741824) (omega arith)
  note_lead true true false = is_odd (note_of n true true false / 1073741824) (omega arith)
  note_lead false true true = is_odd (note_of n false true true / 1073741824) (omega arith)
  note_lead false true false = is_odd (note_of n false true false / 1073741824) (omega arith)
  note_lead true false true = not_odd (note_of n true false true / 1073741824) (omega arith)
  note_lead true false false = not_odd (note_of n true false false / 1073741824) (omega arith)
  note_lead false false true = not_odd (note_of n false false true / 1073741824) (omega arith)
  note_lead false false false = not_odd (note_of n false false false / 1073741824) (omega arith)

  pub note_lower : (s l u : Bool) → odd (note_of n s l u / 2147483648) ≡ u
  note_lower true true true = is_odd (note_of n true true true / 2147483648) (omega arith)
  note_lower true false true = is_odd (note_of n true false true / 2147483648) (omega arith)
  note_lower false true true = is_odd (note_of n false true true / 2147483648) (omega arith)
  note_lower false false true = is_odd (note_of n false false true / 2147483648) (omega arith)
  note_lower true true false = not_odd (note_of n true true false / 2147483648) (omega arith)
  note_lower true false false = not_odd (note_of n true false false / 2147483648) (omega arith)
  note_lower false true false = not_odd (note_of n false true false / 2147483648) (omega arith)
  note_lower false false false = not_odd (note_of n false false false / 2147483648) (omega arith)
