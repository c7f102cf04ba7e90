-- Fractions in lowest terms. Nothing here knows of pictures. Assumes nothing.
-- Definitions: `divides` a number divides another; `greatest` the greatest up to a bound that divides two numbers; `gcd` the greatest of all; `lowest` a fraction in lowest terms.
use Rattle.std.specs.Prelude.{Bool, ◌&&◌, cond, ℕ, zero, suc, ◌+◌, ◌/◌, ◌%◌, eqb}
use Rattle.ratio.specs.declared.Fraction.{Fraction}

-- d goes into n with nothing left; 0 goes into 0 alone
abbrev pub divides : ℕ → ℕ → Bool
divides d n = eqb (n % d) 0

-- the greatest number up to n that divides both a and b, looked for from n down; 0 with none
unfoldable pub greatest : ℕ → ℕ → ℕ → ℕ
greatest zero a b = 0
greatest (suc n) a b = cond (divides (suc n) a && divides (suc n) b) (suc n) (greatest n a b)

-- the greatest common divisor: unless a and b are both 0, no number above a + b divides both (02, R-5)
unfoldable pub gcd : ℕ → ℕ → ℕ
gcd a b = greatest (a + b) a b

-- a/b with both parts divided by all that they have in common (02, R-5)
abbrev pub lowest : ℕ → ℕ → Fraction
lowest a b = record { num = a / gcd a b; den = b / gcd a b }
