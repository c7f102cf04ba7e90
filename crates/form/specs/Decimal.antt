-- Numbers in decimal. Assumes nothing.
-- Definitions: `decimal_by` the digits by fuel; `decimal` a number in decimal.
use Rattle.std.specs.Prelude.{true, false, List, [], ◌∷◌, ◌++◌, ℕ, zero, suc, ◌+◌, ◌/◌, ◌%◌, ltb}

-- below ten one digit, else the digits of the tenth and then the last one; f is fuel
unfoldable pub decimal_by : ℕ → ℕ → List ℕ
decimal_by zero n = []
decimal_by (suc f) n = elim (ltb n 10) [ true ↦ (48 + n) ∷ [] | false ↦ decimal_by f (n / 10) ++ ((48 + n % 10) ∷ []) ]

-- decimal without leading zeros, the digit d as the byte 48 + d (01, The listing program)
unfoldable pub decimal : ℕ → List ℕ
decimal n = decimal_by (suc n) n
