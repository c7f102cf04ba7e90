-- One bit for each of 4,194,304 places, 64 to a number. Assumes nothing.
-- Definitions: `digit` a binary digit of a number; `bit_at` the bit of a place; `Ahead` a number holds the bits from one place up to another.
use Rattle.std.specs.Prelude.{◌≡◌, Bool, false, List, ℕ, ◌+◌, ◌/◌, ◌%◌, ◌^◌, ◌≤◌, ◌<◌, get_or}
use Rattle.tally.specs.Tally.{odd}

-- the digit of 2^i in x is 1
unfoldable pub digit : ℕ → ℕ → Bool
digit x i = odd (x / 2 ^ i)

-- the place p is marked
unfoldable pub bit_at : List ℕ → ℕ → Bool
bit_at m p = digit (get_or m (p / 64) 0) (p % 64)

-- the digits of x are the marks from p up to q, and no more
pub record Ahead (m : List ℕ) (p q x : ℕ) : Type 0 where
  pub marks : (j : ℕ) → p + j < q → digit x j ≡ bit_at m (p + j)
  pub none : (j : ℕ) → q ≤ p + j → digit x j ≡ false
