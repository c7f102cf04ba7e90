-- A list that is written from the front, element by element. Assumes nothing.
-- Definitions: `Filled` the first n elements are those of a function, the others as before.
use Rattle.std.specs.Prelude.{◌≡◌, List, ℕ, ◌<◌, ◌≤◌, length, get_or}

-- e has the values of f below n, and from n on is d
pub record Filled (f : ℕ → ℕ) (d : List ℕ) (n : ℕ) (e : List ℕ) : Type 0 where
  pub long : length e ≡ length d
  pub done : (j : ℕ) → j < n → get_or e j 0 ≡ f j
  pub same : (j : ℕ) → n ≤ j → get_or e j 0 ≡ get_or d j 0
