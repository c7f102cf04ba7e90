-- Text put into a lent buffer. Assumes nothing.
-- Definitions: `written` a list with a text in it; `Put` what putting a text leaves.
use Rattle.std.specs.Prelude.{◌≡◌, List, ◌++◌, ℕ, ◌+◌, ◌≤◌, length, take, drop}

-- the list d, with the text t from the place i on
abbrev pub written : List ℕ → ℕ → List ℕ → List ℕ
written d i t = take i d ++ (t ++ drop (i + length t) d)

-- t has room in d from the place i on and stands there, nothing else changed, and r is the place after it
pub record Put (d : List ℕ) (i : ℕ) (t : List ℕ) (r : ℕ) (e : List ℕ) : Type 0 where
  pub fits : i + length t ≤ length d
  pub next : r ≡ i + length t
  pub is : e ≡ written d i t
