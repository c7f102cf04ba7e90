-- The border samples counted by one half of the byte at a time, and the median's halves read from the counts. Assumes nothing.
-- Definitions: `head_of`, `heads` the upper half of a sample, or all of it; `counts` how often each of 16 values stands among the heads; `Added` the counts raised by those of a list; `Roomy` each counter can be raised so often; `under` how many heads are
--   below a value; `halfway` the first entry of the counts up to which half are; `halves`, `half_from` the first of 16 values that half of the heads do not exceed.
use Rattle.std.specs.Prelude.{◌≡◌, Bool, cond, List, [], ◌∷◌, ℕ, suc, ◌+◌, ◌*◌, ◌/◌, ◌≤◌, ◌<◌, leb, ltb, length, get_or}
use Rattle.tally.specs.Tally.{sum, build, count, tally, first_from}

-- the sample, or its upper half (02, R-3)
abbrev pub head_of : Bool → ℕ → ℕ
head_of whole s = cond whole s (s / 16)

-- the same for each of a list
unfoldable pub heads : Bool → List ℕ → List ℕ
heads whole [] = []
heads whole (s ∷ l) = head_of whole s ∷ heads whole l

-- entry d says how often 16·top + d stands among the heads (02, R-3)
unfoldable pub counts : Bool → ℕ → List ℕ → List ℕ
counts whole top l = build (λ v. count v (heads whole l)) (16 * top) 16

-- u is t, each entry raised by how often its value stands among the heads of l
abbrev pub Added : Bool → ℕ → List ℕ → List ℕ → List ℕ → Type 0
Added whole top l t u = (d : ℕ) → d < 16 → get_or u d 0 ≡ get_or t d 0 + count (16 * top + d) (heads whole l)

-- each of 16 entries can be raised n times
abbrev pub Roomy : ℕ → List ℕ → Type 0
Roomy n t = (d : ℕ) → d < 16 → get_or t d 0 + n ≤ 4194304

-- how many heads are below v
unfoldable pub under : Bool → List ℕ → ℕ → ℕ
under whole l v = tally (λ s. ltb s v) (heads whole l)

-- the first of 16 entries up to which at least half of n are, `below` of them before the first
unfoldable pub halfway : List ℕ → ℕ → ℕ → ℕ
halfway t below n = first_from (λ d. leb n (2 * (below + sum (λ i. get_or t i 0) (suc d)))) 0 15

-- at least half of n, of the list, do not exceed v
abbrev pub halves : ℕ → List ℕ → ℕ → Bool
halves n m v = leb n (2 * tally (λ s. leb s v) m)

-- the first of the 16 values from 16·top on that at least half of the heads do not exceed (02, R-3)
unfoldable pub half_from : Bool → ℕ → List ℕ → ℕ
half_from whole top l = first_from (halves (length l) (heads whole l)) (16 * top) 15
