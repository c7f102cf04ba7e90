-- The orbit of a map on numbers, and which number of an orbit leads it. Assumes nothing.
-- Definitions: `orbit` the images of a number until a given one comes again; `low` no head of a list is below a number; `leads` a number is the least head of its orbit.
use Rattle.std.specs.Prelude.{Bool, true, false, not, ◌&&◌, List, [], ◌∷◌, ℕ, zero, suc, eqb, ltb}

-- c, f c, f (f c), .. until a would come next; at most n of them
unfoldable pub orbit : (ℕ → ℕ) → ℕ → ℕ → ℕ → List ℕ
orbit f a zero c = []
orbit f a (suc n) c = let d = f c in c ∷ elim (eqb d a) [ true ↦ [] | false ↦ orbit f a n d ]

-- no head in the list is below a
unfoldable pub low : (ℕ → Bool) → ℕ → List ℕ → Bool
low head a [] = true
low head a (c ∷ l) = not (head c && ltb c a) && low head a l

-- c is a head, belongs to the set `ok`, and no head of its orbit is below it
unfoldable pub leads : (ℕ → ℕ) → (ℕ → Bool) → (ℕ → Bool) → ℕ → ℕ → Bool
leads f ok head n c = head c && (ok c && low head c (orbit f c n c))
