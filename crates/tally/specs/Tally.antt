-- Counting over numbers and lists. Nothing here knows of pictures. Assumes nothing.
-- Definitions: `one` 1 for true; `differ` exactly one of two; `apart` the distance of two numbers; `odd` a number is odd; `every`, `sum` over the numbers below n; `build` the list of a
--   function's values; `count` how often a number stands in a list, `stands` whether it does; `tally` how many of a list pass a test; `first_at` where the first stands that does; `first_from` the first number that does;
--   `flat` lists joined; `pick` the lists of those numbers that pass; `total` a function's sum over a list.
use Rattle.std.specs.Prelude.{Bool, true, false, not, ◌&&◌, List, [], ◌∷◌, ◌++◌, ℕ, zero, suc, ◌+◌, ◌-◌, ◌%◌, eqb, ltb}

-- 1 for true, 0 for false
abbrev pub one : Bool → ℕ
one true = 1
one false = 0

-- one of the two holds and the other does not
abbrev pub differ : Bool → Bool → Bool
differ true y = not y
differ false y = y

-- the difference of two numbers, whichever is larger
abbrev pub apart : ℕ → ℕ → ℕ
apart a b = (a - b) + (b - a)

-- the number is odd
abbrev pub odd : ℕ → Bool
odd n = eqb (n % 2) 1

-- every number below n passes
unfoldable pub every : (ℕ → Bool) → ℕ → Bool
every p zero = true
every p (suc n) = every p n && p n

-- f 0 + f 1 + .. + f (n - 1)
unfoldable pub sum : (ℕ → ℕ) → ℕ → ℕ
sum f zero = 0
sum f (suc n) = sum f n + f n

-- f i, f (i + 1), .., n of them
unfoldable pub build : (ℕ → ℕ) → ℕ → ℕ → List ℕ
build f i zero = []
build f i (suc n) = f i ∷ build f (suc i) n

-- how often x stands in the list
unfoldable pub count : ℕ → List ℕ → ℕ
count x [] = 0
count x (y ∷ l) = one (eqb x y) + count x l

-- x stands in the list
abbrev pub stands : ℕ → List ℕ → Bool
stands x l = ltb 0 (count x l)

-- how many of the list pass
unfoldable pub tally : (ℕ → Bool) → List ℕ → ℕ
tally p [] = 0
tally p (x ∷ l) = one (p x) + tally p l

-- the index of the first that passes, the length with none
unfoldable pub first_at : (ℕ → Bool) → List ℕ → ℕ
first_at p [] = 0
first_at p (x ∷ l) = elim (p x) [ true ↦ 0 | false ↦ suc (first_at p l) ]

-- the first of the m numbers from i on that passes, i + m with none
unfoldable pub first_from : (ℕ → Bool) → ℕ → ℕ → ℕ
first_from p i zero = i
first_from p i (suc m) = elim (p i) [ true ↦ i | false ↦ first_from p (suc i) m ]

-- f summed over the list
unfoldable pub total : (ℕ → ℕ) → List ℕ → ℕ
total f [] = 0
total f (x ∷ l) = f x + total f l

-- lists joined to one
unfoldable pub flat : List (List ℕ) → List ℕ
flat [] = []
flat (l ∷ ls) = l ++ flat ls

-- the lists g j, for those of the m numbers j from i on that pass p
unfoldable pub pick : (ℕ → Bool) → (ℕ → List ℕ) → ℕ → ℕ → List (List ℕ)
pick p g i zero = []
pick p g i (suc m) = elim (p i) [ true ↦ g i ∷ pick p g (suc i) m | false ↦ pick p g (suc i) m ]
