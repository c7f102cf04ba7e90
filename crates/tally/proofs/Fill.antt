-- A list that is filled from the front, one store a turn, with the elements of another. Assumes nothing.
-- Main laws: `fill` one store; `fill_start` before the first; `fill_end` after the last; `fill_length`; `fill_done` what has been stored stands there; `fill_snoc` the store as one more at the end
--   of what is in; `map_at` an element of a mapped list.
use mathlib.Core.Path.{◌≡◌, refl, sym, ap, ◌∙◌}
use mathlib.Core.List.{List, [], ◌∷◌, ◌++◌, map, append_assoc}
use Prim.Native.Nat.{ℕ, zero, suc, ◌+◌, ◌<◌, ◌≤◌}
use native.Mathlib.Nat.{le_of_suc-le-suc, not-suc-le-zero}
use native.Mathlib.Numerals.{add-one}
use native.Mathlib.Omega.{arith}
use lib.ListN.{length, take, drop, set, get_or, length-append, length-drop, get_or-append}
use lib.Seq.{take-length, length-take-le, drop-cons, set-append_seam, get_or-take}

store : (f d : List ℕ) (i : ℕ) → i < length f → i < length d → set (take i f ++ drop i d) i (get_or f i 0) ≡ take (suc i) f ++ drop (suc i) d
store [] d i h k = absurd (not-suc-le-zero h)
store (x ∷ xs) [] i h k = absurd (not-suc-le-zero k)
store (x ∷ xs) (y ∷ ys) zero h k = refl
store (x ∷ xs) (y ∷ ys) (suc i) h k = ap (λ (l : List ℕ). x ∷ l) (store xs ys i (le_of_suc-le-suc h) (le_of_suc-le-suc k))

-- f goes into d: i elements are in, and one more is stored
pub fill : (f d e : List ℕ) (i v : ℕ) → i < length f → i < length d → e ≡ take i f ++ drop i d → v ≡ get_or f i 0 → set e i v ≡ take (i + 1) f ++ drop (i + 1) d
fill f d e i v h k p q = rw (p, q, add-one) (store f d i h k)

pub fill_start : (f d : List ℕ) → d ≡ take 0 f ++ drop 0 d
fill_start f d = refl

pub fill_end : (f d e : List ℕ) (i : ℕ) → i ≡ length f → e ≡ take i f ++ drop i d → e ≡ f ++ drop (length f) d
fill_end f d e i s p = p ∙ rw s (ap (λ (l : List ℕ). l ++ drop (length f) d) (take-length f))

pub fill_length : (f d : List ℕ) (i : ℕ) → i ≤ length f → i ≤ length d → length (take i f ++ drop i d) ≡ length d
fill_length f d i h k = length-append (take i f) (drop i d) ∙ rw (length-take-le i f h, length-drop i d) (omega arith)

pub fill_done : (f d e : List ℕ) (i j : ℕ) → j < i → i ≤ length f → e ≡ take i f ++ drop i d → get_or e j 0 ≡ get_or f j 0
fill_done f d e i j h k p =
    rw p (get_or-append (take i f) (drop i d) 0 j (rw (length-take-le i f k) h) ∙ get_or-take i f j 0 h)

-- what is in, as a list of its own that grows at the end
pub fill_snoc : (f d : List ℕ) (v : ℕ) → length f < length d → set (f ++ drop (length f) d) (length f) v ≡ (f ++ (v ∷ [])) ++ drop (length f + 1) d
fill_snoc f d v h =
    rw (drop-cons d (length f) 0 h, add-one)
    (set-append_seam f (get_or d (length f) 0) (drop (suc (length f)) d) v ∙ sym (append_assoc f (v ∷ []) (drop (suc (length f)) d)))

pub map_at : (f : ℕ → ℕ) (s : List ℕ) (i : ℕ) → i < length s → get_or (map f s) i 0 ≡ f (get_or s i 0)
map_at f [] i h = absurd (not-suc-le-zero h)
map_at f (x ∷ xs) zero h = refl
map_at f (x ∷ xs) (suc i) h = map_at f xs i (le_of_suc-le-suc h)
