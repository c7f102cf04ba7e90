-- The flag on a line's first word. Assumes nothing.
-- Main laws: `line_cons` a line begins with its lead; `flag_first` storing the flagged word over the first plain one gives the line's words.
use mathlib.Core.Path.{◌≡◌, refl, sym, ap, ◌∙◌}
use mathlib.Core.Bool.{true, false}
use mathlib.Core.List.{List, [], ◌∷◌, ◌++◌, append_assoc}
use Prim.Native.Nat.{ℕ, zero, suc, ◌+◌, ◌*◌, ◌≤◌, ◌<◌}
use native.Mathlib.Omega.{arith}
use lib.Dec.{eqb}
use lib.ListN.{length, take, drop, set}
use lib.Seq.{set_at, length-take-le}
use Rattle.orbit.specs.Orbit.{orbit}
use Rattle.matte.specs.Layout.{Layout}
use Rattle.matte.specs.Picture.{Picture, size}
use Rattle.edgel.specs.Word.{word}
use Rattle.outline.specs.Line.{cut_at, line}
use Rattle.outline.specs.List.{encode}
use Rattle.refuse.specs.Shape.{Ground}
use Rattle.follow.specs.Words.{pasted}
use Rattle.follow.proofs.Tracing.{place_in}

orbit_cons : (f : ℕ → ℕ) (a n : ℕ) → 0 < n → (rest : List ℕ) × (orbit f a n a ≡ a ∷ rest)
unfolding orbit
orbit_cons f a zero h = absurd (omega arith)
orbit_cons f a (suc n) h = (elim (eqb (f a) a) [ true ↦ [] | false ↦ orbit f a n (f a) ], refl)

pub line_cons : (P : Picture) (G : Ground P) (k c : ℕ) → cut_at P k c ≡ true → (rest : List ℕ) × (line P k c ≡ c ∷ rest)
unfolding line
line_cons P G k c o = orbit_cons _ c (2 * size P) (omega (arith, place_in P G k c o))

-- the word at n of a list pasted in at n
over : (d : List ℕ) (n x y : ℕ) (f : List ℕ) → n ≤ length d → set (pasted d n (x ∷ f)) n y ≡ pasted d n (y ∷ f)
over d n x y f h =
    ap (λ (l : List ℕ). set l n y) (append_assoc (take n d) (x ∷ f) (drop (n + length (x ∷ f)) d))
    ∙ set_at (take n d) x (f ++ drop (n + length (x ∷ f)) d) y n (length-take-le n d h)
    ∙ sym (append_assoc (take n d) (y ∷ f) (drop (n + length (x ∷ f)) d))

pub flag_first : (L : Layout) (k c : ℕ) (rest d : List ℕ) (n : ℕ) → n ≤ length d
    → set (pasted d n (encode L k false (c ∷ rest))) n (word L c k true) ≡ pasted d n (encode L k true (c ∷ rest))
unfolding encode
flag_first L k c rest d n h = over d n (word L c k false) (word L c k true) (encode L k false rest) h
