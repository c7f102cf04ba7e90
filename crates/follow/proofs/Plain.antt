-- A word that is not the first of its line, as the sum that the code makes. Assumes nothing.
-- Main laws: `plain_word` code and base make the word; `first_word` with the flag; `pasted_length` storing a line keeps the length.
use mathlib.Core.Path.{◌≡◌, ◌∙◌}
use mathlib.Core.Bool.{Bool, true, false}
use mathlib.Core.List.{List, ◌++◌}
use Prim.Native.Nat.{ℕ, ◌+◌, ◌*◌, ◌≤◌}
use native.Mathlib.Omega.{arith}
use Rattle.matte.specs.Layout.{Layout}
use Rattle.edgel.specs.Word.{word}
use lib.ListN.{length}
use lib.ListN.{take, drop, length-append, length-drop}
use lib.Seq.{length-take-le}
use Rattle.outline.specs.List.{encode}
use Rattle.outline.proofs.Words.{encode_length}
use Rattle.matte.specs.Layout.{layout_of}
use Rattle.follow.specs.Words.{pasted}

pub plain_word : (L : Layout) (c k base : ℕ) → base ≡ k * L.codes → c + base ≡ word L c k false
plain_word L c k base e = omega arith

-- with the flag; both layouts put it at 2^31
pub first_word : (wide : Bool) (c k base : ℕ) → base ≡ k * (layout_of wide).codes → c + base + 2147483648 ≡ word (layout_of wide) c k true
first_word true c k base e = omega arith
first_word false c k base e = omega arith

-- a list with a line's words in it is as long as before
pub pasted_length : (L : Layout) (k : ℕ) (first : Bool) (u : List ℕ) (n : ℕ) (l : List ℕ) → n + length l ≤ length u → length (pasted u n (encode L k first l)) ≡ length u
pasted_length L k first u n l h =
    let f = encode L k first l in
    let e = encode_length L k first l in
    length-append (take n u ++ f) (drop (n + length f) u)
    ∙ omega (arith, length-append (take n u) f, length-take-le n u (omega arith), length-drop (n + length f) u)
