-- The lines of any word list. Assumes nothing.
-- Definitions: `rest` the words before the next flagged one; `part` line n; `words_before` the number of words before it; `part_start` its place; `word_on` the address some words on.
use Rattle.std.specs.Prelude.{true, false, cond, List, [], ◌∷◌, ℕ, zero, suc, ◌+◌, ◌*◌, ltb, length}
use Rattle.matte.specs.Layout.{Layout}
use Rattle.edgel.specs.Word.{flagged}

-- an address is a block and an offset in bytes; a word takes 4
abbrev pub word_on : ℕ × ℕ → ℕ → ℕ × ℕ
word_on p i = (p.0, p.1 + 4 * i)

module _ (L : Layout) where
  -- up to the next flagged word or the end (01, Framing, membership, painting)
  unfoldable pub rest : List ℕ → List ℕ
  rest [] = []
  rest (u ∷ ws) = elim (flagged L u) [ true ↦ [] | false ↦ u ∷ rest ws ]

  -- from the n-th flagged word, counted from 0, up to the next; none where there are fewer (01, Framing, membership, painting)
  unfoldable pub part : ℕ → List ℕ → List ℕ
  part n [] = []
  part n (u ∷ ws) = elim (flagged L u) [ true ↦ elim n [ zero ↦ u ∷ rest ws | suc m ↦ part m ws ] | false ↦ part n ws ]

  -- the number of words before line n, all of them where there is none (01, Framing, membership, painting)
  unfoldable pub words_before : ℕ → List ℕ → ℕ
  words_before n [] = 0
  words_before n (u ∷ ws) = elim (flagged L u) [ true ↦ elim n [ zero ↦ 0 | suc m ↦ words_before m ws + 1 ] | false ↦ words_before n ws + 1 ]

  -- where line n starts, 0 where there is none (01, Numbers for a refused call)
  unfoldable pub part_start : ℕ → List ℕ → ℕ
  part_start n ws = cond (ltb (words_before n ws) (length ws)) (words_before n ws) 0
