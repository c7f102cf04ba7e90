-- Which words fit a size and a level list, and refusal 8. Assumes nothing.
-- Definitions: `bad_code`, `bad_word` a word names no edgel of the size, or its level is not listed; `code_row`, `codes_row`, `words_fit_row` the row 8 for one code, for the codes of a list, and for codes and levels.
use Rattle.std.specs.Prelude.{Bool, not, ◌||◌, List, ℕ, eqb, ltb, length}
use Rattle.tally.specs.Tally.{count, first_at}
use Rattle.matte.specs.Layout.{Layout}
use Rattle.edgel.specs.Edgel.{edgel}
use Rattle.edgel.specs.Word.{code_of, level_of}
use Rattle.refuse.specs.Refusal.{Row, row_at, row}

module _ (L : Layout) where
  -- the code names no edgel of this size (01, Numbers for a refused call, 8)
  abbrev pub bad_code : ℕ → ℕ → ℕ → Bool
  bad_code w h u = not (edgel w h (code_of L u))

  -- or the level is not listed (01, Numbers for a refused call, 8)
  abbrev pub bad_word : ℕ → ℕ → List ℕ → ℕ → Bool
  bad_word w h ks u = bad_code w h u || eqb (count (level_of L u) ks) 0

  -- 8 for a list whose codes alone are looked at, with the first bad word
  abbrev pub codes_row : ℕ → ℕ → List ℕ → Row
  codes_row w h ws = let i = first_at (bad_code w h) ws in row_at 8 (ltb i (length ws)) i

  -- 8 for a list, with the first word that is bad for either reason
  abbrev pub words_fit_row : ℕ → ℕ → List ℕ → List ℕ → Row
  words_fit_row w h ks ws = let i = first_at (bad_word w h ks) ws in row_at 8 (ltb i (length ws)) i

-- 8 for a single code, place 0
abbrev pub code_row : ℕ → ℕ → ℕ → Row
code_row w h c = row 8 (not (edgel w h c))
