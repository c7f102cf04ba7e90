-- The listed levels as a table by value, so that a word is tested without going through the list. Assumes nothing.
-- Definitions: `level_table` the table of a level list; `word_fits` the test of a word with it.
use Rattle.std.specs.Prelude.{Bool, not, ◌||◌, List, ℕ, eqb, ltb, get_or}
use Rattle.tally.specs.Tally.{one, count, build}
use Rattle.matte.specs.Layout.{Layout}
use Rattle.edgel.specs.Word.{level_of}
use Rattle.words.specs.Fit.{bad_code}

module _ (L : Layout) where
  -- entry k is 1 if level k is listed, else 0 (01, Numbers for a refused call, 8)
  unfoldable pub level_table : List ℕ → List ℕ
  level_table ks = build (λ k. one (ltb 0 (count k ks))) 0 L.levels

  -- the code names an edgel, and the table has the level (01, Numbers for a refused call, 8)
  abbrev pub word_fits : ℕ → ℕ → List ℕ → ℕ → Bool
  word_fits w h t u = not (bad_code L w h u || eqb (get_or t (level_of L u) 0) 0)
