-- The whole list as words, and the list call. Assumes nothing.
-- Definitions: `encode` a line as words, its first flagged; `level_words` the lines of a level; `listed` all levels; `list_rows`, `list_verdict`, `list_answer`, `list_work`, `list_words` the call: its
--   refusals by their order, the one given, its answer, the work bytes and the word places afterwards; `ListCall` all of it.
use Rattle.std.specs.Prelude.{◌≡◌, Bool, true, false, List, [], ◌∷◌, ◌++◌, ℕ, ◌+◌, length, drop, replicate}
use Rattle.tally.specs.Tally.{tally}
use Rattle.refuse.specs.declared.Answer.{Answer}
use Rattle.refuse.specs.Refusal.{Verdict}
use Rattle.matte.specs.Layout.{Layout}
use Rattle.matte.specs.Picture.{Picture, size}
use Rattle.refuse.specs.Refusal.{Row, verdict, answer, afterwards, work_row, words_row}
use Rattle.refuse.specs.Shape.{ground_rows}
use Rattle.edgel.specs.Word.{word, flagged}
use Rattle.outline.specs.Line.{lines}

module _ (L : Layout) where
  -- the words of level k of a line's crossings, the first one flagged where b (01, Picture, levels, edgels)
  unfoldable pub encode : ℕ → Bool → List ℕ → List ℕ
  encode k b [] = []
  encode k b (c ∷ l) = word L c k b ∷ encode k false l

  -- one line after the other (01, Following a line)
  unfoldable pub level_words : ℕ → List (List ℕ) → List ℕ
  level_words k [] = []
  level_words k (l ∷ ls) = encode k true l ++ level_words k ls

  module _ (P : Picture) where
    -- the levels in order (01, Following a line)
    unfoldable pub listed : List ℕ → List ℕ
    listed [] = []
    listed (k ∷ ks) = level_words k (lines P k) ++ listed ks

    module _ (ks work out : List ℕ) where
      -- 1 2 3 4 17 18 19 5 6 (01, Numbers for a refused call; 02, R-1)
      abbrev pub list_rows : List Row
      list_rows = ground_rows L P ks ++ (work_row P work ∷ words_row out (length (listed ks)) ∷ [])

      abbrev pub list_verdict : Verdict
      list_verdict = verdict list_rows

      -- the words handed over and the flags among them (01, Numbers for a refused call)
      abbrev pub list_answer : Answer
      list_answer = answer list_verdict (length (listed ks)) (tally (flagged L) (listed ks))

      -- the first w·h work bytes are 0, the rest are left (01, Numbers for a refused call)
      abbrev pub list_work : List ℕ
      list_work = afterwards list_verdict work (replicate (size P) 0 ++ drop (size P) work)

      -- the list fills the first places, the rest are left (01, Numbers for a refused call)
      abbrev pub list_words : List ℕ
      list_words = afterwards list_verdict out (listed ks ++ drop (length (listed ks)) out)

-- what the list call answers and leaves: its answer, the work bytes and the word places afterwards (01, Numbers for a refused call)
abbrev pub ListCall : Layout → Picture → List ℕ → List ℕ → List ℕ → Answer → List ℕ → List ℕ → Type 0
ListCall L P ks work out r work' out' = (r ≡ list_answer L P ks work out) × (work' ≡ list_work L P ks work out) × (out' ≡ list_words L P ks work out)
