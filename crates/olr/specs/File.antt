-- The outline file as it is written, and the writing call. Assumes nothing.
-- Definitions: `limit` the most words; `letters`, `header` block 0's payload; `word_bytes` the bytes of words; `blocks_for` how many word blocks there are; `word_blocks` they; `file` the whole;
--   `write_rows`, `write_verdict`, `write_answer`, `write_room`, `WriteCall` the call.
use Rattle.std.specs.Prelude.{◌≡◌, List, [], ◌∷◌, ◌++◌, ℕ, zero, suc, ◌+◌, ◌*◌, ◌/◌, ltb, length, take, drop}
use Rattle.refuse.specs.declared.Answer.{Answer}
use Rattle.refuse.specs.Refusal.{Verdict}
use Rattle.matte.specs.Layout.{eight}
use Rattle.refuse.specs.Refusal.{Row, verdict, row, row_at, answer, afterwards}
use Rattle.refuse.specs.Shape.{size_rows}
use Rattle.words.specs.Fit.{words_fit_row}
use Rattle.block.specs.Block.{le2, le4, pad, block}

-- N is at most 16,777,215 (01, Outline file)
abbrev pub limit : ℕ
limit = 16777215

-- "OLR1" (01, Outline file)
abbrev pub letters : List ℕ
letters = 79 ∷ 76 ∷ 82 ∷ 49 ∷ []

-- letters, width, height, border value, number of levels, two zero bytes, word count, levels (01, Outline file)
abbrev pub header : ℕ → ℕ → ℕ → List ℕ → ℕ → List ℕ
header w h v ks n = letters ++ le2 w ++ le2 h ++ (v ∷ length ks ∷ 0 ∷ 0 ∷ []) ++ le4 n ++ ks

unfoldable pub word_bytes : List ℕ → List ℕ
word_bytes [] = []
word_bytes (u ∷ ws) = le4 u ++ word_bytes ws

-- exactly ⌈N/127⌉ (01, Outline file)
abbrev pub blocks_for : ℕ → ℕ
blocks_for n = (n + 126) / 127

-- m blocks of 127 words each from block i on (01, Outline file)
unfoldable pub word_blocks : ℕ → ℕ → List ℕ → List ℕ
word_blocks i zero ws = []
word_blocks i (suc m) ws = block i (pad (word_bytes (take 127 ws))) ++ word_blocks (suc i) m (drop 127 ws)

module _ (w h v : ℕ) (ks ws : List ℕ) where
  unfoldable pub file : List ℕ
  file = block 0 (pad (header w h v ks (length ws))) ++ word_blocks 1 (blocks_for (length ws)) ws

  abbrev pub file_length : ℕ
  file_length = 512 * (1 + blocks_for (length ws))

  module _ (room : List ℕ) where
    -- 1 3 16 8 15 (01, Numbers for a refused call)
    abbrev pub write_rows : List Row
    write_rows = size_rows eight w h ks ++ (row 16 (ltb limit (length ws)) ∷ words_fit_row eight w h ks ws ∷ row_at 15 (ltb (length room) file_length) file_length ∷ [])

    abbrev pub write_verdict : Verdict
    write_verdict = verdict write_rows

    abbrev pub write_answer : Answer
    write_answer = answer write_verdict 0 0

    abbrev pub write_room : List ℕ
    write_room = afterwards write_verdict room (file ++ drop file_length room)

-- what the writing call answers and leaves: its answer, and the room afterwards (01, Numbers for a refused call)
abbrev pub WriteCall : ℕ → ℕ → ℕ → List ℕ → List ℕ → List ℕ → Answer → List ℕ → Type 0
WriteCall w h v ks ws room r room' = (r ≡ write_answer w h v ks ws room) × (room' ≡ write_room w h v ks ws room)
