-- The outline file as it is read, and the reading call. Assumes nothing.
-- Definitions: `blocks`, `payload`, `check_fits` the blocks of a file; `file_width`, `file_height`, `file_border`, `file_count`, `file_word_count`, `file_levels`, `file_words` what it says; `zeros` bytes due to be zero
--   are; `after_levels`, `after_words` which those are; `laid_out` it keeps the layout; `read_rows`, `read_verdict`, `read_answer`, `read_words`, `ReadCall` the call.
use Rattle.std.specs.Prelude.{◌≡◌, Bool, not, ◌&&◌, ◌||◌, cond, List, [], ◌∷◌, ◌++◌, ℕ, ◌+◌, ◌-◌, ◌*◌, ◌/◌, ◌%◌, eqb, ltb, leb, length, take, drop, get_or, replicate}
use Rattle.tally.specs.Tally.{tally, build, first_from}
use Rattle.refuse.specs.Refusal.{Verdict}
use Rattle.matte.specs.Layout.{eight}
use Rattle.matte.specs.Picture.{side_fits, levels_fit}
use Rattle.refuse.specs.Refusal.{Row, verdict, row, row_at, answer, afterwards, words_row}
use Rattle.edgel.specs.Word.{flagged}
use Rattle.words.specs.Fit.{words_fit_row}
use Rattle.olr.specs.declared.Stored.{Stored}
use Rattle.block.specs.Block.{num2, num4, check}
use Rattle.olr.specs.File.{limit, letters, blocks_for}

-- every byte is zero
abbrev pub zeros : List ℕ → Bool
zeros l = eqb (tally (λ b. not (eqb b 0)) l) 0

module _ (f : List ℕ) where
  -- blocks of 512 bytes, 0 to 507 payload, 508 to 511 the check (01, Outline file)
  abbrev pub blocks : ℕ
  blocks = length f / 512

  abbrev pub payload : ℕ → List ℕ
  payload i = take 508 (drop (512 * i) f)

  abbrev pub check_fits : ℕ → Bool
  check_fits i = eqb (num4 f (512 * i + 508)) (check i (payload i))

  -- what block 0 says (01, Outline file)
  abbrev pub file_width : ℕ
  file_width = num2 f 4

  abbrev pub file_height : ℕ
  file_height = num2 f 6

  abbrev pub file_border : ℕ
  file_border = get_or f 8 0

  abbrev pub file_count : ℕ
  file_count = get_or f 9 0

  abbrev pub file_word_count : ℕ
  file_word_count = num4 f 12

  abbrev pub file_levels : List ℕ
  file_levels = take file_count (drop 16 f)

  -- word i stands in block 1 + i/127 (01, Outline file)
  unfoldable pub file_words : List ℕ
  file_words = build (λ i. num4 f (512 * (1 + i / 127) + 4 * (i % 127))) 0 file_word_count

  -- the payload bytes after the last level in block 0, and after the last word in the last block where that is not full (01, Outline file)
  abbrev pub after_levels : List ℕ
  after_levels = drop (16 + file_count) (payload 0)

  abbrev pub after_words : List ℕ
  after_words = cond (eqb (file_word_count % 127) 0) [] (drop (4 * (file_word_count % 127)) (payload (blocks - 1)))

  -- the letters, both zero bytes, the count of words and of blocks, the sides, the levels, and zeros after the last level and the last word (01, Numbers for a refused call, 14)
  unfoldable pub laid_out : Bool
  laid_out =
      eqb (num4 f 0) (num4 letters 0)
      && (eqb (num2 f 10) 0
      && (leb file_word_count limit
      && (eqb blocks (1 + blocks_for file_word_count)
      && (side_fits file_width
      && (side_fits file_height
      && (levels_fit eight file_levels
      && (zeros after_levels
      && zeros after_words)))))))

  module _ (out : List ℕ) where
    -- 12 13 14 8 6 (01, Numbers for a refused call)
    abbrev pub read_rows : List Row
    read_rows =
        let bad = first_from (λ i. not (check_fits i)) 0 blocks in
        row 12 (eqb (length f) 0 || not (eqb (length f % 512) 0))
        ∷ row_at 13 (ltb bad blocks) bad
        ∷ row 14 (not laid_out)
        ∷ words_fit_row eight file_width file_height file_levels file_words
        ∷ words_row out file_word_count
        ∷ []

    abbrev pub read_verdict : Verdict
    read_verdict = verdict read_rows

    -- done: sides, border, levels, the words and the flags among them; refused: all 0 (01, Outline file; Numbers for a refused call)
    abbrev pub read_answer : Stored
    read_answer =
        let v = read_verdict in
        record {
          answer = answer v file_word_count (tally (flagged eight) file_words);
          width = afterwards v 0 file_width;
          height = afterwards v 0 file_height;
          border = afterwards v 0 file_border;
          count = afterwards v 0 file_count;
          levels = afterwards v (replicate 255 0) (file_levels ++ replicate (255 - file_count) 0);
        }

    abbrev pub read_words : List ℕ
    read_words = afterwards read_verdict out (file_words ++ drop file_word_count out)

-- what the reading call answers and leaves: its answer, and the word places afterwards (01, Numbers for a refused call)
abbrev pub ReadCall : List ℕ → List ℕ → Stored → List ℕ → Type 0
ReadCall f out r out' = (r ≡ read_answer f out) × (out' ≡ read_words f out)
