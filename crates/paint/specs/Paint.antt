-- Painting words back, and the stepped picture. Assumes nothing.
-- Definitions: `turns` a word turns a sample over at a level; `painted` a painted sample, `painting` all of them; `stepped` what a sample is stepped to; `paint_rows`, `paint_verdict`, `paint_answer`, `paint_room`, `PaintCall` the call.
use Rattle.std.specs.Prelude.{◌≡◌, Bool, ◌&&◌, List, [], ◌∷◌, ◌++◌, ℕ, ◌*◌, ◌/◌, ◌%◌, eqb, ltb, drop}
use Rattle.tally.specs.Tally.{odd, differ, tally, build}
use Rattle.refuse.specs.declared.Answer.{Answer}
use Rattle.refuse.specs.Refusal.{Verdict}
use Rattle.matte.specs.Layout.{Layout}
use Rattle.refuse.specs.Refusal.{Row, verdict, answer, afterwards, room_row}
use Rattle.refuse.specs.Shape.{size_rows}
use Rattle.edgel.specs.Word.{code_of, level_of}
use Rattle.words.specs.Fit.{words_fit_row}
use Rattle.edgel.specs.Beside.{west_of}

-- the number of listed levels that a sample is high at (01, Framing, membership, painting)
abbrev pub stepped : List ℕ → ℕ → ℕ
stepped ks s = tally (λ k. ltb k s) ks

module _ (L : Layout) (w v : ℕ) (ks ws : List ℕ) where
  -- a word of level k that is horizontal, on row y and in a column below x (01, Framing, membership, painting)
  unfoldable pub turns : ℕ → ℕ → ℕ → ℕ → Bool
  turns x y k u = eqb (level_of L u) k && west_of w x y (code_of L u)

  -- the number of listed levels for which v is high, turned over once for each such word (01, Framing, membership, painting)
  unfoldable pub painted : ℕ → ℕ → ℕ
  painted x y = tally (λ k. differ (ltb k v) (odd (tally (turns x y k) ws))) ks

module _ (L : Layout) (w h v : ℕ) (ks ws : List ℕ) where
  -- every sample, row by row
  unfoldable pub painting : List ℕ
  painting = build (λ i. painted L w v ks ws (i % w) (i / w)) 0 (w * h)

  module _ (room : List ℕ) where
    -- 1 3 8 9 (01, Numbers for a refused call)
    abbrev pub paint_rows : List Row
    paint_rows = size_rows L w h ks ++ (words_fit_row L w h ks ws ∷ room_row w h room ∷ [])

    abbrev pub paint_verdict : Verdict
    paint_verdict = verdict paint_rows

    abbrev pub paint_answer : Answer
    paint_answer = answer paint_verdict 0 0

    abbrev pub paint_room : List ℕ
    paint_room = afterwards paint_verdict room (painting ++ drop (w * h) room)

-- what the painting call answers and leaves: its answer, and the room afterwards (01, Numbers for a refused call)
abbrev pub PaintCall : Layout → ℕ → ℕ → ℕ → List ℕ → List ℕ → List ℕ → Answer → List ℕ → Type 0
PaintCall L w h v ks ws room r room' = (r ≡ paint_answer L w h v ks ws room) × (room' ≡ paint_room L w h v ks ws room)
