-- Framing: the border set to its lower median. Assumes nothing.
-- Definitions: `border_samples` the samples on the border; `median` the lower median of a list; `framed` the picture with that border; `frame_rows`, `frame_verdict`, `frame_answer`, `frame_room`, `FrameCall` the call.
use Rattle.std.specs.Prelude.{◌≡◌, cond, List, [], ◌∷◌, ◌++◌, ℕ, ◌*◌, leb, length, drop}
use Rattle.tally.specs.Tally.{tally, build, first_from, flat, pick}
use Rattle.refuse.specs.declared.Answer.{Answer}
use Rattle.refuse.specs.Refusal.{Verdict}
use Rattle.matte.specs.Layout.{Layout}
use Rattle.matte.specs.Picture.{Picture, size, at, on_border}
use Rattle.refuse.specs.Refusal.{Row, verdict, answer, afterwards, room_row}
use Rattle.refuse.specs.Shape.{shape_rows}

-- the samples on the border, each once, row by row (01, Framing)
unfoldable pub border_samples : Picture → List ℕ
border_samples P = flat (pick (on_border P.w P.h) (λ i. at P i ∷ []) 0 (size P))

-- the lower median: the least value that at least half of the samples do not exceed, so the smaller of the middle two (01, Framing)
unfoldable pub median : Layout → List ℕ → ℕ
median L l = first_from (λ v. leb (length l) (2 * tally (λ s. leb s v) l)) 0 L.most

module _ (L : Layout) (P : Picture) where
  -- the picture, its border samples set to their lower median (01, Framing)
  unfoldable pub framed : List ℕ
  framed = let m = median L (border_samples P) in build (λ i. cond (on_border P.w P.h i) m (at P i)) 0 (size P)

  module _ (room : List ℕ) where
    -- 1 2 9 (01, Numbers for a refused call)
    abbrev pub frame_rows : List Row
    frame_rows = shape_rows P ++ (room_row P.w P.h room ∷ [])

    abbrev pub frame_verdict : Verdict
    frame_verdict = verdict frame_rows

    abbrev pub frame_answer : Answer
    frame_answer = answer frame_verdict 0 0

    abbrev pub frame_room : List ℕ
    frame_room = afterwards frame_verdict room (framed ++ drop (size P) room)

-- what the framing call answers and leaves: its answer, and the room afterwards (01, Numbers for a refused call)
abbrev pub FrameCall : Layout → Picture → List ℕ → Answer → List ℕ → Type 0
FrameCall L P room r room' = (r ≡ frame_answer L P room) × (room' ≡ frame_room L P room)
