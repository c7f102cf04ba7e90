-- The reading call for PGM files: its refusals, its answer, the room afterwards. Assumes nothing.
-- Definitions: `pgm_raster`, `pgm_samples` what stands after the header; `pgm_rows`, `pgm_verdict`, `pgm_answer`, `pgm_room`, `PgmCall` the call.
use Rattle.std.specs.Prelude.{◌≡◌, not, List, [], ◌∷◌, ◌++◌, ℕ, ◌*◌, eqb, drop}
use Rattle.refuse.specs.Refusal.{Verdict}
use Rattle.refuse.specs.Refusal.{Row, row_at, verdict, answer, afterwards, sides_row, room_row}
use Rattle.pgm.specs.declared.Grey.{Grey}
use Rattle.pgm.specs.Reader.{HeadRead, head_of, raster_from, samples_from}

-- the header's w·h samples, from the byte after it on (02, R-6)
abbrev pub pgm_raster : List ℕ → HeadRead → Verdict
pgm_raster s h = raster_from s h.plain h.maximum (h.width * h.height) h.at

abbrev pub pgm_samples : List ℕ → HeadRead → List ℕ
pgm_samples s h = samples_from s h.plain (h.width * h.height) h.at

module _ (s room : List ℕ) where
  -- 22 header, then 1, then 9, then 23 or 24, whichever comes first in the file; all but 1 and 9 with the byte at which reading gave up (02, R-6)
  abbrev pub pgm_rows : List Row
  pgm_rows =
      let h = head_of s in
      let r = pgm_raster s h in
      row_at 22 (not h.ok) h.at
      ∷ sides_row h.width h.height
      ∷ room_row h.width h.height room
      ∷ row_at 23 (eqb r.number 23) r.place
      ∷ row_at 24 (eqb r.number 24) r.place
      ∷ []

  abbrev pub pgm_verdict : Verdict
  pgm_verdict = verdict pgm_rows

  -- done: the sides and the maximum; refused: 0 (02, R-6)
  abbrev pub pgm_answer : Grey
  pgm_answer =
      let v = pgm_verdict in
      let h = head_of s in
      record { answer = answer v 0 0; width = afterwards v 0 h.width; height = afterwards v 0 h.height; maximum = afterwards v 0 h.maximum }

  -- the samples as they are, then what stood there (02, R-6)
  abbrev pub pgm_room : List ℕ
  pgm_room = let h = head_of s in afterwards pgm_verdict room (pgm_samples s h ++ drop (h.width * h.height) room)

-- what the call answers and leaves: its answer, and the room afterwards (02, R-6)
abbrev pub PgmCall : List ℕ → List ℕ → Grey → List ℕ → Type 0
PgmCall s room r room' = (r ≡ pgm_answer s room) × (room' ≡ pgm_room s room)
