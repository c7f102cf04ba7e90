-- A line's place as plain numbers, for hosts that have no slices. Assumes nothing.
-- Definitions: `part_place` the first word and the number of words of line n.
use Rattle.std.specs.Prelude.{List, ℕ, length}
use Rattle.matte.specs.Layout.{eight}
use Rattle.paint.specs.Part.{part, part_start}
use Rattle.host.specs.declared.LinePlace.{LinePlace}

-- start 0 and count 0 for a line that is not there (01, Numbers for a refused call)
abbrev pub part_place : ℕ → List ℕ → LinePlace
part_place n ws = record { start = part_start eight n ws; count = length (part eight n ws) }
