-- What the code's refusals tell: the verdict that a Result stands for. Assumes nothing.
-- Definitions: `number_of` a reason's number; `verdict_of` the verdict of a Result.
use Rattle.std.specs.Prelude.{ℕ, Result, Ok, Err}
use Rattle.refuse.specs.declared.reason.Reason.{Reason}
use Rattle.refuse.specs.declared.reason.Reason.TheVariants.{Sides, Samples, Levels, TopBorder, WorkBytes, WordPlaces, TreePlaces, UnfitWord, Room, NotCrossed, NotThere, FileLength, BlockCheck, FileLayout, FileRoom, ManyWords, BottomBorder, LeftBorder, RightBorder, PgmHeader, AboveMaximum, NoSample}
use Rattle.refuse.specs.declared.reason.Refusal.{Refusal}
use Rattle.refuse.specs.Refusal.{Verdict}

-- the number that a call answers for the reason (01 and 02, Numbers for a refused call)
abbrev pub number_of : Reason → ℕ
number_of Sides = 1
number_of Samples = 2
number_of Levels = 3
number_of TopBorder = 4
number_of WorkBytes = 5
number_of WordPlaces = 6
number_of TreePlaces = 7
number_of UnfitWord = 8
number_of Room = 9
number_of NotCrossed = 10
number_of NotThere = 11
number_of FileLength = 12
number_of BlockCheck = 13
number_of FileLayout = 14
number_of FileRoom = 15
number_of ManyWords = 16
number_of BottomBorder = 17
number_of LeftBorder = 18
number_of RightBorder = 19
number_of PgmHeader = 22
number_of AboveMaximum = 23
number_of NoSample = 24

-- refused: the reason's number and the place; else 0 and 0 (01, Numbers for a refused call)
module _ {A : Type 0} where
  abbrev pub verdict_of : Result A Refusal → Verdict
  verdict_of (Ok x) = record { number = 0; place = 0 }
  verdict_of (Err r) = record { number = number_of r.reason; place = r.place }
