-- Refusals by their order, and what a call answers and leaves in lent memory. Assumes nothing.
-- Definitions: `Row` a row of the paper's table: its number, whether it is given, its place; `row`, `row_at` make one; `Verdict` a number and a place, `verdict` those of the first row that is given; `answer` the call's answer;
--   `afterwards` what lent memory holds; `sides_row`, `samples_row`, `levels_row`, `work_row`, `words_row`, `room_row` the rows 1 2 3 5 6 9.
use Rattle.std.specs.Prelude.{Bool, true, false, not, ◌&&◌, cond, List, [], ◌∷◌, ℕ, ◌*◌, eqb, ltb, length}
use Rattle.refuse.specs.declared.Answer.{Answer}
use Rattle.matte.specs.Layout.{Layout}
use Rattle.matte.specs.Picture.{Picture, side_fits, levels_fit, samples_fit, size}

-- the first refusal that applies, by its number, with its place; 0 and 0 with none (01, Numbers for a refused call)
pub record Verdict : Type 0 where
  pub number : ℕ
  pub place : ℕ

-- one row of the table: its number is given exactly when `given`, with `place` (01, Numbers for a refused call)
pub record Row : Type 0 where
  pub number : ℕ
  pub given : Bool
  pub place : ℕ

abbrev pub row : ℕ → Bool → Row
row n b = record { number = n; given = b; place = 0 }

abbrev pub row_at : ℕ → Bool → ℕ → Row
row_at n b p = record { number = n; given = b; place = p }

-- the first row of the call's order that is given; 0 with none (01, Numbers for a refused call, Order)
abbrev pub verdict : List Row → Verdict
verdict [] = record { number = 0; place = 0 }
verdict (r ∷ rs) = cond r.given (record { number = r.number; place = r.place }) (verdict rs)

-- refused: the number and place, and nothing handed over; done: number and place 0, the words and lines handed over (01, Numbers for a refused call)
abbrev pub answer : Verdict → ℕ → ℕ → Answer
answer v words lines =
    cond (eqb v.number 0)
    (record { number = 0; place = 0; words = words; lines = lines })
    (record { number = v.number; place = v.place; words = 0; lines = 0 })

-- lent memory, or a value of the answer: as it was where the call is refused, else what the call leaves (01, Numbers for a refused call)
module _ {A : Type 0} where
  abbrev pub afterwards : Verdict → A → A → A
  afterwards v was done = cond (eqb v.number 0) done was

-- 1: a side is outside 2 to 2,048
abbrev pub sides_row : ℕ → ℕ → Row
sides_row w h = row 1 (not (side_fits w && side_fits h))

-- 2: the samples are not w·h
abbrev pub samples_row : Picture → Row
samples_row P = row 2 (not (samples_fit P))

-- 3: a level is too large, or the list does not ascend strictly
abbrev pub levels_row : Layout → List ℕ → Row
levels_row L ks = row 3 (not (levels_fit L ks))

-- 5: fewer work bytes than w·h
abbrev pub work_row : Picture → List ℕ → Row
work_row P work = row 5 (ltb (length work) (size P))

-- 6: fewer word places than words, with the words needed
abbrev pub words_row : List ℕ → ℕ → Row
words_row out needed = row_at 6 (ltb (length out) needed) needed

-- 9: sample room below w·h
abbrev pub room_row : ℕ → ℕ → List ℕ → Row
room_row w h room = row 9 (ltb (length room) (w * h))
