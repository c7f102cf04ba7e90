-- The follower's state and its step, as the code takes it. Assumes nothing.
-- Definitions: `four` the corners of a cell; `turned` the heading out of them; `right_end`, `left_end` the ends of the edgel by which a cell is entered; `entered` the cell that a crossing enters;
--   `entry`, `exit` the left or top end of the edgel by which a cell is entered and left; `code_at` the code of a state; `state_at` the state of a code; `leaving` the state that leaves a cell;
--   `after` the state after a state; `Ready` what a step asks.
use Rattle.std.specs.Prelude.{ℕ, ◌+◌, ◌-◌, ◌*◌, ◌≤◌, ◌<◌, ◌≡◌, Bool, List, ltb, length}
use Rattle.matte.specs.Picture.{Picture, most_places}
use Rattle.edgel.specs.declared.Heading.{Heading}
use Rattle.edgel.specs.declared.Heading.TheVariants.{South, East, North, West}
use Rattle.edgel.specs.Edgel.{first, heading_at}
use Rattle.cell.specs.Turn.{Corners, saddle, turn, leave}
use Rattle.step.specs.declared.State.{State}

-- the corners as the entry names them (01, Following a line)
abbrev pub four : ℕ → ℕ → ℕ → ℕ → Corners
four p0 p1 p2 p3 = record { p0 = p0; p1 = p1; p2 = p2; p3 = p3 }

-- the heading out of a cell with these corners, entered with heading g (01, Following a line)
abbrev pub turned : ℕ → Heading → Corners → Heading
turned k g q = turn (ltb k q.p1) (ltb k q.p2) (saddle k q) g

module _ (w : ℕ) where
  -- the end of the cell's entry that is at the right hand (01, Following a line)
  abbrev pub right_end : Heading → ℕ → ℕ
  right_end South t = t
  right_end East t = t + w
  right_end North t = t + w + 1
  right_end West t = t + 1

  -- the end at the left hand (01, Following a line)
  abbrev pub left_end : Heading → ℕ → ℕ
  left_end South t = t + 1
  left_end East t = t
  left_end North t = t + w
  left_end West t = t + w + 1

  -- the left or top end of the edgel by which the cell t is entered
  abbrev pub entry : Heading → ℕ → ℕ
  entry South t = t
  entry East t = t
  entry North t = t + w
  entry West t = t + 1

  -- the left or top end of the edgel by which the cell t is left
  abbrev pub exit : Heading → ℕ → ℕ
  exit South t = t + w
  exit East t = t + 1
  exit North t = t
  exit West t = t

  -- the cell that a crossing enters whose edgel starts at the place i
  abbrev pub entered : Heading → ℕ → ℕ
  entered South i = i
  entered East i = i
  entered North i = i - w
  entered West i = i - 1

-- the code of the edgel that starts at the place i and is crossed with heading g: horizontal for S and N (01, Picture, levels, edgels)
abbrev pub code_on : Heading → ℕ → ℕ
code_on South i = 2 * i
code_on East i = 2 * i + 1
code_on North i = 2 * i
code_on West i = 2 * i + 1

abbrev pub code_at : State → ℕ
code_at s = code_on s.heading s.place

-- the state of the crossing on the edgel c, H says which places are high
abbrev pub state_at : (ℕ → Bool) → ℕ → State
state_at H c = record { place = first c; heading = heading_at H c }

-- the state that leaves the cell t with heading g
abbrev pub leaving : ℕ → Heading → ℕ → State
leaving w g t = record { place = exit w g t; heading = g }

-- the state after a state: through the cell that it enters, out with the heading of its turn (01, Following a line)
unfoldable pub after : Picture → ℕ → State → State
after P k s = let t = entered P.w s.heading s.place in leaving P.w (leave P k s.heading t) t

-- there is a cell ahead, and its four corners are samples of the picture
pub record Ready (px : List ℕ) (w : ℕ) (s : State) : Type 0 where
  pub wide : w ≤ 2048
  pub few : length px ≤ most_places
  pub ahead : entry w s.heading (entered w s.heading s.place) ≡ s.place
  pub inside : entered w s.heading s.place + w + 1 < length px
