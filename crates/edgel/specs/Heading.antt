-- Headings: their order, turns, numbers and moves. Assumes nothing.
-- Definitions: `start` the first of the order S, E, N, W; `left`, `right` one place forward and back in it; `number` 0 to 3; `dx`, `dy` the move; `ahead` the place one move on.
use Rattle.std.specs.Prelude.{ℕ, zero, suc, ◌+◌, ◌-◌, ℤ, pos, negsuc}
use Rattle.edgel.specs.declared.Heading.{Heading}
use Rattle.edgel.specs.declared.Heading.TheVariants.{South, East, North, West}

-- the order begins with S (01, Following a line)
abbrev pub start : Heading
start = South

-- a left turn is one place forward in the order S, E, N, W (01, Following a line)
abbrev pub left : Heading → Heading
left South = East
left East = North
left North = West
left West = South

-- a right turn is one place back (01, Following a line)
abbrev pub right : Heading → Heading
right South = West
right East = South
right North = East
right West = North

-- 0 to 3 for S, E, N, W (01, Picture, levels, edgels)
abbrev pub number : Heading → ℕ
number South = 0
number East = 1
number North = 2
number West = 3

-- the moves are (0,1), (1,0), (0,−1), (−1,0) (01, Following a line)
abbrev pub dx : Heading → ℤ
dx South = pos 0
dx East = pos 1
dx North = pos 0
dx West = negsuc 0

abbrev pub dy : Heading → ℤ
dy South = pos 1
dy East = pos 0
dy North = negsuc 0
dy West = pos 0

-- the place one move on from the place i, in rows of w
abbrev pub ahead : ℕ → Heading → ℕ → ℕ
ahead w South i = i + w
ahead w East i = i + 1
ahead w North i = i - w
ahead w West i = i - 1
