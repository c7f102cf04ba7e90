-- Through one cell: corners named from the entry, the turn, and the next crossing of a line. Assumes nothing.
-- Definitions: `Corners`, `corners` of the cell whose top left place is t, as seen by a line that enters it; `saddle` the level is below the saddle; `turn`, `leave` the heading out;
--   `out` the side of a cell by heading, `into` the cell that a crossing enters; `next` the crossing after a crossing.
use Rattle.std.specs.Prelude.{Bool, true, false, ℕ, ◌+◌, ◌-◌, ◌*◌, ltb}
use Rattle.matte.specs.Picture.{Picture, at, high}
use Rattle.edgel.specs.declared.Heading.{Heading}
use Rattle.edgel.specs.declared.Heading.TheVariants.{South, East, North, West}
use Rattle.edgel.specs.Heading.{left, right}
use Rattle.edgel.specs.Edgel.{first, heading_at}

-- p0 the right-hand end of the entry, p3 the left-hand end, p1 the far corner beside p0, p2 the far corner beside p3 (01, Following a line)
pub record Corners : Type 0 where
  pub p0 : ℕ
  pub p1 : ℕ
  pub p2 : ℕ
  pub p3 : ℕ

-- (2k+1)·d > 2s with d = p0+p2−p1−p3 and s = p0·p2−p1·p3, each product on the side where it is positive (01, Following a line)
unfoldable pub saddle : ℕ → Corners → Bool
saddle k q = ltb (2 * (q.p0 * q.p2) + (2 * k + 1) * (q.p1 + q.p3)) (2 * (q.p1 * q.p3) + (2 * k + 1) * (q.p0 + q.p2))

-- by whether p1 and p2 are high, and at p1 high, p2 low by whether the level is below the saddle (01, Following a line)
abbrev pub turn : Bool → Bool → Bool → Heading → Heading
turn true true s g = right g
turn false false s g = left g
turn false true s g = g
turn true false true g = right g
turn true false false g = left g

-- the edgel by which a line of heading g leaves the cell t: its side to the south, east, north or west
abbrev pub out : ℕ → Heading → ℕ → ℕ
out w South t = 2 * (t + w)
out w East t = 2 * (t + 1) + 1
out w North t = 2 * t
out w West t = 2 * t + 1

-- the cell that a crossing of heading g on the edgel c enters
abbrev pub into : ℕ → Heading → ℕ → ℕ
into w South c = first c
into w East c = first c
into w North c = first c - w
into w West c = first c - 1

module _ (P : Picture) where
  -- the corners by place, turned so that the entry is behind (01, Following a line)
  abbrev pub corners : Heading → ℕ → Corners
  corners South t = record { p0 = at P t; p1 = at P (t + P.w); p2 = at P (t + P.w + 1); p3 = at P (t + 1) }
  corners East t = record { p0 = at P (t + P.w); p1 = at P (t + P.w + 1); p2 = at P (t + 1); p3 = at P t }
  corners North t = record { p0 = at P (t + P.w + 1); p1 = at P (t + 1); p2 = at P t; p3 = at P (t + P.w) }
  corners West t = record { p0 = at P (t + 1); p1 = at P t; p2 = at P (t + P.w); p3 = at P (t + P.w + 1) }

  -- the heading out of the cell t, entered with heading g (01, Following a line)
  unfoldable pub leave : ℕ → Heading → ℕ → Heading
  leave k g t = let q = corners g t in turn (ltb k q.p1) (ltb k q.p2) (saddle k q) g

  -- the next crossing of the line of level k through the crossing c (01, Following a line)
  unfoldable pub next : ℕ → ℕ → ℕ
  next k c = let g = heading_at (high P k) c in let t = into P.w g c in out P.w (leave k g t) t
