-- How the walk over the ranks decides the lines. Assumes nothing.
-- Definitions: `parent_at` the parent of the line whose lead has a rank, from the note before; `decided` the tree places after one rank; `WalkReady` what the walk asks.
use Rattle.std.specs.Prelude.{◌≡◌, true, cond, List, ℕ, ◌+◌, ◌-◌, ◌*◌, ◌/◌, ◌%◌, ◌≤◌, eqb, length, get_or, set}
use Rattle.tally.specs.Tally.{one, odd, total}
use Rattle.matte.specs.Layout.{eight}
use Rattle.matte.specs.Picture.{Picture, levels_fit}
use Rattle.refuse.specs.Shape.{Ground}
use Rattle.enclosure.specs.Call.{heads}
use Rattle.enclosure.specs.Tree.{line_count}

-- the parent's number + 1: the line of the note before, where that crossing has its lead's heading, else that line's parent; 0 at the first rank
unfoldable pub parent_at : List ℕ → ℕ → List ℕ → ℕ
parent_at u r t =
    cond (eqb r 0) 0
    (cond (odd (get_or u (r - 1) 0 / 536870912)) (get_or u (r - 1) 0 % 536870912 + 1) (get_or t (get_or u (r - 1) 0 % 536870912) 0 % 2147483648))

-- a lead's line gets its entry: the parent, and the kind that the note tells
unfoldable pub decided : List ℕ → ℕ → List ℕ → List ℕ
decided u r t =
    cond (odd (get_or u r 0 / 1073741824)) (set t (get_or u r 0 % 536870912) (parent_at u r t + one (odd (get_or u r 0 / 2147483648)) * 2147483648)) t

-- the call is not refused, and there is room
pub record WalkReady (P : Picture) (ks u t : List ℕ) : Type 0 where
  pub ground : Ground P
  pub levels : levels_fit eight ks ≡ true
  pub room : total (heads P) ks ≤ length u
  pub long : line_count eight P ks ≤ length t
