-- Exact positions of horizontal crossings along their row, as whole numbers. Assumes nothing.
-- Definitions: `rises` an edgel's left sample is the lower one; `place` where a level crosses an edgel among all levels; `key` the position of a crossing as one number, row by row; `on_left` a
--   crossing is on the row of another and strictly left of it; `odd_left` an odd number of a line's crossings is; `nearest` the furthest right of them.
use Rattle.std.specs.Prelude.{Bool, true, false, ◌&&◌, cond, List, [], ◌∷◌, ℕ, suc, ◌+◌, ◌-◌, ◌*◌, max, eqb, ltb}
use Rattle.tally.specs.Tally.{odd, tally}
use Rattle.matte.specs.Picture.{Picture, at}
use Rattle.edgel.specs.Edgel.{horizontal, first, row}

-- from the lower end of an edgel the levels are crossed in ascending order; W is above every level (01, Tree and kind; Errors that look right)
abbrev pub place : Bool → ℕ → ℕ → ℕ
place true W k = k
place false W k = W - 1 - k

module _ (P : Picture) (W : ℕ) where
  abbrev pub rises : ℕ → Bool
  rises c = ltb (at P (first c)) (at P (first c + 1))

  -- by code, and on one edgel by the level's place on it (01, Tree and kind)
  unfoldable pub key : ℕ → ℕ → ℕ
  key k c = c * W + place (rises c) W k

  -- the crossing of level j on d is horizontal, on the row of the crossing of level k on c, and strictly left of it (01, Tree and kind)
  unfoldable pub on_left : ℕ → ℕ → ℕ → ℕ → Bool
  on_left j k c d = horizontal d && (eqb (row P.w d) (row P.w c) && ltb (key j d) (key k c))

  -- an odd number of the crossings l of level j is (01, Tree and kind)
  abbrev pub odd_left : ℕ → List ℕ → ℕ → ℕ → Bool
  odd_left j l k c = odd (tally (on_left j k c) l)

  -- one more than the position of the furthest right of them, 0 with none (01, Tree and kind)
  unfoldable pub nearest : ℕ → List ℕ → ℕ → ℕ → ℕ
  nearest j [] k c = 0
  nearest j (d ∷ l) k c = max (cond (on_left j k c d) (suc (key j d)) 0) (nearest j l k c)
