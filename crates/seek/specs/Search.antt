-- How the next lead is found: which places are looked for, and which blocks of 64 can be passed over. Assumes nothing.
-- Definitions: `fresh` a place whose edgel is crossed and not visited; `slot` where a block's bounds stand, `reach` the places of the first slots, `span` those of one; `further` the greater or the lesser; `bound_of` the greatest or the least of samples in a row, `Bounds` those of each slot, `Slots` both; `live_at` the level lies between a slot's bounds; `FirstIn` the first fresh place of a block; `Stale` none of a run of places is fresh; `first_or` the first of them that is, or a number that stands for none; `slot_start`, `slot_end` the blocks of a slot.
use Rattle.std.specs.Prelude.{◌≡◌, Bool, true, false, not, ◌&&◌, cond, List, ℕ, zero, suc, ◌+◌, ◌-◌, ◌*◌, ◌/◌, ◌≤◌, ◌<◌, min, max, eqb, leb, ltb, length, get_or}
use Rattle.tally.specs.Tally.{differ, first_from}
use Rattle.matte.specs.Picture.{most_places}

-- the horizontal edgel from the place i is crossed at k, and its byte is not the mark m
abbrev pub fresh : List ℕ → List ℕ → ℕ → ℕ → ℕ → Bool
fresh px work k m i = differ (ltb k (get_or px i 0)) (ltb k (get_or px (i + 1) 0)) && not (eqb (get_or work i 0) m)

-- where the bounds of block b stand, which holds the places 64·b to 64·b + 63: each block has its own, or four share theirs
abbrev pub slot : Bool → ℕ → ℕ
slot four b = cond four (b / 4) b

-- how many places lie in the first n slots
abbrev pub reach : Bool → ℕ → ℕ
reach four n = cond four (256 * n) (64 * n)

-- how many places lie in a slot; its bounds are those of their samples and of the one after them
abbrev pub span : Bool → ℕ
span four = cond four 256 64

-- the greater of two, or the lesser
abbrev pub further : Bool → ℕ → ℕ → ℕ
further top x y = cond top (max x y) (min x y)

-- the greatest, or the least, of the sample a and the n after it
unfoldable pub bound_of : List ℕ → Bool → ℕ → ℕ → ℕ
bound_of px top a zero = get_or px a 0
bound_of px top a (suc n) = further top (bound_of px top a n) (get_or px (a + suc n) 0)

-- each of the first slots holds the bound of its samples and of the one after them
pub record Bounds (px l : List ℕ) (top four : Bool) (slots : ℕ) : Type 0 where
  pub are : (c : ℕ) → c < slots → get_or l c 0 ≡ bound_of px top (reach four c) (span four)

-- the slots lie inside the picture, and hold both bounds of their samples
pub record Slots (px lo hi : List ℕ) (four : Bool) (slots : ℕ) : Type 0 where
  pub inside : reach four slots < length px
  pub few : length px ≤ most_places
  pub lo_held : slots ≤ length lo
  pub hi_held : slots ≤ length hi
  pub lows : Bounds px lo false four slots
  pub highs : Bounds px hi true four slots

-- the level lies between the bounds at a slot
abbrev pub live_at : List ℕ → List ℕ → ℕ → ℕ → Bool
live_at lo hi k c = leb (get_or lo c 0) k && ltb k (get_or hi c 0)

-- the offset of the first of the places a to a + 63 that is fresh, 64 with none
pub record FirstIn (px work : List ℕ) (k m a r : ℕ) : Type 0 where
  pub most : r ≤ 64
  pub passed : (i : ℕ) → i < r → fresh px work k m (a + i) ≡ false
  pub found : r < 64 → fresh px work k m (a + r) ≡ true

-- no place from a up to x is fresh
abbrev pub Stale : List ℕ → List ℕ → ℕ → ℕ → ℕ → ℕ → Type 0
Stale px work k m a x = (j : ℕ) → a ≤ j → j < x → fresh px work k m j ≡ false

-- the first fresh of the places a to e - 1, or `end` with none
abbrev pub first_or : List ℕ → List ℕ → ℕ → ℕ → ℕ → ℕ → ℕ → ℕ
first_or px work k m a e end = cond (ltb (first_from (fresh px work k m) a (e - a)) e) (first_from (fresh px work k m) a (e - a)) end

-- the first block of the slot c that is not before block b, and the block after the slot
abbrev pub slot_start : Bool → ℕ → ℕ → ℕ
slot_start four c b = cond four (max b (4 * c)) c

abbrev pub slot_end : Bool → ℕ → ℕ
slot_end four c = cond four (4 * c + 4) (c + 1)
