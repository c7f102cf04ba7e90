-- How the tree call works: steps and running sums, ranks, and the notes that are written at them. Assumes nothing.
-- Definitions: `Table` the steps of every sample; `gap_at` the crossings between a place and the next, `gaps` those before a place, `Starts` those before every 8th; `rank_at` the rank of a
--   crossing; `note_of` a note as one number, `note_at` the note of a crossing; `noted`, `noted_all` the word places with the notes of a crossing, of a line; `leads_of` the leads of a word list.
use Rattle.std.specs.Prelude.{◌≡◌, Bool, true, false, not, cond, List, [], ◌∷◌, ℕ, ◌+◌, ◌-◌, ◌*◌, ◌≤◌, ◌<◌, eqb, ltb, leb, length, get_or, set}
use Rattle.tally.specs.Tally.{one, differ, apart, sum, count, tally, total}
use Rattle.matte.specs.Layout.{eight}
use Rattle.matte.specs.Picture.{Picture, levels_fit}
use Rattle.edgel.specs.Edgel.{horizontal, first}
use Rattle.block.specs.Block.{num4}
use Rattle.outline.specs.Line.{cut_at, line}
use Rattle.refuse.specs.Shape.{Ground}
use Rattle.enclosure.specs.Tree.{firsts, line_count, level_at, lead_at}
use Rattle.enclosure.specs.Call.{heads}

-- for each sample value how many listed levels it is above
pub record Table (ks st : List ℕ) : Type 0 where
  pub tells : (v : ℕ) → v < 256 → get_or st v 0 ≡ tally (λ k. ltb k v) ks

-- the table does not fall
pub record Rising (st : List ℕ) : Type 0 where
  pub more : (a b : ℕ) → a ≤ b → b < 256 → get_or st a 0 ≤ get_or st b 0

-- the crossings between the place i and the next, by the steps of the two samples
abbrev pub gap_at : List ℕ → List ℕ → ℕ → ℕ
gap_at st px i = apart (get_or st (get_or px i 0) 0) (get_or st (get_or px (i + 1) 0) 0)

-- those at the places below i
unfoldable pub gaps : List ℕ → List ℕ → ℕ → ℕ
gaps st px i = sum (gap_at st px) i

-- those before each 8th place, as numbers of four bytes
pub record Starts (st px starts : List ℕ) : Type 0 where
  pub room : (b : ℕ) → 8 * b < length px → 4 * b + 4 ≤ length starts
  pub tells : (b : ℕ) → 8 * b < length px → num4 starts (4 * b) ≡ gaps st px (8 * b)
  pub few : (b : ℕ) → 8 * b < length px → num4 starts (4 * b) ≤ 255 * (8 * b)

-- the rank of the crossing of level k at the place i: N counts down from the place's upper end, S up from its lower end
unfoldable pub rank_at : List ℕ → List ℕ → ℕ → ℕ → ℕ
rank_at st px k i =
    cond (ltb k (get_or px i 0))
    (gaps st px i + get_or st (get_or px i 0) 0 - get_or st (k + 1) 0)
    (gaps st px i + get_or st k 0 - get_or st (get_or px i 0) 0)

-- a line's number; whether the crossing has its lead's heading; whether it is the lead; whether the line is lower
abbrev pub note_of : ℕ → Bool → Bool → Bool → ℕ
note_of n s l u = n + one s * 536870912 + one l * 1073741824 + one u * 2147483648

-- the note of line n, whose lead is at the place e, for its crossing at the place i
unfoldable pub note_at : List ℕ → ℕ → ℕ → ℕ → ℕ → ℕ
note_at px k n e i = note_of n (not (differ (ltb k (get_or px i 0)) (ltb k (get_or px e 0)))) (eqb i e) (ltb k (get_or px e 0))

-- a horizontal crossing is noted at its rank
unfoldable pub noted : List ℕ → List ℕ → ℕ → ℕ → ℕ → List ℕ → ℕ → List ℕ
noted st px k n e u c = cond (horizontal c) (set u (rank_at st px k (first c)) (note_at px k n e (first c))) u

unfoldable pub noted_all : List ℕ → List ℕ → ℕ → ℕ → ℕ → List ℕ → List ℕ → List ℕ
noted_all st px k n e u [] = u
noted_all st px k n e u (c ∷ l) = noted_all st px k n e (noted st px k n e u c) l

-- the flagged words of a list, without their flags
unfoldable pub leads_of : List ℕ → List ℕ
leads_of [] = []
leads_of (u ∷ l) = elim (leb 2147483648 u) [ true ↦ (u - 2147483648) ∷ leads_of l | false ↦ leads_of l ]

-- the note of line m for its crossing on the edgel d
abbrev pub note_for : Picture → List ℕ → ℕ → ℕ → ℕ
note_for P ks m d = note_at P.px (level_at eight P ks m) m (first (lead_at eight P ks m)) (first d)

-- what noting one line asks
pub record LineReady (P : Picture) (st starts : List ℕ) (k n e : ℕ) (words : List ℕ) : Type 0 where
  pub ground : Ground P
  pub level : k < 255
  pub rising : Rising st
  pub sums : Starts st P.px starts
  pub few : n < 536870912
  pub lead : cut_at P k (2 * e) ≡ true
  pub room : (i : ℕ) → 0 < count (2 * i) (line P k (2 * e)) → rank_at st P.px k i < length words

-- what noting all lines asks: their leads stand in the tree places
pub record NotesReady (P : Picture) (ks places : List ℕ) (n : ℕ) (words : List ℕ) : Type 0 where
  pub ground : Ground P
  pub levels : levels_fit eight ks ≡ true
  pub count : n ≡ line_count eight P ks
  pub long : n ≤ length places
  pub leads : (m : ℕ) → m < n → get_or places m 0 ≡ get_or (firsts eight P ks) m 0
  pub room : total (heads P) ks ≤ length words
