-- The enclosure tree by the numbers of the lines. Assumes nothing.
-- Definitions: `lead_words`, `firsts` the leads of all lines in the list's order, as words without flags; `line_count`, `level_at`, `lead_at`, `crossings_at` line n; `around` one line is around another; `best` the
--   line of a set whose measure is largest; `parent` 0 for a root, else the parent's number + 1; `kind` true for upper, read from the lead; `entry` the tree entry; `entries` all of them.
use Rattle.std.specs.Prelude.{Bool, true, false, not, ◌&&◌, cond, List, [], ◌∷◌, ◌++◌, ℕ, zero, suc, ◌+◌, ◌*◌, ◌/◌, ◌%◌, eqb, ltb, length, get_or}
use Rattle.tally.specs.Tally.{build, one}
use Rattle.matte.specs.Layout.{Layout, flag}
use Rattle.matte.specs.Picture.{Picture, size, high}
use Rattle.edgel.specs.Edgel.{first}
use Rattle.outline.specs.Line.{line, is_lead}
use Rattle.enclosure.specs.Position.{odd_left, nearest}

-- base + 2·i for those of the m places i from i on that pass
unfoldable pub lead_words : (ℕ → Bool) → ℕ → ℕ → ℕ → List ℕ
lead_words p base i zero = []
lead_words p base i (suc m) = elim (p i) [ true ↦ (base + 2 * i) ∷ lead_words p base (suc i) m | false ↦ lead_words p base (suc i) m ]

-- the measure of the one found, 0 with none
abbrev pub measured : (ℕ → ℕ) → ℕ → ℕ
measured f zero = 0
measured f (suc m) = f m

-- among the first n numbers the number + 1 of the one that passes with the largest measure, 0 with none
unfoldable pub best : (ℕ → Bool) → (ℕ → ℕ) → ℕ → ℕ
best p f zero = 0
best p f (suc n) = let b = best p f n in cond (p n && ltb (measured f b) (f n)) (suc n) b

module _ (L : Layout) (P : Picture) where
  -- levels in order, on each the leads in order (01, Following a line)
  unfoldable pub firsts : List ℕ → List ℕ
  firsts [] = []
  firsts (k ∷ ks) = lead_words (λ i. is_lead P k (2 * i)) (k * L.codes) 0 (size P) ++ firsts ks

  module _ (ks : List ℕ) where
    -- lines are numbered from 0 through the whole list (01, Following a line)
    abbrev pub line_count : ℕ
    line_count = length (firsts ks)

    unfoldable pub level_at : ℕ → ℕ
    level_at n = get_or (firsts ks) n 0 / L.codes

    unfoldable pub lead_at : ℕ → ℕ
    lead_at n = get_or (firsts ks) n 0 % L.codes

    abbrev pub crossings_at : ℕ → List ℕ
    crossings_at n = line P (level_at n) (lead_at n)

    -- line m is not line n, and has an odd number of horizontal crossings on the row of n's lead, strictly left of it (01, Tree and kind)
    unfoldable pub around : ℕ → ℕ → Bool
    around m n = not (eqb m n) && odd_left P L.levels (level_at m) (crossings_at m) (level_at n) (lead_at n)

    -- the furthest right of these crossings (01, Tree and kind)
    unfoldable pub near : ℕ → ℕ → ℕ
    near m n = nearest P L.levels (level_at m) (crossings_at m) (level_at n) (lead_at n)

    -- the line around n whose nearest crossing is furthest right: its number + 1, 0 for a root (01, Tree and kind)
    unfoldable pub parent : ℕ → ℕ
    parent n = best (λ m. around m n) (λ m. near m n) line_count

    -- upper where the left end of the lead is low, lower where it is high (02, R-2)
    unfoldable pub kind : ℕ → Bool
    kind n = not (high P (level_at n) (first (lead_at n)))

    -- the parent, with 2^31 added if the kind is lower (01, Tree and kind)
    unfoldable pub entry : ℕ → ℕ
    entry n = parent n + one (not (kind n)) * flag L

    abbrev pub entries : List ℕ
    entries = build entry 0 line_count
