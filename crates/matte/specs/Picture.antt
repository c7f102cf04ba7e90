-- A picture and its levels. Assumes nothing.
-- Definitions: `Picture` sides and samples, `picture` makes one; `most_places` the most samples that one can have; `size` how many samples there are to be; `at` the sample at a place; `high` it is above a level; `on_border` a place lies on the
--   border; `side_fits`, `samples_fit`, `levels_fit` what refusals 1 to 3 ask; `border_fits` what 4 asked before it was split by edge, and what the laws of lines ask.
use Rattle.std.specs.Prelude.{Bool, true, not, ◌&&◌, ◌||◌, List, [], ◌∷◌, ℕ, ◌+◌, ◌*◌, ◌/◌, ◌%◌, eqb, ltb, leb, length, get_or}
use Rattle.tally.specs.Tally.{every}
use Rattle.matte.specs.Layout.{Layout}

-- w samples a row, h rows, the samples row by row (01, Picture, levels, edgels)
pub record Picture : Type 0 where
  pub w : ℕ
  pub h : ℕ
  pub px : List ℕ

abbrev pub picture : ℕ → ℕ → List ℕ → Picture
picture w h px = record { w = w; h = h; px = px }

-- sides are 2 to 2,048 (01, Picture, levels, edgels)
abbrev pub side_fits : ℕ → Bool
side_fits n = leb 2 n && leb n 2048

-- so no picture has more than 2,048 rows of 2,048 samples
abbrev pub most_places : ℕ
most_places = 4194304

-- levels are below the largest sample and ascend strictly: each is at least `low`, which is one more than the level before (01, Picture, levels, edgels)
unfoldable pub ascend : Layout → ℕ → List ℕ → Bool
ascend L low [] = true
ascend L low (k ∷ ks) = leb low k && (ltb k L.most && ascend L (k + 1) ks)

abbrev pub levels_fit : Layout → List ℕ → Bool
levels_fit L ks = ascend L 0 ks

-- the place y·w + x is on the first or last row, or in the first or last column (01, Framing)
abbrev pub on_border : ℕ → ℕ → ℕ → Bool
on_border w h i = eqb (i / w) 0 || (eqb (i / w + 1) h || (eqb (i % w) 0 || eqb (i % w + 1) w))

module _ (P : Picture) where
  -- there are exactly w·h samples (01, Picture, levels, edgels)
  abbrev pub size : ℕ
  size = P.w * P.h

  abbrev pub samples_fit : Bool
  samples_fit = eqb (length P.px) size

  -- the sample at the place y·w + x (01, Picture, levels, edgels)
  abbrev pub at : ℕ → ℕ
  at i = get_or P.px i 0

  -- the sample at a place is above the level k (01, Picture, levels, edgels)
  abbrev pub high : ℕ → ℕ → Bool
  high k i = ltb k (at i)

  -- all border samples have one value, that of sample 0 (01, Numbers for a refused call, 4). The rows of 02, R-1 are in refuse/Hot; a law there says that one of them is given exactly when this does not hold
  unfoldable pub border_fits : Bool
  border_fits = every (λ i. not (on_border P.w P.h i) || eqb (at i) (at 0)) size
