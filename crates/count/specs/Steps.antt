-- Samples by how many listed levels they are high at. Assumes nothing.
-- Definitions: `steps ks s` how many listed levels the sample s is high at; `step_table` the same for all bytes; `level_or` a level by its index; `Room` a row lies within the samples and a buffer can hold it; `Row` a buffer begins with the steps of a row; `Distances` one begins with the distances of two rows; `gaps` how far the steps of a
--   sample are from those of its right neighbour and of the one below; `places` the same at a place of a picture.
use Rattle.std.specs.Prelude.{◌≡◌, List, ℕ, ◌+◌, ◌≤◌, ◌<◌, ltb, length, get_or}
use Rattle.tally.specs.Tally.{apart, tally, build}
use Rattle.matte.specs.Picture.{Picture, at}

-- how many listed levels the sample is high at (01, Framing, membership, painting)
abbrev pub steps : List ℕ → ℕ → ℕ
steps ks s = tally (λ k. ltb k s) ks

-- the steps of the bytes 0 to 255
abbrev pub step_table : List ℕ → List ℕ
step_table ks = build (steps ks) 0 256

-- the level at an index of the list, past its end 255
abbrev pub level_or : List ℕ → ℕ → ℕ
level_or ks j = get_or ks j 255

-- the w samples from `from` on are there, and q has room for them
pub record Room (px : List ℕ) (from w : ℕ) (q : List ℕ) : Type 0 where
  pub within : from + w ≤ length px
  pub wide : w ≤ 2048
  pub most : length px ≤ 4194304
  pub room : length q ≡ 2048

-- q begins with the entries of the table t for the w samples from `from` on, which are bytes
pub record Row (t px : List ℕ) (from w : ℕ) (q : List ℕ) : Type 0 where
  pub room : length q ≡ 2048
  pub entry : (x : ℕ) → x < w → (get_or px (from + x) 0 < 256) × (get_or q x 0 ≡ get_or t (get_or px (from + x) 0) 0)

-- d begins with the distances of p's first `end` elements from those of q, taken s places on
pub record Distances (p q : List ℕ) (s end : ℕ) (d : List ℕ) : Type 0 where
  pub room : length d ≡ 2048
  pub entry : (x : ℕ) → x < end → get_or d x 0 ≡ apart (get_or p x 0) (get_or q (x + s) 0)

-- p a row of steps, q the row below: the distances from p's element x to the next one and to q's
abbrev pub gaps : List ℕ → List ℕ → ℕ → ℕ
gaps p q x = apart (get_or p x 0) (get_or p (x + 1) 0) + apart (get_or p x 0) (get_or q x 0)

-- the crossings of all listed levels on the two edgels that start at a place
abbrev pub places : Picture → List ℕ → ℕ → ℕ
places P ks i = apart (steps ks (at P i)) (steps ks (at P (i + 1))) + apart (steps ks (at P i)) (steps ks (at P (i + P.w)))
