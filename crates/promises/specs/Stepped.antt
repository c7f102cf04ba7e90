-- The stepped picture, and the list of all levels. Assumes nothing.
-- Definitions: `stepped_picture` each sample stepped; `all_levels` the levels 0 to 254.
use Rattle.std.specs.Prelude.{List, ℕ}
use Rattle.tally.specs.Tally.{build}
use Rattle.matte.specs.Layout.{eight}
use Rattle.matte.specs.Picture.{Picture, size, at}
use Rattle.paint.specs.Paint.{stepped}

-- for each sample the number of listed levels that it is high at (01, Framing, membership, painting)
unfoldable pub stepped_picture : List ℕ → Picture → List ℕ
stepped_picture ks P = build (λ i. stepped ks (at P i)) 0 (size P)

-- all 255 levels in order (mission, demand 2)
abbrev pub all_levels : List ℕ
all_levels = build (λ k. k) 0 eight.most
