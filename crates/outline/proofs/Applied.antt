-- The laws of this crate say something: a picture that has a constant border and a line, with the laws applied to it. Assumes nothing.
-- Definitions: `ground` level 0 alone.
-- Main laws: `dot_border` it has a constant border; `dot_centre` so an odd number of lines counts odd for its centre; `dot_code` so code 6 stands once in its lines; `dot_words` so its list has four words;
--   `dot_painted` so painting them back gives 1 at the centre.
use mathlib.Core.Path.{◌≡◌, refl}
use mathlib.Core.Bool.{true}
use mathlib.Core.List.{List, [], ◌∷◌}
use Prim.Native.Nat.{ℕ}
use native.Mathlib.Omega.{arith}
use lib.Dec.{ltb}
use lib.ListN.{length}
use Rattle.tally.specs.Tally.{every, sum, count, tally, total, flat, odd, differ}
use Rattle.matte.specs.Layout.{eight}
use Rattle.matte.specs.Picture.{at, border_fits, ascend}
use Rattle.edgel.specs.Edgel.{edgel, crossed, cut}
use Rattle.edgel.specs.Beside.{west_of, odd_lines}
use Rattle.cell.proofs.Witness.{dot}
use Rattle.outline.specs.Line.{lines}
use Rattle.outline.specs.List.{listed}
use Rattle.outline.proofs.Border.{Border, border_fits_lem}
use Rattle.outline.proofs.Above.{stands_once, above}
use Rattle.outline.proofs.Words.{of_level}
use Rattle.outline.proofs.Listed.{fits_eight, listed_length}
use Rattle.outline.proofs.Stepped.{paint_back}

abbrev pub ground : List ℕ
ground = 0 ∷ []

dot_fits : border_fits dot ≡ true
unfolding border_fits every
dot_fits = refl

pub dot_border : Border dot
dot_border = border_fits_lem dot (omega arith) dot_fits

pub dot_centre : odd (odd_lines 3 (lines dot 0) 1 1) ≡ true
dot_centre = above dot dot_border 0 1 1 (omega arith) (omega arith)

pub dot_code : count 6 (flat (lines dot 0)) ≡ 1
unfolding cut edgel crossed
dot_code = stands_once dot dot_border 0 6

pub dot_words : length (listed eight dot ground) ≡ 4
unfolding total sum cut edgel crossed
dot_words = listed_length eight dot dot_border ground

pub dot_painted : tally (λ k. differ (ltb k (at dot 0)) (odd (tally (of_level eight k (west_of 3 1 1)) (listed eight dot ground)))) ground ≡ 1
unfolding tally ascend
dot_painted = paint_back eight dot (fits_eight dot refl refl) dot_border ground refl 1 1 (omega arith) (omega arith)
