-- The printed text line by line, by the numbers of the lines; that the words of the list give the same is proved. Assumes nothing.
-- Definitions: `rows_text` the rows of crossings; `block_text` the row of line n and those of its crossings; `lines_text` these of m lines from i on; `page_text` all of it.
use Rattle.std.specs.Prelude.{not, List, [], ◌∷◌, ◌++◌, ℕ, zero, suc, length}
use Rattle.matte.specs.Layout.{eight}
use Rattle.matte.specs.Picture.{Picture, at}
use Rattle.outline.specs.List.{listed}
use Rattle.enclosure.specs.Tree.{line_count, level_at, crossings_at, parent, kind}
use Rattle.text.specs.Listing.{field, kind_letter, crossing_text, first_text}

-- per crossing, x, y of the left or top end, heading, num, den (01, The listing program)
unfoldable pub rows_text : Picture → ℕ → List ℕ → List ℕ
rows_text P k [] = []
rows_text P k (c ∷ l) = crossing_text P k c ++ rows_text P k l

module _ (P : Picture) (ks : List ℕ) where
  -- per line, number, level, tree entry without the kind, kind, crossings (01, The listing program)
  unfoldable pub block_text : ℕ → List ℕ
  block_text n =
      (field n 32
      ++ (field (level_at eight P ks n) 32
      ++ (field (parent eight P ks n) 32 ++ ((kind_letter (not (kind eight P ks n)) ∷ 32 ∷ []) ++ field (length (crossings_at eight P ks n)) 10))))
      ++ rows_text P (level_at eight P ks n) (crossings_at eight P ks n)

  unfoldable pub lines_text : ℕ → ℕ → List ℕ
  lines_text i zero = []
  lines_text i (suc m) = block_text i ++ lines_text (suc i) m

  -- width, height, border, levels, words, lines; then line by line (01, The listing program)
  abbrev pub page_text : List ℕ
  page_text =
      first_text P.w P.h (at P 0) (length ks) (length (listed eight P ks)) (line_count eight P ks) ++ lines_text 0 (line_count eight P ks)
