-- What the listing program prints. Assumes nothing.
-- Definitions: `field` a number and the byte after it; `letter`, `kind_letter` a heading and a kind as letters; `row_text`, `crossing_text`, `word_text` the row of a crossing; `line_text` the row of a line, `start_text`
--   before the word it starts with; `words_text` the rows of all words; `first_text` the first row; `listing_text` all of it; `refused_text`, `not_form_text` what is printed instead.
use Rattle.std.specs.Prelude.{Bool, true, false, cond, List, [], ◌∷◌, ◌++◌, ℕ, suc, ◌+◌, ◌%◌, length, get_or}
use Rattle.tally.specs.Tally.{one, tally, first_at}
use Rattle.matte.specs.Layout.{Layout, flag}
use Rattle.matte.specs.Picture.{Picture, at, high}
use Rattle.edgel.specs.declared.Heading.{Heading}
use Rattle.edgel.specs.declared.Heading.TheVariants.{South, East, North, West}
use Rattle.edgel.specs.Edgel.{column, row, heading_at}
use Rattle.edgel.specs.Word.{code_of, level_of, flagged}
use Rattle.crossing.specs.Crossing.{num, den}
use Rattle.form.specs.Decimal.{decimal}

-- a number in decimal, then a space (32) or a newline (10) (01, The listing program)
unfoldable pub field : ℕ → ℕ → List ℕ
field n b = decimal n ++ (b ∷ [])

-- S, E, N or W (01, The listing program)
abbrev pub letter : Heading → ℕ
letter South = 83
letter East = 69
letter North = 78
letter West = 87

-- D for lower, where the kind's bit is set, U for upper (01, The listing program)
abbrev pub kind_letter : Bool → ℕ
kind_letter true = 68
kind_letter false = 85

-- two coordinates, a letter, two numbers
unfoldable pub row_text : ℕ → ℕ → ℕ → ℕ → ℕ → List ℕ
row_text x y g n d = field x 32 ++ (field y 32 ++ ((g ∷ 32 ∷ []) ++ (field n 32 ++ field d 10)))

-- x, y of the left or top end, heading, num, den (01, The listing program)
unfoldable pub crossing_text : Picture → ℕ → ℕ → List ℕ
crossing_text P k c = row_text (column P.w c) (row P.w c) (letter (heading_at (high P k) c)) (num P k c) (den P k c)

-- width, height, border, levels, words, lines (01, The listing program)
unfoldable pub first_text : ℕ → ℕ → ℕ → ℕ → ℕ → ℕ → List ℕ
first_text w h border levels words lines = field w 32 ++ (field h 32 ++ (field border 32 ++ (field levels 32 ++ (field words 32 ++ field lines 10))))

module _ (L : Layout) where
  -- number, level, tree entry without the kind, kind, crossings (01, The listing program)
  unfoldable pub line_text : ℕ → ℕ → ℕ → ℕ → List ℕ
  line_text n k e m = field n 32 ++ (field k 32 ++ (field (e % flag L) 32 ++ ((kind_letter (flagged L e) ∷ 32 ∷ []) ++ field m 10)))

  abbrev pub word_text : Picture → ℕ → List ℕ
  word_text P u = crossing_text P (level_of L u) (code_of L u)

  -- before a flagged word the row of its line, which runs up to the next flagged word of those after it; n is the line's number, es the tree entries (01, The listing program)
  abbrev pub start_text : ℕ → List ℕ → ℕ → List ℕ → List ℕ
  start_text n es u ws = cond (flagged L u) (line_text n (level_of L u) (get_or es n 0) (suc (first_at (flagged L) ws))) []

  -- lines are numbered from n on, in the order of the words (01, Following a line; The listing program)
  unfoldable pub words_text : Picture → ℕ → List ℕ → List ℕ → List ℕ
  words_text P n es [] = []
  words_text P n es (u ∷ ws) = start_text n es u ws ++ (word_text P u ++ words_text P (n + one (flagged L u)) es ws)

  -- the picture, its levels, the words of its list and the entries of its tree (01, The listing program)
  abbrev pub listing_text : Picture → List ℕ → List ℕ → List ℕ → List ℕ
  listing_text P ks ws es = first_text P.w P.h (at P 0) (length ks) (length ws) (tally (flagged L) ws) ++ words_text P 0 es ws

-- "refused ", and the number (01, The listing program)
unfoldable pub refused_text : ℕ → List ℕ
refused_text n = (114 ∷ 101 ∷ 102 ∷ 117 ∷ 115 ∷ 101 ∷ 100 ∷ 32 ∷ []) ++ field n 10

-- "refused input" (01, The listing program)
abbrev pub not_form_text : List ℕ
not_form_text = 114 ∷ 101 ∷ 102 ∷ 117 ∷ 115 ∷ 101 ∷ 100 ∷ 32 ∷ 105 ∷ 110 ∷ 112 ∷ 117 ∷ 116 ∷ 10 ∷ []
