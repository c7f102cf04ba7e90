-- The trees of small pictures, worked out: what an edit of the tree's definitions makes false shows here. Assumes nothing.
-- Definitions: `two`, `three` lists of levels; `nested` a picture of 6 by 5 in which lines nest four deep and a parent has a higher number than its child; `island` one of 5 by 5 with a high border,
--   a hole and a high sample in it; `articles` the kinds by the article's comparison, 1 for upper.
-- Main laws: `tree_pair`, `tree_hole`, `tree_nested`, `tree_island` the tree entries of the paper's 4 by 4 picture, of its picture (b), and of those; `articles_nested`, `articles_island` their kinds by the
--   comparison: other than the tree's at a root that is a hole, and at a line of its level in it.
use mathlib.Core.Path.{◌≡◌, refl}
use mathlib.Core.List.{List, [], ◌∷◌}
use Prim.Native.Nat.{ℕ}
use Rattle.tally.specs.Tally.{one, tally, build}
use Rattle.orbit.specs.Orbit.{orbit, low, leads}
use Rattle.matte.specs.Layout.{eight}
use Rattle.matte.specs.Picture.{Picture, picture}
use Rattle.edgel.specs.Edgel.{edgel, crossed, cut, heading_at}
use Rattle.cell.specs.Turn.{saddle, leave, next}
use Rattle.cell.proofs.Witness.{hole, pair}
use Rattle.outline.specs.Line.{line, is_lead}
use Rattle.enclosure.specs.Position.{key, on_left, nearest}
use Rattle.enclosure.specs.Tree.{lead_words, firsts, line_count, level_at, lead_at, around, near, best, parent, kind, entry, entries}
use Rattle.enclosure.specs.Article.{article_by, article}

abbrev pub two : List ℕ
two = 0 ∷ 1 ∷ []

abbrev pub nested : Picture
nested =
    picture 6 5
    (2 ∷ 2 ∷ 2 ∷ 2 ∷ 2 ∷ 2 ∷ 2 ∷ 5 ∷ 6 ∷ 6 ∷ 2 ∷ 2 ∷ 2 ∷ 6 ∷ 3 ∷ 5 ∷ 0 ∷ 2 ∷ 2 ∷ 6 ∷ 5 ∷ 5 ∷ 6 ∷ 2 ∷ 2 ∷ 2 ∷ 2 ∷ 2 ∷ 2 ∷ 2 ∷ [])

abbrev pub three : List ℕ
three = 1 ∷ 3 ∷ 4 ∷ []

abbrev pub island : Picture
island = picture 5 5 (9 ∷ 9 ∷ 9 ∷ 9 ∷ 9 ∷ 9 ∷ 0 ∷ 0 ∷ 0 ∷ 9 ∷ 9 ∷ 0 ∷ 9 ∷ 0 ∷ 9 ∷ 9 ∷ 0 ∷ 0 ∷ 0 ∷ 9 ∷ 9 ∷ 9 ∷ 9 ∷ 9 ∷ 9 ∷ [])

abbrev pub articles : Picture → List ℕ → List ℕ
articles P ks = build (λ n. one (article eight P ks n)) 0 (line_count eight P ks)

pub tree_pair : entries eight pair two ≡ 0 ∷ 1 ∷ 1 ∷ []
unfolding build entry kind parent best around near nearest level_at lead_at firsts lead_words on_left tally key line is_lead leads low orbit cut edgel crossed heading_at next leave saddle
tree_pair = refl

pub tree_hole : entries eight hole (0 ∷ []) ≡ 2147483648 ∷ []
unfolding build entry kind parent best around near nearest level_at lead_at firsts lead_words on_left tally key line is_lead leads low orbit cut edgel crossed heading_at next leave saddle
tree_hole = refl

pub tree_nested : entries eight nested three ≡ 2147483648 ∷ 0 ∷ 2147483653 ∷ 2 ∷ 2147483652 ∷ []
unfolding build entry kind parent best around near nearest level_at lead_at firsts lead_words on_left tally key line is_lead leads low orbit cut edgel crossed heading_at next leave saddle
tree_nested = refl

pub tree_island : entries eight island (4 ∷ []) ≡ 2147483648 ∷ 1 ∷ []
unfolding build entry kind parent best around near nearest level_at lead_at firsts lead_words on_left tally key line is_lead leads low orbit cut edgel crossed heading_at next leave saddle
tree_island = refl

pub articles_nested : articles nested three ≡ 1 ∷ 1 ∷ 0 ∷ 1 ∷ 0 ∷ []
unfolding build article article_by parent best around near nearest level_at lead_at firsts lead_words on_left tally key line is_lead leads low orbit cut edgel crossed heading_at next leave saddle
articles_nested = refl

pub articles_island : articles island (4 ∷ []) ≡ 1 ∷ 0 ∷ []
unfolding build article article_by parent best around near nearest level_at lead_at firsts lead_words on_left tally key line is_lead leads low orbit cut edgel crossed heading_at next leave saddle
articles_island = refl
