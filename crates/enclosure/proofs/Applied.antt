-- The laws of this crate say something: pictures that have what they ask, with the laws applied to them, and depths worked out. Assumes nothing.
-- Definitions: `depths` the depths of all lines.
-- Main laws: `pair_own`; `depths_nested`; `pair_setting` the pair has what the laws ask; so `pair_falls` its line 0 leads before line 2, `pair_kind` the comparison with it gives line 2's kind, `pair_article` so
--   does the article's own, `pair_beside` the sample right of its lead is inside and high, `pair_half` the half that is asked for is enough (`half_pair`: it is 4), and `pair_order` two of its crossings are in the order of their fractions; `pair_ranks` the ranks of its leads, and `pair_next` line 2's parent from the rank before.
use mathlib.Core.Path.{◌≡◌, refl}
use mathlib.Core.Bool.{true, false, not}
use mathlib.Core.List.{List, [], ◌∷◌, map}
use mathlib.Core.Logic.{inr}
use Prim.Native.Nat.{ℕ, ◌*◌, ◌≤◌, ◌<◌}
use native.Mathlib.Omega.{arith}
use lib.Dec.{ltb}
use Rattle.tally.specs.Tally.{differ, every, sum, count, tally, total, build}
use Rattle.orbit.specs.Orbit.{orbit, low, leads}
use Rattle.matte.specs.Layout.{eight}
use Rattle.matte.specs.Picture.{Picture, high, border_fits, ascend}
use Rattle.edgel.specs.Edgel.{edgel, crossed, cut, heading_at}
use Rattle.edgel.specs.Beside.{odd_west}
use Rattle.cell.specs.Turn.{saddle, leave, next}
use Rattle.cell.proofs.Witness.{pair}
use Rattle.outline.specs.Line.{line, is_lead}
use Rattle.outline.proofs.Border.{border_fits_lem}
use Rattle.outline.proofs.Listed.{fits_eight}
use Rattle.enclosure.specs.Position.{key, on_left, odd_left, nearest}
use Rattle.enclosure.specs.Tree.{lead_words, firsts, line_count, level_at, lead_at, crossings_at, around, near, best, parent, kind}
use Rattle.enclosure.specs.Article.{kind_in, article}
use Rattle.enclosure.specs.Call.{heads, half}
use Rattle.enclosure.proofs.Witness.{two, nested, three}
use Rattle.enclosure.proofs.Fraction.{over, span, key_order}
use Rattle.enclosure.proofs.Lines.{Setting}
use Rattle.enclosure.proofs.Numbers.{lines_within}
use Rattle.enclosure.proofs.Entry.{lead_pos, falls}
use Rattle.enclosure.proofs.Agree.{kind_child, article_low}
use Rattle.enclosure.proofs.Beside.{beside}
use Rattle.enclosure.proofs.Depth.{depth_by, depth}
use Rattle.enclosure.proofs.Rank.{cross, rank}
use Rattle.enclosure.proofs.Walk.{Came, parent_next}

-- ---- computed
-- a line's lead is not left of itself: strictly left
pub pair_own : odd_left pair 256 0 (line pair 0 8) 0 8 ≡ false
unfolding on_left tally key line orbit heading_at next leave saddle
pair_own = refl

abbrev pub depths : Picture → List ℕ → List ℕ
depths P ks = build (depth eight P ks) 0 (line_count eight P ks)

pub depths_nested : depths nested three ≡ 0 ∷ 0 ∷ 3 ∷ 1 ∷ 2 ∷ []
unfolding build depth depth_by parent best around near nearest level_at lead_at firsts lead_words on_left tally key line is_lead leads low orbit cut edgel crossed heading_at next leave saddle
depths_nested = refl

-- ---- the laws applied
pair_fits : border_fits pair ≡ true
unfolding border_fits every
pair_fits = refl

pub pair_setting : Setting eight pair two
unfolding ascend
pair_setting = record { fits = fits_eight pair refl refl; border = border_fits_lem pair (omega arith) pair_fits; levels = refl }

pair_lines : line_count eight pair two ≡ 3
unfolding firsts lead_words line is_lead leads low orbit cut edgel crossed heading_at next leave saddle
pair_lines = refl

pair_parent : parent eight pair two 2 ≡ 1
unfolding parent best around near nearest level_at lead_at firsts lead_words on_left tally key line is_lead leads low orbit cut edgel crossed heading_at next leave saddle
pair_parent = refl

in_list : 2 < line_count eight pair two
in_list = rw pair_lines (omega arith)

pub pair_falls : lead_pos eight pair two 0 < lead_pos eight pair two 2
pair_falls = falls pair_setting 2 in_list 0 pair_parent

pub pair_kind : kind eight pair two 2 ≡ kind_in (level_at eight pair two 2) (level_at eight pair two 0) (kind eight pair two 0)
pair_kind = kind_child pair_setting 2 in_list 0 pair_parent

pub pair_article : article eight pair two 2 ≡ kind eight pair two 2
unfolding level_at firsts lead_words line is_lead leads low orbit cut edgel crossed heading_at next leave saddle
pair_article = article_low pair_setting 2 in_list refl

-- line 2 has a crossing on code 18, from the sample (1, 2) to the sample (2, 2)
pair_has : 0 < count 18 (crossings_at eight pair two 2)
unfolding count level_at lead_at firsts lead_words line is_lead leads low orbit cut edgel crossed heading_at next leave saddle
pair_has = omega arith

pub pair_beside : odd_west 4 (crossings_at eight pair two 2) 2 2 ≡ not (differ (high pair (level_at eight pair two 2) 10) (kind eight pair two 2))
pair_beside = beside pair_setting 2 in_list 18 pair_has 2 2 (omega arith) (inr refl)

pub pair_half : 3 ≤ half pair two
pair_half = omega (arith, lines_within pair_setting, pair_lines)

pub half_pair : half pair two ≡ 4
unfolding half heads total sum cut edgel crossed
half_pair = refl

-- the crossings of levels 0 and 1 on code 8, 1/6 and 3/6 of the way
pub pair_order : ltb (key pair 256 0 8) (key pair 256 1 8) ≡ ltb (over pair 0 8 * span pair 8) (over pair 1 8 * span pair 8)
unfolding cut edgel crossed
pair_order = key_order pair 256 0 1 8 8 (omega arith) (omega arith) refl refl refl refl refl

-- the ranks of the three leads, and line 2's parent from the crossing before its lead: line 0's on code 18
pub pair_ranks : map (λ n. rank eight pair two (lead_pos eight pair two n)) (0 ∷ 1 ∷ 2 ∷ []) ≡ 0 ∷ 1 ∷ 5 ∷ []
unfolding rank sum cross count key level_at lead_at firsts lead_words line is_lead leads low orbit cut edgel crossed heading_at next leave saddle
pair_ranks = refl

pair_came : Came eight pair two 4 0 true
unfolding rank sum cross count key level_at lead_at firsts lead_words line is_lead leads low orbit cut edgel crossed heading_at next leave saddle
pair_came = record { d = 18; seen = record { on = record { number = omega arith; flat = refl; here = omega arith }; rank = refl }; heading = refl }

pub pair_next : parent eight pair two 2 ≡ 1
unfolding rank sum cross count key level_at lead_at firsts lead_words line is_lead leads low orbit cut edgel crossed heading_at next leave saddle
pair_next = parent_next pair_setting 2 4 0 true in_list refl pair_came
