-- The lines of a picture with a constant border, at one level: every crossed edgel once, and neighbours by each line. Assumes nothing.
-- Definitions: `on_line P k c d` d stands on the line through c.
-- Main laws: `lines_listing` the walk over places lists the orbits of all leads; `each_once` every crossed edgel is on exactly one line, once; `words_total` how many crossings there are; `scanned`
--   a scan that marks gives these lines; `line_count_lem` a line holds each of its codes once; `west_row`, `north_col` counting along row and column by its marks; `line_east`, `line_south` neighbours
--   are on different sides exactly if the line passes between them; `line_column` the row's count and the column's agree.
use mathlib.Core.Path.{◌≡◌, sym, ap, ◌∙◌}
use mathlib.Core.Bool.{Bool, true, false}
use mathlib.Core.List.{List}
use Prim.Native.Nat.{ℕ, suc, ◌*◌, ◌%◌, ◌≤◌, ◌<◌}
use native.Mathlib.Omega.{arith}
use lib.Dec.{ltb}
use lib.ListN.{length}
use borrow.Author.Tests.{ne_eqb}
use Rattle.tally.specs.Tally.{one, differ, sum, count, flat, stands}
use Rattle.tally.proofs.Pick.{pick_even}
use Rattle.orbit.specs.Orbit.{orbit, leads}
use Rattle.orbit.proofs.Orbit.{Closed}
use Rattle.orbit.proofs.On.{on, count_on, on_ok, on_next}
use Rattle.orbit.proofs.Partition.{listing, once, listing_length, Headed}
use Rattle.orbit.proofs.Scan.{scan, scan_listing}
use Rattle.matte.specs.Picture.{Picture, size, high}
use Rattle.edgel.specs.Edgel.{across, down, horizontal}
use Rattle.edgel.specs.Beside.{odd_west, odd_north}
use Rattle.cell.specs.Turn.{next}
use Rattle.outline.specs.Line.{cut_at, line, is_lead, lines}
use Rattle.outline.proofs.Border.{Border, frame}
use Rattle.outline.proofs.Follow.{Kept}
use Rattle.outline.proofs.Paper.{bit, closed_at, headed_at, kept_along}
use Rattle.outline.proofs.Parity.{by_row, by_col, step_east, step_south, row_col}
use Rattle.outline.proofs.Beside.{odd_west_lem, odd_north_lem}

module _ (P : Picture) (k : ℕ) where
  abbrev pub on_line : ℕ → ℕ → Bool
  on_line c d = stands d (line P k c)

  tall_leads : (j : ℕ) → leads (next P k) (cut_at P k) horizontal (2 * size P) (suc (2 * j)) ≡ false
  unfolding leads
  tall_leads j = rw (ne_eqb (suc (2 * j) % 2) 0 (omega arith))

  pub lines_listing : lines P k ≡ listing (next P k) (cut_at P k) horizontal (2 * size P)
  unfolding lines line is_lead
  lines_listing =
      sym (pick_even (leads (next P k) (cut_at P k) horizontal (2 * size P)) (λ c. orbit (next P k) c (2 * size P) c) tall_leads 0 (size P))

module _ (P : Picture) (B : Border P) (k : ℕ) where
  K : Closed (next P k) (cut_at P k) (2 * size P)
  K = closed_at P B k

  X : Headed (next P k) (cut_at P k) horizontal (2 * size P)
  X = headed_at P B k

  pub each_once : (c : ℕ) → count c (flat (lines P k)) ≡ one (cut_at P k c)
  each_once c = ap (λ (l : List (List ℕ)). count c (flat l)) (lines_listing P k) ∙ once K horizontal X c

  pub words_total : length (flat (lines P k)) ≡ sum (λ c. one (cut_at P k c)) (2 * size P)
  words_total = ap (λ (l : List (List ℕ)). length (flat l)) (lines_listing P k) ∙ listing_length K horizontal X

  pub scanned : scan (next P k) (cut_at P k) horizontal (2 * size P) (λ d. false) 0 (2 * size P) ≡ lines P k
  scanned = scan_listing K horizontal X ∙ sym (lines_listing P k)

  module _ (c : ℕ) (o : cut_at P k c ≡ true) where
    pub line_count_lem : (d : ℕ) → count d (line P k c) ≡ one (on_line P k c d)
    unfolding line on
    line_count_lem d = count_on K c d o

    pub line_kept : Kept (high P k) (bit P k) P.w P.h (on_line P k c)
    unfolding line on
    line_kept = kept_along P B k (on_line P k c) (λ d e. on_ok K c d o e) (λ d e. on_next K c d o e)

    pub west_row : (x y : ℕ) → x ≤ P.w → odd_west P.w (line P k c) x y ≡ by_row P.w (on_line P k c) x y
    west_row x y a = odd_west_lem P.w (line P k c) (on_line P k c) line_count_lem x y a

    pub north_col : (x y : ℕ) → x < P.w → odd_north P.w (line P k c) x y ≡ by_col P.w (on_line P k c) x y
    north_col x y a = odd_north_lem P.w (line P k c) (on_line P k c) line_count_lem x y a

    pub line_east : (x y : ℕ) → x < P.w → odd_west P.w (line P k c) (suc x) y ≡ differ (odd_west P.w (line P k c) x y) (on_line P k c (across P.w x y))
    line_east x y a =
        west_row (suc x) y a
        ∙ step_east (high P k) (bit P k) P.w P.h (high P k 0) (frame P B k) (on_line P k c) x y
        ∙ ap (λ (z : Bool). differ z (on_line P k c (across P.w x y))) (sym (west_row x y (omega arith)))

    pub line_south : (x y : ℕ) → x < P.w → suc y < P.h
        → odd_west P.w (line P k c) x (suc y) ≡ differ (odd_west P.w (line P k c) x y) (on_line P k c (down P.w x y))
    line_south x y a b =
        west_row x (suc y) (omega arith)
        ∙ step_south (high P k) (bit P k) P.w P.h (high P k 0) (frame P B k) (on_line P k c) line_kept x y a b
        ∙ ap (λ (z : Bool). differ z (on_line P k c (down P.w x y))) (sym (west_row x y (omega arith)))

    pub line_column : (x y : ℕ) → x < P.w → y < P.h → odd_west P.w (line P k c) x y ≡ odd_north P.w (line P k c) x y
    line_column x y a b =
        west_row x y (omega arith)
        ∙ row_col (high P k) (bit P k) P.w P.h (high P k 0) (frame P B k) (on_line P k c) line_kept x y a b
        ∙ sym (north_col x y a)
