-- Counting a line's codes beside a sample by the marks of the codes that it holds. Assumes nothing.
-- Definitions: none of its own.
-- Main laws: `odd_west_lem`, `odd_north_lem` for a list that holds each marked code once, the parity of its codes left of a sample and above it is that of the marks.
use mathlib.Core.Path.{◌≡◌, ap, ◌∙◌}
use mathlib.Core.Bool.{Bool}
use mathlib.Core.List.{List}
use Prim.Native.Nat.{ℕ, ◌≤◌, ◌<◌}
use Rattle.tally.specs.Tally.{one, odd, count}
use Rattle.tally.proofs.Sum.{sum_same}
use Rattle.tally.proofs.Parity.{odd_sum}
use Rattle.edgel.specs.Edgel.{across, down}
use Rattle.edgel.specs.Beside.{odd_west, odd_north}
use Rattle.edgel.proofs.Beside.{tally_west, tally_north}
use Rattle.outline.proofs.Parity.{by_row, by_col}

pub odd_west_lem : (w : ℕ) (l : List ℕ) (M : ℕ → Bool) → ((c : ℕ) → count c l ≡ one (M c)) → (x y : ℕ) → x ≤ w → odd_west w l x y ≡ by_row w M x y
unfolding by_row
odd_west_lem w l M e x y h =
    ap odd (tally_west w x y h l ∙ sum_same (λ i. count (across w i y) l) (λ i. one (M (across w i y))) x (λ i k. e (across w i y))) ∙ odd_sum (λ i. M (across w i y)) x

pub odd_north_lem : (w : ℕ) (l : List ℕ) (M : ℕ → Bool) → ((c : ℕ) → count c l ≡ one (M c)) → (x y : ℕ) → x < w → odd_north w l x y ≡ by_col w M x y
unfolding by_col
odd_north_lem w l M e x y h =
    ap odd (tally_north w x y h l ∙ sum_same (λ j. count (down w x j) l) (λ j. one (M (down w x j))) y (λ j k. e (down w x j))) ∙ odd_sum (λ j. M (down w x j)) y
