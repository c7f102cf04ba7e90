-- The words left of a sample on its row, by their places. Assumes nothing.
-- Main laws: `span_west` the places from a row's start on are those of the row's columns; `west_none`, `west_le`, `west_more`, `west_end` the words of a list counted.
use mathlib.Core.Path.{◌≡◌, ap, ◌∙◌}
use mathlib.Core.Bool.{Bool, ◌&&◌}
use mathlib.Core.List.{List}
use Prim.Native.Nat.{ℕ, ◌+◌, ◌-◌, ◌*◌, ◌/◌, ◌%◌, ◌≤◌, ◌<◌}
use native.Mathlib.Nat.{div-add-mod'}
use native.Mathlib.Omega.{arith}
use lib.Dec.{eqb, ltb, leb}
use lib.ListN.{length, get_or, take}
use lib.Arith.{digits_div, digits_mod}
use borrow.Author.Tests.{eqb-true, ltb-true, leb-true, eq-eqb, lt-ltb, le-leb}
use Rattle.std.specs.Int.{from_bool}
use Rattle.tally.specs.Tally.{one, odd, tally}
use Rattle.tally.proofs.Test.{iff, and_1, and_2, both, one_le}
use Rattle.matte.specs.Layout.{eight}
use Rattle.edgel.specs.Word.{code_of}
use Rattle.edgel.specs.Edgel.{horizontal}
use Rattle.edgel.specs.Beside.{west_of}
use Rattle.paint.specs.Span.{in_span}
use Rattle.paint.specs.Member.{inside}
use Rattle.marks.proofs.Places.{one_from}
use Rattle.layer.proofs.Takes.{take_none, take_more, take_le, take_end}

module _ (w x y : ℕ) (l : x ≤ w) (p : ℕ) where
  -- a place by its row and column
  in_row : (leb (y * w) p && ltb p (y * w + x)) ≡ (eqb (p / w) y && ltb (p % w) x)
  in_row =
      iff
      (λ e.
      let a : y * w ≤ p = leb-true (y * w) p (and_1 (leb (y * w) p) (ltb p (y * w + x)) e) in
      let b : p < y * w + x = ltb-true p (y * w + x) (and_2 (leb (y * w) p) (ltb p (y * w + x)) e) in
      let s : p ≡ y * w + (p - y * w) = omega arith in
      let r : p - y * w < w = omega arith in
      let d : p / w ≡ y = ap (λ (z : ℕ). z / w) s ∙ digits_div y r in
      let m : p % w ≡ p - y * w = ap (λ (z : ℕ). z % w) s ∙ digits_mod y r in
      both (eq-eqb (p / w) y d) (lt-ltb (p % w) x (omega arith)))
      (λ e.
      let d : p / w ≡ y = eqb-true (p / w) y (and_1 (eqb (p / w) y) (ltb (p % w) x) e) in
      let m : p % w < x = ltb-true (p % w) x (and_2 (eqb (p / w) y) (ltb (p % w) x) e) in
      let s : p / w * w + p % w ≡ p = div-add-mod' p w in
      let t : p / w * w ≡ y * w = ap (λ (z : ℕ). z * w) d in
      both (le-leb (y * w) p (omega arith)) (lt-ltb p (y * w + x) (omega arith)))

pub span_west : (w x y c : ℕ) → x ≤ w → in_span (y * w) x c ≡ west_of w x y c
unfolding in_span west_of
span_west w x y c l = ap (λ (b : Bool). horizontal c && b) (in_row w x y l (c / 2))

-- ---- counting the words of a list
module _ (w x y : ℕ) (ws : List ℕ) where
  abbrev west : ℕ → Bool
  west u = west_of w x y (code_of eight u)

  pub west_none : 0 ≡ tally (λ u. west_of w x y (code_of eight u)) (take 0 ws)
  west_none = take_none west ws

  pub west_le : (i n o : ℕ) (b : Bool) → n ≡ tally (λ u. west_of w x y (code_of eight u)) (take i ws) → o ≡ from_bool b → n + o ≤ i + 1
  west_le i n o b q e = omega (arith, take_le west ws i, e, one_from b, one_le b)

  pub west_more : x ≤ w → (i n o c : ℕ) (b : Bool) → i < length ws → n ≡ tally (λ u. west_of w x y (code_of eight u)) (take i ws) → c ≡ code_of eight (get_or ws i 0) → b ≡ in_span (y * w) x c → o ≡ from_bool b
      → n + o ≡ tally (λ u. west_of w x y (code_of eight u)) (take (i + 1) ws)
  west_more l i n o c b h q s d e =
      let t : o ≡ one (west (get_or ws i 0)) = e ∙ one_from b ∙ ap one (d ∙ span_west w x y c l ∙ ap (west_of w x y) s) in
      omega (arith, take_more west ws i h)

  pub west_end : (i n : ℕ) → i ≡ length ws → n ≡ tally (λ u. west_of w x y (code_of eight u)) (take i ws) → odd n ≡ inside eight w ws x y
  unfolding inside
  west_end i n e q = ap odd (q ∙ take_end west ws i e)
