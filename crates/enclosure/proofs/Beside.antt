-- The samples beside a line: those inside it are high where the line is upper and low where it is lower. Assumes nothing.
-- Definitions: `EndOf w c i` the place i is an end of the edgel c.
-- Main laws: `beside_line` an end of one of a line's crossings is inside the line exactly if it is high and the line upper, or low and the line lower; `beside` the same by the line's number, with the
--   count along the row that membership takes.
use mathlib.Core.Path.{◌≡◌, refl, sym, ap, ◌∙◌}
use mathlib.Core.Bool.{Bool, true, false, not, cond}
use mathlib.Core.List.{List}
use mathlib.Core.Logic.{◌⊎◌, ⊎_elim}
use Prim.Native.Nat.{ℕ, ◌+◌, ◌*◌, ◌/◌, ◌%◌, ◌<◌}
use native.Mathlib.Omega.{arith}
use lib.Arith.{digits_mod, digits_div}
use borrow.Author.Tests.{ltb-true}
use Rattle.tally.specs.Tally.{differ, count}
use Rattle.tally.proofs.Test.{by_test, and_2, differ_low, differ_high}
use Rattle.matte.specs.Layout.{Layout}
use Rattle.matte.specs.Picture.{Picture, high}
use Rattle.edgel.specs.Edgel.{horizontal, first, second, edgel, crossed, cut, heading_of, heading_at}
use Rattle.edgel.specs.Beside.{odd_west}
use Rattle.outline.proofs.Places.{line_cut}
use Rattle.outline.proofs.Parity.{by_row}
use Rattle.outline.proofs.Beside.{odd_west_lem}
use Rattle.enclosure.specs.Tree.{line_count, level_at, crossings_at, kind}
use Rattle.enclosure.proofs.Inside.{inside, low, top, low_end, high_end}
use Rattle.enclosure.proofs.Lines.{Setting, Line, marks, lead_cut, counts, member}
use Rattle.enclosure.proofs.Sides.{low_side, high_side}
use Rattle.enclosure.proofs.Kind.{upper}
use Rattle.enclosure.proofs.Tree.{line_of}

-- the left or top end, or the right or bottom end
abbrev pub EndOf : ℕ → ℕ → ℕ → Type 0
EndOf w c i = (i ≡ first c) ⊎ (i ≡ second w c)

-- ---- which end is the high one
module _ (w c : ℕ) where
  by_heading : (b u : Bool)
      → (top w (heading_of b u) c ≡ cond u (first c) (cond b (c / 2 + 1) (c / 2 + w))) × (low w (heading_of b u) c ≡ cond u (cond b (c / 2 + 1) (c / 2 + w)) (first c))
  by_heading true true = (refl, refl)
  by_heading true false = (refl, refl)
  by_heading false true = (refl, refl)
  by_heading false false = (refl, refl)

  ends_are : (H : ℕ → Bool) → (high_end H w c ≡ cond (H (first c)) (first c) (second w c)) × (low_end H w c ≡ cond (H (first c)) (second w c) (first c))
  unfolding heading_at
  ends_are H = by_heading (horizontal c) (H (first c))

-- by the lead's left end x: the side of a high end, and of a low end
high_end_lem : (x : Bool) → not x ≡ not (differ true (not x))
high_end_lem true = refl
high_end_lem false = refl

low_end_lem : (x : Bool) → x ≡ not (differ false (not x))
low_end_lem true = refl
low_end_lem false = refl

module _ {L : Layout} {P : Picture} {ks : List ℕ} (S : Setting L P ks) where
  module _ (M : Line P ks) (c : ℕ) (m : marks M c ≡ true) where
    abbrev H : ℕ → Bool
    H = high P M.lvl

    abbrev I : ℕ → Bool
    I = inside P.w (marks M)

    abbrev x : Bool
    x = H (first M.lead)

    apart : differ (H (first c)) (H (second P.w c)) ≡ true
    unfolding cut crossed
    apart = and_2 (edgel P.w P.h c) (crossed H P.w c) (line_cut P S.border M.lvl M.lead c (lead_cut S M) (ltb-true _ _ m))

    at_high : (i : ℕ) → high_end H P.w c ≡ i → H i ≡ true → I i ≡ not (differ (H i) (upper M))
    at_high i e y = ap I (sym e) ∙ high_side S M c m ∙ high_end_lem x ∙ ap (λ (z : Bool). not (differ z (upper M))) (sym y)

    at_low : (i : ℕ) → low_end H P.w c ≡ i → H i ≡ false → I i ≡ not (differ (H i) (upper M))
    at_low i e y = ap I (sym e) ∙ low_side S M c m ∙ low_end_lem x ∙ ap (λ (z : Bool). not (differ z (upper M))) (sym y)

    at_first : I (first c) ≡ not (differ (H (first c)) (upper M))
    at_first =
        by_test (H (first c))
        (λ y. at_high (first c) ((ends_are P.w c H).0 ∙ ap (λ (z : Bool). cond z (first c) (second P.w c)) y) y)
        (λ y. at_low (first c) ((ends_are P.w c H).1 ∙ ap (λ (z : Bool). cond z (second P.w c) (first c)) y) y)

    at_second : I (second P.w c) ≡ not (differ (H (second P.w c)) (upper M))
    at_second =
        by_test (H (first c))
        (λ y. at_low (second P.w c) ((ends_are P.w c H).1 ∙ ap (λ (z : Bool). cond z (second P.w c) (first c)) y) (differ_high _ _ y apart))
        (λ y. at_high (second P.w c) ((ends_are P.w c H).0 ∙ ap (λ (z : Bool). cond z (first c) (second P.w c)) y) (differ_low _ _ y apart))

    pub beside_line : (i : ℕ) → EndOf P.w c i → inside P.w (marks M) i ≡ not (differ (high P M.lvl i) (upper M))
    beside_line i e =
        ⊎_elim
        (λ (a : i ≡ first c). rw a at_first)
        (λ (a : i ≡ second P.w c). rw a at_second)
        e

  -- the same of line n, by counting along the row
  pub beside : (n : ℕ) → n < line_count L P ks → (c : ℕ) → 0 < count c (crossings_at L P ks n) → (x y : ℕ) → x < P.w → EndOf P.w c (y * P.w + x)
      → odd_west P.w (crossings_at L P ks n) x y ≡ not (differ (high P (level_at L P ks n) (y * P.w + x)) (kind L P ks n))
  unfolding line_of kind
  beside n a c m x y b e =
      let M = line_of S n a in
      let i = y * P.w + x in
      let r : i % P.w ≡ x = digits_mod y b in
      let q : i / P.w ≡ y = digits_div y b in
      odd_west_lem P.w (crossings_at L P ks n) (marks M) (counts S M) x y (omega arith)
      ∙ ap (λ (z : ℕ). by_row P.w (marks M) z y) (sym r)
      ∙ ap (by_row P.w (marks M) (i % P.w)) (sym q)
      ∙ beside_line M c (member S M c m) i e
