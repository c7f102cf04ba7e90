-- Kinds and insides (02, R-2): no hole is shown as solid, of the list's words and of membership as the call counts it. Assumes nothing.
-- Definitions: none of its own.
-- Main laws: `beside_inside` a sample at an end of one of a line's crossings is inside the line exactly if it is above the level where the line is upper, or not above it where the line is lower; so such a sample
--   that is inside is above the level exactly if the line is upper (`inside_kind`), and one that is not inside exactly if the line is lower (`outside_kind`).
use mathlib.Core.Path.{◌≡◌, refl, sym, ap, ◌∙◌}
use mathlib.Core.Bool.{Bool, true, false, not}
use mathlib.Core.List.{List}
use Prim.Native.Nat.{ℕ, ◌+◌, ◌*◌, ◌<◌}
use native.Mathlib.Omega.{arith}
use lib.Dec.{eqb}
use borrow.Author.Tests.{eq-eqb}
use Rattle.tally.specs.Tally.{differ, count}
use Rattle.tally.proofs.Count.{tally_has, tally_eq}
use Rattle.tally.proofs.Test.{no}
use Rattle.matte.specs.Layout.{eight}
use Rattle.matte.specs.Picture.{Picture, high}
use Rattle.edgel.specs.Word.{code_of, level_of}
use Rattle.enclosure.specs.Tree.{line_count, crossings_at, kind}
use Rattle.enclosure.proofs.Numbers.{count_flags}
use Rattle.enclosure.proofs.Beside.{EndOf, beside}
use Rattle.paint.specs.Member.{inside}
use Rattle.promises.proofs.DemandThree.{Scan}
use Rattle.promises.proofs.DemandThreeWords.{line_total, line_at, setting, codes_tallied, inside_is_odd, level_each}

same_truth : (x y : Bool) → not (differ x y) ≡ true → x ≡ y
same_truth true true e = refl
same_truth true false e = no e refl
same_truth false true e = no e refl
same_truth false false e = refl

other_truth : (x y : Bool) → not (differ x y) ≡ false → x ≡ not y
other_truth true true e = no refl e
other_truth true false e = refl
other_truth false true e = refl
other_truth false false e = no refl e

-- u is a word of line n, and the sample (x, y) an end of its edgel
module _ (P : Picture) (ks : List ℕ) (S : Scan P ks) (n : ℕ) (h : n < line_total P ks) (u : ℕ) (m : 0 < count u (line_at P ks n)) (x y : ℕ) (a : x < P.w)
    (e : EndOf P.w (code_of eight u) (y * P.w + x)) where
  has_code : 0 < count (code_of eight u) (crossings_at eight P ks n)
  has_code =
      let c = code_of eight u in
      let t = tally_has (λ v. eqb c (code_of eight v)) u (line_at P ks n) (eq-eqb c c refl) m in
      omega (arith, codes_tallied P ks S n h (eqb c), tally_eq c (crossings_at eight P ks n))

  pub beside_inside : inside eight P.w (line_at P ks n) x y ≡ not (differ (high P (level_of eight u) (y * P.w + x)) (kind eight P ks n))
  beside_inside =
      let l : n < line_count eight P ks = omega (arith, count_flags (setting P ks S)) in
      inside_is_odd P ks S n h x y
      ∙ beside (setting P ks S) n l (code_of eight u) has_code x y a e
      ∙ ap (λ (z : ℕ). not (differ (high P z (y * P.w + x)) (kind eight P ks n))) (sym (level_each P ks S n h u m))

  pub inside_kind : inside eight P.w (line_at P ks n) x y ≡ true → high P (level_of eight u) (y * P.w + x) ≡ kind eight P ks n
  inside_kind t = same_truth (high P (level_of eight u) (y * P.w + x)) (kind eight P ks n) (sym beside_inside ∙ t)

  pub outside_kind : inside eight P.w (line_at P ks n) x y ≡ false → high P (level_of eight u) (y * P.w + x) ≡ not (kind eight P ks n)
  outside_kind t = other_truth (high P (level_of eight u) (y * P.w + x)) (kind eight P ks n) (sym beside_inside ∙ t)
