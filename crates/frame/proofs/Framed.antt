-- What framing gives. Assumes nothing.
-- Main laws: `framed_long` as many samples as the picture has; `framed_at` a sample of the framed picture; `framed_fits` its border is all one value; `framed_cold` so none of 4, 17, 18 and 19 is ever given for it.
use mathlib.Core.Path.{◌≡◌, sym, ap, ◌∙◌}
use mathlib.Core.Bool.{Bool, true, false, not, ◌&&◌, ◌||◌, cond}
use mathlib.Core.List.{List}
use Prim.Native.Nat.{ℕ, ◌*◌, ◌≤◌, ◌<◌}
use native.Mathlib.Nat.{zero-add}
use native.Mathlib.Omega.{arith}
use lib.Dec.{eqb}
use lib.ListN.{length, get_or}
use borrow.Author.Tests.{eq-eqb}
use Rattle.tally.proofs.Test.{by_test}
use Rattle.tally.proofs.Every.{every_from}
use Rattle.tally.proofs.Build.{build_length, build_at}
use Rattle.matte.specs.Layout.{Layout}
use Rattle.matte.specs.Picture.{Picture, picture, size, at, on_border, border_fits}
use Rattle.refuse.specs.Hot.{hot, edge, edge_row}
use Rattle.refuse.proofs.Edges.{hot_unfit}
use Rattle.refuse.specs.Shape.{Sides}
use Rattle.frame.specs.Frame.{border_samples, median, framed}
use Rattle.frame.proofs.Edge.{on_top}
use Rattle.frame.proofs.Rounds.{rows_le}

module _ (L : Layout) (P : Picture) where
  pub framed_long : length (framed L P) ≡ size P
  unfolding framed
  framed_long = build_length (λ i. cond (on_border P.w P.h i) (median L (border_samples P)) (at P i)) 0 (size P)

  pub framed_at : (i : ℕ) → i < size P → get_or (framed L P) i 0 ≡ cond (on_border P.w P.h i) (median L (border_samples P)) (at P i)
  unfolding framed
  framed_at i h =
      let f : ℕ → ℕ = λ i. cond (on_border P.w P.h i) (median L (border_samples P)) (at P i) in
      build_at f 0 (size P) i h ∙ ap f (zero-add i)

module _ (L : Layout) (w h : ℕ) (S : Sides w h) (px : List ℕ) where
  on_it : (i : ℕ) → i < w * h → on_border w h i ≡ true → get_or (framed L (picture w h px)) i 0 ≡ median L (border_samples (picture w h px))
  on_it i l e = framed_at L (picture w h px) i l ∙ ap (λ (b : Bool). cond b (median L (border_samples (picture w h px))) (get_or px i 0)) e

  pub framed_fits : border_fits (picture w h (framed L (picture w h px))) ≡ true
  unfolding border_fits
  framed_fits =
      let W : 2 ≤ w = S.w_least in
      let F = framed L (picture w h px) in
      every_from (λ i. not (on_border w h i) || eqb (get_or F i 0) (get_or F 0 0)) (w * h)
      (λ i l.
      by_test (on_border w h i)
      (λ e. rw (e, eq-eqb (get_or F i 0) (get_or F 0 0) (on_it i l e ∙ sym (on_it 0 (omega (arith, rows_le w h S 0 (omega (arith, S.h_least)))) (on_top w h 0 (omega arith))))))
      (λ e. rw e))

  pub framed_cold : (n : ℕ) → (edge_row (picture w h (framed L (picture w h px))) n).given ≡ false
  framed_cold n =
      let F = picture w h (framed L (picture w h px)) in
      ap (λ (b : Bool). b && eqb (edge w h (hot F)) n) (hot_unfit F ∙ ap not framed_fits)
