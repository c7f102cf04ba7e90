-- The customer's second demand, of painting back. Assumes nothing.
-- Main laws: `painted_is_stepped` painting the listed words with the border's value gives the stepped picture; `all_levels_fit` all 255 levels are a list of levels; `painted_is_matte` with them it gives the matte itself.
use mathlib.Core.Path.{◌≡◌, refl, sym, ap, ◌∙◌}
use mathlib.Core.Bool.{Bool, true, ◌&&◌}
use mathlib.Core.List.{List}
use Prim.Native.Nat.{ℕ, ◌+◌, ◌*◌, ◌/◌, ◌%◌, ◌≤◌, ◌<◌}
use native.Mathlib.Nat.{mod-lt, div-add-mod'}
use native.Mathlib.Omega.{arith}
use lib.ListN.{length}
use Rattle.tally.specs.Tally.{build}
use Rattle.tally.proofs.Build.{build_same, is_build}
use Rattle.matte.specs.Layout.{eight}
use Rattle.matte.specs.Picture.{Picture, size, at, levels_fit, ascend}
use Rattle.refuse.proofs.Sides.{sides_in}
use Rattle.outline.specs.List.{listed}
use Rattle.outline.proofs.Codes.{row_in}
use Rattle.outline.proofs.Stepped.{paint_back, all_levels_lem}
use Rattle.paint.specs.Paint.{turns, painted, painting, stepped}
use Rattle.promises.specs.Stepped.{stepped_picture, all_levels}
use Rattle.promises.proofs.DemandThree.{Scan, B, fits}

module _ (P : Picture) (ks : List ℕ) (S : Scan P ks) where
  -- one sample
  painted_at : (x y : ℕ) → x < P.w → y < P.h → painted eight P.w (at P 0) ks (listed eight P ks) x y ≡ stepped ks (at P (y * P.w + x))
  unfolding painted turns
  painted_at x y a b = paint_back eight P (fits P ks S) (B P ks S) ks S.levels x y a b

  pub painted_is_stepped : painting eight P.w P.h (at P 0) ks (listed eight P ks) ≡ stepped_picture ks P
  unfolding painting stepped_picture
  painted_is_stepped =
      let wide : 0 < P.w = omega (arith, (sides_in P.w P.h S.sides).w_least) in
      build_same (λ i. painted eight P.w (at P 0) ks (listed eight P ks) (i % P.w) (i / P.w)) (λ i. stepped ks (at P i)) 0 (P.w * P.h)
      (λ i g l.
      painted_at (i % P.w) (i / P.w) (mod-lt i wide) (row_in P.w P.h i wide (omega arith)) ∙ ap (λ (z : ℕ). stepped ks (at P z)) (div-add-mod' i P.w))

-- all levels ascend
pub all_levels_fit : levels_fit eight all_levels ≡ true
unfolding build ascend
all_levels_fit = refl

stepped_self : (P : Picture) → ((i : ℕ) → at P i ≤ 255) → stepped_picture all_levels P ≡ build (at P) 0 (size P)
unfolding stepped_picture
stepped_self P q = build_same (λ i. stepped all_levels (at P i)) (at P) 0 (size P) (λ i g l. all_levels_lem 255 (at P i) (q i))

-- a picture of bytes with a constant border comes back whole
pub painted_is_matte : (P : Picture) → Scan P all_levels → length P.px ≡ size P → ((i : ℕ) → at P i ≤ 255)
    → painting eight P.w P.h (at P 0) all_levels (listed eight P all_levels) ≡ P.px
painted_is_matte P S n q =
    painted_is_stepped P all_levels S ∙ stepped_self P q ∙ sym (is_build (at P) P.px (size P) n (λ j h. refl))
