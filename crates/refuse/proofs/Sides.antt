-- What the beginnings of a call's rows hand on. Assumes nothing.
-- Main laws: `sides_in` sides that pass the test are in range, `in_sides` and back; `sized`, `shaped`, `levelled`, `grounded` what a verdict of 0 says of the rows 1; 1 2; 1 2 3; 1 2 3 4 17 18 19, and `of_size` of 1 3.
use mathlib.Core.Path.{◌≡◌, refl, sym, ◌∙◌}
use mathlib.Core.Bool.{Bool, true, false, not, ◌&&◌}
use mathlib.Core.List.{List, [], ◌∷◌}
use Prim.Native.Nat.{ℕ}
use native.Mathlib.Omega.{arith}
use lib.Dec.{leb}
use borrow.Author.Tests.{leb-true, le-leb, le-ltb, eqb-true, not-false}
use Rattle.tally.proofs.Test.{and_1, and_2, both}
use Rattle.matte.specs.Layout.{Layout}
use Rattle.matte.specs.Picture.{Picture, size, side_fits, samples_fit, levels_fit, border_fits}
use Rattle.refuse.specs.Refusal.{verdict, sides_row, samples_row, levels_row}
use Rattle.refuse.specs.Hot.{hot, border_rows}
use Rattle.refuse.specs.Shape.{Sides, Shaped, Ground, shape_rows, level_rows, ground_rows, size_rows}
use Rattle.refuse.proofs.Rows.{clean_fit, parted}
use Rattle.refuse.proofs.Edges.{hot_unfit, cold}

pub sides_in : (w h : ℕ) → (side_fits w && side_fits h) ≡ true → Sides w h
sides_in w h e =
    let a : side_fits w ≡ true = and_1 (side_fits w) (side_fits h) e in
    let b : side_fits h ≡ true = and_2 (side_fits w) (side_fits h) e in
    record {
      w_least = leb-true 2 w (and_1 (leb 2 w) (leb w 2048) a);
      w_most = leb-true w 2048 (and_2 (leb 2 w) (leb w 2048) a);
      h_least = leb-true 2 h (and_1 (leb 2 h) (leb h 2048) b);
      h_most = leb-true h 2048 (and_2 (leb 2 h) (leb h 2048) b);
    }

pub in_sides : (w h : ℕ) → Sides w h → (side_fits w && side_fits h) ≡ true
in_sides w h S =
    both (both (le-leb 2 w S.w_least) (le-leb w 2048 S.w_most)) (both (le-leb 2 h S.h_least) (le-leb h 2048 S.h_most))

pub sized : (w h : ℕ) → (verdict (sides_row w h ∷ [])).number ≡ 0 → Sides w h
sized w h e = sides_in w h (clean_fit 1 (side_fits w && side_fits h) [] (λ z. omega arith) e).0

pub shaped : (P : Picture) → (verdict (shape_rows P)).number ≡ 0 → Shaped P
shaped P e =
    let a = parted (sides_row P.w P.h ∷ []) (samples_row P ∷ []) refl e in
    record { sides = sized P.w P.h a.0; whole = eqb-true _ _ (clean_fit 2 (samples_fit P) [] (λ z. omega arith) a.1).0 }

-- the row 3 by itself
fit_3 : (L : Layout) (ks : List ℕ) → (verdict (levels_row L ks ∷ [])).number ≡ 0 → levels_fit L ks ≡ true
fit_3 L ks e = (clean_fit 3 (levels_fit L ks) [] (λ z. omega arith) e).0

pub of_size : (L : Layout) (w h : ℕ) (ks : List ℕ) → (verdict (size_rows L w h ks)).number ≡ 0 → Sides w h × (levels_fit L ks ≡ true)
of_size L w h ks e = let a = parted (sides_row w h ∷ []) (levels_row L ks ∷ []) refl e in (sized w h a.0, fit_3 L ks a.1)

pub levelled : (L : Layout) (P : Picture) (ks : List ℕ) → (verdict (level_rows L P ks)).number ≡ 0 → Shaped P × (levels_fit L ks ≡ true)
levelled L P ks e = let a = parted (shape_rows P) (levels_row L ks ∷ []) refl e in (shaped P a.0, fit_3 L ks a.1)

pub grounded : (L : Layout) (P : Picture) (ks : List ℕ) → (verdict (ground_rows L P ks)).number ≡ 0 → Ground P × (levels_fit L ks ≡ true)
grounded L P ks e =
    let a = parted (level_rows L P ks) (border_rows P) refl e in
    let b = levelled L P ks a.0 in
    let f : border_fits P ≡ true = not-false (border_fits P) (sym (hot_unfit P) ∙ le-ltb (hot P) (size P) (cold P a.1)) in
    (record { sides = b.0.sides; whole = b.0.whole; border = f }, b.1)
