-- The piece call's refusals, from plain facts. Assumes nothing.
-- Main laws: `met_from` the four corners say whether an edgel of the cell is crossed; `last_row` the verdict where none of 1 2 3 11 is given.
use mathlib.Core.Path.{◌≡◌, refl, ap, ◌∙◌}
use mathlib.Core.Bool.{Bool, not, ◌&&◌, ◌||◌}
use mathlib.Core.List.{[], ◌∷◌}
use Prim.Native.Nat.{ℕ, ◌+◌, ◌*◌, ◌/◌, ◌%◌}
use native.Mathlib.Omega.{arith}
use lib.Dec.{ltb}
use Rattle.tally.specs.Tally.{differ}
use Rattle.refuse.specs.Refusal.{Verdict}
use Rattle.matte.specs.Layout.{eight}
use Rattle.matte.specs.Picture.{Picture, high}
use Rattle.refuse.specs.Refusal.{row, verdict}
use Rattle.refuse.proofs.Rows.{gone_on}
use Rattle.edgel.specs.Edgel.{crossed}
use Rattle.refuse.specs.Shape.{level_rows}
use Rattle.piece.specs.declared.Corners.{Corners}
use Rattle.piece.specs.Piece.{cell_at, is_cell, met, piece_verdict}
use Rattle.piece.specs.Curve.{mixed, corners_at}

-- ---- the four sides of a cell
flat_crossed : (H : ℕ → Bool) (w i : ℕ) → differ (H i) (H (i + 1)) ≡ crossed H w (2 * i)
unfolding crossed
flat_crossed H w i =
    let a : (2 * i) % 2 ≡ 0 = omega arith in
    let b : (2 * i) / 2 ≡ i = omega arith in
    rw (a, b)

tall_crossed : (H : ℕ → Bool) (w i : ℕ) → differ (H i) (H (i + w)) ≡ crossed H w (2 * i + 1)
unfolding crossed
tall_crossed H w i =
    let a : (2 * i + 1) % 2 ≡ 1 = omega arith in
    let b : (2 * i + 1) / 2 ≡ i = omega arith in
    rw (a, b)

sides_mixed : (H : ℕ → Bool) (w t : ℕ)
    → mixed (H t) (H (t + w)) (H (t + w + 1)) (H (t + 1)) ≡ (crossed H w (2 * (t + w)) || (crossed H w (2 * (t + 1) + 1) || (crossed H w (2 * t) || crossed H w (2 * t + 1))))
sides_mixed H w t =
    let e : t + w + 1 ≡ t + 1 + w = omega arith in
    ap (λ (x : Bool). x || (differ (H (t + 1)) (H (t + w + 1)) || (differ (H t) (H (t + 1)) || differ (H t) (H (t + w))))) (flat_crossed H w (t + w))
    ∙ ap (λ (x : Bool). crossed H w (2 * (t + w)) || (x || (differ (H t) (H (t + 1)) || differ (H t) (H (t + w)))))
    (ap (λ (i : ℕ). differ (H (t + 1)) (H i)) e ∙ tall_crossed H w (t + 1))
    ∙ ap (λ (x : Bool). crossed H w (2 * (t + w)) || (crossed H w (2 * (t + 1) + 1) || (x || differ (H t) (H (t + w))))) (flat_crossed H w t)
    ∙ ap (λ (x : Bool). crossed H w (2 * (t + w)) || (crossed H w (2 * (t + 1) + 1) || (crossed H w (2 * t) || x))) (tall_crossed H w t)

module _ (P : Picture) (k x y : ℕ) where
  met_is : (t : ℕ) → t ≡ cell_at P k x y → mixed (high P k t) (high P k (t + P.w)) (high P k (t + P.w + 1)) (high P k (t + 1)) ≡ met P k x y
  met_is t e = rw e (sides_mixed (high P k) P.w (cell_at P k x y))

  pub met_from : (q : Corners) (t : ℕ) → q ≡ corners_at P.w P.px t → t ≡ cell_at P k x y → mixed (ltb k q.p0) (ltb k q.p1) (ltb k q.p2) (ltb k q.p3) ≡ met P k x y
  met_from q t c e = ap (λ (z : Corners). mixed (ltb k z.p0) (ltb k z.p1) (ltb k z.p2) (ltb k z.p3)) c ∙ met_is t e

  pub last_row : (w h : ℕ) → w ≡ P.w → h ≡ P.h
      → (f : Bool) → f ≡ (ltb (x + 1) w && ltb (y + 1) h)
      → (q : Corners) → q ≡ corners_at w P.px (y * w + x)
      → (m : Bool) → m ≡ mixed (ltb k q.p0) (ltb k q.p1) (ltb k q.p2) (ltb k q.p3)
      → (z : Verdict) → z.number ≡ 0 → z ≡ verdict (level_rows eight P (k ∷ [])) → z ≡ verdict (row 11 (not f) ∷ [])
      → (u : Verdict) → u ≡ verdict (row 10 (not m) ∷ []) → u ≡ piece_verdict eight P k x y
  last_row w h i j f e q c m d z n l r u t =
      let last = row 10 (not (met P k x y)) ∷ [] in
      let cell = e ∙ ap (λ (o : ℕ). ltb (x + 1) o && ltb (y + 1) h) i ∙ ap (λ (o : ℕ). ltb (x + 1) P.w && ltb (y + 1) o) j in
      let corners = c ∙ ap (λ (o : ℕ). corners_at o P.px (y * o + x)) i in
      gone_on (level_rows eight P (k ∷ [])) (row 11 (not (is_cell P k x y)) ∷ last) z u refl l n
      (gone_on (row 11 (not (is_cell P k x y)) ∷ []) last z u refl (rw cell at r) n (rw (d ∙ met_from q _ corners refl) at t))
