-- In a cell whose high corners face each other the saddle decides: the line turns by whether its level is below the surface at the cell's centre. Assumes nothing.
-- Definitions: `height_of` the surface of a cell by its named corners; `below_centre` the level is below it at the centre; `seen_from` a point of the cell as it lies from the entry.
-- Main laws: `saddle_decides` right if the level is below, otherwise left, for every heading; `entry_height`, `one_centre` the corners named from any entry are those of one surface, with one height at the centre; `two_ways` there d is negative.
use mathlib.Core.Path.{◌≡◌, refl, sym, ap, subst, ◌∙◌}
use mathlib.Core.Bool.{Bool, true, false, cond}
use mathlib.Core.List.{List, [], ◌∷◌}
use Prim.Native.Nat.{ℕ, ◌+◌, ◌*◌}
use lib.Dec.{ltb}
use lib.IntN.{ℤ, pos, neg_ℤ, ◌-ℤ◌, ◌*ℤ◌}
use borrow.Author.Tests.{ltb-true, ltb-false}
use Rattle.matte.specs.Picture.{Picture, at}
use Rattle.edgel.specs.declared.Heading.{Heading}
use Rattle.edgel.specs.declared.Heading.TheVariants.{South, East, North, West}
use Rattle.edgel.specs.Heading.{left, right}
use Rattle.cell.specs.Turn.{Corners, saddle, turn, out, into, corners, leave, next}
use Rattle.cell.proofs.Steps.{At, next_leave}
use Rattle.outline.specs.Line.{cut_at}
use Rattle.outline.proofs.Paper.{entered_at, entered_at_lem, right_low, left_high}
use Rattle.piece.specs.Piece.{b, c, d}
use Rattle.piece.specs.Curve.{above}
use Rattle.piece.specs.Surface.{height}
use Rattle.piece.proofs.Ring.{var, minus, equal, solve}
use Rattle.piece.proofs.Surface.{height_turned, centre_turned}
use Rattle.piece.proofs.Saddle.{d_below, saddle_height}
use Rattle.promises.proofs.DemandThree.{Scan, B}

abbrev pub height_of : Corners → ℤ → ℤ → ℤ → ℤ
height_of q = height q.p0 q.p1 q.p2 q.p3

-- k + 1/2 is below the height at (−c/d, −b/d): (2k+1)·d² < 2·d²·height
abbrev pub below_centre : ℕ → Corners → Bool
below_centre k q =
    let D = d q.p0 q.p1 q.p2 q.p3 in
    above (pos 2 *ℤ height_of q D (neg_ℤ (c q.p0 q.p1 q.p2 q.p3)) (neg_ℤ (b q.p0 q.p1 q.p2 q.p3)) -ℤ pos (2 * k + 1) *ℤ (D *ℤ D))

-- (u/m, v/m) from the top left corner, from the corner at the entry's right hand
abbrev pub seen_from : Heading → ℤ → ℤ → ℤ → ℤ × ℤ
seen_from South m u v = (u, v)
seen_from East m u v = (m -ℤ v, u)
seen_from North m u v = (m -ℤ u, m -ℤ v)
seen_from West m u v = (v, m -ℤ u)

back_again : (m v : ℤ) → m -ℤ (m -ℤ v) ≡ v
unfolding equal
back_again m v = solve (m ∷ v ∷ []) (minus (var 0) (minus (var 0) (var 1))) (var 1) refl

-- South names the corners by place
module _ (P : Picture) (t : ℕ) (m u v : ℤ) where
  from_east : height_of (corners P East t) m (m -ℤ v) u ≡ height_of (corners P South t) m u v
  from_east = height_turned (at P t) (at P (t + P.w)) (at P (t + P.w + 1)) (at P (t + 1)) m u v

  from_north : height_of (corners P North t) m (m -ℤ u) (m -ℤ v) ≡ height_of (corners P South t) m u v
  from_north = height_turned (at P (t + P.w)) (at P (t + P.w + 1)) (at P (t + 1)) (at P t) m (m -ℤ v) u ∙ from_east

  from_west : height_of (corners P West t) m v (m -ℤ u) ≡ height_of (corners P South t) m u v
  from_west =
      ap (λ (z : ℤ). height_of (corners P West t) m z (m -ℤ u)) (sym (back_again m v))
      ∙ height_turned (at P (t + P.w + 1)) (at P (t + 1)) (at P t) (at P (t + P.w)) m (m -ℤ u) (m -ℤ v)
      ∙ from_north

  pub entry_height : (g : Heading) → height_of (corners P g t) m (seen_from g m u v).0 (seen_from g m u v).1 ≡ height_of (corners P South t) m u v
  entry_height South = refl
  entry_height East = from_east
  entry_height North = from_north
  entry_height West = from_west

-- and the level is below the centre, or not, from every entry
module _ (P : Picture) (t : ℕ) where
  centre_east : (k : ℕ) → below_centre k (corners P East t) ≡ below_centre k (corners P South t)
  centre_east k = ap above (centre_turned (at P t) (at P (t + P.w)) (at P (t + P.w + 1)) (at P (t + 1)) k)

  centre_north : (k : ℕ) → below_centre k (corners P North t) ≡ below_centre k (corners P South t)
  centre_north k = ap above (centre_turned (at P (t + P.w)) (at P (t + P.w + 1)) (at P (t + 1)) (at P t) k) ∙ centre_east k

  centre_west : (k : ℕ) → below_centre k (corners P West t) ≡ below_centre k (corners P South t)
  centre_west k = ap above (centre_turned (at P (t + P.w + 1)) (at P (t + 1)) (at P t) (at P (t + P.w)) k) ∙ centre_north k

  pub one_centre : (k : ℕ) (g : Heading) → below_centre k (corners P g t) ≡ below_centre k (corners P South t)
  one_centre k South = refl
  one_centre k East = centre_east k
  one_centre k North = centre_north k
  one_centre k West = centre_west k

-- a crossing of the level that enters the cell t with heading g, its far corner at the right hand high and the other low
module _ (P : Picture) (ks : List ℕ) (S : Scan P ks) (k e : ℕ) (o : cut_at P k e ≡ true) (g : Heading) (t : ℕ) (A : At P k e g t) (h1 : ltb k (corners P g t).p1 ≡ true) (h2 : ltb k (corners P g t).p2 ≡ false) where
  ends : (ltb k (corners P g t).p0 ≡ false) × (ltb k (corners P g t).p3 ≡ true)
  ends =
      let E = entered_at P (B P ks S) k e o in
      let F = entered_at_lem P k e E in
      let x : E.g ≡ g = sym F.heading ∙ A.heading in
      let y : E.t ≡ t = sym F.cell ∙ ap (λ (i : Heading). into P.w i e) x ∙ A.cell in
      subst (λ (i : Heading). (ltb k (corners P i t).p0 ≡ false) × (ltb k (corners P i t).p3 ≡ true)) x
      (subst (λ (i : ℕ). (ltb k (corners P E.g i).p0 ≡ false) × (ltb k (corners P E.g i).p3 ≡ true)) y (right_low P k E.g E.t E.enter, left_high P k E.g E.t E.enter))

  pub two_ways : above (neg_ℤ (d (corners P g t).p0 (corners P g t).p1 (corners P g t).p2 (corners P g t).p3)) ≡ true
  two_ways = d_below k (corners P g t).p0 (corners P g t).p1 (corners P g t).p2 (corners P g t).p3 (ltb-false _ _ ends.0) (ltb-true _ _ h1) (ltb-false _ _ h2) (ltb-true _ _ ends.1)

  saddle_is : saddle k (corners P g t) ≡ below_centre k (corners P g t)
  saddle_is = saddle_height k (corners P g t).p0 (corners P g t).p1 (corners P g t).p2 (corners P g t).p3 (ltb-false _ _ ends.0) (ltb-true _ _ h1) (ltb-false _ _ h2) (ltb-true _ _ ends.1)

  pub saddle_decides : next P k e ≡ out P.w (cond (below_centre k (corners P g t)) (right g) (left g)) t
  unfolding leave
  saddle_decides =
      next_leave P k e g t A
      ∙ ap (λ (z : Bool). out P.w (turn z (ltb k (corners P g t).p2) (saddle k (corners P g t)) g) t) h1
      ∙ ap (λ (z : Bool). out P.w (turn true z (saddle k (corners P g t)) g) t) h2
      ∙ ap (λ (z : Bool). out P.w (turn true false z g) t) saddle_is
      ∙ ap (λ (z : Heading). out P.w z t) (either (below_centre k (corners P g t)))
    where
      either : (z : Bool) → turn true false z g ≡ cond z (right g) (left g)
      either true = refl
      either false = refl
