-- The rule does not depend on the entry from which a cell is seen: a quarter turn of the cell turns every step with it. Assumes nothing.
-- Definitions: `quarter q` the cell q seen with its left side on top; `Turned P t Q u` the cell u of Q is the cell t of P, turned left by a quarter.
-- Main laws: `turn_left` a turn commutes with a left turn; `quarter_enters`, `quarter_leave` the rule on five booleans; `turned_corners`, `turned_leave` the rule on samples.
use mathlib.Core.Path.{◌≡◌, refl, sym, ap, ◌∙◌}
use mathlib.Core.Bool.{Bool, true, false}
use Prim.Native.Nat.{ℕ, ◌+◌}
use lib.Dec.{ltb}
use Rattle.matte.specs.Picture.{Picture, at}
use Rattle.edgel.specs.declared.Heading.{Heading}
use Rattle.edgel.specs.declared.Heading.TheVariants.{South, East, North, West}
use Rattle.edgel.specs.Heading.{left, right}
use Rattle.cell.specs.Turn.{Corners, saddle, turn, corners, leave}
use Rattle.cell.proofs.Five.{Five, enters, leave_by}

left_right : (g : Heading) → right (left g) ≡ left (right g)
left_right South = refl
left_right East = refl
left_right North = refl
left_right West = refl

pub turn_left : (x y s : Bool) (g : Heading) → turn x y s (left g) ≡ left (turn x y s g)
turn_left true true s g = left_right g
turn_left false false s g = refl
turn_left false true s g = refl
turn_left true false true g = left_right g
turn_left true false false g = refl

-- ---- five booleans
abbrev pub quarter : Five → Five
quarter q = record { a = q.b; b = q.c; c = q.d; d = q.a; s = q.s }

pub quarter_enters : (g : Heading) (q : Five) → enters (left g) q ≡ enters g (quarter q)
quarter_enters South q = refl
quarter_enters East q = refl
quarter_enters North q = refl
quarter_enters West q = refl

pub quarter_leave : (g : Heading) (q : Five) → leave_by (left g) q ≡ left (leave_by g (quarter q))
quarter_leave South q = turn_left q.c q.d q.s South
quarter_leave East q = turn_left q.d q.a q.s East
quarter_leave North q = turn_left q.a q.b q.s North
quarter_leave West q = turn_left q.b q.c q.s West

-- ---- samples
pub record Turned (P : Picture) (t : ℕ) (Q : Picture) (u : ℕ) : Type 0 where
  pub top_left : at P t ≡ at Q (u + Q.w)
  pub bottom_left : at P (t + P.w) ≡ at Q (u + Q.w + 1)
  pub bottom_right : at P (t + P.w + 1) ≡ at Q (u + 1)
  pub top_right : at P (t + 1) ≡ at Q u

pub turned_corners : (P Q : Picture) (t u : ℕ) → Turned P t Q u → (g : Heading) → corners P g t ≡ corners Q (left g) u
turned_corners P Q t u T South = rw (T.top_left, T.bottom_left, T.bottom_right, T.top_right)
turned_corners P Q t u T East = rw (T.top_left, T.bottom_left, T.bottom_right, T.top_right)
turned_corners P Q t u T North = rw (T.top_left, T.bottom_left, T.bottom_right, T.top_right)
turned_corners P Q t u T West = rw (T.top_left, T.bottom_left, T.bottom_right, T.top_right)

pub turned_leave : (P Q : Picture) (t u : ℕ) → Turned P t Q u → (k : ℕ) (g : Heading) → leave Q k (left g) u ≡ left (leave P k g t)
unfolding leave
turned_leave P Q t u T k g =
    ap (λ (q : Corners). turn (ltb k q.p1) (ltb k q.p2) (saddle k q) (left g)) (sym (turned_corners P Q t u T g))
    ∙ turn_left (ltb k (corners P g t).p1) (ltb k (corners P g t).p2) (saddle k (corners P g t)) g
