-- The paper's four cases of a step, as equations. Assumes nothing.
-- Definitions: `At P k c g t` the crossing c of level k has heading g and enters the cell t; `Between P c a b` the ends of the edgel c are the samples a and b; `first_place`, `second_place` the
--   places of a side's ends.
-- Main laws: `next_leave`, `next_right`, `next_left`, `next_straight`, `next_saddle_right`, `next_saddle_left` where the line goes on, by the far corners and at a saddle by the signed test;
--   `side_right`, `side_left`, `side_straight`, `side_entry` between which corners the sides lie.
use mathlib.Core.Path.{◌≡◌, refl, ap, ◌∙◌}
use mathlib.Core.Bool.{Bool, true, false, cond}
use mathlib.Core.Logic.{◌⊎◌, inl, inr}
use Prim.Native.Nat.{ℕ, ◌+◌, ◌*◌, ◌/◌, ◌%◌}
use native.Mathlib.Omega.{arith}
use lib.Dec.{ltb}
use lib.IntN.{pos, ◌*ℤ◌}
use borrow.Author.Tests.{eq-eqb, ne_eqb}
use Rattle.matte.specs.Picture.{Picture, at, high}
use Rattle.edgel.specs.declared.Heading.{Heading}
use Rattle.edgel.specs.declared.Heading.TheVariants.{South, East, North, West}
use Rattle.edgel.specs.Heading.{left, right}
use Rattle.edgel.specs.Edgel.{first, second, heading_at}
use Rattle.cell.specs.Turn.{saddle, turn, out, into, corners, leave, next}
use Rattle.cell.proofs.Five.{back}
use Rattle.cell.proofs.Signed.{◌<ℤ◌}
use Rattle.cell.proofs.Saddle.{d_of, s_of, right_saddle, left_saddle}

pub record At (P : Picture) (k c : ℕ) (g : Heading) (t : ℕ) : Type 0 where
  pub heading : heading_at (high P k) c ≡ g
  pub cell : into P.w g c ≡ t

module _ (P : Picture) (k c : ℕ) (g : Heading) (t : ℕ) (A : At P k c g t) where
  pub next_leave : next P k c ≡ out P.w (leave P k g t) t
  unfolding next
  next_leave =
      ap (λ (z : Heading). out P.w (leave P k z (into P.w z c)) (into P.w z c)) A.heading ∙ ap (λ (z : ℕ). out P.w (leave P k g z) z) A.cell

  goes : (x y s : Bool) → ltb k (corners P g t).p1 ≡ x → ltb k (corners P g t).p2 ≡ y → saddle k (corners P g t) ≡ s → next P k c ≡ out P.w (turn x y s g) t
  unfolding leave
  goes x y s a b e =
      next_leave
      ∙ ap (λ (z : Bool). out P.w (turn z (ltb k (corners P g t).p2) (saddle k (corners P g t)) g) t) a
      ∙ ap (λ (z : Bool). out P.w (turn x z (saddle k (corners P g t)) g) t) b
      ∙ ap (λ (z : Bool). out P.w (turn x y z g) t) e

  -- p1 high and p2 high: right
  pub next_right : ltb k (corners P g t).p1 ≡ true → ltb k (corners P g t).p2 ≡ true → next P k c ≡ out P.w (right g) t
  next_right a b = goes true true (saddle k (corners P g t)) a b refl

  -- p1 low and p2 low: left
  pub next_left : ltb k (corners P g t).p1 ≡ false → ltb k (corners P g t).p2 ≡ false → next P k c ≡ out P.w (left g) t
  next_left a b = goes false false (saddle k (corners P g t)) a b refl

  -- p1 low and p2 high: straight
  pub next_straight : ltb k (corners P g t).p1 ≡ false → ltb k (corners P g t).p2 ≡ true → next P k c ≡ out P.w g t
  next_straight a b = goes false true (saddle k (corners P g t)) a b refl

  -- p1 high and p2 low: right if (2k+1)·d > 2s
  pub next_saddle_right : ltb k (corners P g t).p1 ≡ true → ltb k (corners P g t).p2 ≡ false
      → pos 2 *ℤ s_of (corners P g t) <ℤ pos (2 * k + 1) *ℤ d_of (corners P g t) → next P k c ≡ out P.w (right g) t
  next_saddle_right a b l = goes true false true a b (right_saddle k (corners P g t) l)

  -- and otherwise left
  pub next_saddle_left : ltb k (corners P g t).p1 ≡ true → ltb k (corners P g t).p2 ≡ false
      → (pos 2 *ℤ s_of (corners P g t) <ℤ pos (2 * k + 1) *ℤ d_of (corners P g t) → ⊥) → next P k c ≡ out P.w (left g) t
  next_saddle_left a b l = goes true false false a b (left_saddle k (corners P g t) l)

-- ---- between which corners a side lies
-- the places of a side's two ends
abbrev pub first_place : ℕ → Heading → ℕ → ℕ
first_place w South t = t + w
first_place w East t = t + 1
first_place w North t = t
first_place w West t = t

abbrev pub second_place : ℕ → Heading → ℕ → ℕ
second_place w South t = t + w + 1
second_place w East t = t + w + 1
second_place w North t = t + 1
second_place w West t = t + w

pub first_out : (w : ℕ) (g : Heading) (t : ℕ) → first (out w g t) ≡ first_place w g t
first_out w South t = omega arith
first_out w East t = omega arith
first_out w North t = omega arith
first_out w West t = omega arith

flat_second : (w c : ℕ) → c % 2 ≡ 0 → second w c ≡ c / 2 + 1
flat_second w c e = ap (λ (z : Bool). cond z (c / 2 + 1) (c / 2 + w)) (eq-eqb (c % 2) 0 e)

tall_second : (w c : ℕ) → c % 2 ≡ 1 → second w c ≡ c / 2 + w
tall_second w c e = ap (λ (z : Bool). cond z (c / 2 + 1) (c / 2 + w)) (ne_eqb (c % 2) 0 (omega arith))

pub second_out : (w : ℕ) (g : Heading) (t : ℕ) → second w (out w g t) ≡ second_place w g t
second_out w South t = flat_second w (2 * (t + w)) (omega arith) ∙ omega arith
second_out w East t = tall_second w (2 * (t + 1) + 1) (omega arith) ∙ omega arith
second_out w North t = flat_second w (2 * t) (omega arith) ∙ omega arith
second_out w West t = tall_second w (2 * t + 1) (omega arith) ∙ omega arith

abbrev pub Between : Picture → ℕ → ℕ → ℕ → Type 0
Between P c a b = ((at P (first c) ≡ a) × (at P (second P.w c) ≡ b)) ⊎ ((at P (first c) ≡ b) × (at P (second P.w c) ≡ a))

module _ (P : Picture) (t : ℕ) where
  lie : (g : Heading) → (at P (first (out P.w g t)) ≡ at P (first_place P.w g t)) × (at P (second P.w (out P.w g t)) ≡ at P (second_place P.w g t))
  lie g = (ap (at P) (first_out P.w g t), ap (at P) (second_out P.w g t))

  pub side_right : (g : Heading) → Between P (out P.w (right g) t) (corners P g t).p0 (corners P g t).p1
  side_right South = inl (lie West)
  side_right East = inl (lie South)
  side_right North = inr (lie East)
  side_right West = inr (lie North)

  pub side_left : (g : Heading) → Between P (out P.w (left g) t) (corners P g t).p2 (corners P g t).p3
  side_left South = inr (lie East)
  side_left East = inr (lie North)
  side_left North = inl (lie West)
  side_left West = inl (lie South)

  pub side_straight : (g : Heading) → Between P (out P.w g t) (corners P g t).p1 (corners P g t).p2
  side_straight South = inl (lie South)
  side_straight East = inr (lie East)
  side_straight North = inr (lie North)
  side_straight West = inl (lie West)

  pub side_entry : (g : Heading) → Between P (out P.w (back g) t) (corners P g t).p0 (corners P g t).p3
  side_entry South = inl (lie North)
  side_entry East = inr (lie West)
  side_entry North = inr (lie South)
  side_entry West = inl (lie East)
