-- The corners of a cell from the ends of its entry: the far ones are one move ahead. Assumes nothing.
-- Main laws: `leave_ends` the heading out, from the four samples so found, is the paper's, and `leave_from` from the places that were found; `after_by` the step of a state whose heading is known.
use mathlib.Core.Path.{◌≡◌, refl, sym, ap, ◌∙◌}
use Prim.Native.Nat.{ℕ, ◌+◌, ◌-◌}
use native.Mathlib.Omega.{arith}
use Rattle.matte.specs.Picture.{Picture, at}
use Rattle.edgel.specs.declared.Heading.{Heading}
use Rattle.edgel.specs.declared.Heading.TheVariants.{South, East, North, West}
use Rattle.edgel.specs.Heading.{ahead}
use Rattle.cell.specs.Turn.{Corners, corners, leave}
use Rattle.step.specs.declared.State.{State}
use Rattle.step.specs.Step.{four, turned, right_end, left_end, entered, leaving, after}

module _ (P : Picture) where
  abbrev seen : Heading → ℕ → Corners
  seen g t =
      four (at P (right_end P.w g t)) (at P (ahead P.w g (right_end P.w g t)))
      (at P (ahead P.w g (left_end P.w g t))) (at P (left_end P.w g t))

  -- p1 and p2 are one move ahead of p0 and p3 (01, Following a line)
  pub corners_seen : (g : Heading) (t : ℕ) → corners P g t ≡ seen g t
  corners_seen South t = ap (λ (i : ℕ). four (at P t) (at P (t + P.w)) (at P i) (at P (t + 1))) (omega arith)
  corners_seen East t = refl
  corners_seen North t =
      ap (λ (i : ℕ). four (at P (t + P.w + 1)) (at P i) (at P t) (at P (t + P.w))) (omega arith)
      ∙ ap (λ (i : ℕ). four (at P (t + P.w + 1)) (at P (t + P.w + 1 - P.w)) (at P i) (at P (t + P.w))) (omega arith)
  corners_seen West t =
      ap (λ (i : ℕ). four (at P (t + 1)) (at P i) (at P (t + P.w)) (at P (t + P.w + 1))) (omega arith)
      ∙ ap (λ (i : ℕ). four (at P (t + 1)) (at P (t + 1 - 1)) (at P i) (at P (t + P.w + 1))) (omega arith)

  pub leave_ends : (k : ℕ) (g : Heading) (t : ℕ) → leave P k g t ≡ turned k g (seen g t)
  unfolding leave
  leave_ends k g t = ap (turned k g) (corners_seen g t)

-- the turn of the samples at the entry's ends and one move ahead of them
pub leave_from : (P : Picture) (k : ℕ) (g : Heading) (t r l a b : ℕ) → r ≡ right_end P.w g t → l ≡ left_end P.w g t → a ≡ ahead P.w g r → b ≡ ahead P.w g l
    → turned k g (four (at P r) (at P a) (at P b) (at P l)) ≡ leave P k g t
leave_from P k g t r l a b p q x y = rw (x, y, p, q) (sym (leave_ends P k g t))

pub after_by : (P : Picture) (k : ℕ) (s : State) (g : Heading) → s.heading ≡ g
    → after P k s ≡ leaving P.w (leave P k g (entered P.w g s.place)) (entered P.w g s.place)
unfolding after
after_by P k s g e = ap (λ (z : Heading). leaving P.w (leave P k z (entered P.w z s.place)) (entered P.w z s.place)) e
