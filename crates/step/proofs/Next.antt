-- The code's step is the paper's: laws for those who follow a line with it. Assumes nothing.
-- Main laws: `code_into`, `code_out`, `code_entry` the state's cell, exit and entry are those of codes; `state_code`, `code_state` a crossing's state has its code; `after_next` one step is `next` on codes;
--   `after_state` and takes the state of a crossing to that of the next one; `after_place` it stays on the picture; `ready_in` a crossing that enters a cell of the picture is ready for a step.
use mathlib.Core.Path.{◌≡◌, refl, sym, ap, ◌∙◌}
use mathlib.Core.Bool.{Bool, true, false}
use mathlib.Core.List.{List}
use Prim.Native.Nat.{ℕ, ◌+◌, ◌*◌, ◌%◌, ◌≤◌, ◌<◌}
use native.Mathlib.Omega.{arith}
use lib.ListN.{length}
use borrow.Author.Tests.{eqb-true, eqb-false}
use Rattle.tally.proofs.Test.{by_test}
use Rattle.matte.specs.Picture.{Picture, most_places, high}
use Rattle.edgel.specs.declared.Heading.{Heading}
use Rattle.edgel.specs.declared.Heading.TheVariants.{South, East, North, West}
use Rattle.edgel.specs.Heading.{left}
use Rattle.edgel.specs.Edgel.{first, horizontal, heading_of, heading_at}
use Rattle.cell.specs.Turn.{leave, out, into, next}
use Rattle.step.specs.declared.State.{State}
use Rattle.step.specs.Step.{entered, entry, exit, code_on, code_at, state_at, leaving, after, Ready}

-- ---- states and codes
pub code_into : (w : ℕ) (g : Heading) (i : ℕ) → into w g (code_on g i) ≡ entered w g i
code_into w South i = omega arith
code_into w East i = omega arith
code_into w North i = omega arith
code_into w West i = omega arith

pub code_out : (w : ℕ) (g : Heading) (t : ℕ) → code_on g (exit w g t) ≡ out w g t
code_out w South t = refl
code_out w East t = refl
code_out w North t = refl
code_out w West t = refl

-- the edgel by which a cell is entered is its side behind
pub code_entry : (w : ℕ) (g : Heading) (t : ℕ) → code_on g (entry w g t) ≡ out w (left (left g)) t
code_entry w South t = refl
code_entry w East t = refl
code_entry w North t = refl
code_entry w West t = refl

pub first_out : (w : ℕ) (g : Heading) (t : ℕ) → first (out w g t) ≡ exit w g t
first_out w South t = omega arith
first_out w East t = omega arith
first_out w North t = omega arith
first_out w West t = omega arith

flat_code : (x : Bool) (i : ℕ) → code_on (heading_of true x) i ≡ 2 * i
flat_code true i = refl
flat_code false i = refl

tall_code : (x : Bool) (i : ℕ) → code_on (heading_of false x) i ≡ 2 * i + 1
tall_code true i = refl
tall_code false i = refl

pub state_code : (H : ℕ → Bool) (c : ℕ) → code_at (state_at H c) ≡ c
unfolding heading_at
state_code H c =
    by_test (horizontal c)
    (λ e.
    let z : c % 2 ≡ 0 = eqb-true (c % 2) 0 e in
    ap (λ (b : Bool). code_on (heading_of b (H (first c))) (first c)) e ∙ flat_code (H (first c)) (first c) ∙ omega arith)
    (λ e.
    let z : c % 2 ≡ 0 → ⊥ = eqb-false (c % 2) 0 e in
    ap (λ (b : Bool). code_on (heading_of b (H (first c))) (first c)) e ∙ tall_code (H (first c)) (first c) ∙ omega arith)

pub code_state : (g : Heading) (i : ℕ) → first (code_on g i) ≡ i
code_state South i = omega arith
code_state East i = omega arith
code_state North i = omega arith
code_state West i = omega arith

-- ---- the step
module _ (P : Picture) (k : ℕ) where
  pub after_heading : (s : State) → (after P k s).heading ≡ leave P k s.heading (entered P.w s.heading s.place)
  unfolding after
  after_heading s = refl

  pub after_code : (s : State) → code_at (after P k s) ≡ out P.w (leave P k s.heading (entered P.w s.heading s.place)) (entered P.w s.heading s.place)
  unfolding after
  after_code s =
      code_out P.w (leave P k s.heading (entered P.w s.heading s.place)) (entered P.w s.heading s.place)

  -- where the state has the heading of its crossing, one step is the next crossing (01, Following a line)
  pub after_next : (s : State) → s.heading ≡ heading_at (high P k) (code_at s) → code_at (after P k s) ≡ next P k (code_at s)
  unfolding next
  after_next s e =
      after_code s
      ∙ ap (λ (t : ℕ). out P.w (leave P k s.heading t) t) (sym (code_into P.w s.heading s.place))
      ∙ ap (λ (g : Heading). out P.w (leave P k g (into P.w g (code_at s))) (into P.w g (code_at s))) e

  -- where the next crossing's heading is the one by which the cell was left, the state after a crossing's is the next one's
  pub after_state : (c : ℕ) → heading_at (high P k) (next P k c) ≡ leave P k (heading_at (high P k) c) (into P.w (heading_at (high P k) c) c)
      → after P k (state_at (high P k) c) ≡ state_at (high P k) (next P k c)
  unfolding after next
  after_state c e =
      let g = heading_at (high P k) c in
      let t = entered P.w g (first c) in
      let s : into P.w g c ≡ t =
      ap (into P.w g) (sym (state_code (high P k) c)) ∙ code_into P.w g (first c) in
      ap (λ (u : ℕ). leaving P.w (leave P k g u) u) (sym s)
      ∙ ap (λ (i : ℕ). record { place = i; heading = leave P k g (into P.w g c) }) (sym (first_out P.w (leave P k g (into P.w g c)) (into P.w g c)))
      ∙ ap (λ (o : Heading). record { place = first (next P k c); heading = o }) (sym e)

exit_le : (w : ℕ) (g : Heading) (t : ℕ) → exit w g t ≤ t + w + 1
exit_le w South t = omega arith
exit_le w East t = omega arith
exit_le w North t = omega arith
exit_le w West t = omega arith

pub after_place : (P : Picture) (k : ℕ) (s : State) → Ready P.px P.w s → (after P k s).place < length P.px
unfolding after
after_place P k s R = omega (arith, exit_le P.w (after P k s).heading (entered P.w s.heading s.place), R.inside)

-- ---- a cell of the picture
entered_entry : (w : ℕ) (g : Heading) (t : ℕ) → entered w g (entry w g t) ≡ t
entered_entry w South t = refl
entered_entry w East t = refl
entered_entry w North t = omega arith
entered_entry w West t = omega arith

-- t + w + 1 is the place of the last corner of the cell t
pub ready_in : (px : List ℕ) (w t : ℕ) (s : State) → w ≤ 2048 → length px ≤ most_places → t + w + 1 < length px → s.place ≡ entry w s.heading t → Ready px w s
ready_in px w t s a b l e =
    let m : entered w s.heading s.place ≡ t = ap (entered w s.heading) e ∙ entered_entry w s.heading t in
    record { wide = a; few = b; ahead = ap (entry w s.heading) m ∙ sym e; inside = omega arith }
