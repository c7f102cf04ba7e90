-- A line of one level keeps the side of a mark of any level at one end of its edgels. Assumes nothing.
-- Definitions: none of its own.
-- Main laws: `step_low`, `step_high` one step of a line at level k keeps the side of a mark of level j at the low end for k ≤ j, at the high end for j ≤ k; `along_low`, `along_high` so does
--   the whole line.
use mathlib.Core.Path.{◌≡◌, refl, sym, ap, ◌∙◌}
use mathlib.Core.Bool.{Bool, true, false}
use Prim.Native.Nat.{ℕ, zero, suc, ◌*◌, ◌≤◌}
use Rattle.orbit.proofs.Pigeon.{iter}
use Rattle.orbit.proofs.Orbit.{Closed, ok_iter}
use Rattle.orbit.proofs.On.{on, on_reach}
use Rattle.matte.specs.Picture.{Picture, size, high}
use Rattle.edgel.specs.declared.Heading.{Heading}
use Rattle.cell.specs.Turn.{next}
use Rattle.cell.proofs.Five.{leave_by}
use Rattle.outline.specs.Line.{cut_at, line}
use Rattle.outline.proofs.Codes.{Cell}
use Rattle.outline.proofs.Entered.{five, next_by, Entered, heads, goes, goes_heading}
use Rattle.outline.proofs.Follow.{Kept}
use Rattle.outline.proofs.Border.{Border, frame}
use Rattle.outline.proofs.Paper.{bit, entered_at, next_is, closed_at}
use Rattle.outline.proofs.Whole.{on_line}
use Rattle.enclosure.proofs.Corner.{Holds, cell_high, cell_low}
use Rattle.enclosure.proofs.Inside.{inside, low, top, low_end, high_end, holds_inside, in_low, in_high, out_low, out_high}
use Rattle.enclosure.proofs.Fall.{cell_fall}

module _ (P : Picture) (B : Border P) (j k : ℕ) (M : ℕ → Bool) (X : Kept (high P j) (bit P j) P.w P.h M) where
  abbrev w : ℕ
  w = P.w

  abbrev H : ℕ → Bool
  H = high P k

  abbrev S : ℕ → Bool
  S = bit P k

  -- the side of the mark that a place is on
  abbrev I : ℕ → Bool
  I = inside w M

  held : (t : ℕ) → Cell w P.h t → Holds (five (high P j) (bit P j) w t) (five I (λ x. false) w t)
  held t C = holds_inside (high P j) (bit P j) w P.h (high P j 0) (frame P B j) M X t C

  next_low : k ≤ j → (c : ℕ) → Entered H S w P.h c → I (low_end H w (next_by H S w c)) ≡ I (low_end H w c)
  next_low l c E =
      let g = E.g in
      let t = E.t in
      let o = leave_by g (five H S w t) in
      ap (λ (z : Heading). I (low w z (next_by H S w c))) (goes_heading H S w P.h c E)
      ∙ ap (λ (z : ℕ). I (low w o z)) (goes H S w P.h c E)
      ∙ out_low w I (λ x. false) t o
      ∙ sym (cell_low g (five H S w t) (five (high P j) (bit P j) w t) (five I (λ x. false) w t) E.enter (cell_fall P k j t l) (held t E.here))
      ∙ sym (in_low w I (λ x. false) t g)
      ∙ sym (ap (λ (z : Heading). I (low w z c)) (heads H S w P.h c E) ∙ ap (λ (z : ℕ). I (low w g z)) E.code)

  next_high : j ≤ k → (c : ℕ) → Entered H S w P.h c → I (high_end H w (next_by H S w c)) ≡ I (high_end H w c)
  next_high l c E =
      let g = E.g in
      let t = E.t in
      let o = leave_by g (five H S w t) in
      ap (λ (z : Heading). I (top w z (next_by H S w c))) (goes_heading H S w P.h c E)
      ∙ ap (λ (z : ℕ). I (top w o z)) (goes H S w P.h c E)
      ∙ out_high w I (λ x. false) t o
      ∙ sym (cell_high g (five H S w t) (five (high P j) (bit P j) w t) (five I (λ x. false) w t) E.enter (cell_fall P j k t l) (held t E.here))
      ∙ sym (in_high w I (λ x. false) t g)
      ∙ sym (ap (λ (z : Heading). I (top w z c)) (heads H S w P.h c E) ∙ ap (λ (z : ℕ). I (top w g z)) E.code)

  pub step_low : k ≤ j → (c : ℕ) → cut_at P k c ≡ true → inside w M (low_end H w (next P k c)) ≡ inside w M (low_end H w c)
  step_low l c o = ap (λ (z : ℕ). I (low_end H w z)) (next_is P B k c o) ∙ next_low l c (entered_at P B k c o)

  pub step_high : j ≤ k → (c : ℕ) → cut_at P k c ≡ true → inside w M (high_end H w (next P k c)) ≡ inside w M (high_end H w c)
  step_high l c o = ap (λ (z : ℕ). I (high_end H w z)) (next_is P B k c o) ∙ next_high l c (entered_at P B k c o)

  K : Closed (next P k) (cut_at P k) (2 * size P)
  K = closed_at P B k

  iter_low : k ≤ j → (i c : ℕ) → cut_at P k c ≡ true → I (low_end H w (iter (next P k) i c)) ≡ I (low_end H w c)
  iter_low l zero c o = refl
  iter_low l (suc i) c o = step_low l (iter (next P k) i c) (ok_iter K i c o) ∙ iter_low l i c o

  iter_high : j ≤ k → (i c : ℕ) → cut_at P k c ≡ true → I (high_end H w (iter (next P k) i c)) ≡ I (high_end H w c)
  iter_high l zero c o = refl
  iter_high l (suc i) c o = step_high l (iter (next P k) i c) (ok_iter K i c o) ∙ iter_high l i c o

  pub along_low : k ≤ j → (c d : ℕ) → cut_at P k c ≡ true → on_line P k c d ≡ true → inside w M (low_end H w d) ≡ inside w M (low_end H w c)
  unfolding line on
  along_low l c d o e =
      let r = on_reach K c d o e in
      ap (λ (z : ℕ). I (low_end H w z)) (sym r.comes) ∙ iter_low l r.steps c o

  pub along_high : j ≤ k → (c d : ℕ) → cut_at P k c ≡ true → on_line P k c d ≡ true → inside w M (high_end H w d) ≡ inside w M (high_end H w c)
  unfolding line on
  along_high l c d o e =
      let r = on_reach K c d o e in
      ap (λ (z : ℕ). I (high_end H w z)) (sym r.comes) ∙ iter_high l r.steps c o
