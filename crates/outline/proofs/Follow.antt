-- Following over high or low places (H) and one saddle bit a cell (S), with a border all alike: a closed map whose orbits all have a horizontal code. Assumes nothing.
-- Definitions: `Kept M` a mark of crossed codes that following keeps.
-- Main laws: `closed` nextBy keeps the crossed codes and is injective on them; `headed` every line has a horizontal code; `cell_even` a mark kept by nextBy is on an even number of a cell's four sides.
use mathlib.Core.Path.{◌≡◌, refl, sym, ap, ◌∙◌}
use mathlib.Core.Bool.{Bool, true, false}
use mathlib.Core.Logic.{◌⊎◌, ⊎_elim, inl, inr}
use Prim.Native.Nat.{ℕ, zero, suc, ◌+◌, ◌*◌, ◌≤◌}
use native.Mathlib.Omega.{arith}
use lib.ListN.{length}
use Rattle.tally.specs.Tally.{differ}
use Rattle.tally.proofs.Test.{by_test, no}
use Rattle.tally.proofs.First.{least_or}
use Rattle.orbit.specs.Orbit.{orbit}
use Rattle.orbit.proofs.Pigeon.{iter}
use Rattle.orbit.proofs.Orbit.{Closed, ok_iter, orbit_period}
use Rattle.orbit.proofs.On.{reach_on}
use Rattle.orbit.proofs.Partition.{Headed}
use Rattle.edgel.specs.declared.Heading.{Heading}
use Rattle.edgel.specs.declared.Heading.TheVariants.{South, East, North, West}
use Rattle.edgel.specs.Edgel.{horizontal, heading_at, cut}
use Rattle.cell.specs.Turn.{out}
use Rattle.cell.proofs.Five.{back, enters, leave_by, vertical}
use Rattle.cell.proofs.Rule.{leave_cut, leave_once, leave_straight, enter_cut, Sides, side, four}
use Rattle.outline.proofs.Codes.{Cell, Frame, flat_out, out_inj, vertical_heading, cut_bound}
use Rattle.outline.proofs.Entered.{five, next_by, Entered, edge_cut, enter_goes, heads, goes, goes_heading, entered}

module _ (H S : ℕ → Bool) (w h : ℕ) where
  module _ (v : Bool) (F : Frame H w h v) where
    next_inj : (c d : ℕ) → Entered H S w h c → Entered H S w h d → next_by H S w c ≡ next_by H S w d → c ≡ d
    next_inj c d E D e =
        let o = leave_by E.g (five H S w E.t) in
        let p = leave_by D.g (five H S w D.t) in
        let a : o ≡ p = sym (goes_heading H S w h c E) ∙ ap (heading_at H) e ∙ goes_heading H S w h d D in
        let b : E.t ≡ D.t = out_inj w o E.t D.t (sym (goes H S w h c E) ∙ e ∙ goes H S w h d D ∙ ap (λ (x : Heading). out w x D.t) (sym a)) in
        let q : leave_by E.g (five H S w D.t) ≡ p = ap (λ (x : ℕ). leave_by E.g (five H S w x)) (sym b) ∙ a in
        let r : E.g ≡ D.g =
        leave_once E.g D.g (five H S w D.t) (ap (λ (x : ℕ). enters E.g (five H S w x)) (sym b) ∙ E.enter) D.enter q in
        E.code ∙ ap (λ (x : Heading). out w (back x) E.t) r ∙ ap (λ (x : ℕ). out w (back D.g) x) b ∙ sym D.code

    next_cut : (c : ℕ) (E : Entered H S w h c) → cut H w h (next_by H S w c) ≡ true
    next_cut c E =
        ap (cut H w h) (goes H S w h c E) ∙ edge_cut H S w h E.t E.here (leave_by E.g (five H S w E.t)) ∙ leave_cut E.g (five H S w E.t) E.enter

    pub closed : Closed (next_by H S w) (cut H w h) (2 * (w * h))
    closed =
        record {
          bound = λ c o. cut_bound H w h c o;
          stays = λ c o. next_cut c (entered H S w h v F c o);
          inj = λ c d o k e. next_inj c d (entered H S w h v F c o) (entered H S w h v F d k) e;
        }

    -- ---- every line has a horizontal code
    record Drift (c x i : ℕ) : Type 0 where
      heading : heading_at H x ≡ heading_at H c
      moved : (heading_at H c ≡ East → x ≡ c + 2 * i) × (heading_at H c ≡ West → x + 2 * i ≡ c)

    drift_step : (c x i : ℕ) → Drift c x i → horizontal c ≡ false → cut H w h x ≡ true → horizontal (next_by H S w x) ≡ false → Drift c (next_by H S w x) (suc i)
    drift_step c x i D n o m =
        let E = entered H S w h v F x o in
        let a : E.g ≡ heading_at H c = sym (heads H S w h x E) ∙ D.heading in
        let l : vertical E.g ≡ false = ap vertical a ∙ vertical_heading H c ∙ n in
        let q : leave_by E.g (five H S w E.t) ≡ E.g =
        leave_straight E.g (five H S w E.t) l (sym (flat_out w (leave_by E.g (five H S w E.t)) E.t) ∙ ap horizontal (sym (goes H S w h x E)) ∙ m) in
        let s : next_by H S w x ≡ out w (heading_at H c) E.t = goes H S w h x E ∙ ap (λ (z : Heading). out w z E.t) (q ∙ a) in
        let f : x ≡ out w (back (heading_at H c)) E.t = E.code ∙ ap (λ (z : Heading). out w (back z) E.t) a in
        record {
          heading = goes_heading H S w h x E ∙ q ∙ a;
          moved = (
            (λ e.
                let u : next_by H S w x ≡ 2 * (E.t + 1) + 1 = s ∙ ap (λ (z : Heading). out w z E.t) e in
                let y : x ≡ 2 * E.t + 1 = f ∙ ap (λ (z : Heading). out w (back z) E.t) e in
                omega (arith, D.moved.0 e)),
            (λ e.
                let u : next_by H S w x ≡ 2 * E.t + 1 = s ∙ ap (λ (z : Heading). out w z E.t) e in
                let y : x ≡ 2 * (E.t + 1) + 1 = f ∙ ap (λ (z : Heading). out w (back z) E.t) e in
                omega (arith, D.moved.1 e)),
          );
        }

    drift : (c : ℕ) → cut H w h c ≡ true → (i : ℕ) → ((j : ℕ) → j ≤ i → horizontal (iter (next_by H S w) j c) ≡ false) → Drift c (iter (next_by H S w) i c) i
    drift c o zero q = record { heading = refl; moved = ((λ e. omega arith), (λ e. omega arith)) }
    drift c o (suc i) q =
        drift_step c (iter (next_by H S w) i c) i (drift c o i (λ j k. q j (omega arith))) (q 0 (omega arith)) (ok_iter closed i c o) (q (suc i) (omega arith))

    tall_heading : (g : Heading) → vertical g ≡ false → (g ≡ East) ⊎ (g ≡ West)
    tall_heading South e = no refl e
    tall_heading East e = inl refl
    tall_heading North e = no refl e
    tall_heading West e = inr refl

    pub headed : Headed (next_by H S w) (cut H w h) horizontal (2 * (w * h))
    unfolding Headed
    headed c o =
        let L = length (orbit (next_by H S w) c (2 * (w * h)) c) in
        let P = orbit_period closed c o in
        ⊎_elim
        (λ l. (iter (next_by H S w) l.it c, l.holds, reach_on closed c _ o (record { steps = l.it; comes = refl })))
        (λ q.
        let D = drift c o L q in
        absurd
        (⊎_elim
        (λ e. omega (arith, D.moved.0 e, P.back, P.positive))
        (λ e. omega (arith, D.moved.1 e, P.back, P.positive))
        (tall_heading (heading_at H c) (vertical_heading H c ∙ q 0 (omega arith)))))
        (least_or (λ i. horizontal (iter (next_by H S w) i c)) L)

  -- ---- a mark that following keeps is on an even number of a cell's sides
  abbrev sides : (ℕ → Bool) → ℕ → Sides
  sides M t = record { s·south = M (out w South t); s·east = M (out w East t); s·north = M (out w North t); s·west = M (out w West t) }

  side_is : (M : ℕ → Bool) (t : ℕ) (g : Heading) → side g (sides M t) ≡ M (out w g t)
  side_is M t South = refl
  side_is M t East = refl
  side_is M t North = refl
  side_is M t West = refl

  pub record Kept (M : ℕ → Bool) : Type 0 where
    pub only : (c : ℕ) → M c ≡ true → cut H w h c ≡ true
    pub along : (c : ℕ) → cut H w h c ≡ true → M (next_by H S w c) ≡ M c

  pub cell_even : (M : ℕ → Bool) → Kept M → (t : ℕ) → Cell w h t
      → differ (differ (M (out w North t)) (M (out w West t))) (differ (M (out w South t)) (M (out w East t))) ≡ false
  cell_even M k t C =
      four (five H S w t) (sides M t)
      (λ g e. side_is M t g ∙ by_test (M (out w g t)) (λ y. no (k.only (out w g t) y) (edge_cut H S w h t C g ∙ e)) (λ y. y))
      (λ g e.
      side_is M t (leave_by g (five H S w t))
      ∙ ap M (sym (enter_goes H S w h t g e))
      ∙ k.along (out w (back g) t) (edge_cut H S w h t C (back g) ∙ enter_cut g (five H S w t) e)
      ∙ sym (side_is M t (back g)))
