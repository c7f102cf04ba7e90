-- Following over high or low places (H) and one saddle bit a cell (S): how a crossed code enters a cell and where it goes on. Assumes nothing.
-- Definitions: `five` a cell's corners and bit; `next_by` the next crossing; `Entered c` the cell that c enters, and with which heading.
-- Main laws: `edge_cut`, `edge_heading` the sides of a cell as codes; `enter_goes` where an entry goes on; `entered` with a constant border every crossed code enters a cell; `heads`, `goes`,
--   `goes_heading` its heading, the next code and the next heading.
use mathlib.Core.Path.{◌≡◌, refl, sym, ap, ◌∙◌, subst}
use mathlib.Core.Bool.{Bool, true, false, not, ◌&&◌}
use Prim.Native.Nat.{ℕ, ◌+◌, ◌-◌, ◌*◌, ◌/◌, ◌%◌, ◌≤◌, ◌<◌}
use native.Mathlib.Nat.{add-mod_right, mod-eq-sub-mod, mod-eq_of_lt, mod-lt, div-add-mod'}
use native.Mathlib.Omega.{arith}
use lib.Dec.{eqb, ltb}
use borrow.Author.Tests.{ltb-true, ltb-false, lt-ltb, eqb-true, eqb-false}
use Rattle.tally.specs.Tally.{differ}
use Rattle.tally.proofs.Test.{by_test, and_1, and_2, both, differ_low, differ_high, alike}
use Rattle.edgel.specs.declared.Heading.{Heading}
use Rattle.edgel.specs.declared.Heading.TheVariants.{South, East, North, West}
use Rattle.edgel.specs.Edgel.{horizontal, heading_at, cut}
use Rattle.cell.specs.Turn.{out, into}
use Rattle.cell.proofs.Five.{Five, back, enters, leave_by, cut_side, heading_side}
use Rattle.cell.proofs.Rule.{enter_heading, leave_heading}
use Rattle.outline.proofs.Codes.{Cell, Frame, col_is, right_in, heading_flat, heading_tall, cut_flat, cut_tall, flat_is, tall_is, into_out, pos_left}

abbrev pub five : (ℕ → Bool) → (ℕ → Bool) → ℕ → ℕ → Five
five H S w t = record { a = H t; b = H (t + w); c = H (t + w + 1); d = H (t + 1); s = S t }

unfoldable pub next_by : (ℕ → Bool) → (ℕ → Bool) → ℕ → ℕ → ℕ
next_by H S w c = let g = heading_at H c in let t = into w g c in out w (leave_by g (five H S w t)) t

module _ (H S : ℕ → Bool) (w h : ℕ) where
  -- the sides of a cell are edgels: crossed where their ends differ, with the heading that the cell says
  pub edge_cut : (t : ℕ) → Cell w h t → (g : Heading) → cut H w h (out w g t) ≡ cut_side g (five H S w t)
  edge_cut t C South =
      let c : (t + w) % w + 1 < w = rw (add-mod_right t w) C.col in
      cut_flat H w h (t + w) ∙ rw (lt-ltb _ _ c, lt-ltb _ _ C.row)
  edge_cut t C East =
      let c : (t + w) % w + 1 < w = rw (add-mod_right t w) C.col in
      let i : t + w + 1 < w * h = right_in w h (t + w) C.row c in
      let s : t + 1 + w ≡ t + w + 1 = omega arith in
      cut_tall H w h (t + 1) ∙ rw (s, lt-ltb _ _ i)
  edge_cut t C North =
      let r : t < w * h = omega (arith, C.row) in
      cut_flat H w h t ∙ rw (lt-ltb _ _ C.col, lt-ltb _ _ r)
  edge_cut t C West = cut_tall H w h t ∙ rw (lt-ltb _ _ C.row)

  pub edge_heading : (t : ℕ) (g : Heading) → heading_at H (out w g t) ≡ heading_side g (five H S w t)
  edge_heading t South = heading_flat H (t + w)
  edge_heading t East = heading_tall H (t + 1)
  edge_heading t North = heading_flat H t
  edge_heading t West = heading_tall H t

  pub enter_goes : (t : ℕ) (g : Heading) → enters g (five H S w t) ≡ true → next_by H S w (out w (back g) t) ≡ out w (leave_by g (five H S w t)) t
  unfolding next_by
  enter_goes t g e =
      let c = out w (back g) t in
      ap (λ (z : Heading). out w (leave_by z (five H S w (into w z c))) (into w z c)) (edge_heading t (back g) ∙ enter_heading g (five H S w t) e)
      ∙ ap (λ (z : ℕ). out w (leave_by g (five H S w z)) z) (into_out w g t)

  pub record Entered (c : ℕ) : Type 0 where
    pub g : Heading
    pub t : ℕ
    pub here : Cell w h t
    pub code : c ≡ out w (back g) t
    pub enter : enters g (five H S w t) ≡ true

  pub heads : (c : ℕ) (E : Entered c) → heading_at H c ≡ E.g
  heads c E = ap (heading_at H) E.code ∙ edge_heading E.t (back E.g) ∙ enter_heading E.g (five H S w E.t) E.enter

  pub goes : (c : ℕ) (E : Entered c) → next_by H S w c ≡ out w (leave_by E.g (five H S w E.t)) E.t
  goes c E = ap (next_by H S w) E.code ∙ enter_goes E.t E.g E.enter

  pub goes_heading : (c : ℕ) (E : Entered c) → heading_at H (next_by H S w c) ≡ leave_by E.g (five H S w E.t)
  goes_heading c E = ap (heading_at H) (goes c E) ∙ edge_heading E.t (leave_by E.g (five H S w E.t)) ∙ leave_heading E.g (five H S w E.t) E.enter

  module _ (v : Bool) (F : Frame H w h v) where
    -- the four cases of a crossed code
    flat_low : (i : ℕ) → cut H w h (2 * i) ≡ true → H i ≡ false → Entered (2 * i)
    flat_low i o e =
        let z = sym (cut_flat H w h i) ∙ o in
        let c : i % w + 1 < w = ltb-true _ _ (and_1 _ _ (and_1 _ _ z)) in
        let l : i < w * h = ltb-true _ _ (and_2 (ltb (i % w + 1) w) _ (and_1 _ _ z)) in
        let d : differ (H i) (H (i + 1)) ≡ true = and_2 (ltb (i % w + 1) w && ltb i (w * h)) _ z in
        let r : i + w < w * h =
        by_test (ltb (i + w) (w * h)) (λ y. ltb-true _ _ y)
        (λ y.
        let n : w * h ≤ i + w = ltb-false _ _ y in
        alike (H i) (H (i + 1)) v (F.bottom i l n) (F.bottom (i + 1) (right_in w h i l c) (omega arith)) d) in
        record { g = South; t = i; here = record { col = c; row = r }; code = refl; enter = both (ap not e) (differ_low (H i) _ e d) }

    flat_high : (i : ℕ) → cut H w h (2 * i) ≡ true → H i ≡ true → Entered (2 * i)
    flat_high i o e =
        let z = sym (cut_flat H w h i) ∙ o in
        let c : i % w + 1 < w = ltb-true _ _ (and_1 _ _ (and_1 _ _ z)) in
        let l : i < w * h = ltb-true _ _ (and_2 (ltb (i % w + 1) w) _ (and_1 _ _ z)) in
        let d : differ (H i) (H (i + 1)) ≡ true = and_2 (ltb (i % w + 1) w && ltb i (w * h)) _ z in
        let r : w ≤ i =
        by_test (ltb i w)
        (λ y.
        let n : i < w = ltb-true _ _ y in
        let m : i % w ≡ i = mod-eq_of_lt n in
        alike (H i) (H (i + 1)) v (F.top i n) (F.top (i + 1) (omega arith)) d)
        (λ y. ltb-false _ _ y) in
        let s : i - w + w ≡ i = omega arith in
        record {
          g = North;
          t = i - w;
          here = record { col = rw (sym (mod-eq-sub-mod r)) c; row = rw s l };
          code = ap (λ (x : ℕ). 2 * x) (sym s);
          enter = rw s (both (ap not (differ_high (H i) _ e d)) e);
        }

    tall_high : (i : ℕ) → cut H w h (2 * i + 1) ≡ true → H i ≡ true → Entered (2 * i + 1)
    tall_high i o e =
        let z = sym (cut_tall H w h i) ∙ o in
        let l : i + w < w * h = ltb-true _ _ (and_1 _ _ z) in
        let d : differ (H i) (H (i + w)) ≡ true = and_2 (ltb (i + w) (w * h)) _ z in
        let p : 0 < w = pos_left w h (omega arith) in
        let c : i % w + 1 < w =
        by_test (eqb (i % w + 1) w)
        (λ y.
        let n : i % w + 1 ≡ w = eqb-true _ _ y in
        alike (H i) (H (i + w)) v (F.rights i (omega arith) n) (F.rights (i + w) l (rw (add-mod_right i w) n)) d)
        (λ y. omega (arith, eqb-false (i % w + 1) w y, mod-lt i p)) in
        record { g = East; t = i; here = record { col = c; row = l }; code = refl; enter = both (ap not (differ_high (H i) _ e d)) e }

    tall_low : (i : ℕ) → cut H w h (2 * i + 1) ≡ true → H i ≡ false → Entered (2 * i + 1)
    tall_low i o e =
        let z = sym (cut_tall H w h i) ∙ o in
        let l : i + w < w * h = ltb-true _ _ (and_1 _ _ z) in
        let d : differ (H i) (H (i + w)) ≡ true = and_2 (ltb (i + w) (w * h)) _ z in
        let p : 0 < w = pos_left w h (omega arith) in
        let m : i % w < w = mod-lt i p in
        let q : 0 < i % w =
        by_test (eqb (i % w) 0)
        (λ y.
        let n : i % w ≡ 0 = eqb-true _ _ y in
        alike (H i) (H (i + w)) v (F.lefts i (omega arith) n) (F.lefts (i + w) l (rw (add-mod_right i w) n)) d)
        (λ y. omega (arith, eqb-false (i % w) 0 y)) in
        let b : i / w * w + i % w ≡ i = div-add-mod' i w in
        let j : i - 1 ≡ i / w * w + (i % w - 1) = omega arith in
        let k : (i - 1) % w ≡ i % w - 1 = col_is w (i - 1) (i / w) (i % w - 1) j (omega arith) in
        let s : i - 1 + 1 ≡ i = omega arith in
        let u : i - 1 + w + 1 ≡ i + w = omega arith in
        record {
          g = West;
          t = i - 1;
          here = record { col = omega arith; row = omega arith };
          code = ap (λ (x : ℕ). 2 * x + 1) (sym s);
          enter = rw (s, u) (both (ap not e) (differ_low (H i) _ e d));
        }

    pub entered : (c : ℕ) → cut H w h c ≡ true → Entered c
    entered c o =
        by_test (horizontal c)
        (λ e.
        let s : c ≡ 2 * (c / 2) = flat_is c e in
        let p : cut H w h (2 * (c / 2)) ≡ true = ap (cut H w h) (sym s) ∙ o in
        subst (λ (x : ℕ). Entered x) (sym s) (by_test (H (c / 2)) (λ y. flat_high (c / 2) p y) (λ y. flat_low (c / 2) p y)))
        (λ e.
        let s : c ≡ 2 * (c / 2) + 1 = tall_is c e in
        let p : cut H w h (2 * (c / 2) + 1) ≡ true = ap (cut H w h) (sym s) ∙ o in
        subst (λ (x : ℕ). Entered x) (sym s) (by_test (H (c / 2)) (λ y. tall_high (c / 2) p y) (λ y. tall_low (c / 2) p y)))
