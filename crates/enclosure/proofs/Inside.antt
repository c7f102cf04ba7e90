-- On which side of a mark a place is, at neighbours and at the corners of a cell. Assumes nothing.
-- Definitions: `inside w M i` the parity of the mark M on the row of the place i, left of it; `low w g c`, `top w g c` the right-hand (low) and the left-hand (high) end of the edgel c crossed
--   with heading g; `low_end`, `high_end` the same with the heading that the picture says.
-- Main laws: `inside_east`, `inside_south` of neighbours; `cut_inside` the mark stands on a side of a cell exactly if its ends differ; `holds_inside` what a mark that following keeps does to the
--   corners; `in_low`, `in_high`, `out_low`, `out_high` the ends of an edgel from the cell that it leads into and from the one that it leaves.
use mathlib.Core.Path.{◌≡◌, sym, ap, ◌∙◌}
use mathlib.Core.Bool.{Bool, false}
use Prim.Native.Nat.{ℕ, suc, ◌+◌, ◌*◌, ◌/◌, ◌%◌, ◌<◌}
use native.Mathlib.Nat.{add-mod_right, div-add-mod', mod-lt}
use native.Mathlib.Omega.{arith}
use lib.Arith.{digits_mod, digits_div}
use Rattle.tally.specs.Tally.{differ}
use Rattle.tally.proofs.Test.{by_test, no, twice}
use Rattle.edgel.specs.declared.Heading.{Heading}
use Rattle.edgel.specs.declared.Heading.TheVariants.{South, East, North, West}
use Rattle.edgel.specs.Edgel.{across, down, first, heading_at}
use Rattle.cell.specs.Turn.{out}
use Rattle.cell.proofs.Five.{Five, back, c0, c1, c2, c3, leave_by, cut_side}
use Rattle.cell.proofs.Rule.{enter_cut}
use Rattle.outline.proofs.Codes.{Cell, Frame, row_in, right_in}
use Rattle.outline.proofs.Entered.{five, edge_cut, enter_goes}
use Rattle.outline.proofs.Follow.{Kept}
use Rattle.outline.proofs.Parity.{by_row, step_east, step_south}
use Rattle.enclosure.proofs.Corner.{Holds}

abbrev pub inside : ℕ → (ℕ → Bool) → ℕ → Bool
inside w M i = by_row w M (i % w) (i / w)

abbrev pub low : ℕ → Heading → ℕ → ℕ
low w South c = first c
low w East c = first c + w
low w North c = first c + 1
low w West c = first c

abbrev pub top : ℕ → Heading → ℕ → ℕ
top w South c = first c + 1
top w East c = first c
top w North c = first c
top w West c = first c + w

abbrev pub low_end : (ℕ → Bool) → ℕ → ℕ → ℕ
low_end H w c = low w (heading_at H c) c

abbrev pub high_end : (ℕ → Bool) → ℕ → ℕ → ℕ
high_end H w c = top w (heading_at H c) c

-- ---- neighbours
module _ (H S : ℕ → Bool) (w h : ℕ) (v : Bool) (F : Frame H w h v) (M : ℕ → Bool) where
  pub inside_east : (i : ℕ) → i % w + 1 < w → inside w M (i + 1) ≡ differ (inside w M i) (M (2 * i))
  inside_east i a =
      let e : i + 1 ≡ i / w * w + suc (i % w) = omega (arith, div-add-mod' i w) in
      let c : suc (i % w) < w = omega arith in
      let x : (i + 1) % w ≡ suc (i % w) = ap (λ (z : ℕ). z % w) e ∙ digits_mod (i / w) c in
      let y : (i + 1) / w ≡ i / w = ap (λ (z : ℕ). z / w) e ∙ digits_div (i / w) c in
      let s : across w (i % w) (i / w) ≡ 2 * i = omega (arith, div-add-mod' i w) in
      rw (x, y) (step_east H S w h v F M (i % w) (i / w) ∙ ap (λ (z : ℕ). differ (inside w M i) (M z)) s)

  pub inside_south : Kept H S w h M → (i : ℕ) → 0 < w → i + w < w * h → inside w M (i + w) ≡ differ (inside w M i) (M (2 * i + 1))
  inside_south k i p a =
      let l : i % w < w = mod-lt i p in
      let e : i + w ≡ suc (i / w) * w + i % w = omega (arith, div-add-mod' i w) in
      let x : (i + w) % w ≡ i % w = add-mod_right i w in
      let y : (i + w) / w ≡ suc (i / w) = ap (λ (z : ℕ). z / w) e ∙ digits_div (suc (i / w)) l in
      let r : (i + w) / w < h = row_in w h (i + w) p a in
      let s : down w (i % w) (i / w) ≡ 2 * i + 1 = omega (arith, div-add-mod' i w) in
      rw (x, y) (step_south H S w h v F M k (i % w) (i / w) l (omega arith) ∙ ap (λ (z : ℕ). differ (inside w M i) (M z)) s)

  -- the corners of a cell, and the mark on its sides
  abbrev corner : ℕ → Five
  corner t = five (inside w M) (λ x. false) w t

  pub cut_inside : Kept H S w h M → (t : ℕ) → Cell w h t → (g : Heading) → cut_side g (corner t) ≡ M (out w g t)
  cut_inside k t C North = rw (inside_east t C.col) (twice (inside w M t) (M (2 * t)))
  cut_inside k t C West = rw (inside_south k t (omega (arith, C.col)) C.row) (twice (inside w M t) (M (2 * t + 1)))
  cut_inside k t C South =
      let c : (t + w) % w + 1 < w = rw (add-mod_right t w) C.col in
      rw (inside_east (t + w) c) (twice (inside w M (t + w)) (M (2 * (t + w))))
  cut_inside k t C East =
      let s : t + w + 1 ≡ t + 1 + w = omega arith in
      let c : (t + w) % w + 1 < w = rw (add-mod_right t w) C.col in
      let r : t + w + 1 < w * h = right_in w h (t + w) C.row c in
      rw (s, inside_south k (t + 1) (omega (arith, C.col)) (omega arith)) (twice (inside w M (t + 1)) (M (2 * (t + 1) + 1)))

  pub holds_inside : Kept H S w h M → (t : ℕ) → Cell w h t → Holds (five H S w t) (corner t)
  holds_inside k t C =
      record {
        off = λ g e. cut_inside k t C g ∙ by_test (M (out w g t)) (λ y. no (k.only (out w g t) y) (edge_cut H S w h t C g ∙ e)) (λ y. y);
        same = λ g e.
            cut_inside k t C (leave_by g (five H S w t))
            ∙ ap M (sym (enter_goes H S w h t g e))
            ∙ k.along (out w (back g) t) (edge_cut H S w h t C (back g) ∙ enter_cut g (five H S w t) e)
            ∙ sym (cut_inside k t C (back g));
      }

-- ---- the ends of an edgel, seen from the cell that it leads into and from the one that it leaves
module _ (w : ℕ) (I : ℕ → Bool) (s : ℕ → Bool) (t : ℕ) where
  pub in_low : (g : Heading) → I (low w g (out w (back g) t)) ≡ c0 g (five I s w t)
  in_low South = ap I (omega arith)
  in_low East = ap I (omega arith)
  in_low North = ap I (omega arith)
  in_low West = ap I (omega arith)

  pub in_high : (g : Heading) → I (top w g (out w (back g) t)) ≡ c3 g (five I s w t)
  in_high South = ap I (omega arith)
  in_high East = ap I (omega arith)
  in_high North = ap I (omega arith)
  in_high West = ap I (omega arith)

  pub out_low : (g : Heading) → I (low w g (out w g t)) ≡ c1 g (five I s w t)
  out_low South = ap I (omega arith)
  out_low East = ap I (omega arith)
  out_low North = ap I (omega arith)
  out_low West = ap I (omega arith)

  pub out_high : (g : Heading) → I (top w g (out w g t)) ≡ c2 g (five I s w t)
  out_high South = ap I (omega arith)
  out_high East = ap I (omega arith)
  out_high North = ap I (omega arith)
  out_high West = ap I (omega arith)
