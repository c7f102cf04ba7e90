-- The lines of a level one by one: what each is, and in which order they stand. Assumes nothing.
-- Definitions: `IsLine P k l` l is the line from a lead of level k.
-- Main laws: `line_at_lem` every listed line is one; `line_of` every lead has its line there; `leads_ascend` their leads ascend strictly; for each line `first_is` its first crossing is the lead, `lead_flat`,
--   `lead_least` that is its least horizontal code, `line_step` each crossing is the next of the one before, `line_closes` the next of the last is the lead, so the fuel never runs out, `line_once` no
--   crossing comes twice, `line_crossed` all are crossed edgels.
use mathlib.Core.Path.{◌≡◌, sym, ap, ◌∙◌, subst}
use mathlib.Core.Bool.{true}
use mathlib.Core.List.{List, []}
use Prim.Native.Nat.{ℕ, suc, ◌-◌, ◌*◌, ◌/◌, ◌≤◌, ◌<◌}
use native.Mathlib.Omega.{arith}
use lib.ListN.{length, get_or}
use borrow.Author.Tests.{lt-ltb}
use Rattle.tally.specs.Tally.{one, count}
use Rattle.tally.proofs.Test.{one_le}
use Rattle.tally.proofs.Order.{pick_at, pick_next, pick_has}
use Rattle.orbit.proofs.On.{on}
use Rattle.orbit.proofs.Orbit.{orbit_within}
use Rattle.orbit.proofs.Partition.{leads_head, leads_low}
use Rattle.orbit.proofs.Walk.{orbit_long, orbit_head, orbit_next, orbit_last}
use Rattle.matte.specs.Picture.{Picture, size}
use Rattle.edgel.specs.Edgel.{horizontal}
use Rattle.cell.specs.Turn.{next}
use Rattle.outline.specs.Line.{cut_at, line, is_lead, lines}
use Rattle.outline.proofs.Codes.{flat_is}
use Rattle.outline.proofs.Border.{Border}
use Rattle.outline.proofs.Paper.{closed_at, headed_at}
use Rattle.outline.proofs.Whole.{on_line, line_count_lem}
use Rattle.outline.proofs.Places.{lead_cut, line_cut}

pub record IsLine (P : Picture) (k : ℕ) (l : List ℕ) : Type 0 where
  pub lead : ℕ
  pub leading : is_lead P k lead ≡ true
  pub list : l ≡ line P k lead

module _ (P : Picture) (k : ℕ) where
  pub line_at_lem : (n : ℕ) → n < length (lines P k) → IsLine P k (get_or (lines P k) n [])
  unfolding lines
  line_at_lem n h =
      let r = pick_at (λ i. is_lead P k (2 * i)) (λ i. line P k (2 * i)) 0 (size P) n h in
      record { lead = 2 * r.it; leading = r.passes; list = r.list }

module _ (P : Picture) (B : Border P) (k : ℕ) where
  -- ---- a line from its lead
  module _ (c : ℕ) (e : is_lead P k c ≡ true) where
    pub lead_flat : horizontal c ≡ true
    unfolding is_lead
    lead_flat = leads_head (closed_at P B k) horizontal (headed_at P B k) c e

    pub lead_least : (d : ℕ) → horizontal d ≡ true → 0 < count d (line P k c) → c ≤ d
    unfolding is_lead line on
    lead_least d h q = leads_low (closed_at P B k) horizontal (headed_at P B k) c d e h (lt-ltb _ _ q)

    pub line_long : 0 < length (line P k c)
    unfolding line
    line_long = orbit_long (closed_at P B k) c (lead_cut P B k c e)

    pub line_within : length (line P k c) ≤ 2 * size P
    unfolding line
    line_within = orbit_within (closed_at P B k) c (lead_cut P B k c e)

    pub lead_first : get_or (line P k c) 0 0 ≡ c
    unfolding line
    lead_first = orbit_head (closed_at P B k) c (lead_cut P B k c e)

    pub lead_next : (i : ℕ) → suc i < length (line P k c) → get_or (line P k c) (suc i) 0 ≡ next P k (get_or (line P k c) i 0)
    unfolding line
    lead_next i h = orbit_next (closed_at P B k) c (lead_cut P B k c e) i h

    pub lead_again : next P k (get_or (line P k c) (length (line P k c) - 1) 0) ≡ c
    unfolding line
    lead_again = orbit_last (closed_at P B k) c (lead_cut P B k c e)

  -- ---- every listed line
  module _ (l : List ℕ) (I : IsLine P k l) where
    pub first_is : get_or l 0 0 ≡ I.lead
    first_is = rw I.list (lead_first I.lead I.leading)

    pub line_some : 0 < length l
    line_some = subst (λ (z : List ℕ). 0 < length z) (sym I.list) (line_long I.lead I.leading)

    pub first_flat : horizontal (get_or l 0 0) ≡ true
    first_flat = rw first_is (lead_flat I.lead I.leading)

    pub first_least : (d : ℕ) → horizontal d ≡ true → 0 < count d l → get_or l 0 0 ≤ d
    first_least d h q = rw first_is (lead_least I.lead I.leading d h (subst (λ (z : List ℕ). 0 < count d z) I.list q))

    pub line_step : (i : ℕ) → suc i < length l → get_or l (suc i) 0 ≡ next P k (get_or l i 0)
    line_step i h =
        ap (λ (z : List ℕ). get_or z (suc i) 0) I.list
        ∙ lead_next I.lead I.leading i (subst (λ (z : List ℕ). suc i < length z) I.list h)
        ∙ ap (λ (z : List ℕ). next P k (get_or z i 0)) (sym I.list)

    pub line_closes : next P k (get_or l (length l - 1) 0) ≡ get_or l 0 0
    line_closes = ap (λ (z : List ℕ). next P k (get_or z (length z - 1) 0)) I.list ∙ lead_again I.lead I.leading ∙ sym first_is

    pub line_once : (d : ℕ) → count d l ≤ 1
    line_once d =
        let r : count d l ≡ one (on_line P k I.lead d) =
        ap (count d) I.list ∙ line_count_lem P B k I.lead (lead_cut P B k I.lead I.leading) d in
        omega (arith, one_le (on_line P k I.lead d))

    pub line_crossed : (d : ℕ) → 0 < count d l → cut_at P k d ≡ true
    line_crossed d q = line_cut P B k I.lead d (lead_cut P B k I.lead I.leading) (subst (λ (z : List ℕ). 0 < count d z) I.list q)

  -- ---- their order, and that none is missing
  pub leads_ascend : (n : ℕ) → suc n < length (lines P k) → get_or (get_or (lines P k) n []) 0 0 < get_or (get_or (lines P k) (suc n) []) 0 0
  unfolding lines
  leads_ascend n h =
      let r = pick_next (λ i. is_lead P k (2 * i)) (λ i. line P k (2 * i)) 0 (size P) n h in
      let a : get_or (get_or (lines P k) n []) 0 0 ≡ 2 * r.it = ap (λ (z : List ℕ). get_or z 0 0) r.list ∙ lead_first (2 * r.it) r.passes in
      let b : get_or (get_or (lines P k) (suc n) []) 0 0 ≡ 2 * r.after = ap (λ (z : List ℕ). get_or z 0 0) r.list_after ∙ lead_first (2 * r.after) r.passes_after in
      omega (arith, r.less)

  pub line_of : (c : ℕ) → is_lead P k c ≡ true → (n : ℕ) × (n < length (lines P k)) × (get_or (lines P k) n [] ≡ line P k c)
  unfolding lines
  line_of c e =
      let s : c ≡ 2 * (c / 2) = flat_is c (lead_flat c e) in
      let b : c < 2 * size P = (closed_at P B k).bound c (lead_cut P B k c e) in
      let r = pick_has (λ i. is_lead P k (2 * i)) (λ i. line P k (2 * i)) 0 (size P) (c / 2) (omega arith) (omega arith) (subst (λ (z : ℕ). is_lead P k z ≡ true) s e) in
      (r.0, r.1, r.2 ∙ ap (line P k) (sym s))
