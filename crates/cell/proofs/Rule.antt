-- The turn rule in one cell: everything here is finite and computed. Assumes nothing.
-- Definitions: `Sides` a mark on each of the four sides, `side` one of them.
-- Main laws: `leave_cut`, `leave_heading` a line leaves by a crossed side, heading out; `enter_cut`, `enter_heading` it enters by one; `leave_once` two entries that leave by one side are the same;
--   `leave_onto` every crossed side that a line can leave by is left by some entry; `leave_straight` a line that keeps off horizontal sides goes straight on; `four` a mark that each pass through
--   the cell keeps is on an even number of sides.
use mathlib.Core.Path.{◌≡◌, refl, sym, ap, ◌∙◌}
use mathlib.Core.Bool.{Bool, true, false, not, ◌&&◌, ◌||◌}
use mathlib.Core.Logic.{⊎_elim}
use borrow.Author.Tests.{not-true}
use Rattle.tally.specs.Tally.{differ}
use Rattle.tally.proofs.Test.{and_1, and_2, both, implies, mp, all1, each1, or_cases, differ_self}
use Rattle.edgel.specs.declared.Heading.{Heading}
use Rattle.edgel.specs.declared.Heading.TheVariants.{South, East, North, West}
use Rattle.cell.proofs.Five.{Five, back, enters, leave_by, cut_side, heading_side, vertical, same, same→≡, same_self, all_f, each_f, all_h, each_h}

abbrev leaves : Heading → Five → Bool
leaves g q = implies (enters g q) (cut_side (leave_by g q) q && same (heading_side (leave_by g q) q) (leave_by g q))

leaves_all : (g : Heading) (q : Five) → leaves g q ≡ true
leaves_all g q = each_f (λ r. leaves g r) (each_h (λ h. all_f (λ r. leaves h r)) refl g) q

pub leave_cut : (g : Heading) (q : Five) → enters g q ≡ true → cut_side (leave_by g q) q ≡ true
leave_cut g q e = and_1 (cut_side (leave_by g q) q) _ (mp (leaves_all g q) e)

pub leave_heading : (g : Heading) (q : Five) → enters g q ≡ true → heading_side (leave_by g q) q ≡ leave_by g q
leave_heading g q e = same→≡ _ _ (and_2 (cut_side (leave_by g q) q) _ (mp (leaves_all g q) e))

-- the side by which a line enters is crossed, with its heading
abbrev entry : Heading → Five → Bool
entry g q = implies (enters g q) (cut_side (back g) q && same (heading_side (back g) q) g)

entry_all : (g : Heading) (q : Five) → entry g q ≡ true
entry_all g q = each_f (λ r. entry g r) (each_h (λ h. all_f (λ r. entry h r)) refl g) q

pub enter_cut : (g : Heading) (q : Five) → enters g q ≡ true → cut_side (back g) q ≡ true
enter_cut g q e = and_1 (cut_side (back g) q) _ (mp (entry_all g q) e)

pub enter_heading : (g : Heading) (q : Five) → enters g q ≡ true → heading_side (back g) q ≡ g
enter_heading g q e = same→≡ _ _ (and_2 (cut_side (back g) q) _ (mp (entry_all g q) e))

abbrev once_b : Heading → Heading → Five → Bool
once_b g h q = implies (enters g q) (implies (enters h q) (implies (same (leave_by g q) (leave_by h q)) (same g h)))

pub leave_once : (g h : Heading) (q : Five) → enters g q ≡ true → enters h q ≡ true → leave_by g q ≡ leave_by h q → g ≡ h
leave_once g h q a b e =
    same→≡ g h
    (mp (mp (mp (each_f (λ r. once_b g h r) (each_h (λ y. all_f (λ r. once_b g y r)) (each_h (λ x. all_h (λ y. all_f (λ r. once_b x y r))) refl g) h) q) a) b)
    (ap (λ (z : Heading). same (leave_by g q) z) (sym e) ∙ same_self (leave_by g q)))

-- off the horizontal sides a line goes straight on
abbrev straight : Heading → Five → Bool
straight g q = vertical g || (vertical (leave_by g q) || same (leave_by g q) g)

straight_all : (g : Heading) (q : Five) → straight g q ≡ true
straight_all g q = each_f (λ r. straight g r) (each_h (λ h. all_f (λ r. straight h r)) refl g) q

pub leave_straight : (g : Heading) (q : Five) → vertical g ≡ false → vertical (leave_by g q) ≡ false → leave_by g q ≡ g
leave_straight g q e h =
    same→≡ (leave_by g q) g (sym (ap (λ (x : Bool). x || (vertical (leave_by g q) || same (leave_by g q) g)) e ∙ ap (λ (x : Bool). x || same (leave_by g q) g) h) ∙ straight_all g q)

-- ---- every way out is used
abbrev some_h : (Heading → Bool) → Bool
some_h p = p South || (p East || (p North || p West))

find : (p : Heading → Bool) → some_h p ≡ true → (g : Heading) × (p g ≡ true)
find p e =
    ⊎_elim (λ a. (South, a))
    (λ r. ⊎_elim (λ a. (East, a))
    (λ z. ⊎_elim (λ a. (North, a)) (λ a. (West, a)) (or_cases (p North) (p West) z))
    (or_cases (p East) _ r))
    (or_cases (p South) _ e)

abbrev onto_b : Heading → Five → Bool
onto_b g q = implies (cut_side g q && same (heading_side g q) g) (some_h (λ e. enters e q && same (leave_by e q) g))

onto_all : (g : Heading) (q : Five) → onto_b g q ≡ true
onto_all g q = each_f (λ r. onto_b g r) (each_h (λ h. all_f (λ r. onto_b h r)) refl g) q

pub leave_onto : (g : Heading) (q : Five) → cut_side g q ≡ true → heading_side g q ≡ g → (e : Heading) × (enters e q ≡ true) × (leave_by e q ≡ g)
leave_onto g q c h =
    let f = find (λ e. enters e q && same (leave_by e q) g) (mp (onto_all g q) (both c (ap (λ (z : Heading). same z g) h ∙ same_self g))) in
    (f.0, and_1 (enters f.0 q) _ f.1, same→≡ _ _ (and_2 (enters f.0 q) _ f.1))

-- ---- marks on the four sides
pub record Sides : Type 0 where
  pub s·south : Bool
  pub s·east : Bool
  pub s·north : Bool
  pub s·west : Bool

abbrev pub side : Heading → Sides → Bool
side South m = m.s·south
side East m = m.s·east
side North m = m.s·north
side West m = m.s·west

abbrev kept : Five → Sides → Heading → Bool
kept q m g = (cut_side g q || not (side g m)) && implies (enters g q) (not (differ (side (back g) m) (side (leave_by g q) m)))

abbrev four_b : Five → Sides → Bool
four_b q m = implies (all_h (kept q m)) (not (differ (differ m.s·north m.s·west) (differ m.s·south m.s·east)))

abbrev all_s : (Sides → Bool) → Bool
all_s p = all1 (λ a. all1 (λ b. all1 (λ c. all1 (λ d. p (record { s·south = a; s·east = b; s·north = c; s·west = d })))))

each_s : (p : Sides → Bool) → all_s p ≡ true → (m : Sides) → p m ≡ true
each_s p e m =
    each1 (λ d. p (record { s·south = m.s·south; s·east = m.s·east; s·north = m.s·north; s·west = d }))
    (each1 (λ c. all1 (λ d. p (record { s·south = m.s·south; s·east = m.s·east; s·north = c; s·west = d })))
    (each1 (λ b. all1 (λ c. all1 (λ d. p (record { s·south = m.s·south; s·east = b; s·north = c; s·west = d }))))
    (each1 (λ a. all1 (λ b. all1 (λ c. all1 (λ d. p (record { s·south = a; s·east = b; s·north = c; s·west = d }))))) e m.s·south) m.s·east) m.s·north) m.s·west

four_all : (q : Five) (m : Sides) → four_b q m ≡ true
four_all q m = each_s (λ r. four_b q r) (each_f (λ z. all_s (λ r. four_b z r)) refl q) m

keeps : (q : Five) (m : Sides) (g : Heading) → (cut_side g q ≡ false → side g m ≡ false) → (enters g q ≡ true → side (leave_by g q) m ≡ side (back g) m) → kept q m g ≡ true
keeps q m g off on = both (keeps_off (cut_side g q) (side g m) off) (keeps_on (enters g q) (side (back g) m) (side (leave_by g q) m) on)
  where
    keeps_off : (x y : Bool) → (x ≡ false → y ≡ false) → (x || not y) ≡ true
    keeps_off true y f = refl
    keeps_off false y f = rw (f refl)

    keeps_on : (x y z : Bool) → (x ≡ true → z ≡ y) → implies x (not (differ y z)) ≡ true
    keeps_on true y z f = rw (f refl) (ap not (differ_self y))
    keeps_on false y z f = refl

-- a mark that is off where a side is not crossed, and that a line through the cell keeps, is on an even number of sides
pub four : (q : Five) (m : Sides) → ((g : Heading) → cut_side g q ≡ false → side g m ≡ false) → ((g : Heading) → enters g q ≡ true → side (leave_by g q) m ≡ side (back g) m)
    → differ (differ m.s·north m.s·west) (differ m.s·south m.s·east) ≡ false
four q m off on =
    not-true _ (mp (four_all q m)
    (both (keeps q m South (off South) (on South)) (both (keeps q m East (off East) (on East)) (both (keeps q m North (off North) (on North)) (keeps q m West (off West) (on West))))))
