-- One cell seen by two levels: what a line of one level does to the side of another line that a corner is on. Everything here is finite and computed. Assumes nothing.
-- Definitions: `knot q` the cell has two facing high corners; `mono q r` q at a level, r at the same or a lower one: corners high in q are high in r, and right at the saddle in q is right
--   in r; `Holds r i` the corners' sides i are those of a mark that is on crossed sides of r only and that a line through r keeps.
-- Main laws: `cell_high` a line that passes the cell at the higher level keeps the mark's side at its left-hand (high) end; `cell_low` one that passes at the lower level keeps it at its
--   right-hand (low) end.
use mathlib.Core.Path.{◌≡◌, refl}
use mathlib.Core.Bool.{Bool, true, false, not, ◌&&◌, ◌||◌}
use Rattle.tally.specs.Tally.{differ}
use Rattle.tally.proofs.Test.{both, implies, mp, equal, differ_self}
use Rattle.edgel.specs.declared.Heading.{Heading}
use Rattle.edgel.specs.declared.Heading.TheVariants.{South, East, North, West}
use Rattle.cell.proofs.Five.{Five, back, c0, c1, c2, c3, enters, leave_by, cut_side, all_f, each_f}

abbrev pub knot : Five → Bool
knot q = differ q.a q.b && (differ q.b q.c && differ q.c q.d)

abbrev pub mono : Five → Five → Bool
mono q r =
    implies q.a r.a
    && (implies q.b r.b && (implies q.c r.c && (implies q.d r.d && implies (knot q && (knot r && q.s)) r.s)))

-- the sides i are those of a mark on crossed sides of r only, which a line through r keeps
abbrev holds_at : Five → Five → Heading → Bool
holds_at r i g = (cut_side g r || not (cut_side g i)) && implies (enters g r) (not (differ (cut_side (back g) i) (cut_side (leave_by g r) i)))

abbrev holds : Five → Five → Bool
holds r i = holds_at r i South && (holds_at r i East && (holds_at r i North && holds_at r i West))

abbrev high_b : Heading → Five → Five → Five → Bool
high_b g q r i = implies (holds r i) (not (differ (c3 g i) (c2 (leave_by g q) i)))

abbrev low_b : Heading → Five → Five → Five → Bool
low_b g q r i = implies (holds r i) (not (differ (c0 g i) (c1 (leave_by g q) i)))

high_all : (g : Heading) → all_f (λ q. implies (enters g q) (all_f (λ r. implies (mono q r) (all_f (λ i. high_b g q r i))))) ≡ true
high_all South = refl
high_all East = refl
high_all North = refl
high_all West = refl

low_all : (g : Heading) → all_f (λ q. implies (enters g q) (all_f (λ r. implies (mono r q) (all_f (λ i. low_b g q r i))))) ≡ true
low_all South = refl
low_all East = refl
low_all North = refl
low_all West = refl

-- what is asked of the sides of a mark
pub record Holds (r i : Five) : Type 0 where
  pub off : (g : Heading) → cut_side g r ≡ false → cut_side g i ≡ false
  pub same : (g : Heading) → enters g r ≡ true → cut_side (leave_by g r) i ≡ cut_side (back g) i

holds_at_lem : (r i : Five) → Holds r i → (g : Heading) → holds_at r i g ≡ true
holds_at_lem r i X g = both (side (cut_side g r) (cut_side g i) (X.off g)) (pass (enters g r) (cut_side (back g) i) (cut_side (leave_by g r) i) (X.same g))
  where
    side : (x y : Bool) → (x ≡ false → y ≡ false) → (x || not y) ≡ true
    side true y f = refl
    side false y f = rw (f refl)

    pass : (x y z : Bool) → (x ≡ true → z ≡ y) → implies x (not (differ y z)) ≡ true
    pass true y z f = rw (f refl, differ_self y)
    pass false y z f = refl

holds_all : (r i : Five) → Holds r i → holds r i ≡ true
holds_all r i X = both (holds_at_lem r i X South) (both (holds_at_lem r i X East) (both (holds_at_lem r i X North) (holds_at_lem r i X West)))

pub cell_high : (g : Heading) (q r i : Five) → enters g q ≡ true → mono q r ≡ true → Holds r i → c3 g i ≡ c2 (leave_by g q) i
cell_high g q r i e m X =
    equal _ _
    (mp (each_f (λ z. high_b g q r z) (mp (each_f (λ y. implies (mono q y) (all_f (λ z. high_b g q y z)))
    (mp (each_f (λ x. implies (enters g x) (all_f (λ y. implies (mono x y) (all_f (λ z. high_b g x y z))))) (high_all g) q) e) r) m) i) (holds_all r i X))

pub cell_low : (g : Heading) (q r i : Five) → enters g q ≡ true → mono r q ≡ true → Holds r i → c0 g i ≡ c1 (leave_by g q) i
cell_low g q r i e m X =
    equal _ _
    (mp (each_f (λ z. low_b g q r z) (mp (each_f (λ y. implies (mono y q) (all_f (λ z. low_b g q y z)))
    (mp (each_f (λ x. implies (enters g x) (all_f (λ y. implies (mono y x) (all_f (λ z. low_b g x y z))))) (low_all g) q) e) r) m) i) (holds_all r i X))
