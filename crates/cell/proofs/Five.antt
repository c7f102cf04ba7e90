-- One cell as five booleans: its corners high or low, and one saddle bit. Assumes nothing.
-- Definitions: `back` the opposite heading; `Five` the corners by place and the saddle bit; `c0` to `c3` the corners from the entry; `enters g q` a line may enter q with heading g; `leave_by g q`
--   the heading out; `first_end`, `second_end` the ends of the side g; `cut_side g q` it is crossed; `vertical g` S or N, so that the side g is horizontal; `heading_side g q` the heading at which the
--   side is crossed; `same` two headings are equal; `all_f`, `all_h` a test holds of all cells, of all headings.
-- Main laws: `each_f`, `each_h` what is computed for all holds of each; `same→≡`, `same_self`.
use mathlib.Core.Path.{◌≡◌, refl}
use mathlib.Core.Bool.{Bool, true, false, not, ◌&&◌}
use Rattle.tally.specs.Tally.{differ}
use Rattle.tally.proofs.Test.{no, and_1, and_2, all1, each1}
use Rattle.edgel.specs.declared.Heading.{Heading}
use Rattle.edgel.specs.declared.Heading.TheVariants.{South, East, North, West}
use Rattle.edgel.specs.Edgel.{heading_of}
use Rattle.cell.specs.Turn.{turn}

abbrev pub back : Heading → Heading
back South = North
back East = West
back North = South
back West = East

-- a top left, b bottom left, c bottom right, d top right: high or low; s the saddle bit
pub record Five : Type 0 where
  pub a : Bool
  pub b : Bool
  pub c : Bool
  pub d : Bool
  pub s : Bool

abbrev pub c0 : Heading → Five → Bool
c0 South q = q.a
c0 East q = q.b
c0 North q = q.c
c0 West q = q.d

abbrev pub c1 : Heading → Five → Bool
c1 South q = q.b
c1 East q = q.c
c1 North q = q.d
c1 West q = q.a

abbrev pub c2 : Heading → Five → Bool
c2 South q = q.c
c2 East q = q.d
c2 North q = q.a
c2 West q = q.b

abbrev pub c3 : Heading → Five → Bool
c3 South q = q.d
c3 East q = q.a
c3 North q = q.b
c3 West q = q.c

abbrev pub enters : Heading → Five → Bool
enters g q = not (c0 g q) && c3 g q

abbrev pub leave_by : Heading → Five → Heading
leave_by g q = turn (c1 g q) (c2 g q) q.s g

-- the side's left or top end, and its other end
abbrev pub first_end : Heading → Five → Bool
first_end South q = q.b
first_end East q = q.d
first_end North q = q.a
first_end West q = q.a

abbrev pub second_end : Heading → Five → Bool
second_end South q = q.c
second_end East q = q.c
second_end North q = q.d
second_end West q = q.b

abbrev pub cut_side : Heading → Five → Bool
cut_side g q = differ (first_end g q) (second_end g q)

abbrev pub vertical : Heading → Bool
vertical South = true
vertical East = false
vertical North = true
vertical West = false

abbrev pub heading_side : Heading → Five → Heading
heading_side g q = heading_of (vertical g) (first_end g q)

abbrev pub same : Heading → Heading → Bool
same South South = true
same South East = false
same South North = false
same South West = false
same East South = false
same East East = true
same East North = false
same East West = false
same North South = false
same North East = false
same North North = true
same North West = false
same West South = false
same West East = false
same West North = false
same West West = true

pub same→≡ : (g h : Heading) → same g h ≡ true → g ≡ h
same→≡ South South t = refl
same→≡ South East t = no t refl
same→≡ South North t = no t refl
same→≡ South West t = no t refl
same→≡ East South t = no t refl
same→≡ East East t = refl
same→≡ East North t = no t refl
same→≡ East West t = no t refl
same→≡ North South t = no t refl
same→≡ North East t = no t refl
same→≡ North North t = refl
same→≡ North West t = no t refl
same→≡ West South t = no t refl
same→≡ West East t = no t refl
same→≡ West North t = no t refl
same→≡ West West t = refl

pub same_self : (g : Heading) → same g g ≡ true
same_self South = refl
same_self East = refl
same_self North = refl
same_self West = refl

-- ---- truths over all cells and headings, computed
abbrev pub all_f : (Five → Bool) → Bool
all_f p = all1 (λ a. all1 (λ b. all1 (λ c. all1 (λ d. all1 (λ s. p (record { a = a; b = b; c = c; d = d; s = s }))))))

pub each_f : (p : Five → Bool) → all_f p ≡ true → (q : Five) → p q ≡ true
each_f p e q =
    each1 (λ s. p (record { a = q.a; b = q.b; c = q.c; d = q.d; s = s }))
    (each1 (λ d. all1 (λ s. p (record { a = q.a; b = q.b; c = q.c; d = d; s = s })))
    (each1 (λ c. all1 (λ d. all1 (λ s. p (record { a = q.a; b = q.b; c = c; d = d; s = s }))))
    (each1 (λ b. all1 (λ c. all1 (λ d. all1 (λ s. p (record { a = q.a; b = b; c = c; d = d; s = s })))))
    (each1 (λ a. all1 (λ b. all1 (λ c. all1 (λ d. all1 (λ s. p (record { a = a; b = b; c = c; d = d; s = s })))))) e q.a) q.b) q.c) q.d) q.s

abbrev pub all_h : (Heading → Bool) → Bool
all_h p = p South && (p East && (p North && p West))

pub each_h : (p : Heading → Bool) → all_h p ≡ true → (g : Heading) → p g ≡ true
each_h p e South = and_1 (p South) _ e
each_h p e East = and_1 (p East) _ (and_2 (p South) _ e)
each_h p e North = and_1 (p North) _ (and_2 (p East) _ (and_2 (p South) _ e))
each_h p e West = and_2 (p North) _ (and_2 (p East) _ (and_2 (p South) _ e))
