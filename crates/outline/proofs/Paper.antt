-- The paper's rule of following, on samples and a level, is following over high places with one saddle bit a cell. Assumes nothing.
-- Definitions: `bit` the saddle bit of a cell.
-- Main laws: `entered_at`, `entered_at_lem`, `right_low`, `left_high` the cell that a crossing enters, its heading there and the corners beside it; `saddle_ns`, `saddle_ew` the saddle's test is the same
--   from opposite entries; `leave_is`, `next_is` the paper's rule is the abstract one on every crossed code; `closed_at`, `headed_at` so the laws of orbits hold of `next`; `kept_along` a mark that
--   `next` keeps.
use mathlib.Core.Path.{◌≡◌, refl, sym, ap, ◌∙◌}
use mathlib.Core.Bool.{Bool, true, false, not, cond}
use mathlib.Core.List.{List}
use Prim.Native.Nat.{ℕ, ◌+◌, ◌*◌}
use lib.Dec.{ltb}
use borrow.Author.Tests.{not-true}
use Rattle.tally.specs.Tally.{count}
use Rattle.tally.proofs.Test.{and_1, and_2}
use Rattle.orbit.specs.Orbit.{orbit}
use Rattle.orbit.proofs.Orbit.{Closed, orbit_same}
use Rattle.orbit.proofs.On.{on}
use Rattle.orbit.proofs.Partition.{Headed}
use Rattle.matte.specs.Picture.{Picture, size, at, high}
use Rattle.edgel.specs.declared.Heading.{Heading}
use Rattle.edgel.specs.declared.Heading.TheVariants.{South, East, North, West}
use Rattle.edgel.specs.Edgel.{horizontal}
use Rattle.cell.specs.Turn.{saddle, turn, out, into, corners, leave, next}
use Rattle.cell.proofs.Five.{enters, leave_by}
use Rattle.cell.proofs.Saddle.{saddle_round}
use Rattle.cell.proofs.Steps.{At}
use Rattle.outline.specs.Line.{cut_at}
use Rattle.outline.proofs.Codes.{into_out}
use Rattle.outline.proofs.Entered.{five, next_by, Entered, entered, heads, goes}
use Rattle.outline.proofs.Follow.{closed, headed, Kept}
use Rattle.outline.proofs.Border.{Border, frame}

turn_same : (x y s t : Bool) (g : Heading) → (x ≡ true → y ≡ false → s ≡ t) → turn x y s g ≡ turn x y t g
turn_same true true s t g q = refl
turn_same true false s t g q = ap (λ (z : Bool). turn true false z g) (q refl refl)
turn_same false true s t g q = refl
turn_same false false s t g q = refl

module _ (P : Picture) (k : ℕ) where
  pub saddle_ns : (t : ℕ) → saddle k (corners P North t) ≡ saddle k (corners P South t)
  saddle_ns t = saddle_round k (at P (t + P.w + 1)) (at P (t + 1)) (at P t) (at P (t + P.w))

  pub saddle_ew : (t : ℕ) → saddle k (corners P West t) ≡ saddle k (corners P East t)
  saddle_ew t = saddle_round k (at P (t + 1)) (at P t) (at P (t + P.w)) (at P (t + P.w + 1))

  -- one bit for the cell
  unfoldable pub bit : ℕ → Bool
  bit t = cond (high P k t) (saddle k (corners P East t)) (saddle k (corners P South t))

  bit_high : (t : ℕ) → high P k t ≡ true → bit t ≡ saddle k (corners P East t)
  unfolding bit
  bit_high t e = ap (λ (z : Bool). cond z (saddle k (corners P East t)) (saddle k (corners P South t))) e

  bit_low : (t : ℕ) → high P k t ≡ false → bit t ≡ saddle k (corners P South t)
  unfolding bit
  bit_low t e = ap (λ (z : Bool). cond z (saddle k (corners P East t)) (saddle k (corners P South t))) e

  pub leave_is : (g : Heading) (t : ℕ) → enters g (five (high P k) bit P.w t) ≡ true → leave P k g t ≡ leave_by g (five (high P k) bit P.w t)
  unfolding leave
  leave_is South t e =
      turn_same (high P k (t + P.w)) (high P k (t + P.w + 1)) (saddle k (corners P South t)) (bit t) South (λ x y. sym (bit_low t (not-true (high P k t) (and_1 _ _ e))))
  leave_is East t e =
      turn_same (high P k (t + P.w + 1)) (high P k (t + 1)) (saddle k (corners P East t)) (bit t) East (λ x y. sym (bit_high t (and_2 (not (high P k (t + P.w))) _ e)))
  leave_is North t e = turn_same (high P k (t + 1)) (high P k t) (saddle k (corners P North t)) (bit t) North (λ x y. saddle_ns t ∙ sym (bit_low t y))
  leave_is West t e = turn_same (high P k t) (high P k (t + P.w)) (saddle k (corners P West t)) (bit t) West (λ x y. saddle_ew t ∙ sym (bit_high t x))

  pub next_entered : (c : ℕ) → Entered (high P k) bit P.w P.h c → next P k c ≡ next_by (high P k) bit P.w c
  unfolding next
  next_entered c E =
      ap (λ (z : Heading). out P.w (leave P k z (into P.w z c)) (into P.w z c)) (heads (high P k) bit P.w P.h c E)
      ∙ ap (λ (z : ℕ). out P.w (leave P k E.g z) z) (ap (into P.w E.g) E.code ∙ into_out P.w E.g E.t)
      ∙ ap (λ (z : Heading). out P.w z E.t) (leave_is E.g E.t E.enter)
      ∙ sym (goes (high P k) bit P.w P.h c E)

-- entered, the right-hand corner is low and the left-hand corner high
pub right_low : (P : Picture) (k : ℕ) (g : Heading) (t : ℕ) → enters g (five (high P k) (bit P k) P.w t) ≡ true → ltb k (corners P g t).p0 ≡ false
right_low P k South t e = not-true (high P k t) (and_1 _ _ e)
right_low P k East t e = not-true (high P k (t + P.w)) (and_1 _ _ e)
right_low P k North t e = not-true (high P k (t + P.w + 1)) (and_1 _ _ e)
right_low P k West t e = not-true (high P k (t + 1)) (and_1 _ _ e)

pub left_high : (P : Picture) (k : ℕ) (g : Heading) (t : ℕ) → enters g (five (high P k) (bit P k) P.w t) ≡ true → ltb k (corners P g t).p3 ≡ true
left_high P k South t e = and_2 (not (high P k t)) _ e
left_high P k East t e = and_2 (not (high P k (t + P.w))) _ e
left_high P k North t e = and_2 (not (high P k (t + P.w + 1))) _ e
left_high P k West t e = and_2 (not (high P k (t + 1))) _ e

pub entered_at_lem : (P : Picture) (k c : ℕ) (E : Entered (high P k) (bit P k) P.w P.h c) → At P k c E.g E.t
entered_at_lem P k c E =
    record {
      heading = heads (high P k) (bit P k) P.w P.h c E;
      cell = ap (into P.w E.g) E.code ∙ into_out P.w E.g E.t;
    }

module _ (P : Picture) (B : Border P) (k : ℕ) where
  -- the cell that a crossing enters, and its heading there
  pub entered_at : (c : ℕ) → cut_at P k c ≡ true → Entered (high P k) (bit P k) P.w P.h c
  entered_at c o = entered (high P k) (bit P k) P.w P.h (high P k 0) (frame P B k) c o

  pub next_is : (c : ℕ) → cut_at P k c ≡ true → next P k c ≡ next_by (high P k) (bit P k) P.w c
  next_is c o = next_entered P k c (entered_at c o)

  K : Closed (next_by (high P k) (bit P k) P.w) (cut_at P k) (2 * size P)
  K = closed (high P k) (bit P k) P.w P.h (high P k 0) (frame P B k)

  pub closed_at : Closed (next P k) (cut_at P k) (2 * size P)
  closed_at =
      record {
        bound = K.bound;
        stays = λ c o. ap (cut_at P k) (next_is c o) ∙ K.stays c o;
        inj = λ c d o p e. K.inj c d o p (sym (next_is c o) ∙ e ∙ next_is d p);
      }

  pub headed_at : Headed (next P k) (cut_at P k) horizontal (2 * size P)
  unfolding Headed on
  headed_at c o =
      let x = headed (high P k) (bit P k) P.w P.h (high P k 0) (frame P B k) c o in
      let e : orbit (next P k) c (2 * size P) c ≡ orbit (next_by (high P k) (bit P k) P.w) c (2 * size P) c =
      orbit_same (next_by (high P k) (bit P k) P.w) (next P k) (cut_at P k) K.stays next_is c (2 * size P) c o in
      (x.0, x.1, ap (λ (l : List ℕ). ltb 0 (count x.0 l)) e ∙ x.2)

  pub kept_along : (M : ℕ → Bool) → ((c : ℕ) → M c ≡ true → cut_at P k c ≡ true) → ((c : ℕ) → cut_at P k c ≡ true → M (next P k c) ≡ M c) → Kept (high P k) (bit P k) P.w P.h M
  kept_along M a b = record { only = a; along = λ c o. ap M (sym (next_is c o)) ∙ b c o }
