-- Slots: where the bounds of blocks stand, how far they reach, and the least and the greatest of their samples. Assumes nothing.
-- Main laws: `samples_most` there are no more samples than bytes; `reach_up`, `reach_few`, `reach_back` how far slots reach; `slot_around`, `slots_within`, `slot_next`, `slot_at`, `slot_blocks` the slots of a block, of whole blocks, of the next one,
--   and of a place, and the blocks of a slot; `bound_none`, `bound_more` one sample more; `low_under`, `high_over` they are bounds.
use mathlib.Core.Path.{◌≡◌, refl, ap, subst}
use mathlib.Core.Bool.{Bool, true, false}
use mathlib.Core.List.{List}
use Prim.Native.Nat.{ℕ, zero, suc, ◌+◌, ◌-◌, ◌*◌, ◌/◌, ◌≤◌, ◌<◌}
use native.Mathlib.Numerals.{add-one}
use native.Mathlib.Omega.{arith}
use lib.Dec.{eqb}
use lib.ListN.{length, get_or}
use borrow.Author.Tests.{eqb-true, eqb-false}
use Rattle.tally.proofs.Test.{by_test}
use Rattle.matte.specs.Picture.{most_places}
use Rattle.store.specs.Store.{samples_of}
use Rattle.store.proofs.Chunks.{pairs_length}
use Rattle.seek.specs.Search.{slot, reach, span, further, bound_of, Bounds, slot_start, slot_end}

-- a buffer has no more samples than bytes
pub samples_most : (wide : Bool) (l : List ℕ) → length (samples_of wide l) ≤ length l
samples_most true l = omega (arith, pairs_length l)
samples_most false l = omega arith

-- ---- slots
-- more slots reach further
pub reach_up : (four : Bool) (c e : ℕ) → c ≤ e → reach four c ≤ reach four e
reach_up true c e h = omega arith
reach_up false c e h = omega arith

-- a picture's slots are few
pub reach_few : (four : Bool) (n m : ℕ) → reach four n ≤ m → m ≤ most_places → n ≤ 65536
reach_few true n m h l = omega arith
reach_few false n m h l = omega arith

-- slots that reach as far as others are as many
pub reach_back : (four : Bool) (n m : ℕ) → reach four n ≤ reach four m → n ≤ m
reach_back true n m h = omega arith
reach_back false n m h = omega arith

-- a block lies within its slot
pub slot_around : (four : Bool) (b : ℕ) → (reach four (slot four b) ≤ 64 * b) × (64 * b + 64 ≤ reach four (slot four b + 1))
slot_around true b = (omega arith, omega arith)
slot_around false b = (omega arith, omega arith)

-- the slots of the whole blocks within n places lie within them
pub slots_within : (four : Bool) (n c : ℕ) → c ≡ slot four (n / 64) → reach four c ≤ n
slots_within four n c e = omega (arith, ap (reach four) e, (slot_around four (n / 64)).0)

-- the next block has the same slot or the next
pub slot_next : (four : Bool) (b : ℕ) → slot four (b + 1) ≤ slot four b + 1
slot_next true b = omega arith
slot_next false b = omega arith

-- the blocks of a slot that are not before block b end where it ends, and places of it before them are before block b
pub slot_blocks : (four : Bool) (c b : ℕ) → 64 * b ≤ reach four (c + 1)
    → (slot_start four c b ≤ slot_end four c) × (64 * slot_end four c ≡ reach four (c + 1)) × (reach four c ≤ 64 * slot_start four c b) × ((j : ℕ) → j < 64 * slot_start four c b → reach four c ≤ j → j < 64 * b)
slot_blocks true c b h = (omega arith, omega arith, omega arith, λ j l g. omega arith)
slot_blocks false c b h = (omega arith, omega arith, omega arith, λ j l g. omega arith)

-- the slot of a place
pub slot_at : (four : Bool) (c e j : ℕ) → reach four c ≤ j → j < reach four e → (c ≤ slot four (j / 64)) × (slot four (j / 64) < e)
slot_at true c e j h l = (omega arith, omega arith)
slot_at false c e j h l = (omega arith, omega arith)

-- a block's samples are of its slot
covers : (four : Bool) (b i : ℕ) → i ≤ 64 → (j : ℕ) × (j ≤ span four) × (reach four (slot four b) + j ≡ 64 * b + i)
covers true b i l = (64 * b + i - 256 * (b / 4), omega arith, omega arith)
covers false b i l = (i, l, refl)

-- ---- bounds
module _ (px : List ℕ) (a : ℕ) where
  pub bound_none : (top : Bool) → get_or px a 0 ≡ bound_of px top a 0
  unfolding bound_of
  bound_none top = refl

  pub bound_more : (top : Bool) (n m v r : ℕ) → m ≡ bound_of px top a n → v ≡ get_or px (a + n + 1) 0 → r ≡ further top m v → r ≡ bound_of px top a (n + 1)
  unfolding bound_of
  bound_more top n m v r d e f = let s : a + n + 1 ≡ a + suc n = omega arith in rw (f, d, e, s, add-one n, bound_of) refl

  least_under : (n i : ℕ) → i ≤ n → bound_of px false a n ≤ get_or px (a + i) 0
  unfolding bound_of
  least_under zero i h = let e : a + i ≡ a = omega arith in rw e (omega arith)
  least_under (suc n) i h =
      by_test (eqb i (suc n))
      (λ e. rw (eqb-true i (suc n) e) (omega arith))
      (λ e. omega (arith, least_under n i (omega (arith, eqb-false i (suc n) e))))

  greatest_over : (n i : ℕ) → i ≤ n → get_or px (a + i) 0 ≤ bound_of px true a n
  unfolding bound_of
  greatest_over zero i h = let e : a + i ≡ a = omega arith in rw e (omega arith)
  greatest_over (suc n) i h =
      by_test (eqb i (suc n))
      (λ e. rw (eqb-true i (suc n) e) (omega arith))
      (λ e. omega (arith, greatest_over n i (omega (arith, eqb-false i (suc n) e))))

module _ (px : List ℕ) (four : Bool) where
  -- of a block's samples
  module _ (b slots : ℕ) (h : slot four b < slots) (i : ℕ) (l : i ≤ 64) where
    pub low_under : (lo : List ℕ) → Bounds px lo false four slots → get_or lo (slot four b) 0 ≤ get_or px (64 * b + i) 0
    low_under lo A =
        let z = covers four b i l in
        rw (A.are (slot four b) h) (subst (λ (j : ℕ). bound_of px false (reach four (slot four b)) (span four) ≤ get_or px j 0) z.2 (least_under px (reach four (slot four b)) (span four) z.0 z.1))

    pub high_over : (hi : List ℕ) → Bounds px hi true four slots → get_or px (64 * b + i) 0 ≤ get_or hi (slot four b) 0
    high_over hi Z =
        let z = covers four b i l in
        rw (Z.are (slot four b) h) (subst (λ (j : ℕ). get_or px j 0 ≤ bound_of px true (reach four (slot four b)) (span four)) z.2 (greatest_over px (reach four (slot four b)) (span four) z.0 z.1))
