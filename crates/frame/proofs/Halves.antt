-- The half searched in 16 counts. Assumes nothing.
-- Definitions: `Below` what has been summed up, and that half was not reached.
-- Main laws: `begin`, `go`, `stop`, `end` the search for the half; `room_le` a sum of counts is within bounds; `under_is`, `at_most` the counts before a value, and up to it, say how many are below it, and
--   do not exceed it; `counts_sum` 16 counts and what is below them are at most the length; `found_half` the half of the counts is the first value that half of the heads do not exceed; `found_under` how many
--   are below it.
use mathlib.Core.Path.{◌≡◌, refl, sym, ap, ◌∙◌}
use mathlib.Core.Bool.{Bool, false}
use mathlib.Core.List.{List, [], ◌∷◌}
use Prim.Native.Nat.{ℕ, suc, ◌+◌, ◌-◌, ◌*◌, ◌≤◌, ◌<◌}
use native.Mathlib.Nat.{add-suc}
use native.Mathlib.Omega.{arith}
use lib.Dec.{eqb, leb, ltb, leb-suc-suc}
use lib.ListN.{length, get_or}
use borrow.Author.Tests.{eqb-true, eqb-false, ltb-true, ltb-false, le-leb, lt-leb}
use Rattle.tally.specs.Tally.{one, sum, count, tally, first_from}
use Rattle.tally.proofs.Test.{by_test}
use Rattle.tally.proofs.Sum.{sum_same, sum_zero, sum_plus, sum_cut, sum_on, sum_off}
use Rattle.tally.proofs.Count.{tally_same, tally_length}
use Rattle.tally.proofs.First.{from_le, from_before, from_passes, from_is}
use Rattle.frame.specs.Counts.{heads, counts, under, halfway, halves, half_from}
use Rattle.frame.proofs.Seen.{heads_long, counts_at}

module _ (t : List ℕ) (b n : ℕ) where
  abbrev reached : ℕ → Bool
  reached d = leb n (2 * (b + sum (λ i. get_or t i 0) (suc d)))

pub record Below (t : List ℕ) (b n upto d : ℕ) : Type 0 where
  pub value : d ≤ 15
  pub sums : upto ≡ b + sum (λ i. get_or t i 0) d
  pub passed : (j : ℕ) → j < d → leb n (2 * (b + sum (λ i. get_or t i 0) (suc j))) ≡ false

module _ (t : List ℕ) (b n : ℕ) where
  pub begin : Below t b n b 0
  unfolding sum
  begin = record { value = omega arith; sums = omega arith; passed = λ j h. absurd (omega arith) }

  step : (d : ℕ) → sum (λ i. get_or t i 0) (suc d) ≡ sum (λ i. get_or t i 0) d + get_or t d 0
  unfolding sum
  step d = refl

  pub room_le : (upto d : ℕ) → Below t b n upto d → d < 15 → b + sum (λ i. get_or t i 0) 16 ≤ 4194304 → upto + get_or t d 0 ≤ 4194304
  room_le upto d B h r =
      let e : suc d + (15 - d) ≡ 16 = omega arith in
      let q : sum (λ i. get_or t i 0) 16 ≡ sum (λ i. get_or t i 0) (suc d) + sum (λ i. get_or t (suc d + i) 0) (15 - d) =
      ap (sum (λ i. get_or t i 0)) (sym e) ∙ sum_cut (λ i. get_or t i 0) (suc d) (15 - d) in
      omega (arith, B.sums, step d)

  pub go : (upto d : ℕ) → Below t b n upto d → d < 15 → 2 * (upto + get_or t d 0) < n → Below t b n (upto + get_or t d 0) (d + 1)
  go upto d B h l = record {
    value = omega arith;
    sums = let s : d + 1 ≡ suc d = omega arith in rw s (omega (arith, B.sums, step d));
    passed =
        λ j k.
        by_test (eqb j d)
        (λ e. let s : j ≡ d = eqb-true j d e in rw s (lt-leb n _ (omega (arith, B.sums, step d))))
        (λ e. B.passed j (omega (arith, eqb-false j d e)));
  }

  pub stop : (upto d : ℕ) → Below t b n upto d → d < 15 → n ≤ 2 * (upto + get_or t d 0) → d ≡ halfway t b n
  unfolding halfway
  stop upto d B h l =
      sym
      (from_is (reached t b n) 0 15 d (omega arith) (omega arith) (λ j p q. B.passed j q)
      (λ k. le-leb n _ (omega (arith, B.sums, step d))))

  pub end : (upto d : ℕ) → Below t b n upto d → 15 ≤ d → d ≡ halfway t b n
  unfolding halfway
  end upto d B h =
      sym (from_is (reached t b n) 0 15 d (omega arith) (omega (arith, B.value)) (λ j p q. B.passed j q) (λ k. absurd (omega arith)))

pub halfway_le : (t : List ℕ) (b n : ℕ) → halfway t b n ≤ 15
unfolding halfway
halfway_le t b n = from_le (reached t b n) 0 15

-- ---- counts as tallies
pub under_is : (v : ℕ) (l : List ℕ) → sum (λ i. count i l) v ≡ tally (λ s. ltb s v) l
unfolding count tally
under_is v [] = sum_zero v
under_is v (x ∷ l) =
    sum_plus (λ i. one (eqb i x)) (λ i. count i l) v
    ∙ by_test (ltb x v)
    (λ e. rw (e, sum_on x v (ltb-true x v e), under_is v l))
    (λ e. rw (e, sum_off x v (omega (arith, ltb-false x v e)), under_is v l))

pub most_is : (v : ℕ) (l : List ℕ) → tally (λ s. ltb s (suc v)) l ≡ tally (λ s. leb s v) l
most_is v l = tally_same (λ s. ltb s (suc v)) (λ s. leb s v) l (λ s h. leb-suc-suc s v)

pub at_most : (v : ℕ) (l : List ℕ) → sum (λ i. count i l) (suc v) ≡ tally (λ s. leb s v) l
at_most v l = under_is (suc v) l ∙ most_is v l

pub under_none : (whole : Bool) (l : List ℕ) → 0 ≡ under whole l 0
unfolding under sum
under_none whole l = under_is 0 (heads whole l)

-- ---- the first of 16 values
module _ (whole : Bool) (top : ℕ) (l : List ℕ) where
  abbrev H : List ℕ
  H = heads whole l

  entries : (d : ℕ) → d ≤ 16 → under whole l (16 * top) + sum (λ i. get_or (counts whole top l) i 0) d ≡ sum (λ i. count i H) (16 * top + d)
  unfolding under
  entries d h =
      ap (λ (z : ℕ). z + sum (λ i. get_or (counts whole top l) i 0) d) (sym (under_is (16 * top) H))
      ∙ ap (λ (z : ℕ). sum (λ i. count i H) (16 * top) + z)
      (sum_same (λ i. get_or (counts whole top l) i 0) (λ i. count (16 * top + i) H) d (λ i k. counts_at whole top l i (omega arith)))
      ∙ sym (sum_cut (λ i. count i H) (16 * top) d)

  counts_under : (d : ℕ) → d ≤ 16 → under whole l (16 * top) + sum (λ i. get_or (counts whole top l) i 0) d ≡ under whole l (16 * top + d)
  unfolding under
  counts_under d h = entries d h ∙ under_is (16 * top + d) H

  pub counts_sum : under whole l (16 * top) + sum (λ i. get_or (counts whole top l) i 0) 16 ≤ length l
  unfolding under
  counts_sum = rw (counts_under 16 (omega arith)) (omega (arith, tally_length (λ s. ltb s (16 * top + 16)) H, heads_long whole l))

  up_to : (d : ℕ) → d ≤ 15 → under whole l (16 * top) + sum (λ i. get_or (counts whole top l) i 0) (suc d) ≡ tally (λ s. leb s (16 * top + d)) H
  up_to d h = entries (suc d) (omega arith) ∙ ap (sum (λ i. count i H)) (add-suc (16 * top) d) ∙ at_most (16 * top + d) H

  half_is : 16 * top + halfway (counts whole top l) (under whole l (16 * top)) (length l) ≡ half_from whole top l
  unfolding halfway half_from
  half_is =
      let p : ℕ → Bool = reached (counts whole top l) (under whole l (16 * top)) (length l) in
      let q : ℕ → Bool = halves (length l) H in
      let d = first_from p 0 15 in
      let same : (j : ℕ) → j ≤ 15 → p j ≡ q (16 * top + j) = λ j h. ap (λ (z : ℕ). leb (length l) (2 * z)) (up_to j h) in
      sym
      (from_is q (16 * top) 15 (16 * top + d) (omega arith) (omega (arith, from_le p 0 15))
      (λ j a b.
      let k = j - 16 * top in
      let e : j ≡ 16 * top + k = omega arith in
      ap q e ∙ sym (same k (omega (arith, from_le p 0 15))) ∙ from_before p 0 15 k (omega arith) (omega arith))
      (λ b. sym (same d (omega arith)) ∙ from_passes p 0 15 (omega arith)))

  -- as a search of the counts finds it
  module _ (t : List ℕ) (b n d x : ℕ) (held : t ≡ counts whole top l) (start : b ≡ under whole l (16 * top)) where
    pub found_half : n ≡ length l → d ≡ halfway t b n → 16 * top + d ≡ half_from whole top l
    found_half k e = ap (λ (z : ℕ). 16 * top + z) (e ∙ rw (held, start, k)) ∙ half_is

    pub found_under : d ≤ 16 → x ≡ b + sum (λ i. get_or t i 0) d → x ≡ under whole l (16 * top + d)
    found_under h e = e ∙ rw (held, start) (counts_under d h)
