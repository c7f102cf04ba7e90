-- The lower median by halves of the byte. Assumes nothing.
-- Main laws: `upper_under` as many upper halves are below u as samples below 16·u; `half_le` how large what is found can be; `by_digits` the median from what is known of its halves;
--   `median_halves` it is what the two searches find.
use mathlib.Core.Path.{◌≡◌, refl, sym, ap, ◌∙◌}
use mathlib.Core.Bool.{Bool, true, false}
use mathlib.Core.List.{List, [], ◌∷◌}
use Prim.Native.Nat.{ℕ, suc, ◌+◌, ◌-◌, ◌*◌, ◌/◌, ◌%◌, ◌≤◌, ◌<◌}
use native.Mathlib.Nat.{div-add-mod', mod-lt}
use native.Mathlib.Omega.{arith}
use lib.Dec.{leb, ltb}
use lib.ListN.{length}
use borrow.Author.Tests.{leb-true, ltb-true, ltb-false, le-leb, lt-ltb}
use Rattle.tally.specs.Tally.{tally, first_from}
use Rattle.tally.proofs.Test.{by_test, iff, no}
use Rattle.tally.proofs.Count.{tally_le}
use Rattle.tally.proofs.First.{from_le, from_ge, from_before, from_passes, from_is}
use Rattle.matte.specs.Layout.{eight}
use Rattle.frame.specs.Frame.{median}
use Rattle.frame.specs.Counts.{heads, under, halves, half_from}
use Rattle.frame.proofs.Seen.{heads_whole}
use Rattle.frame.proofs.Halves.{most_is}

-- a sample's upper half is below u exactly if it is below 16·u
upper_lt : (s u : ℕ) → ltb (s / 16) u ≡ ltb s (16 * u)
upper_lt s u =
    iff
    (λ e. lt-ltb s (16 * u) (let m : s % 16 < 16 = mod-lt s (omega arith) in omega (arith, ltb-true (s / 16) u e, div-add-mod' s 16)))
    (λ e. lt-ltb (s / 16) u (omega (arith, ltb-true s (16 * u) e, div-add-mod' s 16)))

upper_tally : (u : ℕ) (l : List ℕ) → tally (λ s. ltb s u) (heads false l) ≡ tally (λ s. ltb s (16 * u)) l
unfolding tally heads
upper_tally u [] = refl
upper_tally u (s ∷ l) = rw (upper_lt s u, upper_tally u l)

pub upper_under : (l : List ℕ) (u : ℕ) → under false l u ≡ under true l (16 * u)
unfolding under
upper_under l u = upper_tally u l ∙ ap (tally (λ s. ltb s (16 * u))) (sym (heads_whole l))

-- so as many upper halves are at most u as samples at most 16·u + 15
upper_most : (u : ℕ) (l : List ℕ) → tally (λ s. leb s u) (heads false l) ≡ tally (λ s. leb s (16 * u + 15)) l
upper_most u l =
    let e : 16 * suc u ≡ suc (16 * u + 15) = omega arith in
    sym (most_is u (heads false l))
    ∙ upper_tally (suc u) l
    ∙ ap (λ (z : ℕ). tally (λ s. ltb s z) l) e
    ∙ most_is (16 * u + 15) l

pub half_le : (whole : Bool) (top : ℕ) (l : List ℕ) → half_from whole top l ≤ 16 * top + 15
unfolding half_from
half_le whole top l = from_le (halves (length l) (heads whole l)) (16 * top) 15

module _ (l : List ℕ) where
  abbrev half : ℕ → Bool
  half = halves (length l) l

  -- a larger value does as well
  half_on : (v x : ℕ) → v ≤ x → half v ≡ true → half x ≡ true
  half_on v x h e =
      le-leb (length l) (2 * tally (λ s. leb s x) l)
      (omega (
        arith,
        leb-true (length l) (2 * tally (λ s. leb s v) l) e,
        tally_le (λ s. leb s v) (λ s. leb s x) l (λ s t. le-leb s x (omega (arith, leb-true s v t))),
      ))

  -- the law for any first and second digit: u the first for which 16·u + 15 does, and then the first value from 16·u on
  by_digits : (u v : ℕ) → u ≤ 15 → 16 * u ≤ v → v ≤ 16 * u + 15
      → ((j : ℕ) → j < u → half (16 * j + 15) ≡ false) → (u < 15 → half (16 * u + 15) ≡ true)
      → ((j : ℕ) → 16 * u ≤ j → j < v → half j ≡ false) → (v < 16 * u + 15 → half v ≡ true)
      → median eight l ≡ v
  unfolding median
  by_digits u v a b c none some before it =
      from_is half 0 255 v (omega arith) (omega arith)
      (λ j p q.
      by_test (ltb j (16 * u))
      (λ e.
      let k = u - 1 in
      let m : j < 16 * u = ltb-true j (16 * u) e in
      by_test (half j) (λ t. no (half_on j (16 * k + 15) (omega arith) t) (none k (omega arith))) (λ t. t))
      (λ e. before j (omega (arith, ltb-false j (16 * u) e)) q))
      (λ q.
      by_test (ltb v (16 * u + 15))
      (λ e. it (ltb-true v (16 * u + 15) e))
      (λ e. let r : v ≡ 16 * u + 15 = omega (arith, ltb-false v (16 * u + 15) e) in ap half r ∙ some (omega arith)))

  pub median_halves : half_from true (half_from false 0 l) l ≡ median eight l
  unfolding half_from
  median_halves =
      let p : ℕ → Bool = halves (length l) (heads false l) in
      let q : ℕ → Bool = halves (length l) (heads true l) in
      let u = first_from p 0 15 in
      let v = first_from q (16 * u) 15 in
      let upper : (j : ℕ) → p j ≡ half (16 * j + 15) = λ j. ap (λ (z : ℕ). leb (length l) (2 * z)) (upper_most j l) in
      let lower : (j : ℕ) → q j ≡ half j = λ j. ap (λ (m : List ℕ). halves (length l) m j) (heads_whole l) in
      sym
      (by_digits u v (from_le p 0 15) (from_ge q (16 * u) 15) (from_le q (16 * u) 15)
      (λ j h. sym (upper j) ∙ from_before p 0 15 j (omega arith) h)
      (λ h. sym (upper u) ∙ from_passes p 0 15 h)
      (λ j a h. sym (lower j) ∙ from_before q (16 * u) 15 j a h)
      (λ h. sym (lower v) ∙ from_passes q (16 * u) 15 h))
