-- The check of each block of a file. Assumes nothing.
-- Main laws: `check_part` the test of a block is that of the part of the file; `sum_wrong`, `sum_right` the same from its sum;
--   `bad_stop`, `bad_all` the first wrong block.
use mathlib.Core.Path.{◌≡◌, sym, ap, ap₂, ◌∙◌}
use mathlib.Core.Bool.{Bool, true, false, not}
use mathlib.Core.List.{List}
use Prim.Native.Nat.{ℕ, ◌+◌, ◌-◌, ◌*◌, ◌≤◌, ◌<◌}
use native.Mathlib.Omega.{arith}
use lib.Dec.{eqb}
use lib.ListN.{take, drop}
use lib.Seq.{take-take, drop-drop}
use borrow.Author.Tests.{eq-eqb, ne_eqb}
use Rattle.tally.specs.Tally.{first_from}
use Rattle.tally.proofs.First.{from_is}
use Rattle.block.specs.Block.{num4, check}
use Rattle.block.proofs.Bytes.{num4_take, num4_drop}
use Rattle.olr.specs.Read.{blocks, payload, check_fits}
use Rattle.olr.proofs.Laid.{drop_part}

pub check_part : (f : List ℕ) (i k : ℕ) (t : Bool) → k ≡ 512 → t ≡ eqb (num4 (take k (drop (512 * i) f)) 508) (check i (take 508 (take k (drop (512 * i) f)))) → t ≡ check_fits f i
check_part f i k t e h =
    let b = drop (512 * i) f in
    h
    ∙ ap (λ (n : ℕ). eqb (num4 (take n b) 508) (check i (take 508 (take n b)))) e
    ∙ ap₂ eqb (num4_take 512 b 508 (omega arith) ∙ num4_drop (512 * i) f 508) (ap (check i) (take-take 508 512 b (omega arith)))

-- block j, at a in the k bytes from block i on: the same from its sum s and the number v that it has
module _ (f : List ℕ) (i j a k s v : ℕ) (at : 512 * j ≡ 512 * i + a) (long : a + 512 ≤ k) (p : s ≡ check j (take 508 (drop a (take k (drop (512 * i) f))))) (q : v ≡ num4 (take k (drop (512 * i) f)) (a + 508)) where
  part_payload : take 508 (drop a (take k (drop (512 * i) f))) ≡ payload f j
  part_payload =
      ap (take 508) (drop_part a k (drop (512 * i) f))
      ∙ take-take 508 (k - a) (drop a (drop (512 * i) f)) (omega arith)
      ∙ ap (take 508) (drop-drop a (512 * i) f ∙ ap (λ (n : ℕ). drop n f) (sym at))

  part_number : num4 (take k (drop (512 * i) f)) (a + 508) ≡ num4 f (512 * j + 508)
  part_number = num4_take k (drop (512 * i) f) (a + 508) (omega arith) ∙ num4_drop (512 * i) f (a + 508) ∙ ap (num4 f) (omega arith)

  sum_told : eqb v s ≡ check_fits f j
  sum_told = ap₂ eqb (q ∙ part_number) (p ∙ ap (check j) part_payload)

  pub sum_wrong : (v ≡ s → ⊥) → not (check_fits f j) ≡ true
  sum_wrong h = ap not (sym sum_told ∙ ne_eqb v s h)

  pub sum_right : v ≡ s → not (check_fits f j) ≡ false
  sum_right h = ap not (sym sum_told ∙ eq-eqb v s h)

module _ (f : List ℕ) (i : ℕ) (before : (j : ℕ) → j < i → not (check_fits f j) ≡ false) where
  pub bad_stop : i < blocks f → not (check_fits f i) ≡ true → i ≡ first_from (λ j. not (check_fits f j)) 0 (blocks f)
  bad_stop h e = sym (from_is (λ j. not (check_fits f j)) 0 (blocks f) i (omega arith) (omega arith) (λ j _ l. before j l) (λ _. e))

  pub bad_all : i ≡ blocks f → blocks f ≡ first_from (λ j. not (check_fits f j)) 0 (blocks f)
  bad_all h =
      sym h ∙ sym (from_is (λ j. not (check_fits f j)) 0 (blocks f) i (omega arith) (omega arith) (λ j _ l. before j l) (λ l. absurd (omega arith)))
