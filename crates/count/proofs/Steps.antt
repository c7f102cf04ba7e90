-- Steps along an ascending list, and the list's length by the steps of neighbours. Assumes nothing.
-- Main laws: `steps_passed`, `steps_stays`, `steps_over` the step of v + 1 from that of v: one more where the level at that index is at most v, else the same; `steps_sum` a byte's step is a sum over as many indices as there are levels, or more; `table_at` an entry of the table; `steps_few` a step is a byte; `steps_none`;
--   `listed_places` the list has as many words as the steps of all neighbours above the last row are apart; `row_end` nothing at a row's last place.
use mathlib.Core.Path.{◌≡◌, refl, sym, ap, ◌∙◌}
use mathlib.Core.Bool.{Bool, true, ◌&&◌}
use mathlib.Core.List.{List, [], ◌∷◌}
use Prim.Native.Nat.{ℕ, zero, suc, ◌+◌, ◌-◌, ◌*◌, ◌/◌, ◌%◌, ◌≤◌, ◌<◌}
use native.Mathlib.Nat.{zero-add, div-add-mod'}
use native.Mathlib.Omega.{arith}
use lib.Dec.{ltb, leb}
use lib.Arith.{digits_mod}
use lib.ListN.{length, get_or}
use borrow.Author.Tests.{ltb-true, ltb-false, lt-ltb, le-ltb, leb-true}
use Rattle.tally.specs.Tally.{one, differ, apart, sum, total, tally}
use Rattle.tally.proofs.Test.{by_test, and_1, and_2}
use Rattle.tally.proofs.Sum.{sum_same, sum_none, sum_cut, total_same, total_plus, total_sum}
use Rattle.tally.proofs.Count.{tally_total, tally_length}
use Rattle.tally.proofs.Build.{build_at}
use Rattle.matte.specs.Layout.{Layout, eight}
use Rattle.matte.specs.Picture.{Picture, size, at, ascend, levels_fit}
use Rattle.outline.specs.List.{listed}
use Rattle.outline.proofs.Counting.{cut_steps}
use Rattle.outline.proofs.Listed.{listed_length}
use Rattle.refuse.specs.Shape.{Ground}
use Rattle.count.specs.Count.{crossings, pair_at}
use Rattle.count.specs.Steps.{steps, level_or, step_table, places}
use Rattle.count.proofs.Flat.{border_of}
use Rattle.count.proofs.Counting.{crossings_sum, levels_few}

-- ---- along the list
-- levels from `low` on are not below v
above : (L : Layout) (low : ℕ) (ks : List ℕ) (v : ℕ) → v ≤ low → ascend L low ks ≡ true → steps ks v ≡ 0
unfolding ascend tally
above L low [] v h e = refl
above L low (k ∷ ks) v h e =
    let a : low ≤ k = leb-true low k (and_1 (leb low k) _ e) in
    let r = and_2 (ltb k L.most) _ (and_2 (leb low k) (ltb k L.most && ascend L (k + 1) ks) e) in
    rw (le-ltb k v (omega arith), above L (k + 1) ks v (omega arith) r)

less_suc : (a b : ℕ) → ltb (suc a) (suc b) ≡ ltb a b
less_suc a b =
    by_test (ltb a b)
    (λ t. lt-ltb (suc a) (suc b) (omega (arith, ltb-true a b t)) ∙ sym t)
    (λ t. le-ltb (suc a) (suc b) (omega (arith, ltb-false a b t)) ∙ sym t)

-- the level at index s is there and below v; one index on in a list with one more in front
unfoldable met : List ℕ → ℕ → ℕ → ℕ
met ks s v = one (ltb s (length ks) && ltb (get_or ks s 0) v)

met_later : (k : ℕ) (ks : List ℕ) (s v : ℕ) → met (k ∷ ks) (1 + s) v ≡ met ks s v
unfolding met
met_later k ks s v =
    let e : 1 + s ≡ suc s = omega arith in
    ap (λ (z : ℕ). met (k ∷ ks) z v) e ∙ ap (λ (b : Bool). one (b && ltb (get_or ks s 0) v)) (less_suc s (length ks))

met_first : (k : ℕ) (ks : List ℕ) (v : ℕ) → met (k ∷ ks) 0 v ≡ one (ltb k v)
unfolding met
met_first k ks v = ap (λ (b : Bool). one (b && ltb k v)) (lt-ltb 0 (length (k ∷ ks)) (omega arith))

next : (L : Layout) (low : ℕ) (ks : List ℕ) (v : ℕ) → ascend L low ks ≡ true
    → steps ks (v + 1) ≡ steps ks v + met ks (steps ks v) (v + 1)
unfolding ascend tally met
next L low [] v e = refl
next L low (k ∷ ks) v e =
    let r : ascend L (k + 1) ks ≡ true = and_2 (ltb k L.most) _ (and_2 (leb low k) (ltb k L.most && ascend L (k + 1) ks) e) in
    by_test (ltb k v)
    (λ t.
    let h : k < v = ltb-true k v t in
    rw (t, lt-ltb k (v + 1) (omega arith)) (omega (arith, next L (k + 1) ks v r, met_later k ks (steps ks v) (v + 1))))
    (λ t.
    let h : v ≤ k = ltb-false k v t in
    rw (t, above L (k + 1) ks v (omega arith) r, above L (k + 1) ks (v + 1) (omega arith) r) (omega (arith, met_first k ks (v + 1))))

module _ (ks : List ℕ) (e : levels_fit eight ks ≡ true) (j v : ℕ) (p : j ≡ steps ks v) where
  pub steps_passed : j < length ks → get_or ks j 0 ≤ v → j + 1 ≡ steps ks (v + 1)
  unfolding met
  steps_passed h a = rw (next eight 0 ks v e, ← p, lt-ltb j (length ks) h, lt-ltb (get_or ks j 0) (v + 1) (omega arith))

  pub steps_stays : j < length ks → v < get_or ks j 0 → j ≡ steps ks (v + 1)
  unfolding met
  steps_stays h a = rw (next eight 0 ks v e, ← p, lt-ltb j (length ks) h, le-ltb (get_or ks j 0) (v + 1) (omega arith)) (omega arith)

  pub steps_over : length ks ≤ j → j ≡ steps ks (v + 1)
  unfolding met
  steps_over h = rw (next eight 0 ks v e, ← p, le-ltb j (length ks) h) (omega arith)

-- ---- by index
-- no byte is above 255, so that the indices past the end add nothing
pub steps_sum : (ks : List ℕ) (m v : ℕ) → length ks ≤ m → v < 256 → steps ks v ≡ sum (λ j. one (ltb (level_or ks j) v)) m
unfolding tally sum
steps_sum [] m v h b = sym (sum_none (λ j. one (ltb 255 v)) m (λ j l. ap one (le-ltb 255 v (omega arith))))
steps_sum (k ∷ ks) zero v h b = absurd (omega arith)
steps_sum (k ∷ ks) (suc m) v h b =
    let f : ℕ → ℕ = λ j. one (ltb (level_or ks j) v) in
    let g : ℕ → ℕ = λ j. one (ltb (level_or (k ∷ ks) j) v) in
    let s : suc m ≡ 1 + m = omega arith in
    let t : sum (λ j. g (1 + j)) m ≡ sum f m = sum_same (λ j. g (1 + j)) f m (λ j l. let e : 1 + j ≡ suc j = omega arith in ap g e) in
    let r : steps ks v ≡ sum f m = steps_sum ks m v (omega arith) b in
    omega (arith, ap (sum g) s ∙ sum_cut g 1 m)

-- ---- the table
pub steps_few : (ks : List ℕ) (v : ℕ) → levels_fit eight ks ≡ true → steps ks v < 256
steps_few ks v e = omega (arith, tally_length (λ k. ltb k v) ks, levels_few eight ks e)

pub steps_none : (ks : List ℕ) → levels_fit eight ks ≡ true → 0 ≡ steps ks 0
steps_none ks e = sym (above eight 0 ks 0 (omega arith) e)

pub table_at : (ks : List ℕ) (v : ℕ) → v < 256 → get_or (step_table ks) v 0 ≡ steps ks v
table_at ks v h = build_at (steps ks) 0 256 v h ∙ ap (steps ks) (zero-add v)

-- ---- all levels at once
module _ (P : Picture) (G : Ground P) (ks : List ℕ) where
  pub listed_places : length (listed eight P ks) ≡ sum (places P ks) (size P - P.w)
  unfolding crossings
  listed_places =
      let n = size P - P.w in
      let f : ℕ → ℕ → ℕ → ℕ = λ i j k. one (differ (ltb k (at P i)) (ltb k (at P j))) in
      let g : (i j : ℕ) → total (f i j) ks ≡ apart (steps ks (at P i)) (steps ks (at P j)) =
      λ i j. tally_total (λ k. differ (ltb k (at P i)) (ltb k (at P j))) ks ∙ cut_steps ks (at P i) (at P j) in
      listed_length eight P (border_of P G) ks
      ∙ total_same (crossings P) (λ k. sum (pair_at P.px P.w k) n) ks (λ k h. crossings_sum P G k)
      ∙ total_sum (λ k i. pair_at P.px P.w k i) n ks
      ∙ sum_same (λ i. total (λ k. pair_at P.px P.w k i) ks) (places P ks) n
      (λ i h. total_plus (f i (i + 1)) (f i (i + P.w)) ks ∙ ap (λ (z : ℕ). z + total (f i (i + P.w)) ks) (g i (i + 1)) ∙ ap (λ (z : ℕ). apart (steps ks (at P i)) (steps ks (at P (i + 1))) + z) (g i (i + P.w)))

  -- a row's last sample, the one below it and the next row's first are all border
  pub row_end : (i : ℕ) → i + P.w < size P → i % P.w + 1 ≡ P.w → places P ks i ≡ 0
  row_end i l e =
      let B = border_of P G in
      let d : i / P.w * P.w + i % P.w ≡ i = div-add-mod' i P.w in
      let p : 2 ≤ P.w = G.sides.w_least in
      let s : i + 1 ≡ (i / P.w + 1) * P.w + 0 = omega arith in
      let t : i + P.w ≡ (i / P.w + 1) * P.w + i % P.w = omega arith in
      let m : (i + 1) % P.w ≡ 0 = ap (λ (z : ℕ). z % P.w) s ∙ digits_mod (i / P.w + 1) (omega arith) in
      let n : (i + P.w) % P.w ≡ i % P.w = ap (λ (z : ℕ). z % P.w) t ∙ digits_mod (i / P.w + 1) (omega arith) in
      rw (B.rights i (omega arith) e, B.lefts (i + 1) (omega arith) m, B.rights (i + P.w) l (omega arith)) (omega arith)
