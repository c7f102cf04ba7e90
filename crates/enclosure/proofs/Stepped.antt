-- Counting listed levels between two samples, upwards and downwards, by what the samples are stepped to. Nothing here knows of pictures. Assumes nothing.
-- Definitions: `hits lv x y k` 1 if level k is listed and between x and y, else 0. `st z` is how many listed levels are below z.
-- Main laws: `sum_back` a sum taken from its upper end downwards; `part`, `whole` the listed levels between two samples, up to one of them and all; `steps_suc`, `steps_top`, `steps_index`,
--   `steps_after` the stepped value of a sample one higher, of one above all levels, and of the levels themselves: the n-th level is stepped to n.
use mathlib.Core.Path.{◌≡◌, refl, sym, ap, ◌∙◌}
use mathlib.Core.Bool.{Bool, true, false, ◌&&◌}
use mathlib.Core.List.{List, [], ◌∷◌}
use Prim.Native.Nat.{ℕ, zero, suc, ◌+◌, ◌-◌, ◌≤◌, ◌<◌}
use native.Mathlib.Omega.{arith}
use lib.Dec.{eqb, ltb, leb}
use lib.ListN.{length, get_or}
use borrow.Author.Tests.{ltb-true, ltb-false, lt-ltb, le-ltb, eqb-true, eqb-false}
use Rattle.tally.specs.Tally.{one, differ, sum, count, tally}
use Rattle.tally.proofs.Test.{by_test, and_2, differ_comm}
use Rattle.tally.proofs.Count.{tally_none, tally_eq, count_at}
use Rattle.matte.specs.Layout.{Layout}
use Rattle.matte.specs.Picture.{ascend, levels_fit}
use Rattle.outline.proofs.Levels.{level_below, level_once, ascend_ge}
use Rattle.outline.proofs.Counting.{steps}
use Rattle.enclosure.proofs.Lists.{and_true, and_false, tally_split}
use Rattle.enclosure.proofs.Before.{listed_level}

pub sum_back : (g : ℕ → ℕ) (W p : ℕ) → p ≤ W → sum (λ r. g (W - 1 - r)) p + sum g (W - p) ≡ sum g W
unfolding sum
sum_back g W zero h =
    let s : W - 0 ≡ W = omega arith in
    let t : sum g (W - 0) ≡ sum g W = ap (sum g) s in
    omega arith
sum_back g W (suc p) h =
    let s : W - p ≡ suc (W - suc p) = omega arith in
    let t : W - 1 - p ≡ W - suc p = omega arith in
    let a : sum g (W - p) ≡ sum g (W - suc p) + g (W - suc p) = ap (sum g) s in
    let b : g (W - 1 - p) ≡ g (W - suc p) = ap g t in
    omega (arith, sum_back g W p (omega arith))

-- ---- between two samples
abbrev pub hits : (ℕ → Bool) → ℕ → ℕ → ℕ → ℕ
hits lv x y k = one (lv k && differ (ltb k x) (ltb k y))

pub hits_comm : (lv : ℕ → Bool) (x y k : ℕ) → hits lv x y k ≡ hits lv y x k
hits_comm lv x y k = ap (λ (z : Bool). one (lv k && z)) (differ_comm (ltb k x) (ltb k y))

module _ (lv : ℕ → Bool) (st : ℕ → ℕ) (more : (z : ℕ) → st (suc z) ≡ st z + one (lv z)) where
  hit : (x y k : ℕ) → differ (ltb k x) (ltb k y) ≡ true → hits lv x y k ≡ one (lv k)
  hit x y k e = ap (λ (z : Bool). one (lv k && z)) e ∙ ap one (and_true (lv k))

  miss : (x y k : ℕ) → differ (ltb k x) (ltb k y) ≡ false → hits lv x y k ≡ 0
  miss x y k e = ap (λ (z : Bool). one (lv k && z)) e ∙ ap one (and_false (lv k))

  none : (x y p : ℕ) → x ≤ y → p ≤ x → sum (hits lv x y) p ≡ 0
  unfolding sum
  none x y zero a b = refl
  none x y (suc p) a b =
      let g : hits lv x y p ≡ 0 = miss x y p (rw (lt-ltb p x b, lt-ltb p y (omega arith))) in
      omega (arith, none x y p a (omega arith))

  pub part : (x y p : ℕ) → x ≤ y → x ≤ p → p ≤ y → sum (hits lv x y) p + st x ≡ st p
  unfolding sum
  part x y zero a b c =
      let t : x ≡ 0 = omega arith in
      let s : st x ≡ st 0 = ap st t in
      omega arith
  part x y (suc p) a b c =
      by_test (ltb p x)
      (λ e.
      let t : x ≡ suc p = omega (arith, ltb-true p x e) in
      let s : st x ≡ st (suc p) = ap st t in
      omega (arith, none x y (suc p) a (omega arith)))
      (λ e.
      let g : hits lv x y p ≡ one (lv p) = hit x y p (rw (e, lt-ltb p y c)) in
      omega (arith, part x y p a (ltb-false p x e) (omega arith), more p))

  past : (x y p : ℕ) → x ≤ y → y ≤ p → sum (hits lv x y) p + st x ≡ st y
  unfolding sum
  past x y zero a b =
      let t : x ≡ y = omega arith in
      let s : st x ≡ st y = ap st t in
      omega arith
  past x y (suc p) a b =
      by_test (ltb p y)
      (λ e.
      let t : suc p ≡ y = omega (arith, ltb-true p y e) in
      let s : st (suc p) ≡ st y = ap st t in
      omega (arith, part x y (suc p) a (omega arith) (omega arith)))
      (λ e.
      let u : y ≤ p = ltb-false p y e in
      let g : hits lv x y p ≡ 0 = miss x y p (rw (le-ltb p x (omega arith), e)) in
      omega (arith, past x y p a u))

  -- no level is listed from W on
  module _ (W : ℕ) (top : (z : ℕ) → W ≤ z → st z ≡ st W) where
    pub whole : (x y : ℕ) → x ≤ y → sum (hits lv x y) W + st x ≡ st y
    whole x y a =
        by_test (ltb W y)
        (λ e.
        let l : W < y = ltb-true W y e in
        let u : st y ≡ st W = top y (omega arith) in
        by_test (ltb W x)
        (λ d.
        let m : W < x = ltb-true W x d in
        omega (arith, none x y W a (omega arith), top x (omega arith)))
        (λ d. omega (arith, part x y W a (ltb-false W x d) (omega arith))))
        (λ e. past x y W a (ltb-false W y e))

-- ---- what a sample is stepped to
pub steps_more : (ks : List ℕ) (z : ℕ) → steps ks (suc z) ≡ steps ks z + count z ks
steps_more ks z =
    tally_split (λ k. ltb k (suc z)) (λ k. ltb k z) (eqb z) ks
    (λ k. by_test (eqb z k)
    (λ e. let s : z ≡ k = eqb-true z k e in rw (e, lt-ltb k (suc z) (omega arith), le-ltb k z (omega arith)))
    (λ e. by_test (ltb k z)
    (λ d. rw (e, d, lt-ltb k (suc z) (omega (arith, ltb-true k z d))))
    (λ d. rw (e, d, le-ltb k (suc z) (omega (arith, ltb-false k z d, eqb-false z k e))))))
    ∙ ap (λ (n : ℕ). steps ks z + n) (tally_eq z ks)

module _ (L : Layout) (ks : List ℕ) (e : levels_fit L ks ≡ true) where
  pub steps_suc : (z : ℕ) → steps ks (suc z) ≡ steps ks z + one (listed_level ks z)
  steps_suc z =
      steps_more ks z
      ∙ ap (λ (n : ℕ). steps ks z + n)
      (by_test (listed_level ks z)
      (λ t. level_once L ks e z (ltb-true 0 (count z ks) t) ∙ ap one (sym t))
      (λ t. let s : count z ks ≡ 0 = omega (arith, ltb-false 0 (count z ks) t) in s ∙ ap one (sym t)))

  pub steps_top : (W : ℕ) → L.most ≤ W → (z : ℕ) → W ≤ z → steps ks z ≡ steps ks W
  steps_top W h zero l = ap (steps ks) (omega arith)
  steps_top W h (suc z) l =
      by_test (eqb W (suc z))
      (λ t. ap (steps ks) (sym (eqb-true W (suc z) t)))
      (λ t.
      let u : W ≤ z = omega (arith, eqb-false W (suc z) t) in
      let c : count z ks ≡ 0 =
      by_test (ltb 0 (count z ks)) (λ d. absurd (omega (arith, level_below L ks e z (ltb-true 0 (count z ks) d)))) (λ d. omega (arith, ltb-false 0 (count z ks) d)) in
      omega (arith, steps_more ks z, steps_top W h z u))

-- the n-th level is stepped to n, and one above it to n + 1
index_by : (L : Layout) (low : ℕ) (ks : List ℕ) → ascend L low ks ≡ true → (n : ℕ) → n < length ks → steps ks (get_or ks n 0) ≡ n
unfolding tally ascend count
index_by L low [] e n h = absurd (omega arith)
index_by L low (k ∷ ks) e zero h =
    let t : ascend L (k + 1) ks ≡ true = and_2 (ltb k L.most) _ (and_2 (leb low k) (ltb k L.most && ascend L (k + 1) ks) e) in
    let z : tally (λ j. ltb j k) ks ≡ 0 = tally_none (λ j. ltb j k) ks (λ j m. le-ltb j k (omega (arith, ascend_ge L (k + 1) ks t j m))) in
    rw (le-ltb k k (omega arith), z)
index_by L low (k ∷ ks) e (suc n) h =
    let t : ascend L (k + 1) ks ≡ true = and_2 (ltb k L.most) _ (and_2 (leb low k) (ltb k L.most && ascend L (k + 1) ks) e) in
    let z : steps ks (get_or ks n 0) ≡ n = index_by L (k + 1) ks t n (omega arith) in
    let g : k < get_or ks n 0 = omega (arith, ascend_ge L (k + 1) ks t (get_or ks n 0) (count_at ks n (omega arith))) in
    rw (lt-ltb k (get_or ks n 0) g, z) (omega arith)

module _ (L : Layout) (ks : List ℕ) (e : levels_fit L ks ≡ true) where
  pub steps_index : (n : ℕ) → n < length ks → steps ks (get_or ks n 0) ≡ n
  steps_index n h = index_by L 0 ks e n h

  pub steps_after : (n : ℕ) → n < length ks → steps ks (suc (get_or ks n 0)) ≡ suc n
  steps_after n h = let k = get_or ks n 0 in omega (arith, steps_more ks k, steps_index n h, level_once L ks e k (count_at ks n h))
