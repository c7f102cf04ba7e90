-- A level list that ascends. Assumes nothing.
-- Main laws: `ascend_at` its elements are at least as far up as their index, and below the largest sample; `ascend_up` a later one is larger; `ascend_few` so there are no more than the largest sample.
use Rattle.std.proofs.Common.{◌≡◌, ℕ, zero, suc, ◌+◌, ◌-◌, ◌<◌, ◌≤◌, true, ◌&&◌, ltb, leb, List, [], ◌∷◌, length, get_or, arith, ltb-false, ltb-true, leb-true}
use Rattle.tally.proofs.Test.{by_test, and_1, and_2}
use Rattle.matte.specs.Layout.{Layout}
use Rattle.matte.specs.Picture.{ascend}

module _ (L : Layout) where
  pub record Climbs (low k : ℕ) (ks : List ℕ) : Type 0 where
    pub least : low ≤ k
    pub most : k < L.most
    pub rest : ascend L (k + 1) ks ≡ true

  climbs : (low k : ℕ) (ks : List ℕ) → ascend L low (k ∷ ks) ≡ true → Climbs low k ks
  unfolding ascend
  climbs low k ks e =
      let t = ltb k L.most && ascend L (k + 1) ks in
      let f = and_2 (leb low k) t e in
      record {
        least = leb-true low k (and_1 (leb low k) t e);
        most = ltb-true k L.most (and_1 (ltb k L.most) (ascend L (k + 1) ks) f);
        rest = and_2 (ltb k L.most) (ascend L (k + 1) ks) f;
      }

  pub ascend_at : (low : ℕ) (ks : List ℕ) (i : ℕ) → ascend L low ks ≡ true → i < length ks → (low + i ≤ get_or ks i 0) × (get_or ks i 0 < L.most)
  ascend_at low [] i e h = absurd (omega arith)
  ascend_at low (k ∷ ks) zero e h = let c = climbs low k ks e in (omega (arith, c.least), c.most)
  ascend_at low (k ∷ ks) (suc i) e h =
      let c = climbs low k ks e in
      let r = ascend_at (k + 1) ks i c.rest (omega arith) in
      (omega (arith, c.least, r.0), r.1)

  pub ascend_up : (low : ℕ) (ks : List ℕ) → ascend L low ks ≡ true → (i j : ℕ) → i < j → j < length ks → get_or ks i 0 < get_or ks j 0
  ascend_up low [] e i j l h = absurd (omega arith)
  ascend_up low (k ∷ ks) e i zero l h = absurd (omega arith)
  ascend_up low (k ∷ ks) e zero (suc j) l h = omega (arith, (ascend_at (k + 1) ks j (climbs low k ks e).rest (omega arith)).0)
  ascend_up low (k ∷ ks) e (suc i) (suc j) l h = ascend_up (k + 1) ks (climbs low k ks e).rest i j (omega arith) (omega arith)

  pub ascend_few : (ks : List ℕ) → ascend L 0 ks ≡ true → length ks ≤ L.most
  ascend_few ks e =
      by_test (ltb 0 (length ks))
      (λ t.
      let p : 0 < length ks = ltb-true 0 (length ks) t in
      let r = ascend_at 0 ks (length ks - 1) e (omega arith) in
      omega (arith, r.0, r.1))
      (λ t. omega (arith, ltb-false 0 (length ks) t))
