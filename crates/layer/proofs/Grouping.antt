-- Words grouped by level: which of them have to be looked at. Assumes nothing.
-- Definitions: `Behind` the words before a are below every level to come.
-- Main laws: `turned_skip` words of other levels turn nothing; `turned_late` words of lower levels turn nothing; `turned_kept` a group turns nothing of another level; `group_none`,
--   `group_more` one word more; `behind_none`, `behind_more` the next group.
use Rattle.std.proofs.Common.{◌≡◌, ℕ, zero, suc, ◌+◌, ◌-◌, ◌<◌, ◌≤◌, false, ltb, List, length, get_or, take, sym, ap, ◌∙◌, add-zero, zero-add, arith, ltb-false, ltb-true, ne_eqb}
use Rattle.tally.specs.Tally.{differ}
use Rattle.tally.proofs.Test.{by_test}
use Rattle.matte.specs.Layout.{Layout}
use Rattle.edgel.specs.Word.{level_of}
use Rattle.marks.proofs.Digits.{differ_none}
use Rattle.layer.specs.Layer.{hits, turned_at}
use Rattle.layer.specs.Group.{Group}
use Rattle.layer.proofs.Turns.{turned_none, turned_more}

module _ (L : Layout) (ws : List ℕ) (k p : ℕ) where
  other : (i : ℕ) → (level_of L (get_or ws i 0) ≡ k → ⊥) → hits L k p (get_or ws i 0) ≡ false
  unfolding hits
  other i n = simp (ne_eqb (level_of L (get_or ws i 0)) k n)

  turned_skip : (a n : ℕ) → a + n ≤ length ws → ((i : ℕ) → a ≤ i → i < a + n → level_of L (get_or ws i 0) ≡ k → ⊥) → turned_at L k (take (a + n) ws) p ≡ turned_at L k (take a ws) p
  turned_skip a zero h q = ap (λ (z : ℕ). turned_at L k (take z ws) p) (add-zero a)
  turned_skip a (suc n) h q =
      let s : a + suc n ≡ a + n + 1 = omega arith in
      ap (λ (z : ℕ). turned_at L k (take z ws) p) s
      ∙ turned_more L k ws p (a + n) (omega arith)
      ∙ ap (differ (turned_at L k (take (a + n) ws) p)) (other (a + n) (q (a + n) (omega arith) (omega arith)))
      ∙ sym (differ_none (turned_at L k (take (a + n) ws) p))
      ∙ turned_skip a n (omega arith) (λ i u v. q i u (omega arith))

  pub turned_late : (a : ℕ) → a ≤ length ws → ((i : ℕ) → i < a → level_of L (get_or ws i 0) < k) → turned_at L k (take a ws) p ≡ false
  turned_late a h q =
      let s : 0 + a ≡ a = zero-add a in
      ap (λ (z : ℕ). turned_at L k (take z ws) p) (sym s)
      ∙ turned_skip 0 a (omega arith) (λ i u v e. omega (arith, q i (omega arith)))
      ∙ turned_none L k ws p

  pub turned_kept : (a c r : ℕ) → Group L ws a c r → (c ≡ k → ⊥) → turned_at L k (take r ws) p ≡ turned_at L k (take a ws) p
  turned_kept a c r G n =
      let s : r ≡ a + (r - a) = omega (arith, G.some) in
      ap (λ (z : ℕ). turned_at L k (take z ws) p) s
      ∙ turned_skip a (r - a) (omega (arith, G.within)) (λ i u v e. n (sym (G.alike i u (omega arith)) ∙ e))

-- ---- word after word
module _ (L : Layout) (ws : List ℕ) (a k : ℕ) where
  pub group_none : a ≤ length ws → Group L ws a k a
  group_none h = record { some = omega arith; within = h; alike = λ i p q. absurd (omega arith) }

  pub group_more : (r : ℕ) → Group L ws a k r → r < length ws → level_of L (get_or ws r 0) ≡ k → Group L ws a k (r + 1)
  group_more r G h e = record {
    some = omega (arith, G.some);
    within = omega arith;
    alike =
        λ i p q.
        by_test (ltb i r)
        (λ t. G.alike i p (ltb-true i r t))
        (λ t. let s : i ≡ r = omega (arith, ltb-false i r t) in rw s e);
  }

-- ---- level after level
-- the words before a are below every level from the j-th on
pub record Behind (L : Layout) (ks ws : List ℕ) (a j : ℕ) : Type 0 where
  pub within : a ≤ length ws
  pub past : (i t : ℕ) → i < a → j ≤ t → t < length ks → level_of L (get_or ws i 0) < get_or ks t 0

module _ (L : Layout) (ks ws : List ℕ) where
  pub behind_none : Behind L ks ws 0 0
  behind_none = record { within = omega arith; past = λ i t p. absurd (omega arith) }

  pub behind_more : (a j k r : ℕ) → Behind L ks ws a j → j < length ks → k ≡ get_or ks j 0 → Group L ws a k r
      → ((i t : ℕ) → i < t → t < length ks → get_or ks i 0 < get_or ks t 0) → Behind L ks ws r (j + 1)
  behind_more a j k r B h is G up = record {
    within = G.within;
    past =
        λ i t l m n.
        by_test (ltb i a)
        (λ v. B.past i t (ltb-true i a v) (omega arith) n)
        (λ v. omega (arith, G.alike i (ltb-false i a v) l, up j t (omega arith) n));
  }
