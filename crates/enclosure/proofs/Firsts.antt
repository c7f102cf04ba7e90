-- The leads of all lines as one list of words: they ascend strictly, and they are exactly the leads of the listed levels. Assumes nothing.
-- Definitions: `rising a l` the list ascends strictly, from a on.
-- Main laws: `rising_once` in such a list a number stands at one place only; `lead_yes`, `lead_no` one step of the walk; `firsts_rising` the leads ascend; `firsts_has` each is a lead of a
--   listed level; `has_firsts` each such lead is there.
use mathlib.Core.Path.{◌≡◌, refl, sym, ap, ◌∙◌}
use mathlib.Core.Bool.{Bool, true, false, ◌&&◌}
use mathlib.Core.List.{List, [], ◌∷◌, ◌++◌}
use Prim.Native.Nat.{ℕ, zero, suc, ◌+◌, ◌*◌, ◌≤◌, ◌<◌}
use native.Mathlib.Nat.{mul-le-mul_right}
use native.Mathlib.Omega.{arith}
use lib.Dec.{eqb, ltb, leb}
use lib.ListN.{get_or, length}
use borrow.Author.Tests.{ltb-true, ltb-false, leb-true, le-leb, eqb-true, eqb-false, eq-eqb}
use Rattle.tally.specs.Tally.{count}
use Rattle.tally.proofs.Test.{by_test, and_1, and_2, both}
use Rattle.tally.proofs.Count.{count_append}
use Rattle.matte.specs.Layout.{Layout}
use Rattle.matte.specs.Picture.{Picture, size, ascend}
use Rattle.outline.specs.Line.{is_lead}
use Rattle.enclosure.specs.Tree.{lead_words, firsts}

-- ---- strictly ascending lists
unfoldable pub rising : ℕ → List ℕ → Bool
rising a [] = true
rising a (x ∷ l) = leb a x && rising (suc x) l

rising_ge : (a x : ℕ) (l : List ℕ) → rising a (x ∷ l) ≡ true → a ≤ x
unfolding rising
rising_ge a x l e = leb-true a x (and_1 (leb a x) _ e)

rising_tail : (a x : ℕ) (l : List ℕ) → rising a (x ∷ l) ≡ true → rising (suc x) l ≡ true
unfolding rising
rising_tail a x l e = and_2 (leb a x) _ e

rising_less : (a b : ℕ) (l : List ℕ) → a ≤ b → rising b l ≡ true → rising a l ≡ true
unfolding rising
rising_less a b [] h e = refl
rising_less a b (x ∷ l) h e = both (le-leb a x (omega (arith, rising_ge b x l e))) (rising_tail b x l e)

rising_at : (a : ℕ) (l : List ℕ) → rising a l ≡ true → (i : ℕ) → i < length l → a ≤ get_or l i 0
rising_at a [] e i h = absurd (omega arith)
rising_at a (x ∷ l) e zero h = rising_ge a x l e
rising_at a (x ∷ l) e (suc i) h = omega (arith, rising_ge a x l e, rising_at (suc x) l (rising_tail a x l e) i (omega arith))

rising_lt : (a : ℕ) (l : List ℕ) → rising a l ≡ true → (i j : ℕ) → i < j → j < length l → get_or l i 0 < get_or l j 0
rising_lt a [] e i j h k = absurd (omega arith)
rising_lt a (x ∷ l) e i zero h k = absurd (omega arith)
rising_lt a (x ∷ l) e zero (suc j) h k = rising_at (suc x) l (rising_tail a x l e) j (omega arith)
rising_lt a (x ∷ l) e (suc i) (suc j) h k = rising_lt (suc x) l (rising_tail a x l e) i j (omega arith) (omega arith)

pub rising_once : (a : ℕ) (l : List ℕ) → rising a l ≡ true → (i j : ℕ) → i < length l → j < length l → get_or l i 0 ≡ get_or l j 0 → i ≡ j
rising_once a l e i j p q s =
    by_test (ltb i j)
    (λ t. absurd (omega (arith, rising_lt a l e i j (ltb-true i j t) q)))
    (λ t. by_test (ltb j i)
    (λ u. absurd (omega (arith, rising_lt a l e j i (ltb-true j i u) p)))
    (λ u. omega (arith, ltb-false i j t, ltb-false j i u)))

-- ---- one level's leads
module _ (p : ℕ → Bool) (b : ℕ) where
  pub lead_yes : (i m : ℕ) → p i ≡ true → lead_words p b i (suc m) ≡ (b + 2 * i) ∷ lead_words p b (suc i) m
  unfolding lead_words
  lead_yes i m e = rw (e, lead_words)

  pub lead_no : (i m : ℕ) → p i ≡ false → lead_words p b i (suc m) ≡ lead_words p b (suc i) m
  unfolding lead_words
  lead_no i m e = rw (e, lead_words)

  -- with what follows from beyond its end
  leads_rising : (i m : ℕ) (l : List ℕ) → rising (b + 2 * (i + m)) l ≡ true → rising (b + 2 * i) (lead_words p b i m ++ l) ≡ true
  unfolding lead_words rising
  leads_rising i zero l e = rising_less (b + 2 * i) (b + 2 * (i + 0)) l (omega arith) e
  leads_rising i (suc m) l e =
      let s : b + 2 * (i + suc m) ≡ b + 2 * (suc i + m) = omega arith in
      let r : rising (b + 2 * suc i) (lead_words p b (suc i) m ++ l) ≡ true = leads_rising (suc i) m l (rw s at e) in
      by_test (p i)
      (λ t. rw (lead_yes i m t)
      (both (le-leb (b + 2 * i) (b + 2 * i) (omega arith)) (rising_less (suc (b + 2 * i)) (b + 2 * suc i) (lead_words p b (suc i) m ++ l) (omega arith) r)))
      (λ t. rw (lead_no i m t) (rising_less (b + 2 * i) (b + 2 * suc i) (lead_words p b (suc i) m ++ l) (omega arith) r))

  leads_has : (i m x : ℕ) → 0 < count x (lead_words p b i m) → (j : ℕ) × (x ≡ b + 2 * j) × (p j ≡ true) × (j < i + m)
  unfolding lead_words count
  leads_has i zero x h = absurd (omega arith)
  leads_has i (suc m) x h =
      by_test (p i)
      (λ t. by_test (eqb x (b + 2 * i))
      (λ e. (i, eqb-true x (b + 2 * i) e, t, omega arith))
      (λ e. let r = leads_has (suc i) m x (omega (arith, rw (lead_yes i m t, count, e) at h)) in (r.0, r.1, r.2, omega (arith, r.3))))
      (λ t. let r = leads_has (suc i) m x (rw (lead_no i m t) at h) in (r.0, r.1, r.2, omega (arith, r.3)))

  has_leads : (i m j : ℕ) → p j ≡ true → i ≤ j → j < i + m → 0 < count (b + 2 * j) (lead_words p b i m)
  unfolding lead_words count
  has_leads i zero j e l h = absurd (omega arith)
  has_leads i (suc m) j e l h =
      by_test (eqb i j)
      (λ t.
      let s : i ≡ j = eqb-true i j t in
      rw (lead_yes i m (ap p s ∙ e), count, eq-eqb (b + 2 * j) (b + 2 * i) (omega arith)) (omega arith))
      (λ t.
      let r : 0 < count (b + 2 * j) (lead_words p b (suc i) m) = has_leads (suc i) m j e (omega (arith, eqb-false i j t)) (omega arith) in
      by_test (p i)
      (λ u. rw (lead_yes i m u, count) (omega arith))
      (λ u. rw (lead_no i m u) r))

-- ---- all levels
module _ (L : Layout) (P : Picture) where
  abbrev C : ℕ
  C = L.codes

  abbrev of_level : ℕ → List ℕ
  of_level k = lead_words (λ i. is_lead P k (2 * i)) (k * C) 0 (size P)

  pub firsts_rising : 2 * size P ≤ L.codes → (a : ℕ) (ks : List ℕ) → ascend L a ks ≡ true → rising (a * L.codes) (firsts L P ks) ≡ true
  unfolding firsts rising ascend
  firsts_rising r a [] e = refl
  firsts_rising r a (k ∷ ks) e =
      let g : a ≤ k = leb-true a k (and_1 (leb a k) _ e) in
      let n = and_2 (ltb k L.most) (ascend L (k + 1) ks) (and_2 (leb a k) (ltb k L.most && ascend L (k + 1) ks) e) in
      let i : rising ((k + 1) * C) (firsts L P ks) ≡ true = firsts_rising r (k + 1) ks n in
      let m : a * C ≤ k * C = mul-le-mul_right C g in
      let b : rising (k * C + 2 * (0 + size P)) (firsts L P ks) ≡ true = rising_less (k * C + 2 * (0 + size P)) ((k + 1) * C) (firsts L P ks) (omega arith) i in
      rising_less (a * C) (k * C + 2 * 0) (firsts L P (k ∷ ks)) (omega arith) (leads_rising (λ j. is_lead P k (2 * j)) (k * C) 0 (size P) (firsts L P ks) b)

  pub firsts_has : (ks : List ℕ) (x : ℕ) → 0 < count x (firsts L P ks) → (k : ℕ) × (c : ℕ) × (x ≡ k * L.codes + c) × (0 < count k ks) × (is_lead P k c ≡ true) × (c < 2 * size P)
  unfolding firsts count
  firsts_has [] x e = absurd (omega arith)
  firsts_has (k ∷ ks) x e =
      let l = of_level k in
      by_test (ltb 0 (count x l))
      (λ t.
      let r = leads_has (λ i. is_lead P k (2 * i)) (k * C) 0 (size P) x (ltb-true 0 (count x l) t) in
      (k, 2 * r.0, r.1, rw (eq-eqb k k refl) (omega arith), r.2, omega (arith, r.3)))
      (λ t.
      let y : 0 < count x (firsts L P ks) = omega (arith, ltb-false 0 (count x l) t, count_append x l (firsts L P ks)) in
      let r = firsts_has ks x y in
      (r.0, r.1, r.2, omega (arith, r.3), r.4, r.5))

  pub has_firsts : (ks : List ℕ) (k j : ℕ) → 0 < count k ks → is_lead P k (2 * j) ≡ true → j < size P → 0 < count (k * L.codes + 2 * j) (firsts L P ks)
  unfolding firsts count
  has_firsts [] k j e t b = absurd (omega arith)
  has_firsts (m ∷ ks) k j e t b =
      let l = of_level m in
      by_test (eqb k m)
      (λ y.
      let s : k ≡ m = eqb-true k m y in
      let r : 0 < count (m * C + 2 * j) l = has_leads (λ i. is_lead P m (2 * i)) (m * C) 0 (size P) j (ap (λ (z : ℕ). is_lead P z (2 * j)) (sym s) ∙ t) (omega arith) (omega arith) in
      let u : count (k * C + 2 * j) l ≡ count (m * C + 2 * j) l = ap (λ (z : ℕ). count (z * C + 2 * j) l) s in
      omega (arith, count_append (k * C + 2 * j) l (firsts L P ks)))
      (λ y.
      let r : 0 < count (k * C + 2 * j) (firsts L P ks) = has_firsts ks k j (omega (arith, rw y at e)) t b in
      omega (arith, count_append (k * C + 2 * j) l (firsts L P ks)))
