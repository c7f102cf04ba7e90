-- Two bytes of one payload changed: where the sum tells it. Assumes nothing.
-- Main laws: `stirred_append` the sum of bytes joined; `near_told` neighbouring bytes, the second changed by at most twice the first, less 2; `two_told` bytes 8 to 24 apart, the first changed by 2 or more. The first byte is a, then v; the second b, then u; l stands between, z after.
use Rattle.std.proofs.Common.{◌≡◌, ℕ, ◌+◌, ◌-◌, ◌*◌, ◌%◌, ◌<◌, ◌≤◌, ltb, List, [], ◌∷◌, ◌++◌, length, get_or, sym, refl, ◌∙◌, le_trans, arith, ltb-false, ltb-true}
use Rattle.tally.specs.Tally.{apart}
use Rattle.tally.proofs.Test.{by_test}
use Rattle.block.specs.Block.{stir, stirred}
use Rattle.block.proofs.Check.{stir_below, stirred_below, start_told}
use Rattle.block.proofs.Apart.{twice, twice_mono, twice_more, grown, grown_within, turn, turn_two, Far, far, apart_still}

pub stirred_append : (s : ℕ) (x y : List ℕ) → stirred s (x ++ y) ≡ stirred (stirred s x) y
unfolding stirred
stirred_append s [] y = refl
stirred_append s (b ∷ x) y = stirred_append (stir s b) x y

greatest : twice 1023 21 ≡ 2145386496
unfolding twice
greatest = refl

smallest : twice 4 5 ≡ 128
unfolding twice
smallest = refl

-- ---- two bytes of a payload: a becomes v, then come the bytes l, b becomes u, then come the bytes z
four_times : (d e f : ℕ) → 1 ≤ d → 2 * d ≤ e + 1 → 2 * e ≤ f + 1 → 4 * (d - 1) + 1 ≤ f
four_times d e f i g h = omega arith

one_more : (d f : ℕ) → f ≤ 4 * d + 2 → f + 1 ≤ 4 * d + 3
one_more d f h = omega arith

at_least : (d e : ℕ) → 1 ≤ d → 2 * d ≤ e + 1 → 1 ≤ e
at_least d e g h = omega arith

module _ (s a v : ℕ) (less : a < v) where
  up : 1 ≤ v - a
  up = omega arith

  within : v < 256 → v - a < 256
  within h = omega arith

  first_sums : stir s v ≡ (stir s a + (v - a)) % 4294967296
  first_sums = omega arith

  first_apart : Far (stir s a) (stir s v) (v - a - 1) (v - a + 1)
  first_apart = record { off = v - a; over = omega arith; under = omega arith; sums = first_sums }

  near_up : (b u : ℕ) (z : List ℕ) → v < 256 → apart b u < 256 → apart b u + 2 ≤ 2 * (v - a) → stirred s (a ∷ b ∷ z) ≡ stirred s (v ∷ u ∷ z) → ⊥
  unfolding stirred
  near_up b u z h j k e =
      apart_still (stir s a) (stir s v) (v - a - 1) (v - a + 1) (stir_below s a) first_apart b u (omega arith) (omega arith)
      (start_told (stir (stir s a) b) (stir (stir s v) u) z (stir_below (stir s a) b) (stir_below (stir s v) u) e)

  -- after two bytes
  second_apart : (c k : ℕ) → c < 256 → v < 256 → Far (stir (stir (stir s a) c) k) (stir (stir (stir s v) c) k) (4 * (v - a - 1)) (4 * (v - a) + 3)
  second_apart c k h j =
      let A = stir s a in
      let W = stir s v in
      let d = v - a in
      let d1 = grown A W d in
      let w = grown_within A W d (stir_below s a) first_sums up in
      let some : 1 ≤ d1 = at_least d d1 up w.0 in
      let f = turn A W d (stir_below s a) first_sums up c in
      let x = grown_within (stir A c) (stir W c) d1 (stir_below A c) f some in
      record {
        off = grown (stir A c) (stir W c) d1;
        over = four_times d d1 (grown (stir A c) (stir W c) d1) up w.0 x.0;
        under = one_more d (grown (stir A c) (stir W c) d1) (turn_two A W d (stir_below s a) first_sums up c h (within j));
        sums = turn (stir A c) (stir W c) d1 (stir_below A c) f some k;
      }

  two_up : (c k : ℕ) (l : List ℕ) (b u : ℕ) (z : List ℕ) → v < 256 → c < 256 → b < 256 → u < 256 → 2 ≤ v - a → 5 ≤ length l → length l ≤ 21
      → stirred s (a ∷ c ∷ k ∷ (l ++ b ∷ z)) ≡ stirred s (v ∷ c ∷ k ∷ (l ++ u ∷ z)) → ⊥
  unfolding stirred twice
  two_up c k l b u z h i p q j lo hi e =
      let n = length l in
      let A = stir (stir (stir s a) c) k in
      let W = stir (stir (stir s v) c) k in
      let x = 4 * (v - a - 1) in
      let y = 4 * (v - a) + 3 in
      let F = far l A W x y (stir_below (stir (stir s a) c) k) (second_apart c k i h) in
      let P = stirred A l in
      let Q = stirred W l in
      let o : 5 + (n - 5) ≡ n = omega arith in
      let m : n + (21 - n) ≡ 21 = omega arith in
      let under : twice 4 5 ≤ twice x n = rw o at (le_trans (twice_mono 4 x 5 (omega arith)) (twice_more x 5 (n - 5))) in
      let over : twice y n ≤ twice 1023 21 = rw m at (le_trans (twice_mono y 1023 n (omega arith)) (twice_more 1023 n (21 - n))) in
      apart_still P Q (twice x n) (twice y n) (stirred_below A l (stir_below (stir (stir s a) c) k)) F b u (omega (arith, under, smallest)) (omega (arith, over, greatest))
      (start_told (stir P b) (stir Q u) z (stir_below P b) (stir_below Q u) (sym (stirred_append A l (b ∷ z)) ∙ e ∙ stirred_append W l (u ∷ z)))

-- whichever of the bytes is larger
pub near_told : (s a v b u : ℕ) (z : List ℕ) → a < 256 → v < 256 → b < 256 → u < 256 → apart b u + 2 ≤ 2 * apart a v → stirred s (a ∷ b ∷ z) ≡ stirred s (v ∷ u ∷ z) → ⊥
near_told s a v b u z g h i j k e =
    by_test (ltb a v)
    (λ t. let l : a < v = ltb-true a v t in near_up s a v l b u z h (omega arith) (omega arith) e)
    (λ t. let l : v ≤ a = ltb-false a v t in near_up s v a (omega arith) u b z g (omega arith) (omega arith) (sym e))

pub two_told : (s a v : ℕ) (l : List ℕ) (b u : ℕ) (z : List ℕ) → a < 256 → v < 256 → b < 256 → u < 256 → ((i : ℕ) → i < length l → get_or l i 0 < 256) → 2 ≤ apart a v → 7 ≤ length l → length l ≤ 23
    → stirred s (a ∷ (l ++ b ∷ z)) ≡ stirred s (v ∷ (l ++ u ∷ z)) → ⊥
two_told s a v [] b u z g h i j w d lo hi e = absurd (omega arith)
two_told s a v (c ∷ []) b u z g h i j w d lo hi e = absurd (omega arith)
two_told s a v (c ∷ k ∷ l) b u z g h i j w d lo hi e =
    by_test (ltb a v)
    (λ t. let m : a < v = ltb-true a v t in two_up s a v m c k l b u z h (w 0 (omega arith)) i j (omega arith) (omega arith) (omega arith) e)
    (λ t. let m : v ≤ a = ltb-false a v t in two_up s v a (omega arith) c k l u b z g (w 0 (omega arith)) j i (omega arith) (omega arith) (omega arith) (sym e))
