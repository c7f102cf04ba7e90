-- Walking along a row from mark to mark. Assumes nothing.
-- Main laws: `running_next`, `running_cut` a state by parts; `walk_start` the first sample; `walk_flat` no mark, the same state; `walk_mark` a mark turns what comes after; `walk_join` two parts of a row; `walk_whole`
--   a row after another.
use Rattle.std.proofs.Common.{◌≡◌, ℕ, zero, suc, ◌+◌, ◌-◌, ◌%◌, ◌<◌, ◌≤◌, Bool, true, false, not, ltb, List, sym, refl, ap, ◌∙◌, add-zero, arith, ltb-false, ltb-true}
use Rattle.tally.specs.Tally.{one, differ}
use Rattle.tally.proofs.Test.{by_test}
use Rattle.marks.proofs.Digits.{differ_none}
use Rattle.layer.specs.Layer.{running}
use Rattle.layer.specs.Sums.{up_to, Turned, Walked}

-- ---- the state of a sample
module _ (b : ℕ → Bool) (f : Bool) (lo : ℕ) where
  running_next : (n : ℕ) → running b f lo (suc n) ≡ differ (running b f lo n) (b (lo + n))
  unfolding running
  running_next n = refl

  running_cut : (s n : ℕ) → running b f lo (s + n) ≡ running b (running b f lo s) (lo + s) n
  unfolding running
  running_cut s zero = ap (running b f lo) (add-zero s)
  running_cut s (suc n) =
      let t : s + suc n ≡ suc (s + n) = omega arith in
      let u : lo + (s + n) ≡ lo + s + n = omega arith in
      ap (running b f lo) t ∙ running_next (s + n) ∙ rw (running_cut s n, u)

pub running_same : (a b : ℕ → Bool) (f : Bool) (lo n : ℕ) → ((j : ℕ) → j < n → a (lo + j) ≡ b (lo + j)) → running a f lo n ≡ running b f lo n
unfolding running
running_same a b f lo zero q = refl
running_same a b f lo (suc n) q = rw (running_same a b f lo n (λ j h. q j (omega arith)), q n (omega arith))

running_flat : (b : ℕ → Bool) (f : Bool) (lo n : ℕ) → ((j : ℕ) → j < n → b (lo + j) ≡ false) → running b f lo n ≡ f
unfolding running
running_flat b f lo zero q = refl
running_flat b f lo (suc n) q =
    rw (running_flat b f lo n (λ j h. q j (omega arith)), q n (omega arith)) (sym (differ_none f))

differ_true : (b : Bool) → differ b true ≡ not b
differ_true true = refl
differ_true false = refl

-- from a to c by way of b, each up to a state
relay : (a b c x y z : ℕ) → (a + x) % 256 ≡ (b + y) % 256 → (b + z) % 256 ≡ (c + x) % 256 → (a + z) % 256 ≡ (c + y) % 256
relay a b c x y z p q =
    let r : a + z + x ≡ a + x + z = omega arith in
    let s : b + y + z ≡ b + z + y = omega arith in
    let t : c + x + y ≡ c + y + x = omega arith in
    less (a + z) (c + y) x
    (ap (λ (n : ℕ). n % 256) r ∙ more (a + x) (b + y) z p ∙ ap (λ (n : ℕ). n % 256) s ∙ more (b + z) (c + x) y q ∙ ap (λ (n : ℕ). n % 256) t)
  where
    more : (m n k : ℕ) → m % 256 ≡ n % 256 → (m + k) % 256 ≡ (n + k) % 256
    more m n k e = omega arith

    less : (m n k : ℕ) → (m + k) % 256 ≡ (n + k) % 256 → m % 256 ≡ n % 256
    less m n k e = omega arith

-- ---- two parts of a row
module _ (b : ℕ → Bool) (f : Bool) (lo x : ℕ) (was on : Bool) (d e : List ℕ) where
  pub walk_start : Turned lo was f d e → Walked b f lo lo was f d e
  unfolding running
  walk_start T =
      let z : lo - lo ≡ 0 = omega arith in
      record {
        long = T.long;
        state = rw z;
        low = T.low;
        near =
            λ i p q.
            let s : i - lo ≡ 0 = omega arith in
            rw s (T.far i p);
        far = T.far;
        rest = T.rest;
      }

  module _ (W : Walked b f lo x was on d e) (l : lo ≤ x) where
    -- what comes after x goes on from x's state
    from_x : (i : ℕ) → x ≤ i → running b f lo (i - lo) ≡ running b on x (i - x)
    from_x i h =
        let s : i - lo ≡ (x - lo) + (i - x) = omega arith in
        let t : lo + (x - lo) ≡ x = omega arith in
        ap (running b f lo) s
        ∙ running_cut b f lo (x - lo) (i - x)
        ∙ ap (λ (z : ℕ). running b (running b f lo (x - lo)) z (i - x)) t
        ∙ ap (λ (c : Bool). running b c x (i - x)) (sym W.state)

    -- the second part: c has b's marks from x on
    pub walk_join : (c : ℕ → Bool) (q : ℕ) (next : Bool) (g : List ℕ) → Walked c on x q on next e g → x ≤ q → ((j : ℕ) → x ≤ j → j < q → c j ≡ b j)
        → Walked b f lo q was next d g
    walk_join c q next g N m same =
        let alike : (i : ℕ) → x ≤ i → i ≤ q → running b f lo (i - lo) ≡ running c on x (i - x) =
        λ i h k. from_x i h ∙ sym (running_same c b on x (i - x) (λ j u. same (x + j) (omega arith) (omega arith))) in
        record {
          long = N.long ∙ W.long;
          state = N.state ∙ sym (alike q m (omega arith));
          low = λ i h. N.low i (omega arith) ∙ W.low i h;
          near =
              λ i h k.
              by_test (ltb i x)
              (λ t.
              let u : i < x = ltb-true i x t in
              let r : up_to g i ≡ up_to e i = N.low i u in
              rw r (W.near i h (omega arith)))
              (λ t.
              let u : x ≤ i = ltb-false i x t in
              rw (alike i u k)
              (relay (up_to g i) (up_to e i) (up_to d i) (one on) (one (running c on x (i - x))) (one was) (N.near i u k) (W.far i u)));
          far = λ i h. relay (up_to g i) (up_to e i) (up_to d i) (one on) (one next) (one was) (N.far i h) (W.far i (omega arith));
          rest = λ i h. N.rest i h ∙ W.rest i (omega arith);
        }

    pub walk_flat : (q : ℕ) → x ≤ q → ((j : ℕ) → x ≤ j → j < q → b j ≡ false) → Walked b f lo q was on d e
    walk_flat q m none =
        let flat : (i : ℕ) → x ≤ i → i ≤ q → running b f lo (i - lo) ≡ on =
        λ i h k. from_x i h ∙ running_flat b on x (i - x) (λ j u. none (x + j) (omega arith) (omega arith)) in
        record {
          long = W.long;
          state = sym (flat q m (omega arith));
          low = W.low;
          near =
              λ i h k.
              by_test (ltb i x)
              (λ t. W.near i h (omega (arith, ltb-true i x t)))
              (λ t. rw (flat i (ltb-false i x t) k) (W.far i (ltb-false i x t)));
          far = λ i h. W.far i (omega arith);
          rest = λ i h. W.rest i (omega arith);
        }

    -- one mark, at x
    mark_here : (g : List ℕ) → b x ≡ true → Turned (x + 1) on (not on) e g → Walked b f lo (x + 1) was (not on) d g
    mark_here g h T =
        let s : x + 1 - lo ≡ suc (x - lo) = omega arith in
        let t : lo + (x - lo) ≡ x = omega arith in
        let next : running b f lo (x + 1 - lo) ≡ not on =
        ap (running b f lo) s
        ∙ running_next b f lo (x - lo)
        ∙ ap (λ (z : ℕ). differ (running b f lo (x - lo)) (b z)) t
        ∙ ap (differ (running b f lo (x - lo))) h
        ∙ differ_true (running b f lo (x - lo))
        ∙ ap not (sym W.state) in
        let after : (i : ℕ) → x + 1 ≤ i → (up_to g i + one was) % 256 ≡ (up_to d i + one (not on)) % 256 =
        λ i k. relay (up_to g i) (up_to e i) (up_to d i) (one on) (one (not on)) (one was) (T.far i k) (W.far i (omega arith)) in
        record {
          long = T.long ∙ W.long;
          state = sym next;
          low = λ i k. T.low i (omega arith) ∙ W.low i k;
          near =
              λ i p q.
              by_test (ltb i (x + 1))
              (λ u.
              let k : i < x + 1 = ltb-true i (x + 1) u in
              let r : up_to g i ≡ up_to e i = T.low i k in
              rw r (W.near i p (omega arith)))
              (λ u.
              let k : i ≡ x + 1 = omega (arith, ltb-false i (x + 1) u) in
              rw (k, next) (after (x + 1) (omega arith)));
          far = after;
          rest = λ i k. T.rest i k ∙ W.rest i (omega arith);
        }

-- the next mark is at q
pub walk_mark : (b : ℕ → Bool) (f : Bool) (lo x q : ℕ) (was on : Bool) (d e g : List ℕ) → Walked b f lo x was on d e → lo ≤ x → x ≤ q → ((j : ℕ) → x ≤ j → j < q → b j ≡ false) → b q ≡ true
    → Turned (q + 1) on (not on) e g → Walked b f lo (q + 1) was (not on) d g
walk_mark b f lo x q was on d e g W l m none h T =
    mark_here b f lo q was on d e (walk_flat b f lo x was on d e W l q m none) (omega arith) g h T

-- a row of which the samples held `was` before
pub walk_whole : (b : ℕ → Bool) (f : Bool) (lo x : ℕ) (was on : Bool) (d e g : List ℕ) → Turned lo was f d e → Walked b f lo x f on e g → lo ≤ x → Walked b f lo x was on d g
walk_whole b f lo x was on d e g T W h =
    walk_join b f lo lo was f d e (walk_start b f lo lo was f d e T) (omega arith) b x on g W h (λ j p q. refl)
