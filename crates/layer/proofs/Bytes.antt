-- Samples held as differences. Assumes nothing.
-- Main laws: `up_small` a sample is a byte; `up_none` no bytes, no samples; `turned_same` nothing is turned; `turned_byte` a byte that grows turns the samples from its place on; `up_first`, `up_next`, `up_on` the sums one after
--   the other.
use Rattle.std.proofs.Common.{◌≡◌, ℕ, zero, suc, ◌+◌, ◌%◌, ◌<◌, ◌≤◌, Bool, not, eqb, List, length, get_or, set, refl, ap, ◌∙◌, arith, length-set, get_or-set_other, get_or-set_same, eqb-true}
use borrow.Author.Tests.{eqb-false}
use Rattle.tally.specs.Tally.{one, sum}
use Rattle.tally.proofs.Test.{by_test}
use Rattle.tally.proofs.Sum.{sum_same, sum_none}
use Rattle.layer.specs.Sums.{up_to, Turned}

abbrev pub bytes : List ℕ → ℕ → ℕ
bytes e t = get_or e t 0

pub up_small : (e : List ℕ) (i : ℕ) → up_to e i < 256
unfolding up_to
up_small e i = omega arith

pub up_none : (n : ℕ) (e : List ℕ) → ((i : ℕ) → i < n → get_or e i 0 ≡ 0) → (i : ℕ) → i < n → up_to e i ≡ 0
unfolding up_to
up_none n e q i h = ap (λ (z : ℕ). z % 256) (sum_none (bytes e) (suc i) (λ t l. q t (omega arith)))

-- ---- one byte is set
module _ (e : List ℕ) (p v : ℕ) (h : p < length e) where
  sum_before : (n : ℕ) → n ≤ p → sum (bytes (set e p v)) n ≡ sum (bytes e) n
  sum_before n l = sum_same (bytes (set e p v)) (bytes e) n (λ t k. get_or-set_other e p t v 0 (λ s. absurd (omega arith)))

  sum_after : (n : ℕ) → p < n → sum (bytes (set e p v)) n + get_or e p 0 ≡ sum (bytes e) n + v
  unfolding sum
  sum_after zero l = absurd (omega arith)
  sum_after (suc n) l =
      by_test (eqb n p)
      (λ t.
      let s : n ≡ p = eqb-true n p t in
      let r : sum (bytes (set e p v)) n ≡ sum (bytes e) n = sum_before n (omega arith) in
      let g : get_or (set e p v) n 0 ≡ v = rw s (get_or-set_same e p v 0 h) in
      let k : get_or e n 0 ≡ get_or e p 0 = ap (bytes e) s in
      omega arith)
      (λ t.
      let r : sum (bytes (set e p v)) n + get_or e p 0 ≡ sum (bytes e) n + v = sum_after n (omega (arith, eqb-false n p t)) in
      let g : get_or (set e p v) n 0 ≡ get_or e n 0 = get_or-set_other e p n v 0 (eqb-false n p t) in
      omega arith)

  -- the samples before it stay, and those from it on grow by what the byte grew
  up_before : (i : ℕ) → i < p → up_to (set e p v) i ≡ up_to e i
  unfolding up_to
  up_before i l = ap (λ (z : ℕ). z % 256) (sum_before (suc i) (omega arith))

  up_after : (r : ℕ) → v ≡ (get_or e p 0 + r) % 256 → (i : ℕ) → p ≤ i → up_to (set e p v) i ≡ (up_to e i + r) % 256
  unfolding up_to
  up_after r q i l = omega (arith, sum_after (suc i) (omega arith))

-- ---- samples turned over
pub turned_same : (p : ℕ) (was : Bool) (d : List ℕ) → Turned p was was d d
turned_same p was d = record { long = refl; low = λ i h. refl; far = λ i h. refl; rest = λ i h. refl }

pub turned_byte : (e : List ℕ) (p v r : ℕ) (on : Bool) → p < length e → v ≡ (get_or e p 0 + r) % 256 → (r + one on) % 256 ≡ one (not on) → Turned p on (not on) e (set e p v)
turned_byte e p v r on h q t = record {
  long = length-set e p v;
  low = λ i l. up_before e p v h i l;
  far = λ i l. let g : up_to (set e p v) i ≡ (up_to e i + r) % 256 = up_after e p v h r q i l in omega arith;
  rest = λ i l. get_or-set_other e p i v 0 (λ s. absurd (omega arith));
}

-- ---- written out: s is the sum of the bytes before i
pub up_first : (d : List ℕ) → 0 ≡ sum (bytes d) 0 % 256
unfolding sum
up_first d = refl

pub up_next : (d : List ℕ) (i s x : ℕ) → s ≡ sum (bytes d) i % 256 → x ≡ get_or d i 0 → (s + x) % 256 ≡ up_to d i
unfolding up_to sum
up_next d i s x p q = omega arith

pub up_on : (d : List ℕ) (i s : ℕ) → s ≡ up_to d i → s ≡ sum (bytes d) (i + 1) % 256
unfolding up_to
up_on d i s p = let t : suc i ≡ i + 1 = omega arith in p ∙ ap (λ (z : ℕ). sum (bytes d) z % 256) t
