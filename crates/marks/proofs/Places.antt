-- Marks at places. Assumes nothing.
-- Main laws: `cleared` numbers that are 0 have no marks; `turned` a digit turned over is a mark turned over; `ahead_all`, `ahead_part` the marks from a place on, to the end of its number and up to a place there.
use mathlib.Core.Path.{◌≡◌, refl, sym, ap, ◌∙◌}
use mathlib.Core.Bool.{Bool, true, false, ◌&&◌}
use mathlib.Core.List.{List, ◌++◌}
use Prim.Native.Nat.{ℕ, ◌+◌, ◌*◌, ◌/◌, ◌%◌, ◌^◌, ◌≤◌, ◌<◌}
use native.Mathlib.Nat.{mod-lt}
use native.Mathlib.Omega.{arith}
use lib.Dec.{eqb}
use lib.ListN.{length, get_or, set, take, drop, replicate, length-replicate, get_or-append, get_or-replicate}
use lib.Seq.{get_or-set_same, get_or-set_other}
use lib.Bits.{bit_xor}
use lib.Pow.{pow_pos}
use borrow.Author.Tests.{eqb-true, eqb-false, eq-eqb, ne_eqb}
use Rattle.std.proofs.Common.{length-take-le}
use Rattle.std.specs.Int.{from_bool}
use Rattle.tally.specs.Tally.{one, differ}
use Rattle.tally.proofs.Test.{by_test}
use Rattle.marks.specs.Marks.{digit, bit_at, Ahead}
use Rattle.marks.proofs.Digits.{digit_zero, digit_shift, digit_past, digit_low, digit_flip, differ_none}

-- ---- the first n numbers are 0
module _ (m s : List ℕ) (n : ℕ) (h : n ≤ length m) (e : s ≡ replicate (length (take n m)) 0) where
  first_length : length s ≡ n
  first_length = rw (e, length-replicate) (length-take-le n m h)

  pub cleared : (p : ℕ) → p < 64 * n → bit_at (s ++ drop n m) p ≡ false
  unfolding bit_at
  cleared p l =
      let i : p / 64 < n = omega arith in
      ap (λ (z : ℕ). digit z (p % 64)) (get_or-append s (drop n m) 0 (p / 64) (omega (arith, first_length)) ∙ rw e (get_or-replicate (length (take n m)) (p / 64) 0 0 (omega (arith, length-take-le n m h))))
      ∙ digit_zero (p % 64)

-- ---- one mark is turned over, or none
and_none : (b : Bool) → false ≡ (b && false)
and_none true = refl
and_none false = refl

flipped : (m : List ℕ) (p : ℕ) (b : Bool) → p / 64 < length m → (q : ℕ)
    → bit_at (set m (p / 64) (bit_xor (get_or m (p / 64) 0) (one b * 2 ^ (p % 64)))) q ≡ differ (bit_at m q) (b && eqb q p)
unfolding bit_at
flipped m p b h q =
    let a = p / 64 in
    let v = bit_xor (get_or m a 0) (one b * 2 ^ (p % 64)) in
    by_test (eqb (q / 64) a)
    (λ e.
    let s : q / 64 ≡ a = eqb-true (q / 64) a e in
    rw s
    (ap (λ (z : ℕ). digit z (q % 64)) (get_or-set_same m a v 0 h)
    ∙ digit_flip (get_or m a 0) (p % 64) (q % 64) b
    ∙ ap (λ (c : Bool). differ (digit (get_or m a 0) (q % 64)) (b && c))
    (by_test (eqb q p)
    (λ d. let t : q ≡ p = eqb-true q p d in eq-eqb (q % 64) (p % 64) (ap (λ (z : ℕ). z % 64) t) ∙ sym d)
    (λ d. ne_eqb (q % 64) (p % 64) (omega (arith, eqb-false q p d)) ∙ sym d))))
    (λ e.
    ap (λ (z : ℕ). digit z (q % 64)) (get_or-set_other m a (q / 64) v 0 (eqb-false (q / 64) a e))
    ∙ differ_none (bit_at m q)
    ∙ ap (differ (bit_at m q)) (and_none b ∙ ap (λ (c : Bool). b && c) (sym (ne_eqb q p (λ t. eqb-false (q / 64) a e (ap (λ (z : ℕ). z / 64) t))))))

-- 1 for true, as the machine has it
pub one_from : (b : Bool) → from_bool b ≡ one b
one_from true = refl
one_from false = refl

-- the same with the digit as the machine has it
pub turned : (m : List ℕ) (p v : ℕ) (b : Bool) → p / 64 < length m → v ≡ one b * 2 ^ (p % 64) → (q : ℕ)
    → bit_at (set m (p / 64) (bit_xor (get_or m (p / 64) 0) v)) q ≡ differ (bit_at m q) (b && eqb q p)
turned m p v b h e q = ap (λ (z : ℕ). bit_at (set m (p / 64) (bit_xor (get_or m (p / 64) 0) z)) q) e ∙ flipped m p b h q

-- ---- the marks from p on; v is the number that holds p's mark
module _ (m : List ℕ) (p v : ℕ) (is : v ≡ get_or m (p / 64) 0) where
  in_number : (j : ℕ) → p + j < (p / 64 + 1) * 64 → digit v (p % 64 + j) ≡ bit_at m (p + j)
  unfolding bit_at
  in_number j l =
      let s : (p + j) / 64 ≡ p / 64 = omega arith in
      let t : (p + j) % 64 ≡ p % 64 + j = omega arith in
      rw (s, t) (ap (λ (z : ℕ). digit z (p % 64 + j)) is)

  pub ahead_all : v < 2 ^ 64 → Ahead m p ((p / 64 + 1) * 64) (v / 2 ^ (p % 64))
  ahead_all h = record {
    marks = λ j l. digit_shift v (p % 64) j ∙ in_number j l;
    none = λ j l. digit_shift v (p % 64) j ∙ digit_past v 64 (p % 64 + j) h (omega arith);
  }

  pub ahead_part : (e d : ℕ) → p ≤ e → e < (p / 64 + 1) * 64 → d ≡ 2 ^ (e % 64) → Ahead m p e (v % d / 2 ^ (p % 64))
  ahead_part e d a b s = rw s (record {
    marks =
        λ j l.
        digit_shift (v % 2 ^ (e % 64)) (p % 64) j
        ∙ digit_low v (e % 64) (p % 64 + j) (omega arith)
        ∙ in_number j (omega arith);
    none =
        λ j l.
        digit_shift (v % 2 ^ (e % 64)) (p % 64) j
        ∙ digit_past (v % 2 ^ (e % 64)) (e % 64) (p % 64 + j) (mod-lt v (pow_pos (e % 64))) (omega arith);
  })
