-- The marks of one number, from the lowest digit on. Assumes nothing.
-- Definitions: `Adding` what holds before a mark: y has the digits that are left, from the place p on.
-- Main laws: `bits_begin`, `bits_go`, `bits_end` mark by mark; `bits_room` the next mark turns samples that are there; `part_go` the marks of a part of a row.
use Rattle.std.proofs.Common.{◌≡◌, ℕ, ◌+◌, ◌-◌, ◌/◌, ◌^◌, ◌<◌, ◌≤◌, Bool, true, not, ltb, List, sym, ap, ◌∙◌, div-one, arith, shr-shr, ltb-false, ltb-true}
use lib.Pow.{shr_le}
use lib.Count.{count_trailing_zeros}
use Rattle.tally.proofs.Test.{by_test, no}
use Rattle.marks.specs.Marks.{digit, bit_at, Ahead}
use Rattle.marks.proofs.Digits.{digit_zero, digit_shift, low_zero, low_one}
use Rattle.layer.specs.Sums.{Turned, Ends, Walked}
use Rattle.layer.proofs.Bytes.{turned_same}
use Rattle.layer.proofs.Walks.{walk_start, walk_flat, walk_mark, walk_join}

pub record Adding (x base : ℕ) (was : Bool) (d : List ℕ) (y p : ℕ) (on : Bool) (e : List ℕ) : Type 0 where
  pub started : base ≤ p
  pub left : y ≡ x / 2 ^ (p - base)
  pub edge : (q : ℕ) → Ends x base q → p ≤ q
  pub walked : Walked (λ t. digit x (t - base)) was base p was on d e

module _ (x base : ℕ) (was : Bool) (d : List ℕ) where
  abbrev marks : ℕ → Bool
  marks t = digit x (t - base)

  pub bits_begin : Adding x base was d x base was d
  bits_begin =
      let s : base - base ≡ 0 = omega arith in
      record {
        started = omega arith;
        left = rw s (sym (div-one x));
        edge = λ q E. E.some;
        walked = walk_start marks was base base was was d d (turned_same base was d);
      }

  module _ (y p : ℕ) (on : Bool) (e : List ℕ) (A : Adding x base was d y p on e) where
    left_at : (j : ℕ) → p ≤ j → digit x (j - base) ≡ digit y (j - p)
    left_at j h =
        let s : j - base ≡ p - base + (j - p) = omega (arith, A.started) in
        ap (digit x) s ∙ sym (ap (λ (z : ℕ). digit z (j - p)) A.left ∙ digit_shift x (p - base) (j - p))

    pub bits_end : y ≡ 0 → (q : ℕ) → Ends x base q → Walked (λ t. digit x (t - base)) was base q was on d e
    bits_end z q E =
        walk_flat marks was base p was on d e A.walked A.started q (A.edge q E)
        (λ j h k. left_at j h ∙ ap (λ (n : ℕ). digit n (j - p)) z ∙ digit_zero (j - p))

    module _ (some : y ≡ 0 → ⊥) (small : x < 2 ^ 64) where
      fits : y < 2 ^ 64
      fits = omega (arith, A.left, shr_le x (p - base))

      marked : digit x (p + count_trailing_zeros 64 y - base) ≡ true
      marked =
          let t = count_trailing_zeros 64 y in
          let s : p + t - p ≡ t = omega arith in
          left_at (p + t) (omega arith) ∙ ap (digit y) s ∙ low_one 64 y (omega arith) fits

      pub bits_room : (n : ℕ) → ((j : ℕ) → digit x j ≡ true → base + j + 1 < n) → p + count_trailing_zeros 64 y + 1 < n
      bits_room n h = omega (arith, h (p + count_trailing_zeros 64 y - base) marked, A.started)

      pub bits_go : (g : List ℕ) → Turned (p + (count_trailing_zeros 64 y + 1)) on (not on) e g → Adding x base was d (y / 2 ^ count_trailing_zeros 64 y / 2 ^ 1) (p + (count_trailing_zeros 64 y + 1)) (not on) g
      bits_go g T =
          let t = count_trailing_zeros 64 y in
          let s : p - base + t + 1 ≡ p + t + 1 - base = omega (arith, A.started) in
          let n : p + (t + 1) ≡ p + t + 1 = omega arith in
          rw n (record {
            started = omega (arith, A.started);
            left =
                ap (λ (z : ℕ). z / 2 ^ t / 2 ^ 1) A.left
                ∙ ap (λ (z : ℕ). z / 2 ^ 1) (shr-shr x (p - base) t)
                ∙ shr-shr x (p - base + t) 1
                ∙ ap (λ (z : ℕ). x / 2 ^ z) s;
            edge =
                λ q E.
                by_test (ltb (p + t) q)
                (λ u. omega (arith, ltb-true (p + t) q u))
                (λ u. no marked (E.none (p + t - base) (omega (arith, ltb-false (p + t) q u, A.started))));
            walked =
                walk_mark marks was base p (p + t) was on d e g A.walked A.started (omega arith)
                (λ j h k. left_at j h ∙ low_zero 64 y (j - p) (omega arith))
                marked (rw n at T);
          })

-- ---- a part of a row: the marks from p up to q
module _ (m : List ℕ) (p q x : ℕ) (W : Ahead m p q x) where
  pub part_go : (f : Bool) (lo : ℕ) (was on next : Bool) (d e g : List ℕ) → Walked (bit_at m) f lo p was on d e → lo ≤ p → p ≤ q
      → ((z : ℕ) → Ends x p z → Walked (λ t. digit x (t - p)) on p z on next e g) → Walked (bit_at m) f lo q was next d g
  part_go f lo was on next d e g A l h B =
      walk_join (bit_at m) f lo p was on d e A l (λ t. digit x (t - p)) q next g
      (B q (record { some = h; none = W.none })) h
      (λ j a b. let s : p + (j - p) ≡ j = omega arith in W.marks (j - p) (omega arith) ∙ ap (bit_at m) s)
