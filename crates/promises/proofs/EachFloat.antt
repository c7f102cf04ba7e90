-- A property of every float that an answer holds: the crossing and the piece are the only calls with floats. Assumes nothing; the premises hold of all samples, which are bytes, and of every code, which is a u32.
-- Definitions: `Bytes` the samples are bytes; `none_of` no float of a list passes a test.
-- Main laws: `crossing_each` a test that neither a whole number nor a coordinate moved along an edgel passes, neither coordinate of the crossing's answer passes; `piece_each` one that no quotient of whole numbers passes, no
--   float of the piece's answer passes, and `told_each` none of the answer for C. `held` binary64 holds the whole numbers up to 2^53, and `span_few` a crossing's span is one.
use mathlib.Core.Path.{◌≡◌, refl, subst}
use mathlib.Core.Bool.{Bool, true, false, not, ◌&&◌, cond}
use mathlib.Core.List.{List, [], ◌∷◌}
use mathlib.Core.Logic.{◌≢◌}
use Prim.Native.Nat.{ℕ, zero, suc, ◌+◌, ◌*◌, ◌/◌, ◌%◌, ◌^◌, ◌≤◌, ◌<◌}
use native.Mathlib.Nat.{mul-pos, mul-le-mul, mod-le, div-le_self}
use native.Mathlib.Omega.{arith}
use lib.Dec.{eqb}
use lib.IntN.{ℤ, pos, negsuc, neg_ℤ, nat_abs, ◌-ℤ◌, ◌*ℤ◌}
use lib.Ieee.{Float, binary64, div, of_int}
use lib.Ieee.Exact.{HasValue}
use lib.Ieee.Back.{round_whole}
use borrow.Author.Tests.{not-true, eqb-true, eqb-false, ne_eqb}
use Rattle.tally.proofs.Test.{by_test, no, and_1, and_2}
use Rattle.refuse.specs.Refusal.{Verdict}
use Rattle.matte.specs.Layout.{eight}
use Rattle.matte.specs.Picture.{Picture, at}
use Rattle.edgel.specs.Edgel.{horizontal, column}
use Rattle.edgel.specs.Edgel as Edgel
use Rattle.cell.proofs.Signed.{Is, is_pos, is_neg, is_sub, is_mul}
use Rattle.crossing.specs.Crossing.{whole, along, span, num, den, crossing_verdict, crossing_answer}
use Rattle.crossing.proofs.Lowest as Lowest
use Rattle.crossing.proofs.Between.{done_between}
use Rattle.piece.specs.declared.Centre.{Centre}
use Rattle.piece.specs.declared.Found.{Found}
use Rattle.piece.specs.declared.Piece.{Piece}
use Rattle.piece.specs.declared.Piece.TheVariants.{Refused, Straight, Corner, Branch}
use Rattle.piece.specs.Piece.{is_zero, ratio, b, c, d, s, inside, centre, excess, delta, Case, case_of, Told, piece_of, cell_at, piece_verdict, piece_answer}
use Rattle.host.specs.Piece.{first, second, third, told_piece}

-- samples are bytes
abbrev pub Bytes : Picture → Type 0
Bytes P = (i : ℕ) → at P i < 256

-- no float of the list passes the test
abbrev pub none_of : (Float → Bool) → List Float → Bool
none_of t [] = true
none_of t (x ∷ l) = not (t x) && none_of t l

pub either : {A : Type 0} {c : Bool} (t : A → Bool) (b : Bool) (x y : A) → t x ≡ c → t y ≡ c → t (cond b x y) ≡ c
either t true x y p q = p
either t false x y p q = q

-- a whole number that binary64 holds
pub held : (n : ℕ) → n ≤ 2 ^ 53 → HasValue (of_int binary64 (pos n)) false n 1
unfolding of_int
held n h = round_whole binary64 false n h

-- ---- the crossing
pub span_few : (P : Picture) → Bytes P → (k c : ℕ) → span P k c ≤ 2 ^ 53
unfolding span
span_few P bytes k c = omega (arith, bytes (Edgel.first c), bytes (Edgel.second P.w c))

module _ (t : Float → Bool) (wholes : (n : ℕ) → t (whole n) ≡ false) (alongs : (n a b : ℕ) → n ≤ 2 ^ 53 → 0 < b → b ≤ 2 ^ 53 → t (along n a b) ≡ false) (P : Picture) (bytes : Bytes P) where
  module _ (k c : ℕ) (code : c < 2 ^ 32) where
    abbrev v : Verdict
    v = crossing_verdict eight P k c

    den_few : den P k c ≤ 2 ^ 53
    den_few = omega (arith, Lowest.den_few P k c, span_few P bytes k c)

    column_few : column P.w c ≤ 2 ^ 53
    column_few = omega (arith, mod-le (c / 2) P.w, div-le_self c 2)

    row_few : Edgel.row P.w c ≤ 2 ^ 53
    row_few = omega (arith, div-le_self (c / 2) P.w, div-le_self c 2)

    pub crossing_each : (t (crossing_answer eight P k c).x ≡ false) × (t (crossing_answer eight P k c).y ≡ false)
    crossing_each =
        by_test (eqb v.number 0)
        (λ e.
        let d = done_between P k c (eqb-true v.number 0 e) in
        rw e (
          either t (horizontal c) _ _ (alongs (column P.w c) (num P k c) (den P k c) column_few (omega (arith, d.1)) den_few) (wholes (column P.w c)),
          either t (horizontal c) _ _ (wholes (Edgel.row P.w c)) (alongs (Edgel.row P.w c) (num P k c) (den P k c) row_few (omega (arith, d.1)) den_few),
        ))
        (λ e. rw e (wholes 0, wholes 0))

-- ---- the piece
-- of a difference of two small numbers
few : (z : ℤ) (x y m : ℕ) → Is z x y → x ≤ m → y ≤ m → nat_abs z ≤ m
few (pos n) x y m e p q = omega arith
few (negsuc n) x y m e p q = omega arith

mul_few : {x y : ℕ} (m n : ℕ) → x ≤ m → y ≤ n → x * y ≤ m * n
mul_few m n p q = mul-le-mul p q

is_minus : (x y : ℕ) → Is (pos x -ℤ pos y) x y
is_minus x y =
    let a : x + 0 ≡ x = omega arith in
    let b : 0 + y ≡ y = omega arith in
    subst (λ (i : ℕ). Is (pos x -ℤ pos y) i y) a (subst (λ (i : ℕ). Is (pos x -ℤ pos y) (x + 0) i) b (is_sub (pos x) (pos y) x 0 y 0 (is_pos x) (is_pos y)))

-- 2·z², for a z that is not 0
square : (n : ℕ) → 0 < n → n ≤ 510 → (is_zero (pos (2 * (n * n))) ≡ false) × (2 * (n * n) ≤ 2 ^ 53)
square n p h = let q : 0 < n * n = mul-pos p p in let r : n * n ≤ 510 * 510 = mul-le-mul h h in (ne_eqb (2 * (n * n)) 0 (λ e. omega arith), omega arith)

square_few : (z : ℤ) → is_zero z ≡ false → nat_abs z ≤ 510 → (is_zero (pos 2 *ℤ (z *ℤ z)) ≡ false) × (nat_abs (pos 2 *ℤ (z *ℤ z)) ≤ 2 ^ 53)
square_few (pos zero) e h = absurd (no refl e)
square_few (pos (suc n)) e h = square (suc n) (omega arith) h
square_few (negsuc n) e h = square (suc n) (omega arith) h

abs_neg : (z : ℤ) → nat_abs (neg_ℤ z) ≡ nat_abs z
abs_neg (pos zero) = refl
abs_neg (pos (suc n)) = refl
abs_neg (negsuc n) = refl

-- every case that holds floats
cases : (t : Float → Bool) (z e i : Bool) (m : Centre) (f : Float) → (z ≡ false → (t m.xs ≡ false) × (t m.ys ≡ false) × (t f ≡ false))
    → none_of t (cond z (case_of Straight) (cond e (cond i (case_of (Corner m)) (case_of Straight)) (case_of (Branch m f)))).values ≡ true
cases t true e i m f q = refl
cases t false true true m f q = let n = q refl in rw (n.0, n.1) refl
cases t false true false m f q = refl
cases t false false i m f q = let n = q refl in rw (n.0, n.1, n.2) refl

-- no quotient of a whole number by a positive one passes; the first is small where the level is a byte
module _ (t : Float → Bool) (k : ℕ) (quotients : (z : ℤ) (n : ℕ) → 0 < n → n ≤ 2 ^ 53 → (k < 256 → nat_abs z ≤ 2 ^ 53) → t (div binary64 (of_int binary64 z) (of_int binary64 (pos n))) ≡ false) where
  ratio_each : (z m : ℤ) → is_zero m ≡ false → nat_abs m ≤ 2 ^ 53 → (k < 256 → nat_abs z ≤ 2 ^ 53) → t (ratio z m) ≡ false
  ratio_each z (pos m) e h g = quotients z m (pos_of m (eqb-false m 0 e)) h g
    where
      pos_of : (n : ℕ) → n ≢ 0 → 0 < n
      pos_of zero q = absurd (q refl)
      pos_of (suc n) q = omega arith
  ratio_each z (negsuc m) e h g = quotients (neg_ℤ z) (suc m) (omega arith) h (λ l. omega (arith, g l, abs_neg z))

  module _ (p0 p1 p2 p3 : ℕ) (b0 : p0 < 256) (b1 : p1 < 256) (b2 : p2 < 256) (b3 : p3 < 256) where
    d_few : nat_abs (d p0 p1 p2 p3) ≤ 510
    d_few = few (d p0 p1 p2 p3) (p0 + p2) (p1 + p3) 510 (is_minus (p0 + p2) (p1 + p3)) (omega arith) (omega arith)

    -- the numerator of the centre
    side_few : (p q : ℕ) → p < 256 → q < 256 → nat_abs (neg_ℤ (pos p -ℤ pos q)) ≤ 2 ^ 53
    side_few p q l m = few (neg_ℤ (pos p -ℤ pos q)) q p (2 ^ 53) (is_neg (pos p -ℤ pos q) p q (is_minus p q)) (omega arith) (omega arith)

    -- and of δ, for a level that is a byte
    excess_few : k < 256 → nat_abs (excess p0 p1 p2 p3 k) ≤ 2 ^ 53
    excess_few l =
        let x = is_mul (2 * k + 1) (d p0 p1 p2 p3) (p0 + p2) (p1 + p3) (is_minus (p0 + p2) (p1 + p3)) in
        let y = is_mul 2 (s p0 p1 p2 p3) (p0 * p2) (p1 * p3) (is_minus (p0 * p2) (p1 * p3)) in
        let m0 : p0 * p2 ≤ 255 * 255 = mul_few 255 255 (omega arith) (omega arith) in
        let m1 : p1 * p3 ≤ 255 * 255 = mul_few 255 255 (omega arith) (omega arith) in
        let n0 : (2 * k + 1) * (p0 + p2) ≤ 511 * 510 = mul_few 511 510 (omega arith) (omega arith) in
        let n1 : (2 * k + 1) * (p1 + p3) ≤ 511 * 510 = mul_few 511 510 (omega arith) (omega arith) in
        few (excess p0 p1 p2 p3 k) _ _ (2 ^ 53) (is_sub (pos (2 * k + 1) *ℤ d p0 p1 p2 p3) (pos 2 *ℤ s p0 p1 p2 p3) _ _ _ _ x y) (omega arith) (omega arith)

    of_each : none_of t (piece_of p0 p1 p2 p3 k).values ≡ true
    unfolding piece_of
    of_each =
        cases t (is_zero (d p0 p1 p2 p3)) (is_zero (excess p0 p1 p2 p3 k)) (inside p0 p1 p2 p3) (centre p0 p1 p2 p3) (delta p0 p1 p2 p3 k)
        (λ e.
        let q = square_few (d p0 p1 p2 p3) e d_few in (
          ratio_each (neg_ℤ (c p0 p1 p2 p3)) (d p0 p1 p2 p3) e (omega (arith, d_few)) (λ l. side_few p1 p0 b1 b0),
          ratio_each (neg_ℤ (b p0 p1 p2 p3)) (d p0 p1 p2 p3) e (omega (arith, d_few)) (λ l. side_few p3 p0 b3 b0),
          ratio_each (excess p0 p1 p2 p3 k) (pos 2 *ℤ (d p0 p1 p2 p3 *ℤ d p0 p1 p2 p3)) q.0 q.1 excess_few,
        ))

  pub piece_each : (P : Picture) → Bytes P → (x y : ℕ) → none_of t (piece_answer eight P k x y).piece.values ≡ true
  piece_each P bytes x y =
      let i = cell_at P k x y in
      either (λ (p : Case). none_of t p.values) (eqb (piece_verdict eight P k x y).number 0)
      (piece_of (at P i) (at P (i + P.w)) (at P (i + P.w + 1)) (at P (i + 1)) k) (case_of Refused)
      (of_each (at P i) (at P (i + P.w)) (at P (i + P.w + 1)) (at P (i + 1)) (bytes i) (bytes (i + P.w)) (bytes (i + P.w + 1)) (bytes (i + 1))) refl

-- ---- the piece as plain numbers
module _ (t : Float → Bool) (wholes : (n : ℕ) → t (whole n) ≡ false) where
  in_first : (l : List Float) → none_of t l ≡ true → t (first l) ≡ false
  in_first [] e = wholes 0
  in_first (x ∷ l) e = not-true (t x) (and_1 (not (t x)) (none_of t l) e)

  in_second : (l : List Float) → none_of t l ≡ true → t (second l) ≡ false
  in_second [] e = wholes 0
  in_second (x ∷ l) e = in_first l (and_2 (not (t x)) (none_of t l) e)

  in_third : (l : List Float) → none_of t l ≡ true → t (third l) ≡ false
  in_third [] e = wholes 0
  in_third (x ∷ l) e = in_second l (and_2 (not (t x)) (none_of t l) e)

  pub told_each : (f : Told) → none_of t f.piece.values ≡ true → none_of t ((told_piece f).xs ∷ (told_piece f).ys ∷ (told_piece f).delta ∷ []) ≡ true
  told_each f e = let l = f.piece.values in rw (in_first l e, in_second l e, in_third l e) refl
