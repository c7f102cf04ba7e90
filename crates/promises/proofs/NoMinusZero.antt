-- No answer holds −0: a float whose value is zero has the sign of +0. Assumes nothing; the premises hold of all samples and levels, which are bytes, and of every code, which is a u32.
-- Definitions: `minus_zero` a float is −0.
-- Main laws: `crossing_plus` neither coordinate of the crossing's answer is −0, `piece_plus` no float that the piece's answer holds is, `c_piece_plus` nor that of the call for C.
use mathlib.Core.Path.{◌≡◌, refl, sym, ap, subst, ◌∙◌}
use mathlib.Core.Bool.{Bool, true, false, ◌&&◌, cond, beq}
use mathlib.Core.List.{[], ◌∷◌}
use Prim.Native.Nat.{ℕ, zero, suc, compare, ◌+◌, ◌-◌, ◌*◌, ◌/◌, ◌%◌, ◌^◌, ◌≤◌, ◌<◌}
use native.Mathlib.Nat.{zero-mul, one-mul, mul-one, mul-pos, mul_comm, mul_assoc, mul-le-mul_right, le_trans, div-div-eq-div-mul, le-div_iff_mul-le}
use native.Mathlib.Omega.{arith}
use lib.Dec.{eqb, ltb, eqb-suc-zero}
use lib.IntN.{ℤ, pos, negsuc, nat_abs}
use lib.Pow.{pow_pos, pow_mono}
use lib.Ieee.{Float, nan, inf, fin, Format, binary64, prec, emax, low, up, down, size, nearest, unlike, odd, units, round, sum, add, div, of_int}
use lib.Ieee.Fits.{two, two-le_pos, down_pos, round_is}
use lib.Ieee.Exact.{HasValue, odd_sign}
use lib.Ieee.Back.{round_whole}
use lib.Ieee.Digits.{size-lt, size_reaches}
use lib.Ieee.Nearest.{nearest-ge}
use lib.Ieee.Positive.{first_pos}
use borrow.Author.Tests.{ne_eqb}
use Rattle.matte.specs.Layout.{eight}
use Rattle.matte.specs.Picture.{Picture}
use Rattle.crossing.specs.Crossing.{whole, along, crossing_answer}
use Rattle.piece.specs.Piece.{piece_answer}
use Rattle.host.specs.Piece.{told_piece}
use Rattle.promises.proofs.EachFloat.{Bytes, none_of, either, held, crossing_each, piece_each, told_each}

-- its value is zero, and its sign is minus
abbrev pub minus_zero : Float → Bool
minus_zero nan = false
minus_zero (inf s) = false
minus_zero (fin s m e) = s && eqb m 0

-- its sign is minus
abbrev minus : Float → Bool
minus nan = false
minus (inf s) = s
minus (fin s m e) = s

plus_is : (x : Float) → minus x ≡ false → minus_zero x ≡ false
plus_is nan e = refl
plus_is (inf s) e = refl
plus_is (fin s m d) e = rw e refl

-- ---- what has the sign of +0
units_plus : (f : Format) (q k : ℕ) → minus (units f false q k) ≡ false
unfolding units odd
units_plus f zero k = either minus (ltb (0 * 2 ^ k) (2 ^ (low f + suc (emax f)))) (odd (suc (prec f)) false 0 k (low f)) (inf false) refl refl
units_plus f (suc q) k = either minus (ltb (suc q * 2 ^ k) (2 ^ (low f + suc (emax f)))) (odd (suc (prec f)) false (suc q) k (low f)) (inf false) refl refl

round_plus : (f : Format) (a b : ℕ) → minus (round f false a b) ≡ false
unfolding round
round_plus f a b = units_plus f _ _

whole_plus : (n : ℕ) → minus (of_int binary64 (pos n)) ≡ false
unfolding of_int
whole_plus n = round_plus binary64 n 1

add_plus : (f : Format) (x y : Float) → minus x ≡ false → minus y ≡ false → minus (add f x y) ≡ false
unfolding add sum
add_plus f nan y p q = refl
add_plus f (inf s) nan p q = refl
add_plus f (inf s) (inf t) p q = either minus (beq s t) (inf s) nan p refl
add_plus f (inf s) (fin t n d) p q = p
add_plus f (fin s m e) nan p q = refl
add_plus f (fin s m e) (inf t) p q = q
add_plus f (fin s m e) (fin t n d) p q = rw (p, q) (round_plus f (m * up e * down d + n * up d * down e) (down e * down d))

div_plus : (f : Format) (x y : Float) → minus x ≡ false → minus y ≡ false → minus (div f x y) ≡ false
unfolding div
div_plus f nan y p q = refl
div_plus f (inf s) nan p q = refl
div_plus f (inf s) (inf t) p q = refl
div_plus f (inf s) (fin t n d) p q = rw (p, q) refl
div_plus f (fin s m e) nan p q = refl
div_plus f (fin s m e) (inf t) p q = rw (p, q) refl
div_plus f (fin s m e) (fin t n d) p q =
    rw (p, q)
    (either minus (eqb n 0) (cond (eqb m 0) nan (inf false)) (round f false (m * up e * down d) (n * up d * down e))
    (either minus (eqb m 0) nan (inf false) refl refl) (round_plus f (m * up e * down d) (n * up d * down e)))

-- ---- what is not zero
value_not : (x : Float) (s : Bool) (a c : ℕ) → HasValue x s a c → 0 < a → minus_zero x ≡ false
value_not nan s a c h p = absurd h
value_not (inf t) s a c h p = absurd h
value_not (fin t m e) s a c h p =
    let q : 0 < m * up e * c = subst (λ (z : ℕ). 0 < z) (sym h.1) (mul-pos p (down_pos e)) in
    let r : 0 < m = first_pos m (up e) (first_pos (m * up e) c q) in
    either_way t (ne_eqb m 0 (λ z. omega arith))
  where
    either_way : (t : Bool) {b : Bool} → b ≡ false → (t && b) ≡ false
    either_way true e = e
    either_way false e = refl

units_not : (f : Format) (s : Bool) (q k : ℕ) → 0 < q → minus_zero (units f s q k) ≡ false
unfolding units
units_not f s q k p =
    either minus_zero (ltb (q * 2 ^ k) (2 ^ (low f + suc (emax f)))) (odd (suc (prec f)) s q k (low f)) (inf s)
    (value_not (odd (suc (prec f)) s q k (low f)) s (q * 2 ^ k) (2 ^ low f) (odd_sign (suc (prec f)) s q k (low f)) (mul-pos p (pow_pos k))) refl

-- the first digits of a number from 1 on are not 0
digits_left : (w p : ℕ) → 0 < w → 0 < p → 2 ^ (size w - p) ≤ w
digits_left w p h q = size_reaches w (size w - p) (less (size w) (size-lt w))
  where
    less : (n : ℕ) → w < 2 ^ n → n - p < n
    less zero l = absurd (omega arith)
    less (suc n) l = omega arith

-- a fraction from the smallest value on
round_not : (f : Format) (s : Bool) (a b : ℕ) → 0 < b → b ≤ a * 2 ^ low f → minus_zero (round f s a b) ≡ false
round_not f s a b p h =
    let n = a * 2 ^ low f in
    let k = size (n / b) - prec f in
    let u = b * 2 ^ k in
    let w : 1 ≤ n / b = (le-div_iff_mul-le p).1 (omega (arith, one-mul b)) in
    let l : 2 ^ k ≤ n / b = digits_left (n / b) (prec f) w (two-le_pos (prec f) (two f)) in
    let g : 1 ≤ n / b / 2 ^ k = (le-div_iff_mul-le (pow_pos k)).1 (omega (arith, one-mul (2 ^ k))) in
    let m : 1 ≤ n / u = omega (arith, div-div-eq-div-mul n b (2 ^ k)) in
    ap minus_zero (round_is f s a b) ∙ units_not f s (nearest (n / u) (compare (n % u * 2) u)) k (omega (arith, nearest-ge (n / u) (compare (n % u * 2) u)))

grow : (c a x l : ℕ) → c ≤ l → 0 < a → c * x ≤ a * x * l
grow c a x l h p =
    let m : c * x ≤ l * x = mul-le-mul_right x h in
    let n : 1 * (x * l) ≤ a * (x * l) = mul-le-mul_right (x * l) p in
    omega (arith, mul_comm l x, one-mul (x * l), mul_assoc a x l)

-- a number that is not 0 by one that is not too large
over_not : (x y : Float) (a c : ℕ) → HasValue x true a 1 → HasValue y false c 1 → 0 < a → 0 < c → c ≤ 2 ^ 53 → minus_zero (div binary64 x y) ≡ false
unfolding div
over_not nan y a c h k p q l = absurd h
over_not (inf s) y a c h k p q l = absurd h
over_not (fin s m e) nan a c h k p q l = absurd k
over_not (fin s m e) (inf t) a c h k p q l = absurd k
over_not (fin s m e) (fin t zero d) a c h k p q l =
    let r : 0 < c * down d = mul-pos q (down_pos d) in
    let z : 0 * up d * 1 ≡ c * down d = k.1 in
    absurd (omega (arith, zero-mul (up d)))
over_not (fin s m e) (fin t (suc n) d) a c h k p q l =
    let i : m * up e ≡ a * down e = sym (mul-one (m * up e)) ∙ h.1 in
    let j : suc n * up d ≡ c * down d = sym (mul-one (suc n * up d)) ∙ k.1 in
    let x = down e * down d in
    let y : a * down e * down d ≡ a * x = mul_assoc a (down e) (down d) in
    let z : c * down d * down e ≡ c * x = mul_assoc c (down d) (down e) ∙ ap (λ (v : ℕ). c * v) (mul_comm (down d) (down e)) in
    let g : c * x ≤ a * x * 2 ^ low binary64 = grow c a x (2 ^ low binary64) (le_trans l (pow_mono few)) p in
    let b : 0 < suc n * up d * down e = subst (λ (v : ℕ). 0 < v) (sym (ap (λ (v : ℕ). v * down e) j)) (mul-pos (mul-pos q (down_pos d)) (down_pos e)) in
    let o : suc n * up d * down e ≤ m * up e * down d * 2 ^ low binary64 =
    subst (λ (v : ℕ). v ≤ m * up e * down d * 2 ^ low binary64) (sym (ap (λ (v : ℕ). v * down e) j ∙ z))
    (subst (λ (v : ℕ). c * x ≤ v * 2 ^ low binary64) (sym (ap (λ (v : ℕ). v * down d) i ∙ y)) g) in
    rw (eqb-suc-zero n) (round_not binary64 (unlike s t) (m * up e * down d) (suc n * up d * down e) b o)
  where
    few : 53 ≤ 1074
    few = omega arith

quotient_not : (z : ℤ) (n : ℕ) → 0 < n → n ≤ 2 ^ 53 → nat_abs z ≤ 2 ^ 53 → minus_zero (div binary64 (of_int binary64 z) (of_int binary64 (pos n))) ≡ false
unfolding of_int
quotient_not (pos m) n p h g = plus_is (div binary64 (of_int binary64 (pos m)) (of_int binary64 (pos n))) (div_plus binary64 (of_int binary64 (pos m)) (of_int binary64 (pos n)) (whole_plus m) (whole_plus n))
quotient_not (negsuc m) n p h g = over_not (of_int binary64 (negsuc m)) (of_int binary64 (pos n)) (suc m) n (round_whole binary64 true (suc m) g) (held n h) (omega arith) p h

whole_not : (n : ℕ) → minus_zero (whole n) ≡ false
whole_not n = plus_is (whole n) (whole_plus n)

along_not : (n a b : ℕ) → minus_zero (along n a b) ≡ false
unfolding along
along_not n a b = plus_is (add binary64 (whole n) (div binary64 (whole a) (whole b))) (add_plus binary64 (whole n) (div binary64 (whole a) (whole b)) (whole_plus n) (div_plus binary64 (whole a) (whole b) (whole_plus a) (whole_plus b)))

-- ---- the calls
pub crossing_plus : (P : Picture) → Bytes P → (k c : ℕ) → c < 2 ^ 32 → (minus_zero (crossing_answer eight P k c).x ≡ false) × (minus_zero (crossing_answer eight P k c).y ≡ false)
crossing_plus P bytes k c code = crossing_each minus_zero whole_not (λ n a b h p q. along_not n a b) P bytes k c code

pub piece_plus : (P : Picture) → Bytes P → (k x y : ℕ) → k < 256 → none_of minus_zero (piece_answer eight P k x y).piece.values ≡ true
piece_plus P bytes k x y l = piece_each minus_zero k (λ z n p q h. quotient_not z n p q (h l)) P bytes x y

pub c_piece_plus : (P : Picture) → Bytes P → (k x y : ℕ) → k < 256
    → let f = told_piece (piece_answer eight P k x y) in none_of minus_zero (f.xs ∷ f.ys ∷ f.delta ∷ []) ≡ true
c_piece_plus P bytes k x y l = told_each minus_zero whole_not (piece_answer eight P k x y) (piece_plus P bytes k x y l)
