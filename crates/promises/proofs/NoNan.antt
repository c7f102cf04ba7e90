-- No answer holds a float that is no number. Two floats are equal here exactly if their bits are, but for those that are no number, of which there is one for all patterns: so the contracts settle every float bit for bit.
-- Assumes nothing; the premises hold of all samples, which are bytes, and of every code, which is a u32.
-- Main laws: `crossing_numbers` both coordinates of the crossing's answer, `piece_numbers` every float that the piece's answer holds, `c_piece_numbers` that of the call for C.
use mathlib.Core.Path.{◌≡◌, refl}
use mathlib.Core.Bool.{Bool, true, false, ◌&&◌, cond, beq}
use mathlib.Core.List.{[], ◌∷◌}
use Prim.Native.Nat.{ℕ, zero, suc, ◌+◌, ◌-◌, ◌*◌, ◌^◌, ◌≤◌, ◌<◌}
use native.Mathlib.Nat.{zero-mul, mul-pos}
use native.Mathlib.Omega.{arith}
use lib.Dec.{ltb, eqb-suc-zero}
use lib.IntN.{ℤ, pos, negsuc}
use lib.Ieee.{Float, nan, inf, fin, Format, binary64, prec, emax, low, up, down, unlike, odd, units, round, sum, add, div, of_int, is_nan}
use lib.Ieee.Fits.{down_pos}
use lib.Ieee.Exact.{HasValue}
use Rattle.tally.proofs.Test.{no}
use Rattle.matte.specs.Layout.{eight}
use Rattle.matte.specs.Picture.{Picture}
use Rattle.crossing.specs.Crossing.{whole, along, crossing_answer}
use Rattle.piece.specs.Piece.{piece_answer}
use Rattle.host.specs.Piece.{told_piece}
use Rattle.promises.proofs.EachFloat.{Bytes, none_of, either, held, crossing_each, piece_each, told_each}

-- ---- the operations
odd_number : (d : ℕ) (s : Bool) (q k l : ℕ) → is_nan (odd d s q k l) ≡ false
unfolding odd is_nan
odd_number d s zero k l = refl
odd_number d s (suc q) k l = refl

units_number : (f : Format) (s : Bool) (q k : ℕ) → is_nan (units f s q k) ≡ false
unfolding units is_nan
units_number f s q k =
    either is_nan (ltb (q * 2 ^ k) (2 ^ (low f + suc (emax f)))) (odd (suc (prec f)) s q k (low f)) (inf s) (odd_number (suc (prec f)) s q k (low f)) refl

round_number : (f : Format) (s : Bool) (a b : ℕ) → is_nan (round f s a b) ≡ false
unfolding round
round_number f s a b = units_number f s _ _

int_number : (z : ℤ) → is_nan (of_int binary64 z) ≡ false
unfolding of_int
int_number (pos n) = round_number binary64 false n 1
int_number (negsuc n) = round_number binary64 true (suc n) 1

sum_number : (f : Format) (s : Bool) (a : ℕ) (t : Bool) (b c : ℕ) → is_nan (sum f s a t b c) ≡ false
unfolding sum
sum_number f s a t b c =
    either is_nan (beq s t) (round f s (a + b) c) (cond (ltb a b) (round f t (b - a) c) (round f (s && ltb b a) (a - b) c)) (round_number f s (a + b) c)
    (either is_nan (ltb a b) (round f t (b - a) c) (round f (s && ltb b a) (a - b) c) (round_number f t (b - a) c) (round_number f (s && ltb b a) (a - b) c))

-- a finite number and any number
add_number : (f : Format) (x y : Float) (s : Bool) (n : ℕ) → HasValue x s n 1 → is_nan y ≡ false → is_nan (add f x y) ≡ false
unfolding add is_nan
add_number f nan y s n h e = absurd h
add_number f (inf t) y s n h e = absurd h
add_number f (fin t m d) nan s n h e = e
add_number f (fin t m d) (inf u) s n h e = refl
add_number f (fin t m d) (fin u k g) s n h e = sum_number f t (m * up d * down g) u (k * up g * down d) (down d * down g)

-- any number by a positive one
div_number : (f : Format) (x y : Float) (n : ℕ) → is_nan x ≡ false → 0 < n → HasValue y false n 1 → is_nan (div f x y) ≡ false
unfolding div is_nan
div_number f nan y n e B h = absurd (no refl e)
div_number f (inf s) nan n e B h = absurd h
div_number f (inf s) (inf t) n e B h = absurd h
div_number f (inf s) (fin t k d) n e B h = refl
div_number f (fin s m g) nan n e B h = absurd h
div_number f (fin s m g) (inf t) n e B h = absurd h
div_number f (fin s m g) (fin t zero d) n e B h =
    let p : 0 < n * down d = mul-pos B (down_pos d) in
    let q : 0 * up d * 1 ≡ n * down d = h.1 in
    absurd (omega (arith, zero-mul (up d)))
div_number f (fin s m g) (fin t (suc k) d) n e B h = rw (eqb-suc-zero k) (round_number f (unlike s t) (m * up g * down d) (suc k * up d * down g))

over_number : (z : ℤ) (n : ℕ) → 0 < n → n ≤ 2 ^ 53 → is_nan (div binary64 (of_int binary64 z) (of_int binary64 (pos n))) ≡ false
over_number z n b h = div_number binary64 (of_int binary64 z) (of_int binary64 (pos n)) n (int_number z) b (held n h)

along_number : (n a b : ℕ) → n ≤ 2 ^ 53 → 0 < b → b ≤ 2 ^ 53 → is_nan (along n a b) ≡ false
unfolding along
along_number n a b h p q = add_number binary64 (whole n) (div binary64 (whole a) (whole b)) false n (held n h) (over_number (pos a) b p q)

-- ---- the calls
pub crossing_numbers : (P : Picture) → Bytes P → (k c : ℕ) → c < 2 ^ 32 → (is_nan (crossing_answer eight P k c).x ≡ false) × (is_nan (crossing_answer eight P k c).y ≡ false)
crossing_numbers P bytes k c code = crossing_each is_nan (λ n. int_number (pos n)) along_number P bytes k c code

pub piece_numbers : (P : Picture) → Bytes P → (k x y : ℕ) → none_of is_nan (piece_answer eight P k x y).piece.values ≡ true
piece_numbers P bytes k x y = piece_each is_nan k (λ z n p q h. over_number z n p q) P bytes x y

pub c_piece_numbers : (P : Picture) → Bytes P → (k x y : ℕ)
    → let f = told_piece (piece_answer eight P k x y) in none_of is_nan (f.xs ∷ f.ys ∷ f.delta ∷ []) ≡ true
c_piece_numbers P bytes k x y = told_each is_nan (λ n. int_number (pos n)) (piece_answer eight P k x y) (piece_numbers P bytes k x y)
