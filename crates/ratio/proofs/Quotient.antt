-- The quotient of two whole numbers as a float is the exact fraction, rounded once; so equal fractions give the same float. Assumes nothing.
-- Main laws: `quotient_is` the quotient is one rounding of the fraction; `quotient_same` quotients of equal fractions are one float.
use mathlib.Core.Path.{◌≡◌, refl, sym, ap, ◌∙◌}
use mathlib.Core.Bool.{Bool, true, false}
use Prim.Native.Nat.{ℕ, zero, suc, ◌*◌, ◌^◌, ◌≤◌, ◌<◌}
use native.Mathlib.Nat.{mul-one, zero-mul, mul_assoc, mul_comm, mul-pos}
use native.Mathlib.Omega.{arith}
use lib.Dec.{eqb-suc-zero}
use lib.IntN.{pos}
use lib.Ieee.{Float, nan, inf, fin, Format, binary64, up, down, unlike, round, div, of_int}
use lib.Ieee.Fits.{up_pos, down_pos}
use lib.Ieee.Exact.{HasValue}
use lib.Ieee.Back.{round_whole}
use lib.Ieee.Scale.{round_same}

plus : (s : Bool) → unlike s false ≡ s
plus true = refl
plus false = refl

-- m·2^e over n·2^d is a/b, crosswise
crosswise : (m u d n v f a b : ℕ) → m * u * 1 ≡ a * d → n * v * 1 ≡ b * f → m * u * f * b ≡ a * (n * v * d)
crosswise m u d n v f a b h k =
    let p : m * u ≡ a * d = sym (mul-one (m * u)) ∙ h in
    let q : n * v ≡ b * f = sym (mul-one (n * v)) ∙ k in
    rw (p, q) (mul_assoc (a * d) f b ∙ mul_assoc a d (f * b) ∙ ap (λ (z : ℕ). a * z) (mul_comm d (f * b) ∙ ap (λ (z : ℕ). z * d) (mul_comm f b)))

divided : (f : Format) (s : Bool) (x y : Float) (a b : ℕ) → 0 < b → HasValue x s a 1 → HasValue y false b 1 → div f x y ≡ round f s a b
unfolding div
divided f s nan y a b p h k = absurd h
divided f s (inf t) y a b p h k = absurd h
divided f s (fin t m e) nan a b p h k = absurd k
divided f s (fin t m e) (inf r) a b p h k = absurd k
divided f s (fin t m e) (fin r zero d) a b p h k =
    let o : 0 < b * down d = mul-pos p (down_pos d) in
    let q : 0 * up d * 1 ≡ b * down d = k.1 in
    absurd (omega (arith, zero-mul (up d)))
divided f s (fin t m e) (fin r (suc n) d) a b p h k =
    rw (h.0, k.0, plus s, eqb-suc-zero n)
    (round_same f s (m * up e * down d) (suc n * up d * down e) a b (mul-pos (mul-pos (omega arith) (up_pos d)) (down_pos e)) p
    (crosswise m (up e) (down e) (suc n) (up d) (down d) a b h.1 k.1))

pub quotient_is : (n d : ℕ) → n ≤ 2 ^ 53 → d ≤ 2 ^ 53 → 0 < d → div binary64 (of_int binary64 (pos n)) (of_int binary64 (pos d)) ≡ round binary64 false n d
unfolding of_int
quotient_is n d p q r = divided binary64 false (round binary64 false n 1) (round binary64 false d 1) n d r (round_whole binary64 false n p) (round_whole binary64 false d q)

-- LAW: equal fractions, one float
pub quotient_same : (n d i j : ℕ) → n ≤ 2 ^ 53 → d ≤ 2 ^ 53 → i ≤ 2 ^ 53 → j ≤ 2 ^ 53 → 0 < d → 0 < j → n * j ≡ i * d
    → div binary64 (of_int binary64 (pos n)) (of_int binary64 (pos d)) ≡ div binary64 (of_int binary64 (pos i)) (of_int binary64 (pos j))
quotient_same n d i j a b p q r s e = quotient_is n d a b r ∙ round_same binary64 false n d i j r s e ∙ sym (quotient_is i j p q s)
