-- Binary digits. Assumes nothing.
-- Main laws: `digit_zero` 0 has none; `digit_shift` a digit of a shifted number; `digit_past` a number below 2^k has none from k on; `digit_low` the lower digits of a number; `shift_fits`; `digit_power` a power of two has
--   one; `differ_none`; `digit_flip` of a number one digit of which was turned over, or none; `low_zero`, `low_one` the digits up to the lowest that is set.
use mathlib.Core.Path.{◌≡◌, refl, sym, ap, ◌∙◌}
use mathlib.Core.Bool.{Bool, true, false, ◌&&◌}
use Prim.Native.Nat.{ℕ, zero, suc, ◌+◌, ◌-◌, ◌*◌, ◌/◌, ◌%◌, ◌^◌, ◌≤◌, ◌<◌}
use native.Mathlib.Nat.{div-eq_of_lt, div-one, pow-suc, zero-add, zero-mul, one-mul}
use native.Mathlib.Omega.{arith}
use lib.Dec.{eqb, ltb}
use lib.Pow.{pow_mono, pow-lt, pow-add, pow_pos, shr-shr, shl-shr, shl_exact, field, mod-mod-pow}
use lib.Bits.{bit_xor, xor_shr, xor_mod, xor_zero_r}
use lib.Count.{count_trailing_zeros}
use borrow.Author.Tests.{eqb-true, eqb-false, eq-eqb, ne_eqb, ltb-true, ltb-false}
use Rattle.tally.specs.Tally.{one, odd, differ}
use Rattle.tally.proofs.Test.{by_test}
use Rattle.marks.specs.Marks.{digit}

pub digit_zero : (i : ℕ) → digit 0 i ≡ false
unfolding digit
digit_zero i = ap odd (div-eq_of_lt (pow_pos i))

pub digit_shift : (x a b : ℕ) → digit (x / 2 ^ a) b ≡ digit x (a + b)
unfolding digit
digit_shift x a b = ap odd (shr-shr x a b)

pub digit_past : (x k i : ℕ) → x < 2 ^ k → k ≤ i → digit x i ≡ false
unfolding digit
digit_past x k i h l = let t : x < 2 ^ i = omega (arith, pow_mono l) in ap odd (div-eq_of_lt t)

pub digit_low : (x k i : ℕ) → i < k → digit (x % 2 ^ k) i ≡ digit x i
unfolding digit
digit_low x k i h =
    let t = k - i - 1 in
    let s : k ≡ t + 1 + i = omega arith in
    ap odd (ap (λ (z : ℕ). x % 2 ^ z / 2 ^ i) s ∙ field x (t + 1) i) ∙ ap (λ (z : ℕ). eqb z 1) (mod-mod-pow (x / 2 ^ i) t 1)

-- a digit goes into 64 of them as it is
pub shift_fits : (a r : ℕ) → a < 2 → r < 64 → a * 2 ^ r % 2 ^ 64 ≡ a * 2 ^ r
shift_fits a r l h = shl_exact 1 r 64 l (omega arith)

-- ---- one digit turned over
pub differ_none : (b : Bool) → b ≡ differ b false
differ_none true = refl
differ_none false = refl

pub digit_power : (r s : ℕ) → digit (2 ^ r) s ≡ eqb s r
unfolding digit
digit_power r s =
    by_test (eqb s r)
    (λ e.
    let t : s ≡ r = eqb-true s r e in
    rw (t, same r) (sym (eq-eqb r r refl)))
    (λ e.
    by_test (ltb r s)
    (λ d. ap odd (div-eq_of_lt (pow-lt (ltb-true r s d))) ∙ sym e)
    (λ d.
    let k = r - s - 1 in
    let t : r ≡ suc k + s = omega (arith, eqb-false s r e, ltb-false r s d) in
    let q : 2 ^ r / 2 ^ s ≡ 2 ^ k * 2 =
    ap (λ (z : ℕ). 2 ^ z / 2 ^ s) t ∙ ap (λ (z : ℕ). z / 2 ^ s) (pow-add 2 (suc k) s) ∙ shl-shr (2 ^ suc k) s ∙ pow-suc 2 k in
    ap odd q ∙ ne_eqb (2 ^ k * 2 % 2) 1 (omega arith) ∙ sym e))
  where
    same : (r : ℕ) → 2 ^ r / 2 ^ r ≡ 1
    same r = ap (λ (z : ℕ). z / 2 ^ r) (sym (zero-add (2 ^ r)) ∙ omega arith) ∙ shl-shr 1 r

small_xor : (a b : ℕ) → a < 2 → b < 2 → eqb (bit_xor a b) 1 ≡ differ (eqb a 1) (eqb b 1)
small_xor a b p q =
    by_test (eqb a 1)
    (λ e.
    let s : a ≡ 1 = eqb-true a 1 e in
    by_test (eqb b 1)
    (λ d. let t : b ≡ 1 = eqb-true b 1 d in rw (s, t))
    (λ d. let t : b ≡ 0 = omega (arith, eqb-false b 1 d) in rw (s, t)))
    (λ e.
    let s : a ≡ 0 = omega (arith, eqb-false a 1 e) in
    by_test (eqb b 1)
    (λ d. let t : b ≡ 1 = eqb-true b 1 d in rw (s, t))
    (λ d. let t : b ≡ 0 = omega (arith, eqb-false b 1 d) in rw (s, t)))

xor_digit : (x y i : ℕ) → digit (bit_xor x y) i ≡ differ (digit x i) (digit y i)
unfolding digit
xor_digit x y i =
    ap odd (xor_shr x y i)
    ∙ ap (λ (z : ℕ). eqb z 1) (xor_mod (x / 2 ^ i) (y / 2 ^ i) 1)
    ∙ small_xor (x / 2 ^ i % 2) (y / 2 ^ i % 2) (omega arith) (omega arith)

pub digit_flip : (x r s : ℕ) (b : Bool) → digit (bit_xor x (one b * 2 ^ r)) s ≡ differ (digit x s) (b && eqb s r)
digit_flip x r s true =
    ap (λ (z : ℕ). digit (bit_xor x z) s) (one-mul (2 ^ r)) ∙ xor_digit x (2 ^ r) s ∙ ap (differ (digit x s)) (digit_power r s)
digit_flip x r s false =
    ap (λ (z : ℕ). digit (bit_xor x z) s) (zero-mul (2 ^ r)) ∙ ap (λ (z : ℕ). digit z s) (xor_zero_r x) ∙ differ_none (digit x s)

-- ---- the lowest digit that is set
digit_first : (x : ℕ) → digit x 0 ≡ odd x
unfolding digit
digit_first x = ap odd (div-one x)

digit_next : (x i : ℕ) → digit x (suc i) ≡ digit (x / 2) i
digit_next x i = let t : 1 + i ≡ suc i = omega arith in ap (digit x) (sym t) ∙ sym (digit_shift x 1 i)

pub low_zero : (k x i : ℕ) → i < count_trailing_zeros k x → digit x i ≡ false
unfolding count_trailing_zeros
low_zero zero x i h = absurd (omega arith)
low_zero (suc k) x zero h =
    by_test (eqb (x % 2) 0)
    (λ e. let z : x % 2 ≡ 0 = eqb-true (x % 2) 0 e in digit_first x ∙ ne_eqb (x % 2) 1 (omega arith))
    (λ e. let o : x % 2 ≡ 1 = omega (arith, eqb-false (x % 2) 0 e) in absurd (omega (arith, rw o at h)))
low_zero (suc k) x (suc i) h =
    by_test (eqb (x % 2) 0)
    (λ e. digit_next x i ∙ low_zero k (x / 2) i (omega (arith, rw (eqb-true (x % 2) 0 e) at h)))
    (λ e. let o : x % 2 ≡ 1 = omega (arith, eqb-false (x % 2) 0 e) in absurd (omega (arith, rw o at h)))

pub low_one : (k x : ℕ) → 0 < x → x < 2 ^ k → digit x (count_trailing_zeros k x) ≡ true
unfolding count_trailing_zeros
low_one zero x p h = absurd (omega arith)
low_one (suc k) x p h =
    by_test (eqb (x % 2) 0)
    (λ e.
    let z : x % 2 ≡ 0 = eqb-true (x % 2) 0 e in
    let l : x / 2 < 2 ^ k = omega (arith, pow-suc 2 k) in
    rw z (digit_next x (count_trailing_zeros k (x / 2)) ∙ low_one k (x / 2) (omega arith) l))
    (λ e.
    let o : x % 2 ≡ 1 = omega (arith, eqb-false (x % 2) 0 e) in
    rw o (digit_first x ∙ eq-eqb (x % 2) 1 o))
