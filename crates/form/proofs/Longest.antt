-- How long input of the form is: at most 17,419 bytes, so that one byte more decides. Assumes nothing.
-- Main laws: `decimal_least` a number has no more digits than its size allows; `sides_digits` two sides of at most 16,384 samples have at most 6; `levels_longest`, `header_longest`, `form_longest`;
--   `form_cut` nothing past the 17,420th byte matters.
use mathlib.Core.Path.{◌≡◌, sym, ap, ◌∙◌}
use mathlib.Core.List.{List, [], ◌∷◌}
use Prim.Native.Nat.{ℕ, zero, suc, ◌+◌, ◌-◌, ◌*◌, ◌/◌, ◌%◌, ◌^◌, ◌≤◌, ◌<◌}
use native.Mathlib.Nat.{pow-suc, pow-le-pow_right, mul-le-mul, mul-zero, zero-mul}
use native.Mathlib.Omega.{arith}
use borrow.Author.Tests.{ltb-true, ltb-false}
use lib.Dec.{ltb}
use lib.ListN.{length, take, length-append}
use lib.Pow.{pow-add}
use lib.Seq.{take_all, length-take-le}
use Rattle.tally.proofs.Test.{by_test}
use Rattle.form.specs.Decimal.{decimal}
use Rattle.form.specs.Text.{more, levels_text, header, form_text, Fits, no_form}
use Rattle.form.specs.Reader.{form_of}
use Rattle.form.proofs.Decimal.{by_digits, decimal_small, decimal_more, decimal_some, decimal_length}
use Rattle.form.proofs.Exact.{Small}
use Rattle.form.proofs.ExactHead.{header_length}
use Rattle.form.proofs.ExactForm.{text_length, form_sound, form_refused}

pub decimal_least : (n : ℕ) → 1 ≤ n → 10 ^ (length (decimal n) - 1) ≤ n
decimal_least = by_digits (λ n. 1 ≤ n → 10 ^ (length (decimal n) - 1) ≤ n) small large
  where
    small : (n : ℕ) → n < 10 → 1 ≤ n → 10 ^ (length (decimal n) - 1) ≤ n
    small n h p = rw (decimal_small n h) p

    large : (n : ℕ) → 10 ≤ n → (1 ≤ n / 10 → 10 ^ (length (decimal (n / 10)) - 1) ≤ n / 10) → 1 ≤ n → 10 ^ (length (decimal n) - 1) ≤ n
    large n h r p =
        let m = length (decimal (n / 10)) - 1 in
        let z : length (decimal n) - 1 ≡ suc m =
        omega (arith, ap length (decimal_more n h), length-append (decimal (n / 10)) ((48 + n % 10) ∷ []), decimal_some (n / 10)) in
        rw z (omega (arith, pow-suc 10 m, r (omega arith)))

-- w·h at least 10^(a - 1)·10^(b - 1) for sides of a and b digits
pub sides_digits : (w h : ℕ) → 1 ≤ w → 1 ≤ h → w * h ≤ 16384 → length (decimal w) + length (decimal h) ≤ 6
sides_digits w h p q m =
    let a = length (decimal w) - 1 in
    let b = length (decimal h) - 1 in
    let x : 10 ^ (a + b) ≤ w * h = rw (pow-add 10 a b) (mul-le-mul (decimal_least w p) (decimal_least h q)) in
    by_test (ltb (a + b) 5)
    (λ t. omega (arith, ltb-true (a + b) 5 t, decimal_some w, decimal_some h))
    (λ t.
    let y : 10 ^ 5 ≤ 10 ^ (a + b) = pow-le-pow_right {n = 10} (omega arith) (ltb-false (a + b) 5 t) in
    absurd (omega arith))

pub header_longest : (w h : ℕ) → w ≤ 65535 → h ≤ 65535 → w * h ≤ 16384 → length (header w h) + w * h ≤ 16399
header_longest zero h a b m = omega (arith, header_length 0 h, decimal_length 4 0 (omega arith), decimal_length 4 h (omega arith), zero-mul h)
header_longest (suc w) zero a b m = omega (arith, header_length (suc w) 0, decimal_length 4 (suc w) (omega arith), decimal_length 4 0 (omega arith), mul-zero (suc w))
header_longest (suc w) (suc h) a b m = omega (arith, header_length (suc w) (suc h), sides_digits (suc w) (suc h) (omega arith) (omega arith) m)

more_longest : (ks : List ℕ) → Small ks → length (more ks) ≤ 4 * length ks + 1
unfolding more
more_longest [] g = omega arith
more_longest (k ∷ ks) g =
    omega (arith, length-append (decimal k) (more ks), decimal_length 2 k (omega (arith, g 0 (omega arith))), more_longest ks (λ i p. g (suc i) (omega arith)))

pub levels_longest : (ks : List ℕ) → length ks ≤ 255 → Small ks → length (levels_text ks) ≤ 1020
unfolding levels_text
levels_longest [] f g = omega arith
levels_longest (k ∷ ks) f g =
    omega (arith, length-append (decimal k) (more ks), decimal_length 2 k (omega (arith, g 0 (omega arith))), more_longest ks (λ i p. g (suc i) (omega arith)))

pub form_longest : (ks : List ℕ) (w h : ℕ) (px : List ℕ) → Fits ks w h px → length (form_text ks w h px) ≤ 17419
form_longest ks w h px f =
    omega (arith, text_length ks w h px, f.whole, levels_longest ks f.few f.small, header_longest w h f.wide f.tall f.most)

too_long : (s : List ℕ) → 17420 ≤ length s → form_of s ≡ no_form
too_long s h =
    by_test (form_of s).ok
    (λ o.
    let f = form_sound s o in
    absurd (omega (arith, ap length f.is, form_longest f.levels f.width f.height f.samples f.fits)))
    (λ o. form_refused s o)

-- what the program reads of its input is enough
pub form_cut : (s : List ℕ) → form_of (take 17420 s) ≡ form_of s
form_cut s =
    by_test (ltb (length s) 17420)
    (λ t. ap form_of (take_all 17420 s (omega (arith, ltb-true (length s) 17420 t))))
    (λ t.
    let h = ltb-false (length s) 17420 t in
    too_long (take 17420 s) (omega (arith, length-take-le 17420 s h)) ∙ sym (too_long s h))
