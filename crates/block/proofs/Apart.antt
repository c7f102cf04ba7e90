-- How two sums of one block move apart, byte by byte. Assumes nothing.
-- Definitions: `twice` a number doubled so many times; `grown` the distance of two sums one byte later; `Far s t x y` the sum t is more than x and less than y further on than s.
-- Main laws: `grown_within` one byte more doubles the distance, give or take one, `turn` and that is then the distance; `turn_two` two bytes in a row never add one each; `far` the distance after many bytes; `apart_still` sums that are far apart
--   differ after one more byte, equal or not; `twice_mono`, `twice_more` a larger number or more doublings give no less.
use Rattle.std.proofs.Common.{◌≡◌, ℕ, zero, suc, ◌+◌, ◌-◌, ◌*◌, ◌/◌, ◌%◌, ◌<◌, ◌≤◌, ltb, List, [], ◌∷◌, length, sym, ap, ◌∙◌, zero-add, arith, ltb-false, ltb-true}
use Rattle.tally.proofs.Test.{by_test}
use Rattle.tally.specs.Tally.{apart}
use Rattle.block.specs.Block.{rotate, stir, stirred}
use Rattle.block.proofs.Check.{turned, stir_below}

unfoldable pub twice : ℕ → ℕ → ℕ
twice x zero = x
twice x (suc n) = twice (2 * x) n

least : (x n : ℕ) → x ≤ twice x n
unfolding twice
least x zero = omega arith
least x (suc n) = omega (arith, least (2 * x) n)

pub twice_mono : (x y n : ℕ) → x ≤ y → twice x n ≤ twice y n
unfolding twice
twice_mono x y zero h = h
twice_mono x y (suc n) h = twice_mono (2 * x) (2 * y) n (omega arith)

pub twice_more : (x n j : ℕ) → twice x n ≤ twice x (n + j)
unfolding twice
twice_more x zero j = rw (zero-add j) (least x j)
twice_more x (suc n) j =
    let q : suc n + j ≡ suc (n + j) = omega arith in
    rw q (twice_more (2 * x) n j)

-- ---- one byte
abbrev pub grown : ℕ → ℕ → ℕ → ℕ
grown s t d = 2 * d + t / 2147483648 - s / 2147483648

-- by the top bits a, c and the other bits r, q of both sums
plain : (s t d a c r q w : ℕ) → s ≡ 2147483648 * a + r → t ≡ 2147483648 * c + q → s + d ≡ t + 4294967296 * w → 1 ≤ d → a < 2 → c < 2 → r < 2147483648 → q < 2147483648
    → (2 * r + a + (2 * d + c - a)) % 4294967296 ≡ 2 * q + c
plain s t d a c r q w e f g h i j k l =
    let n : a ≤ c + 2 * w = omega arith in
    let z : 2 * r + a + (2 * d + c - a) ≡ 2 * q + c + 4294967296 * (c + 2 * w - a) = omega arith in
    omega (arith, z)

added_apart : (x y d b : ℕ) → y ≡ (x + d) % 4294967296 → (y + b) % 4294967296 ≡ ((x + b) % 4294967296 + d) % 4294967296
added_apart x y d b e = omega arith

low_turned : (s : ℕ) → s < 2147483648 → rotate s ≡ 2 * s
low_turned s h = omega arith

small : (x y e d : ℕ) → y ≡ (x + e) % 4294967296 → x < 254 → e ≤ 2 * d + 1 → d < 256 → y < 2147483648
small x y e d p g h k = omega arith

top_no : (s : ℕ) → s < 2147483648 → s / 2147483648 ≡ 0
top_no s h = omega arith

top_yes : (s : ℕ) → 2147483648 ≤ s → 1 ≤ s / 2147483648
top_yes s h = omega arith

top_most : (s : ℕ) → s < 4294967296 → s / 2147483648 ≤ 1
top_most s h = omega arith

-- two steps by their top bits
module _ (a c x y : ℕ) where
  bits : (d : ℕ) → 1 ≤ d → a ≤ 1 → 2 * c + y ≤ 2 + 2 * a + x → 2 * (2 * d + c - a) + y - x ≤ 4 * d + 2
  bits d h l e = omega arith

  few : c ≡ 0 → y ≤ 1 → 2 * c + y ≤ 2 + 2 * a + x
  few e h = omega arith

  late : y ≡ 0 → c ≤ 1 → 2 * c + y ≤ 2 + 2 * a + x
  late e h = omega arith

  more : c ≤ 1 → y ≤ 1 → 1 ≤ x → 2 * c + y ≤ 2 + 2 * a + x
  more g h k = omega arith

  most : c ≤ 1 → y ≤ 1 → 1 ≤ a → 2 * c + y ≤ 2 + 2 * a + x
  most g h k = omega arith

module _ (s t d : ℕ) (g : s < 4294967296) (e : t ≡ (s + d) % 4294967296) (some : 1 ≤ d) where
  pub grown_within : (2 * d ≤ grown s t d + 1) × (grown s t d ≤ 2 * d + 1)
  grown_within = (omega arith, omega arith)

  turned_apart : rotate t ≡ (rotate s + grown s t d) % 4294967296
  turned_apart =
      turned t (omega arith)
      ∙ sym
      (plain s t d (s / 2147483648) (t / 2147483648) (s % 2147483648) (t % 2147483648) ((s + d) / 4294967296) (omega arith) (omega arith) (omega arith) some (omega arith) (omega arith) (omega arith) (omega arith))
      ∙ ap (λ (x : ℕ). (x + grown s t d) % 4294967296) (sym (turned s g))

  pub turn : (b : ℕ) → stir t b ≡ (stir s b + grown s t d) % 4294967296
  turn b = added_apart (rotate s) (rotate t) (grown s t d) b turned_apart

  -- a top bit that d has just set is not set again one byte later
  again : (b : ℕ) → b < 256 → d < 256 → s < 2147483648 → 2147483648 ≤ t → stir s b < 2147483648 → stir t b < 2147483648
  again b h k i j l =
      let x : rotate s ≡ 2 * s = low_turned s i in
      let y : 2 * s + b < 4294967550 = omega arith in
      let z : 4294966786 ≤ 2 * s + b = omega arith in
      let low : stir s b < 254 = omega arith in
      small (stir s b) (stir t b) (grown s t d) d (turn b) low grown_within.1 k

  pub turn_two : (b : ℕ) → b < 256 → d < 256 → grown (stir s b) (stir t b) (grown s t d) ≤ 4 * d + 2
  turn_two b h k =
      let a = s / 2147483648 in
      let c = t / 2147483648 in
      let x = stir s b / 2147483648 in
      let y = stir t b / 2147483648 in
      let lc : c ≤ 1 = top_most t (omega arith) in
      let ly : y ≤ 1 = top_most (stir t b) (stir_below t b) in
      bits a c x y d some (top_most s g)
      (by_test (ltb s 2147483648)
      (λ i.
      by_test (ltb t 2147483648)
      (λ j. few a c x y (top_no t (ltb-true t 2147483648 j)) ly)
      (λ j.
      by_test (ltb (stir s b) 2147483648)
      (λ l. late a c x y (top_no (stir t b) (again b h k (ltb-true s 2147483648 i) (ltb-false t 2147483648 j) (ltb-true (stir s b) 2147483648 l))) lc)
      (λ l. more a c x y lc ly (top_yes (stir s b) (ltb-false (stir s b) 2147483648 l)))))
      (λ i. most a c x y lc ly (top_yes s (ltb-false s 2147483648 i))))

-- ---- many bytes: x below the distance, y above it
pub record Far (s t x y : ℕ) : Type 0 where
  pub off : ℕ
  pub over : x + 1 ≤ off
  pub under : off + 1 ≤ y
  pub sums : t ≡ (s + off) % 4294967296

pub far : (l : List ℕ) (s t x y : ℕ) → s < 4294967296 → Far s t x y → Far (stirred s l) (stirred t l) (twice x (length l)) (twice y (length l))
unfolding twice stirred
far [] s t x y g F = F
far (b ∷ l) s t x y g F =
    let d = F.off in
    let w = grown_within s t d g F.sums (omega (arith, F.over)) in
    far l (stir s b) (stir t b) (2 * x) (2 * y) (stir_below s b)
    (record {
      off = grown s t d;
      over = omega (arith, F.over, w.0);
      under = omega (arith, F.under, w.1);
      sums = turn s t d g F.sums (omega (arith, F.over)) b;
    })

rolled : (u v e b c : ℕ) → v ≡ (u + e) % 4294967296 → apart b c < e → e + apart b c < 4294967296 → (u + b) % 4294967296 ≡ (v + c) % 4294967296 → ⊥
rolled u v e b c p h k q = omega arith

-- another byte after sums so far apart does not bring them together
module _ (s t x y : ℕ) (g : s < 4294967296) (F : Far s t x y) where
  pub apart_still : (b c : ℕ) → apart b c ≤ 2 * x → 2 * y + apart b c ≤ 4294967296 → stir s b ≡ stir t c → ⊥
  apart_still b c h k q =
      let d = F.off in
      let w = grown_within s t d g F.sums (omega (arith, F.over)) in
      rolled (rotate s) (rotate t) (grown s t d) b c (turned_apart s t d g F.sums (omega (arith, F.over)))
      (omega (arith, F.over, w.0))
      (omega (arith, F.under, w.1))
      q
