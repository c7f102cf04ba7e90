-- The check, one byte at a time, and which payloads and blocks have different checks. Assumes nothing.
-- Main laws: `stirred_next` one byte more, `stirred_end` no byte left, `stirred_fold` all bytes in a fold; `stir_start`, `stir_byte` each step is injective in the sum and in the byte; `start_told` equal payloads with different starts
--   have different sums; `byte_told` payloads that differ in one byte have, `set_told` the same for a byte stored; `number_told` equal payloads in blocks of different number have different checks;
--   `check_below` a check has 32 bits.
use Rattle.std.proofs.Common.{◌≡◌, ℕ, suc, ◌+◌, ◌*◌, ◌/◌, ◌%◌, ◌<◌, List, [], ◌∷◌, ◌++◌, length, get_or, take, drop, set, sym, ap, ◌∙◌, refl, arith}
use lib.Seq.{set_split, split_at}
use Rattle.std.specs.List.{fold}
use Rattle.block.specs.Block.{rotate, stir, stirred, check}

-- a sum c that is what is left to be stirred into s: one byte more, and no byte left
module _ (c s : ℕ) (l : List ℕ) (e : c ≡ stirred s l) where
  pub stirred_next : (b t : ℕ) (rest : List ℕ) → l ≡ b ∷ rest → t ≡ stir s b → c ≡ stirred t rest
  unfolding stirred
  stirred_next b t rest f g = e ∙ ap (stirred s) f ∙ ap (λ (z : ℕ). stirred z rest) (sym g)

  pub stirred_end : l ≡ [] → s ≡ c
  unfolding stirred
  stirred_end f = sym (e ∙ ap (stirred s) f)

-- the sum as a fold
pub stirred_fold : (s : ℕ) (l : List ℕ) → fold stir s l ≡ stirred s l
unfolding stirred
stirred_fold s [] = refl
stirred_fold s (b ∷ l) = stirred_fold (stir s b) l

-- the low 31 bits move up, the highest to the bottom
pub turned : (s : ℕ) → s < 4294967296 → rotate s ≡ 2 * (s % 2147483648) + s / 2147483648
turned s g = omega arith

rotate_below : (s : ℕ) → s < 4294967296 → rotate s < 4294967296
rotate_below s g = omega (arith, turned s g)

pairs : (a b x y : ℕ) → x < 2 → y < 2 → 2 * a + x ≡ 2 * b + y → (a ≡ b) × (x ≡ y)
pairs a b x y g h e = (omega arith, omega arith)

pub rotate_told : (s t : ℕ) → s < 4294967296 → t < 4294967296 → rotate s ≡ rotate t → s ≡ t
rotate_told s t g h e =
    let p = pairs (s % 2147483648) (t % 2147483648) (s / 2147483648) (t / 2147483648) (omega arith) (omega arith) (sym (turned s g) ∙ e ∙ turned t h) in
    omega (arith, p.0, p.1)

added : (x y b : ℕ) → x < 4294967296 → y < 4294967296 → (x + b) % 4294967296 ≡ (y + b) % 4294967296 → x ≡ y
added x y b g h e = omega arith

pub stir_start : (s t b : ℕ) → s < 4294967296 → t < 4294967296 → stir s b ≡ stir t b → s ≡ t
stir_start s t b g h e = rotate_told s t g h (added (rotate s) (rotate t) b (rotate_below s g) (rotate_below t h) e)

pub stir_byte : (s a b : ℕ) → a < 4294967296 → b < 4294967296 → stir s a ≡ stir s b → a ≡ b
stir_byte s a b g h e = omega arith

pub stir_below : (s b : ℕ) → stir s b < 4294967296
stir_below s b = omega arith

pub stirred_below : (s : ℕ) (l : List ℕ) → s < 4294967296 → stirred s l < 4294967296
unfolding stirred
stirred_below s [] h = h
stirred_below s (b ∷ l) h = stirred_below (stir s b) l (stir_below s b)

pub check_below : (n : ℕ) (p : List ℕ) → check n p < 4294967296
unfolding check
check_below n p = stirred_below _ p (omega arith)

-- over the same bytes, equal sums began equal
pub start_told : (s t : ℕ) (l : List ℕ) → s < 4294967296 → t < 4294967296 → stirred s l ≡ stirred t l → s ≡ t
unfolding stirred
start_told s t [] g h e = e
start_told s t (b ∷ l) g h e = stir_start s t b g h (start_told (stir s b) (stir t b) l (stir_below s b) (stir_below t b) e)

pub byte_told : (s : ℕ) (x : List ℕ) (a b : ℕ) (y : List ℕ) → a < 256 → b < 256 → stirred s (x ++ a ∷ y) ≡ stirred s (x ++ b ∷ y) → a ≡ b
unfolding stirred
byte_told s [] a b y g h e = stir_byte s a b (omega arith) (omega arith) (start_told (stir s a) (stir s b) y (stir_below s a) (stir_below s b) e)
byte_told s (c ∷ x) a b y g h e = byte_told (stir s c) x a b y g h e

-- a stored byte that leaves the check the same is the byte that was there
pub set_told : (n : ℕ) (p : List ℕ) (i b : ℕ) → i < length p → get_or p i 0 < 256 → b < 256 → check n (set p i b) ≡ check n p → b ≡ get_or p i 0
unfolding check
set_told n p i b l g h e =
    byte_told _ (take i p) b (get_or p i 0) (drop (suc i) p) h g
    (ap (stirred _) (sym (set_split p i b l)) ∙ e ∙ ap (stirred _) (split_at p i 0 l))

-- blocks with the same bytes and the same check have the same number
pub number_told : (m n : ℕ) (p : List ℕ) → m < 4294967296 → n < 4294967296 → check m p ≡ check n p → m ≡ n
unfolding check
number_told m n p g h e =
    let r : m % 4294967296 ≡ n % 4294967296 = start_told _ _ p (omega arith) (omega arith) e in
    omega arith
