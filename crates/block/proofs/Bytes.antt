-- Numbers as bytes, and back. Assumes nothing.
-- Definitions: `Below` every element of a list is below a bound.
-- Main laws: `num2_le2`, `num4_le4` the bytes of a number give the number; `le2_num2`, `le4_num4` a number's bytes are those it was read from; `num2_same`, `num4_same` equal bytes, equal numbers;
--   `num4_front`, `num4_after`, `num4_take`, `num4_drop` in lists joined and in parts; `below_take`, `below_drop` the bound in parts; `length_pad`, `length_block`.
use Rattle.std.proofs.Common.{◌≡◌, ℕ, ◌+◌, ◌-◌, ◌*◌, ◌/◌, ◌%◌, ◌<◌, ◌≤◌, List, [], ◌∷◌, ◌++◌, length, get_or, take, drop, replicate, sym, refl, ap, ◌∙◌, add_assoc, mod-eq_of_lt, add_comm, div-add-mod', arith, length-append, length-drop, length-take, get_or-drop, get_or-take, get_or-append-add}
use native.Mathlib.Nat.{div-div-eq-div-mul}
use lib.Arith.{digits_div, digits_mod}
use lib.ListN.{length-replicate, get_or-append}
use Rattle.block.specs.Block.{le2, le4, num2, num4, check, pad, block}

pub num2_le2 : (n : ℕ) (l : List ℕ) → n < 65536 → num2 (le2 n ++ l) 0 ≡ n
num2_le2 n l h = omega arith

sum : (n p q r a b c d : ℕ) → n ≡ p * 256 + a → p ≡ q * 256 + b → q ≡ r * 256 + c → d ≡ r → a + b * 256 + c * 65536 + d * 16777216 ≡ n
sum n p q r a b c d e f g h = omega arith

list4 : {a b c d w x y z : ℕ} → w ≡ a → x ≡ b → y ≡ c → z ≡ d → w ∷ x ∷ y ∷ z ∷ [] ≡ a ∷ b ∷ c ∷ d ∷ []
list4 p q r s = λ i. p i ∷ q i ∷ r i ∷ s i ∷ []

pub num4_le4 : (n : ℕ) (l : List ℕ) → n < 4294967296 → num4 (le4 n ++ l) 0 ≡ n
num4_le4 n l h =
    let y : n / 256 / 256 ≡ n / 65536 = div-div-eq-div-mul n 256 256 in
    let z : n / 65536 / 256 ≡ n / 16777216 = div-div-eq-div-mul n 65536 256 in
    let a : n ≡ n / 256 * 256 + n % 256 = sym (div-add-mod' n 256) in
    let b : n / 256 ≡ n / 65536 * 256 + n / 256 % 256 = sym (div-add-mod' (n / 256) 256) ∙ ap (λ (t : ℕ). t * 256 + n / 256 % 256) y in
    let c : n / 65536 ≡ n / 16777216 * 256 + n / 65536 % 256 = sym (div-add-mod' (n / 65536) 256) ∙ ap (λ (t : ℕ). t * 256 + n / 65536 % 256) z in
    let d : n / 16777216 % 256 ≡ n / 16777216 = mod-eq_of_lt (omega arith) in
    sum n (n / 256) (n / 65536) (n / 16777216) (n % 256) (n / 256 % 256) (n / 65536 % 256) (n / 16777216 % 256) a b c d

-- one digit after the other
low : (a n : ℕ) → a < 256 → (a + n * 256) % 256 ≡ a
low a n h = ap (λ (t : ℕ). t % 256) (add_comm a (n * 256)) ∙ digits_mod n h

high : (a n : ℕ) → a < 256 → (a + n * 256) / 256 ≡ n
high a n h = ap (λ (t : ℕ). t / 256) (add_comm a (n * 256)) ∙ digits_div n h

pub bytes2 : (a b : ℕ) → a < 256 → b < 256 → le2 (a + b * 256) ≡ a ∷ b ∷ []
bytes2 a b ha hb =
    let x : (a + b * 256) % 256 ≡ a = low a b ha in
    let y : (a + b * 256) / 256 % 256 ≡ b = ap (λ (t : ℕ). t % 256) (high a b ha) ∙ mod-eq_of_lt hb in
    rw (x, y)

pub bytes4 : (a b c d : ℕ) → a < 256 → b < 256 → c < 256 → d < 256 → le4 (a + b * 256 + c * 65536 + d * 16777216) ≡ a ∷ b ∷ c ∷ d ∷ []
bytes4 a b c d ha hb hc hd =
    let q = c + d * 256 in
    let p = b + q * 256 in
    let e : a + b * 256 + c * 65536 + d * 16777216 ≡ a + p * 256 = omega arith in
    let x : (a + p * 256) % 256 ≡ a = low a p ha in
    let y : (a + p * 256) / 256 % 256 ≡ b = ap (λ (t : ℕ). t % 256) (high a p ha) ∙ low b q hb in
    let g : (a + p * 256) / 65536 ≡ q = sym (div-div-eq-div-mul (a + p * 256) 256 256) ∙ ap (λ (t : ℕ). t / 256) (high a p ha) ∙ high b q hb in
    let z : (a + p * 256) / 65536 % 256 ≡ c = ap (λ (t : ℕ). t % 256) g ∙ low c d hc in
    let k : (a + p * 256) / 16777216 ≡ d = sym (div-div-eq-div-mul (a + p * 256) 65536 256) ∙ ap (λ (t : ℕ). t / 256) g ∙ high c d hc in
    let t : (a + p * 256) / 16777216 % 256 ≡ d = ap (λ (t : ℕ). t % 256) k ∙ mod-eq_of_lt hd in
    ap le4 e ∙ list4 x y z t

abbrev pub Below : ℕ → List ℕ → Type 0
Below m l = (i : ℕ) → i < length l → get_or l i 0 < m

pub below_drop : (m n : ℕ) (l : List ℕ) → Below m l → Below m (drop n l)
below_drop m n l b i h = rw (get_or-drop n l i 0) (b (n + i) (omega (arith, length-drop n l)))

pub below_take : (m n : ℕ) (l : List ℕ) → Below m l → Below m (take n l)
below_take m n l b i h = rw (get_or-take n l i 0 (omega (arith, length-take n l))) (b i (omega (arith, length-take n l)))

pub first2 : (l : List ℕ) → 2 ≤ length l → take 2 l ≡ get_or l 0 0 ∷ get_or l 1 0 ∷ []
first2 [] h = absurd (omega arith)
first2 (a ∷ []) h = absurd (omega arith)
first2 (a ∷ b ∷ l) h = refl

first4 : (l : List ℕ) → 4 ≤ length l → take 4 l ≡ get_or l 0 0 ∷ get_or l 1 0 ∷ get_or l 2 0 ∷ get_or l 3 0 ∷ []
first4 [] h = absurd (omega arith)
first4 (a ∷ []) h = absurd (omega arith)
first4 (a ∷ b ∷ []) h = absurd (omega arith)
first4 (a ∷ b ∷ c ∷ []) h = absurd (omega arith)
first4 (a ∷ b ∷ c ∷ d ∷ l) h = refl

pub num2_same : (f g : List ℕ) (i j : ℕ) → ((k : ℕ) → k < 2 → get_or f (i + k) 0 ≡ get_or g (j + k) 0) → num2 f i ≡ num2 g j
num2_same f g i j e =
    let z : get_or f i 0 ≡ get_or g j 0 = ap (λ (n : ℕ). get_or f n 0) (omega arith) ∙ e 0 (omega arith) ∙ ap (λ (n : ℕ). get_or g n 0) (omega arith) in
    omega (arith, e 1 (omega arith))

pub num4_same : (f g : List ℕ) (i j : ℕ) → ((k : ℕ) → k < 4 → get_or f (i + k) 0 ≡ get_or g (j + k) 0) → num4 f i ≡ num4 g j
num4_same f g i j e =
    let z : get_or f i 0 ≡ get_or g j 0 = ap (λ (n : ℕ). get_or f n 0) (omega arith) ∙ e 0 (omega arith) ∙ ap (λ (n : ℕ). get_or g n 0) (omega arith) in
    omega (arith, e 1 (omega arith), e 2 (omega arith), e 3 (omega arith))

pub num4_drop : (n : ℕ) (f : List ℕ) (i : ℕ) → num4 (drop n f) i ≡ num4 f (n + i)
num4_drop n f i = num4_same (drop n f) f i (n + i) (λ k h. get_or-drop n f (i + k) 0 ∙ ap (λ (m : ℕ). get_or f m 0) (sym (add_assoc n i k)))

pub num4_take : (n : ℕ) (f : List ℕ) (i : ℕ) → i + 4 ≤ n → num4 (take n f) i ≡ num4 f i
num4_take n f i l = num4_same (take n f) f i i (λ k h. get_or-take n f (i + k) 0 (omega arith))

pub num4_front : (a b : List ℕ) (i : ℕ) → i + 4 ≤ length a → num4 (a ++ b) i ≡ num4 a i
num4_front a b i l = num4_same (a ++ b) a i i (λ k h. get_or-append a b 0 (i + k) (omega arith))

pub num4_after : (a b : List ℕ) (i j : ℕ) → j ≡ length a + i → num4 (a ++ b) j ≡ num4 b i
num4_after a b i j e =
    ap (num4 (a ++ b)) e
    ∙ num4_same (a ++ b) b (length a + i) i (λ k h. ap (λ (m : ℕ). get_or (a ++ b) m 0) (add_assoc (length a) i k) ∙ get_or-append-add a b (i + k) 0)

-- the bytes at a place are those of their number
pub le4_num4 : (f : List ℕ) (i : ℕ) → Below 256 f → i + 4 ≤ length f → le4 (num4 f i) ≡ take 4 (drop i f)
le4_num4 f i b l =
    let g = drop i f in
    let m : length g ≡ length f - i = length-drop i f in
    let c : Below 256 g = below_drop 256 i f b in
    ap le4 (ap (num4 f) (omega arith) ∙ sym (num4_drop i f 0))
    ∙ bytes4 (get_or g 0 0) (get_or g 1 0) (get_or g 2 0) (get_or g 3 0) (c 0 (omega arith)) (c 1 (omega arith)) (c 2 (omega arith)) (c 3 (omega arith))
    ∙ sym (first4 g (omega arith))

pub le2_num2 : (f : List ℕ) (i : ℕ) → Below 256 f → i + 2 ≤ length f → le2 (num2 f i) ≡ take 2 (drop i f)
le2_num2 f i b l =
    let g = drop i f in
    let m : length g ≡ length f - i = length-drop i f in
    let c : Below 256 g = below_drop 256 i f b in
    ap le2 (num2_same f g i 0 (λ k h. ap (λ (n : ℕ). get_or f n 0) (omega arith) ∙ sym (get_or-drop i f (0 + k) 0)))
    ∙ bytes2 (get_or g 0 0) (get_or g 1 0) (c 0 (omega arith)) (c 1 (omega arith))
    ∙ sym (first2 g (omega arith))

pub num4_below : (f : List ℕ) (i : ℕ) → Below 256 f → i + 4 ≤ length f → num4 f i < 4294967296
num4_below f i b l = omega (arith, b i (omega arith), b (i + 1) (omega arith), b (i + 2) (omega arith), b (i + 3) (omega arith))

pub length_pad : (p : List ℕ) → length p ≤ 508 → length (pad p) ≡ 508
length_pad p h = length-append p (replicate (508 - length p) 0) ∙ omega (arith, length-replicate (508 - length p) (let z : ℕ = 0 in z))

pub length_block : (n : ℕ) (p : List ℕ) → length p ≡ 508 → length (block n p) ≡ 512
length_block n p h = length-append p (le4 (check n p)) ∙ omega arith
