-- The blocks of words. Assumes nothing.
-- Main laws: `blocks_length`; `blocks_append` some and then more; `blocks_drop` without the first; `two_blocks` two full blocks, `one_block` one; `blocks_start`, `blocks_on`
--   a file filled so.
use mathlib.Core.Path.{◌≡◌, refl, sym, ap, ap₂, ◌∙◌}
use mathlib.Core.List.{List, ◌++◌, append_assoc, append-nil}
use Prim.Native.Nat.{ℕ, zero, suc, ◌+◌, ◌-◌, ◌*◌, ◌≤◌, min}
use native.Mathlib.Numerals.{add-one}
use native.Mathlib.Omega.{arith}
use lib.Dec.{leb}
use lib.ListN.{length, take, drop, replicate, length-append, length-take, length-drop, take-append-drop}
use lib.Seq.{drop-drop, drop_at, take_at, take_all, length-take-le}
use borrow.Author.Tests.{leb-true, leb-false}
use Rattle.tally.proofs.Test.{by_test}
use Rattle.block.specs.Block.{pad, block}
use Rattle.block.proofs.Put.{onto}
use Rattle.block.proofs.Bytes.{length_pad, length_block}
use Rattle.olr.specs.File.{word_bytes, word_blocks}
use Rattle.olr.proofs.Words.{bytes_length}

-- the payload of the next 127 words
abbrev pub words127 : List ℕ → List ℕ
words127 ws = pad (word_bytes (take 127 ws))

pub fits_127 : (ws : List ℕ) → length (word_bytes (take 127 ws)) ≤ 508
fits_127 ws = omega (arith, bytes_length (take 127 ws), length-take 127 ws)

pub length_127 : (n : ℕ) (ws : List ℕ) → length (block n (words127 ws)) ≡ 512
length_127 n ws = length_block n (words127 ws) (length_pad (word_bytes (take 127 ws)) (fits_127 ws))

pub blocks_length : (b m : ℕ) (ws : List ℕ) → length (word_blocks b m ws) ≡ 512 * m
unfolding word_blocks
blocks_length b zero ws = refl
blocks_length b (suc m) ws =
    length-append (block b (words127 ws)) (word_blocks (suc b) m (drop 127 ws)) ∙ omega (arith, length_127 b ws, blocks_length (suc b) m (drop 127 ws))

-- i blocks, then j more
pub blocks_append : (b i j : ℕ) (ws : List ℕ) → word_blocks b (i + j) ws ≡ word_blocks b i ws ++ word_blocks (b + i) j (drop (127 * i) ws)
unfolding word_blocks
blocks_append b zero j ws = ap₂ (λ (m n : ℕ). word_blocks m n ws) (let n : b ≡ b + 0 = omega arith in n) (let n : 0 + j ≡ j = omega arith in n)
blocks_append b (suc i) j ws =
    let s : suc i + j ≡ suc (i + j) = omega arith in
    let k : 127 + 127 * i ≡ 127 * suc i = omega arith in
    let e : drop (127 * i) (drop 127 ws) ≡ drop (127 * suc i) ws = drop-drop (127 * i) 127 ws ∙ ap (λ (n : ℕ). drop n ws) k in
    let n : suc b + i ≡ b + suc i = omega arith in
    ap (λ (m : ℕ). word_blocks b m ws) s
    ∙ ap (λ (l : List ℕ). block b (words127 ws) ++ l)
    (blocks_append (suc b) i j (drop 127 ws) ∙ ap₂ (λ (m : ℕ) (l : List ℕ). word_blocks (suc b) i (drop 127 ws) ++ word_blocks m j l) n e)
    ∙ sym (append_assoc (block b (words127 ws)) (word_blocks (suc b) i (drop 127 ws)) (word_blocks (b + suc i) j (drop (127 * suc i) ws)))

-- without the first j blocks
pub blocks_drop : (b j m : ℕ) (ws : List ℕ) → drop (512 * j) (word_blocks b (j + m) ws) ≡ word_blocks (b + j) m (drop (127 * j) ws)
unfolding word_blocks
blocks_drop b zero m ws = ap (λ (n : ℕ). word_blocks b n ws) (let n : 0 + m ≡ m = omega arith in n) ∙ ap (λ (n : ℕ). word_blocks n m ws) (let n : b ≡ b + 0 = omega arith in n)
blocks_drop b (suc j) m ws =
    let s : suc j + m ≡ suc (j + m) = omega arith in
    let k : 512 * suc j ≡ 512 + 512 * j = omega arith in
    let n : suc b + j ≡ b + suc j = omega arith in
    let i : 127 + 127 * j ≡ 127 * suc j = omega arith in
    let e : drop (127 * j) (drop 127 ws) ≡ drop (127 * suc j) ws = drop-drop (127 * j) 127 ws ∙ ap (λ (n : ℕ). drop n ws) i in
    let first = block b (words127 ws) in
    let rest = word_blocks (suc b) (j + m) (drop 127 ws) in
    ap (λ (n : ℕ). drop n (word_blocks b (suc j + m) ws)) k
    ∙ ap (λ (n : ℕ). drop (512 + 512 * j) (word_blocks b n ws)) s
    ∙ sym (drop-drop (512 * j) 512 (first ++ rest))
    ∙ ap (drop (512 * j)) (drop_at first rest 512 (length_127 b ws))
    ∙ blocks_drop (suc b) j m (drop 127 ws)
    ∙ ap (λ (l : List ℕ). word_blocks (suc b + j) m l) e
    ∙ ap (λ (n : ℕ). word_blocks n m (drop (127 * suc j) ws)) n

-- 127 words fill a payload
full_127 : (v : List ℕ) → length v ≡ 127 → length (word_bytes v) ≡ 508
full_127 v e = omega (arith, bytes_length v)

pad_full : (l : List ℕ) → length l ≡ 508 → l ≡ pad l
pad_full l e = sym (ap (λ (n : ℕ). l ++ replicate (508 - n) 0) e ∙ append-nil l)

-- the bytes of 127 words put at the start of one block and of the next
module _ (s y z v x p q : List ℕ) (ly : length y ≡ 512) (lv : length v ≡ 127) (lx : length x ≡ 127) (ey : y ≡ word_bytes v ++ p) (ez : z ≡ word_bytes x ++ q) where
  abbrev one_put : List ℕ
  one_put = y ++ drop 512 s

  abbrev pub two_put : List ℕ
  two_put = take 512 one_put ++ (z ++ drop 512 (drop 512 one_put))

  after : two_put ≡ y ++ (z ++ drop 512 (drop 512 one_put))
  after = ap (λ (l : List ℕ). l ++ (z ++ drop 512 (drop 512 one_put))) (take_at y (drop 512 s) 512 ly)

  first_payload : take 508 two_put ≡ word_bytes v
  first_payload =
      let t = z ++ drop 512 (drop 512 one_put) in
      ap (take 508) (after ∙ ap (λ (l : List ℕ). l ++ t) ey ∙ append_assoc (word_bytes v) p t) ∙ take_at (word_bytes v) (p ++ t) 508 (full_127 v lv)

  second_payload : take 508 (drop 512 two_put) ≡ word_bytes x
  second_payload =
      let t = drop 512 (drop 512 one_put) in
      ap (take 508) (ap (drop 512) after ∙ drop_at y (z ++ t) 512 ly ∙ ap (λ (l : List ℕ). l ++ t) ez ∙ append_assoc (word_bytes x) q t)
      ∙ take_at (word_bytes x) (q ++ t) 508 (full_127 x lx)

  pub two_blocks : (out ws : List ℕ) (n : ℕ) → v ≡ take 127 ws → x ≡ take 127 (drop 127 ws) → out ≡ block n (take 508 two_put) ++ block (n + 1) (take 508 (drop 512 two_put))
      → out ≡ word_blocks n 2 ws
  unfolding word_blocks
  two_blocks out ws n f g e =
      e
      ∙ ap₂ (λ (l m : List ℕ). block n l ++ block (n + 1) m)
      (first_payload ∙ pad_full (word_bytes v) (full_127 v lv) ∙ ap (λ (l : List ℕ). pad (word_bytes l)) f)
      (second_payload ∙ pad_full (word_bytes x) (full_127 x lx) ∙ ap (λ (l : List ℕ). pad (word_bytes l)) g)
      ∙ ap (λ (l : List ℕ). block n (words127 ws) ++ l) (ap (λ (m : ℕ). block m (words127 (drop 127 ws))) (add-one n) ∙ sym (append-nil (block (suc n) (words127 (drop 127 ws)))))

-- as many as there are, 127 at most
part_127 : (l : List ℕ) (k : ℕ) → k ≡ min 127 (length l) → take k l ≡ take 127 l
part_127 l k e =
    by_test (leb 127 (length l))
    (λ t. let h : k ≡ 127 = omega (arith, leb-true 127 (length l) t) in ap (λ (n : ℕ). take n l) h)
    (λ t. take_all k l (omega (arith, leb-false 127 (length l) t)) ∙ sym (take_all 127 l (omega (arith, leb-false 127 (length l) t))))

-- one block of the words that are left, 127 at most
pub one_block : (ws y : List ℕ) (n i e : ℕ) → e ≡ 127 * i + min 127 (length ws - 127 * i) → y ≡ block n (pad (word_bytes (take (e - 127 * i) (drop (127 * i) ws))))
    → y ≡ word_blocks n 1 (drop (127 * i) ws)
unfolding word_blocks
one_block ws y n i e m g =
    let r = drop (127 * i) ws in
    let q : e - 127 * i ≡ min 127 (length r) = omega (arith, length-drop (127 * i) ws) in
    g ∙ ap (λ (z : List ℕ). block n (pad (word_bytes z))) (part_127 r (e - 127 * i) q) ∙ sym (append-nil (block n (words127 r)))

module _ (was ws : List ℕ) where
  pub blocks_start : was ≡ (take 512 was ++ word_blocks 1 0 ws) ++ drop 512 was
  unfolding word_blocks
  blocks_start = sym (ap (λ (l : List ℕ). l ++ drop 512 was) (append-nil (take 512 was)) ∙ take-append-drop 512 was)

  -- j blocks y from block 1 + i on, stored after the i before them
  pub blocks_on : (b y : List ℕ) (i j k r : ℕ) → 512 ≤ length was → r ≡ i + j → k ≡ 512 * j → y ≡ word_blocks (1 + i) j (drop (127 * i) ws) → b ≡ (take 512 was ++ word_blocks 1 i ws) ++ drop (512 * (1 + i)) was
      → take (512 * (1 + i)) b ++ (y ++ drop k (drop (512 * (1 + i)) b))
      ≡ (take 512 was ++ word_blocks 1 r ws) ++ drop (512 * (1 + r)) was
  blocks_on b y i j k r l c d e f =
      let x = take 512 was ++ word_blocks 1 i ws in
      let at = 512 * (1 + i) in
      let v : at + k ≡ 512 * (1 + r) = omega arith in
      let lx : length x ≡ at = length-append (take 512 was) (word_blocks 1 i ws) ∙ omega (arith, length-take-le 512 was l, blocks_length 1 i ws) in
      ap (λ (z : List ℕ). take at b ++ (y ++ z)) (drop-drop k at b)
      ∙ sym (append_assoc (take at b) y (drop (at + k) b))
      ∙ onto x y was b at k lx f
      ∙ ap (λ (z : ℕ). (x ++ y) ++ drop z was) v
      ∙ ap (λ (z : List ℕ). z ++ drop (512 * (1 + r)) was)
      (append_assoc (take 512 was) (word_blocks 1 i ws) y
      ∙ ap (λ (z : List ℕ). take 512 was ++ z) (ap (λ (z : List ℕ). word_blocks 1 i ws ++ z) e ∙ sym (blocks_append 1 i j ws) ∙ ap (λ (z : ℕ). word_blocks 1 z ws) (sym c)))
