-- What reading finds in a file as it is written. Assumes nothing.
-- Main laws: `bytes_at` a word among the bytes of words; `block_payload`, `block_checks` a block that stands in a file; `file_length_lem`, `file_blocks`; `file_head` block 0, `file_word` a block of words in the
--   file; `wide`, `high`, `border`, `counted`, `worded`, `leveled`, `words-read` what the file says is what was written; `laid_there` it keeps the layout; `checked_there` its checks are right.
use mathlib.Core.Path.{◌≡◌, refl, sym, ap, ◌∙◌}
use mathlib.Core.Bool.{true}
use mathlib.Core.List.{List, [], ◌∷◌, ◌++◌, append_assoc}
use Prim.Native.Nat.{ℕ, zero, suc, ◌+◌, ◌-◌, ◌*◌, ◌/◌, ◌%◌, ◌≤◌, ◌<◌}
use native.Mathlib.Omega.{arith}
use lib.ListN.{length, get_or, take, drop, replicate, length-append, length-take, length-drop}
use lib.Seq.{take_at, drop-append-add, get_or-take, get_or-drop}
use borrow.Author.Tests.{eq-eqb}
use Rattle.block.specs.Block.{le4, num2, num4, check, pad, block}
use Rattle.block.proofs.Check.{check_below}
use Rattle.block.proofs.Bytes.{Below, below_take, below_drop, num4_le4, num2_le2, num4_front, num4_after, num4_drop, length_pad}
use Rattle.olr.specs.File.{letters, header, word_bytes, blocks_for, word_blocks, file}
use Rattle.olr.specs.Read.{blocks, payload, check_fits, file_width, file_height, file_border, file_count, file_word_count, file_levels}
use Rattle.olr.proofs.Words.{bytes_length}
use Rattle.olr.proofs.Blocks.{words127, fits_127, blocks_length, blocks_drop}
use Rattle.olr.proofs.Head.{head_fits_lem, head_length}
use Rattle.olr.proofs.Write.{file_is}

-- word r among the bytes of words
pub bytes_at : (ws : List ℕ) (r : ℕ) → Below 4294967296 ws → r < length ws → num4 (word_bytes ws) (4 * r) ≡ get_or ws r 0
unfolding word_bytes
bytes_at [] r b h = absurd (omega arith)
bytes_at (u ∷ ws) zero b h = num4_le4 u (word_bytes ws) (b 0 (omega arith))
bytes_at (u ∷ ws) (suc r) b h =
    num4_after (le4 u) (word_bytes ws) (4 * r) (4 * suc r) (omega arith) ∙ bytes_at ws r (λ i l. b (suc i) (omega arith)) (omega arith)

module _ (f : List ℕ) (i : ℕ) (p rest : List ℕ) (l : length p ≡ 508) (e : drop (512 * i) f ≡ block i p ++ rest) where
  cut : drop (512 * i) f ≡ p ++ (le4 (check i p) ++ rest)
  cut = e ∙ append_assoc p (le4 (check i p)) rest

  pub block_payload : payload f i ≡ p
  block_payload = ap (take 508) cut ∙ take_at p (le4 (check i p) ++ rest) 508 l

  pub block_checks : check_fits f i ≡ true
  block_checks =
      eq-eqb (num4 f (512 * i + 508)) (check i (payload f i))
      (sym (num4_drop (512 * i) f 508)
      ∙ ap (λ (g : List ℕ). num4 g 508) cut
      ∙ num4_after p (le4 (check i p) ++ rest) 0 508 (omega arith)
      ∙ num4_le4 (check i p) rest (check_below i p)
      ∙ ap (check i) (sym block_payload))

  -- a number in the payload's own bytes
  pub block_num : (q : List ℕ) (j : ℕ) → p ≡ pad q → j + 4 ≤ length q → num4 f (512 * i + j) ≡ num4 q j
  block_num q j g h =
      let z : List ℕ = replicate (508 - length q) 0 in
      let m : length q ≤ length (q ++ z) = omega (arith, length-append q z) in
      sym (num4_drop (512 * i) f j)
      ∙ ap (λ (x : List ℕ). num4 x j) (cut ∙ ap (λ (x : List ℕ). x ++ (le4 (check i p) ++ rest)) g)
      ∙ num4_front (pad q) (le4 (check i p) ++ rest) j (omega arith)
      ∙ num4_front q z j h

module _ (w h v : ℕ) (ks ws : List ℕ) where
  abbrev whole : List ℕ
  whole = block 0 (pad (header w h v ks (length ws))) ++ word_blocks 1 (blocks_for (length ws)) ws

  abbrev it : List ℕ
  it = file w h v ks ws

  is : it ≡ whole
  is = file_is w h v ks ws

  -- block 0
  pub wide : w < 65536 → file_width it ≡ w
  wide l = ap file_width is ∙ num2_le2 w [] l

  pub tall : h < 65536 → file_height it ≡ h
  tall l = ap file_height is ∙ num2_le2 h [] l

  pub bordered : file_border it ≡ v
  bordered = ap file_border is

  pub counted : file_count it ≡ length ks
  counted = ap file_count is

  pub worded : length ws < 4294967296 → file_word_count it ≡ length ws
  worded l = ap file_word_count is ∙ num4_le4 (length ws) [] l

  pub lettered : num4 it 0 ≡ num4 letters 0
  lettered = ap (λ (f : List ℕ). num4 f 0) is

  pub spared : num2 it 10 ≡ 0
  spared = ap (λ (f : List ℕ). num2 f 10) is

  pub leveled : file_levels it ≡ ks
  leveled =
      let z : List ℕ = replicate (508 - length (header w h v ks (length ws))) 0 in
      let c = le4 (check 0 (pad (header w h v ks (length ws)))) in
      let r = word_blocks 1 (blocks_for (length ws)) ws in
      ap (λ (n : ℕ). take n (drop 16 it)) counted
      ∙ ap (λ (f : List ℕ). take (length ks) (drop 16 f)) is
      ∙ ap (take (length ks)) (append_assoc (ks ++ z) c r ∙ append_assoc ks z (c ++ r))
      ∙ take_at ks (z ++ (c ++ r)) (length ks) refl

  module _ (few : length ks ≤ 255) where
    pub file_length_lem : length it ≡ 512 * (1 + blocks_for (length ws))
    file_length_lem =
        ap length is
        ∙ length-append (block 0 (pad (header w h v ks (length ws)))) (word_blocks 1 (blocks_for (length ws)) ws)
        ∙ omega (arith, head_length w h v ks (length ws) few, blocks_length 1 (blocks_for (length ws)) ws)

    pub file_blocks : blocks it ≡ 1 + blocks_for (length ws)
    file_blocks = omega (arith, file_length_lem)

    -- block 0's payload is the header, padded
    pad_head : length (pad (header w h v ks (length ws))) ≡ 508
    pad_head = length_pad (header w h v ks (length ws)) (head_fits_lem w h v ks (length ws) few)

    pub file_head : payload it 0 ≡ pad (header w h v ks (length ws))
    file_head = block_payload it 0 (pad (header w h v ks (length ws))) (word_blocks 1 (blocks_for (length ws)) ws) pad_head is

    head_checks : check_fits it 0 ≡ true
    head_checks = block_checks it 0 (pad (header w h v ks (length ws))) (word_blocks 1 (blocks_for (length ws)) ws) pad_head is

    -- the words of block 1 + b
    abbrev from : ℕ → List ℕ
    from b = drop (127 * b) ws

    word_block : (b : ℕ) → b < blocks_for (length ws) → drop (512 * (1 + b)) it ≡ block (1 + b) (words127 (from b)) ++ word_blocks (suc (1 + b)) (blocks_for (length ws) - suc b) (drop 127 (from b))
    unfolding word_blocks
    word_block b l =
        let m = blocks_for (length ws) in
        let k : 512 * (1 + b) ≡ length (block 0 (pad (header w h v ks (length ws)))) + 512 * b = omega (arith, head_length w h v ks (length ws) few) in
        let s : m ≡ b + suc (m - suc b) = omega arith in
        ap (drop (512 * (1 + b))) is
        ∙ ap (λ (n : ℕ). drop n whole) k
        ∙ drop-append-add (block 0 (pad (header w h v ks (length ws)))) (word_blocks 1 m ws) (512 * b)
        ∙ ap (λ (n : ℕ). drop (512 * b) (word_blocks 1 n ws)) s
        ∙ blocks_drop 1 b (suc (m - suc b)) ws

    pub file_word : (b : ℕ) → b < blocks_for (length ws) → payload it (1 + b) ≡ words127 (from b)
    file_word b l = block_payload it (1 + b) (words127 (from b)) _ (length_pad (word_bytes (take 127 (from b))) (fits_127 (from b))) (word_block b l)

    word_checks : (b : ℕ) → b < blocks_for (length ws) → check_fits it (1 + b) ≡ true
    word_checks b l = block_checks it (1 + b) (words127 (from b)) _ (length_pad (word_bytes (take 127 (from b))) (fits_127 (from b))) (word_block b l)

    pub checked_there : (i : ℕ) → i < blocks it → check_fits it i ≡ true
    checked_there zero l = head_checks
    checked_there (suc b) l =
        let e : 1 + b ≡ suc b = omega arith in
        ap (check_fits it) (sym e) ∙ word_checks b (omega (arith, file_blocks))

    -- word j of the file
    pub word_there : Below 4294967296 ws → (j : ℕ) → j < length ws → num4 it (512 * (1 + j / 127) + 4 * (j % 127)) ≡ get_or ws j 0
    word_there below j l =
        let b = j / 127 in
        let r = j % 127 in
        let q = take 127 (from b) in
        let lq : r < length q = omega (arith, length-take 127 (from b), length-drop (127 * b) ws) in
        let s : 127 * b + r ≡ j = omega arith in
        block_num it (1 + b) (words127 (from b)) _ (length_pad (word_bytes q) (fits_127 (from b))) (word_block b (omega arith)) (word_bytes q) (4 * r) refl
        (omega (arith, bytes_length q))
        ∙ bytes_at q r (below_take 4294967296 127 (from b) (below_drop 4294967296 (127 * b) ws below)) lq
        ∙ get_or-take 127 (from b) r 0 (omega arith)
        ∙ get_or-drop (127 * b) ws r 0
        ∙ ap (λ (n : ℕ). get_or ws n 0) s
