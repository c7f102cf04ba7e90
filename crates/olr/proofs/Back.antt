-- Demand 2, the file, back: a file that reads is byte for byte the one that writing makes of what it says. Assumes nothing.
-- Main laws: `back` a file that reading accepts is byte for byte the file of what it says; `back_writes` writing accepts what it says, where there is room for `back_length` bytes; `below_words`, `below_border`
--   its words have 32 bits, its border value 8. Before them: `build_take`, `build_drop` parts of a list of values; `pad_back` zeros after a place; `block_back` a block whose check is right; `head_back` block 0;
--   `words_back` the blocks of words.
use mathlib.Core.Path.{◌≡◌, refl, sym, ap, ap₂, ◌∙◌}
use mathlib.Core.Bool.{true, not}
use mathlib.Core.List.{List, [], ◌∷◌, ◌++◌}
use Prim.Native.Nat.{ℕ, zero, suc, ◌+◌, ◌-◌, ◌*◌, ◌/◌, ◌%◌, ◌≤◌, ◌<◌}
use native.Mathlib.Omega.{arith}
use lib.Dec.{leb}
use lib.ListN.{length, take, drop, replicate, length-drop, take-append-drop, drop_of_length-le}
use lib.Seq.{take_at, drop_at, take_all, take-add, take-take, drop-drop, get_or-drop, length-take-le}
use borrow.Author.Tests.{eqb-true, leb-true, leb-false, not-false}
use Rattle.tally.specs.Tally.{build}
use Rattle.tally.proofs.Test.{by_test}
use Rattle.tally.proofs.First.{from_before}
use Rattle.tally.proofs.Build.{build_length, build_more, build_cut}
use Rattle.block.specs.Block.{le2, le4, num4, check, pad, block}
use Rattle.block.proofs.Bytes.{Below, le2_num2, le4_num4, num4_below, first2}
use Rattle.olr.specs.File.{letters, header, word_bytes, blocks_for, word_blocks, file, file_length, write_verdict}
use Rattle.olr.specs.Read.{zeros, blocks, payload, check_fits, file_width, file_height, file_border, file_count, file_word_count, file_levels, file_words, read_verdict}
use Rattle.olr.proofs.Words.{bytes_append, bytes_one}
use Rattle.olr.proofs.Zeros.{zeros_are, are_zeros}
use Rattle.olr.proofs.Laid.{Laid, laid, after_words_lem, drop_part}
use Rattle.olr.proofs.Taken.{word_place, words_length, words_at, place_there, levels_length}
use Rattle.olr.proofs.Write.{write_done, file_is}
use Rattle.olr.proofs.Read.{Readable, readable}

module _ (g : ℕ → ℕ) (i : ℕ) where
  pub build_take : (k n : ℕ) → k ≤ n → take k (build g i n) ≡ build g i k
  build_take k n h =
      let e : n ≡ k + (n - k) = omega arith in
      ap (λ (m : ℕ). take k (build g i m)) e
      ∙ ap (take k) (build_cut g i k (n - k))
      ∙ take_at (build g i k) (build g (i + k) (n - k)) k (build_length g i k)

  pub build_drop : (k n : ℕ) → k ≤ n → drop k (build g i n) ≡ build g (i + k) (n - k)
  build_drop k n h =
      let e : n ≡ k + (n - k) = omega arith in
      ap (λ (m : ℕ). drop k (build g i m)) e
      ∙ ap (drop k) (build_cut g i k (n - k))
      ∙ drop_at (build g i k) (build g (i + k) (n - k)) k (build_length g i k)

-- bytes that are zeros from a place on
pub pad_back : (p q : List ℕ) (k : ℕ) → length p ≡ 508 → k ≤ 508 → take k p ≡ q → zeros (drop k p) ≡ true → pad q ≡ p
pad_back p q k l h e z =
    let lq : length q ≡ k = sym (ap length e) ∙ length-take-le k p (omega arith) in
    let m : length (drop k p) ≡ 508 - length q = omega (arith, length-drop k p) in
    ap (λ (n : ℕ). q ++ replicate n 0) (sym m)
    ∙ ap₂ (λ (x y : List ℕ). x ++ y) (sym e) (sym (zeros_are (drop k p) z))
    ∙ take-append-drop k p

module _ (f : List ℕ) (bytes : Below 256 f) where
  -- a block whose check is right is its payload with that check
  pub block_back : (i : ℕ) → 512 * i + 512 ≤ length f → check_fits f i ≡ true → block i (payload f i) ≡ take 512 (drop (512 * i) f)
  block_back i l c =
      let g = drop (512 * i) f in
      sym
      (take-add 508 4 g
      ∙ ap (λ (t : List ℕ). take 508 g ++ t)
      (ap (take 4) (drop-drop 508 (512 * i) f)
      ∙ sym (le4_num4 f (512 * i + 508) bytes (omega arith))
      ∙ ap le4 (eqb-true (num4 f (512 * i + 508)) (check i (payload f i)) c)))

  -- block 0
  first_16 : 512 ≤ length f → Laid f → take 16 f ≡ letters ++ le2 (file_width f) ++ le2 (file_height f) ++ (file_border f ∷ file_count f ∷ []) ++ le2 0 ++ le4 (file_word_count f)
  first_16 l L =
      let a : take 4 f ≡ letters = sym (le4_num4 f 0 bytes (omega arith)) ∙ ap le4 L.magic in
      let b : take 2 (drop 4 f) ≡ le2 (file_width f) = sym (le2_num2 f 4 bytes (omega arith)) in
      let c : take 2 (drop 6 f) ≡ le2 (file_height f) = sym (le2_num2 f 6 bytes (omega arith)) in
      let d : take 2 (drop 8 f) ≡ file_border f ∷ file_count f ∷ [] = first2 (drop 8 f) (omega (arith, length-drop 8 f)) ∙ ap₂ (λ (x y : ℕ). x ∷ y ∷ []) (get_or-drop 8 f 0 0) (get_or-drop 8 f 1 0) in
      let e : take 2 (drop 10 f) ≡ le2 0 = sym (le2_num2 f 10 bytes (omega arith)) ∙ ap le2 L.spare in
      let g : take 4 (drop 12 f) ≡ le4 (file_word_count f) = sym (le4_num4 f 12 bytes (omega arith)) in
      take-add 12 4 f
      ∙ ap₂ (λ (x y : List ℕ). x ++ y)
      (take-add 10 2 f
      ∙ ap₂ (λ (x y : List ℕ). x ++ y)
      (take-add 8 2 f
      ∙ ap₂ (λ (x y : List ℕ). x ++ y) (take-add 6 2 f ∙ ap₂ (λ (x y : List ℕ). x ++ y) (take-add 4 2 f ∙ ap₂ (λ (x y : List ℕ). x ++ y) a b) c) d)
      e)
      g

  pub head_back : 512 ≤ length f → Laid f → pad (header (file_width f) (file_height f) (file_border f) (file_levels f) (file_word_count f)) ≡ payload f 0
  head_back l L =
      let k : file_count f < 256 = bytes 9 (omega arith) in
      let m = file_count f in
      let n : length (file_levels f) ≡ m = levels_length f l k in
      pad_back (payload f 0) (header (file_width f) (file_height f) (file_border f) (file_levels f) (file_word_count f)) (16 + m) (length-take-le 508 f (omega arith)) (omega arith)
      (take-take (16 + m) 508 f (omega arith)
      ∙ take-add 16 m f
      ∙ ap (λ (x : List ℕ). x ++ file_levels f) (first_16 l L)
      ∙ ap (λ (c : ℕ). (letters ++ le2 (file_width f) ++ le2 (file_height f) ++ (file_border f ∷ c ∷ 0 ∷ 0 ∷ []) ++ le4 (file_word_count f)) ++ file_levels f) (sym n))
      L.after_level

  -- word i as it stands in the file
  abbrev at : ℕ → ℕ
  at i = num4 f (word_place i)

  place : (b k : ℕ) → k < 127 → word_place (127 * b + k) ≡ 512 * (1 + b) + 4 * k
  place b k h =
      let q : (127 * b + k) / 127 ≡ b = omega arith in
      let r : (127 * b + k) % 127 ≡ k = omega arith in
      ap₂ (λ (x y : ℕ). 512 * (1 + x) + 4 * y) q r

  -- k words of block 1 + b are its first bytes
  bytes_back : (b k : ℕ) → k ≤ 127 → 512 * (1 + b) + 512 ≤ length f → word_bytes (build at (127 * b) k) ≡ take (4 * k) (payload f (1 + b))
  unfolding build word_bytes
  bytes_back b zero h l = refl
  bytes_back b (suc k) h l =
      let d = drop (512 * (1 + b)) f in
      let p = payload f (1 + b) in
      let s : 4 * suc k ≡ 4 * k + 4 = omega arith in
      ap word_bytes (build_more at (127 * b) k)
      ∙ bytes_append (build at (127 * b) k) (at (127 * b + k) ∷ [])
      ∙ ap₂ (λ (x y : List ℕ). x ++ y) (bytes_back b k (omega arith) l)
      (bytes_one (at (127 * b + k))
      ∙ ap (λ (n : ℕ). le4 (num4 f n)) (place b k (omega arith))
      ∙ le4_num4 f (512 * (1 + b) + 4 * k) bytes (omega arith)
      ∙ ap (take 4) (sym (drop-drop (4 * k) (512 * (1 + b)) f))
      ∙ sym (take-take 4 (508 - 4 * k) (drop (4 * k) d) (omega arith))
      ∙ ap (take 4) (sym (drop_part (4 * k) 508 d)))
      ∙ sym (take-add (4 * k) 4 p)
      ∙ ap (λ (n : ℕ). take n p) (sym s)

  drop_127 : (b n : ℕ) → drop 127 (build at (127 * b) n) ≡ build at (127 * suc b) (n - 127)
  unfolding build
  drop_127 b n =
      by_test (leb 127 n)
      (λ t.
      let s : 127 * b + 127 ≡ 127 * suc b = omega arith in
      build_drop at (127 * b) 127 n (leb-true 127 n t) ∙ ap (λ (i : ℕ). build at i (n - 127)) s)
      (λ t.
      let z : n - 127 ≡ 0 = omega (arith, leb-false 127 n t) in
      drop_of_length-le (build at (127 * b) n) {i = 127} (omega (arith, build_length at (127 * b) n, leb-false 127 n t))
      ∙ ap (build at (127 * suc b)) (sym z))

  module _ (L : Laid f) (whole : length f % 512 ≡ 0) (checks : (i : ℕ) → i < blocks f → check_fits f i ≡ true) where
    abbrev all : ℕ
    all = file_word_count f

    long : length f ≡ 512 * (1 + blocks_for all)
    long = omega (arith, L.count)

    -- the payload of block 1 + b, by its words
    payload_back : (b n : ℕ) → b < blocks_for all → all ≡ 127 * b + n → pad (word_bytes (take 127 (build at (127 * b) n))) ≡ payload f (1 + b)
    payload_back b n l e =
        let p = payload f (1 + b) in
        let lp : length p ≡ 508 = length-take-le 508 (drop (512 * (1 + b)) f) (omega (arith, long, length-drop (512 * (1 + b)) f)) in
        let there : 512 * (1 + b) + 512 ≤ length f = omega (arith, long) in
        by_test (leb 127 n)
        (λ t.
        pad_back p (word_bytes (take 127 (build at (127 * b) n))) 508 lp (omega arith)
        (sym (ap word_bytes (build_take at (127 * b) 127 n (leb-true 127 n t)) ∙ bytes_back b 127 (omega arith) there))
        (ap zeros (drop_of_length-le p {i = 508} (omega arith)) ∙ are_zeros 0))
        (λ t.
        let less : n < 127 = leb-false 127 n t in
        let r : n ≡ all % 127 = omega arith in
        let k : blocks f - 1 ≡ 1 + b = omega (arith, L.count) in
        pad_back p (word_bytes (take 127 (build at (127 * b) n))) (4 * n) lp (omega arith)
        (sym (ap word_bytes (take_all 127 (build at (127 * b) n) (omega (arith, build_length at (127 * b) n))) ∙ bytes_back b n (omega arith) there))
        (ap (λ (m : ℕ). zeros (drop (4 * n) (payload f m))) (sym k) ∙ ap zeros (after_words_lem f n r (λ z. omega arith)) ∙ L.after_word))

    pub words_back : (m b n : ℕ) → b + m ≡ blocks_for all → (0 < m → all ≡ 127 * b + n) → word_blocks (1 + b) m (build at (127 * b) n) ≡ drop (512 * (1 + b)) f
    unfolding word_blocks
    words_back zero b n e g = sym (drop_of_length-le f {i = 512 * (1 + b)} (omega (arith, long)))
    words_back (suc m) b n e g =
        let d = drop (512 * (1 + b)) f in
        let a : all ≡ 127 * b + n = g (omega arith) in
        let s : 1 + suc b ≡ suc (1 + b) = omega arith in
        let k : 512 * (1 + b) + 512 ≡ 512 * (1 + suc b) = omega arith in
        ap₂ (λ (x y : List ℕ). x ++ y)
        (ap (block (1 + b)) (payload_back b n (omega arith) a) ∙ block_back (1 + b) (omega (arith, long)) (checks (1 + b) (omega (arith, L.count))))
        (ap (word_blocks (suc (1 + b)) m) (drop_127 b n)
        ∙ ap (λ (i : ℕ). word_blocks i m (build at (127 * suc b) (n - 127))) (sym s)
        ∙ words_back m (suc b) (n - 127) (omega arith) (λ p. omega arith)
        ∙ ap (λ (i : ℕ). drop i f) (sym k)
        ∙ sym (drop-drop 512 (512 * (1 + b)) f))
        ∙ take-append-drop 512 d

module _ (f out : List ℕ) (bytes : Below 256 f) (done : (read_verdict f out).number ≡ 0) where
  R : Readable f out
  R = readable f out done

  L : Laid f
  L = laid f R.layout

  long_enough : 512 ≤ length f
  long_enough = omega (arith, R.some, R.whole)

  checks_right : (i : ℕ) → i < blocks f → check_fits f i ≡ true
  checks_right i l = not-false _ (from_before (λ j. not (check_fits f j)) 0 (blocks f) i (omega arith) (omega (arith, R.checked)))

  -- byte for byte
  pub back : file (file_width f) (file_height f) (file_border f) (file_levels f) (file_words f) ≡ f
  unfolding file_words
  back =
      let n = words_length f in
      file_is (file_width f) (file_height f) (file_border f) (file_levels f) (file_words f)
      ∙ ap (λ (k : ℕ). block 0 (pad (header (file_width f) (file_height f) (file_border f) (file_levels f) k)) ++ word_blocks 1 (blocks_for k) (file_words f)) n
      ∙ ap₂ (λ (x y : List ℕ). x ++ y)
      (ap (block 0) (head_back f bytes long_enough L) ∙ block_back f bytes 0 long_enough (checks_right 0 (omega (arith, L.count))))
      (words_back f bytes L R.whole checks_right (blocks_for (file_word_count f)) 0 (file_word_count f) (omega arith) (λ _. omega arith))
      ∙ take-append-drop 512 f

  -- the bytes needed for what was read are the file's
  pub back_length : file_length (file_width f) (file_height f) (file_border f) (file_levels f) (file_words f) ≡ length f
  back_length =
      let b : blocks_for (length (file_words f)) ≡ blocks_for (file_word_count f) = ap blocks_for (words_length f) in
      omega (arith, L.count, R.whole)

  pub back_writes : (room : List ℕ) → length f ≤ length room → (write_verdict (file_width f) (file_height f) (file_border f) (file_levels f) (file_words f) room).number ≡ 0
  back_writes room h =
      write_done (file_width f) (file_height f) (file_border f) (file_levels f) (file_words f) room
      (record {
        sides = L.sides;
        levels = L.levels;
        most = omega (arith, L.most, words_length f);
        good = omega (arith, R.good, words_length f);
        roomy = omega (arith, back_length);
      })

  pub below_words : Below 4294967296 (file_words f)
  below_words i l =
      let h : i < file_word_count f = omega (arith, words_length f) in
      rw (words_at f i h) (num4_below f (word_place i) bytes (omega (arith, place_there i (file_word_count f) h, L.count)))

  pub below_border : file_border f < 256
  below_border = bytes 8 (omega (arith, long_enough))
