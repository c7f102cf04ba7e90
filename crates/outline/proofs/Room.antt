-- The list as it is written: word after word, line after line, level after level, and the room that it needs. Assumes nothing.
-- Definitions: `before L P ks n p` the words of the first n levels and, of the next one, those of the lines whose leads stand at places below p.
-- Main laws: `encode_take`, `encode_walk` one more word of a line; `before_start`, `before_line`, `before_skip`, `before_level`, `before_end` the list as it grows; `words_grow`, `before_room` what
--   is still to be written has its place.
use mathlib.Core.Path.{◌≡◌, refl, sym, ap, ◌∙◌}
use mathlib.Core.Bool.{Bool, true, false}
use mathlib.Core.List.{List, [], ◌∷◌, ◌++◌, append_assoc, append-nil}
use Prim.Native.Nat.{ℕ, zero, suc, ◌+◌, ◌-◌, ◌*◌, ◌≤◌, ◌<◌}
use native.Mathlib.Nat.{add-zero, add-suc}
use native.Mathlib.Numerals.{add-one}
use native.Mathlib.Omega.{arith}
use lib.Dec.{eqb}
use lib.ListN.{length, get_or, take, drop, length-append}
use lib.Seq.{take-suc, take-length, split_at}
use borrow.Author.Tests.{ne_eqb}
use Rattle.tally.proofs.Test.{by_test}
use Rattle.orbit.proofs.Walk.{Walk}
use Rattle.matte.specs.Layout.{Layout}
use Rattle.matte.specs.Picture.{Picture, size}
use Rattle.edgel.specs.Word.{word}
use Rattle.cell.specs.Turn.{next}
use Rattle.outline.specs.Line.{line, is_lead, lines}
use Rattle.outline.specs.List.{encode, level_words, listed}
use Rattle.outline.proofs.Words.{encode_length}
use Rattle.outline.proofs.Growing.{words_to, words_none, words_line, words_skip, words_whole}
use Rattle.outline.proofs.Listed.{listed_append, listed_more}

module _ (L : Layout) where
  plain_take : (k : ℕ) (l : List ℕ) (i : ℕ) → i < length l → encode L k false (take (suc i) l) ≡ encode L k false (take i l) ++ (word L (get_or l i 0) k false ∷ [])
  unfolding encode
  plain_take k [] i h = absurd (omega arith)
  plain_take k (c ∷ l) zero h = refl
  plain_take k (c ∷ l) (suc i) h = ap (λ (z : List ℕ). word L c k false ∷ z) (plain_take k l i (omega arith))

  pub encode_take : (k : ℕ) (l : List ℕ) (i : ℕ) → i < length l → encode L k true (take (suc i) l) ≡ encode L k true (take i l) ++ (word L (get_or l i 0) k (eqb i 0) ∷ [])
  unfolding encode
  encode_take k [] i h = absurd (omega arith)
  encode_take k (c ∷ l) zero h = refl
  encode_take k (c ∷ l) (suc i) h =
      ap (λ (z : List ℕ). word L c k true ∷ z)
      (plain_take k l i (omega arith) ∙ ap (λ (b : Bool). encode L k false (take i l) ++ (word L (get_or l i 0) k b ∷ [])) (sym (ne_eqb (suc i) 0 (omega arith))))

  pub encode_walk : (P : Picture) (k a i c : ℕ) → Walk (next P k) (2 * size P) a i c
      → encode L k true (take (i + 1) (line P k a)) ≡ encode L k true (take i (line P k a)) ++ (word L c k (eqb i 0) ∷ [])
  unfolding line
  encode_walk P k a i c W =
      rw add-one (encode_take k (line P k a) i W.inside ∙ ap (λ (z : ℕ). encode L k true (take i (line P k a)) ++ (word L z k (eqb i 0) ∷ [])) W.here)

module _ (L : Layout) (P : Picture) where
  words_step : (k i : ℕ) → length (words_to P k L i) ≤ length (words_to P k L (suc i))
  words_step k i =
      by_test (is_lead P k (2 * i))
      (λ e. omega (arith, ap length (words_line P k L i e), length-append (words_to P k L i) (encode L k true (line P k (2 * i)))))
      (λ e. omega (arith, ap length (words_skip P k L i e)))

  pub words_grow : (k i m : ℕ) → length (words_to P k L i) ≤ length (words_to P k L (i + m))
  words_grow k i zero = rw (add-zero i) (omega arith)
  words_grow k i (suc m) = rw (add-suc i m) (omega (arith, words_grow k i m, words_step k (i + m)))

  module _ (ks : List ℕ) where
    unfoldable pub before : ℕ → ℕ → List ℕ
    before n p = listed L P (take n ks) ++ words_to P (get_or ks n 0) L p

    pub before_start : (n : ℕ) → before n 0 ≡ listed L P (take n ks)
    unfolding before
    before_start n = rw (words_none P (get_or ks n 0) L) (append-nil (listed L P (take n ks)))

    pub before_line : (n p : ℕ) → is_lead P (get_or ks n 0) (2 * p) ≡ true → before n (suc p) ≡ before n p ++ encode L (get_or ks n 0) true (line P (get_or ks n 0) (2 * p))
    unfolding before
    before_line n p e =
        ap (λ (z : List ℕ). listed L P (take n ks) ++ z) (words_line P (get_or ks n 0) L p e)
        ∙ sym (append_assoc (listed L P (take n ks)) (words_to P (get_or ks n 0) L p) (encode L (get_or ks n 0) true (line P (get_or ks n 0) (2 * p))))

    pub before_skip : (n p : ℕ) → is_lead P (get_or ks n 0) (2 * p) ≡ false → before n (suc p) ≡ before n p
    unfolding before
    before_skip n p e = ap (λ (z : List ℕ). listed L P (take n ks) ++ z) (words_skip P (get_or ks n 0) L p e)

    pub before_level : (n : ℕ) → n < length ks → before n (size P) ≡ listed L P (take (suc n) ks)
    unfolding before
    before_level n h =
        ap (λ (z : List ℕ). listed L P (take n ks) ++ z) (words_whole P (get_or ks n 0) L)
        ∙ sym (ap (listed L P) (take-suc ks n 0 h) ∙ listed_more L P (take n ks) (get_or ks n 0))

    pub before_end : listed L P (take (length ks) ks) ≡ listed L P ks
    before_end = ap (listed L P) (take-length ks)

    -- what the first n levels and one more have is part of the whole
    level_room : (n : ℕ) → n < length ks → length (before n (size P)) ≤ length (listed L P ks)
    unfolding listed
    level_room n h =
        let k = get_or ks n 0 in
        let s : listed L P ks ≡ listed L P (take n ks) ++ (level_words L k (lines P k) ++ listed L P (drop (suc n) ks)) =
        ap (listed L P) (split_at ks n 0 h) ∙ listed_append L P (take n ks) (k ∷ drop (suc n) ks) in
        let t : length (before n (size P)) ≡ length (listed L P (take n ks)) + length (level_words L k (lines P k)) =
        ap length (before_level n h)
        ∙ ap length (ap (listed L P) (take-suc ks n 0 h) ∙ listed_more L P (take n ks) k)
        ∙ length-append (listed L P (take n ks)) (level_words L k (lines P k)) in
        let u : length (listed L P ks) ≡ length (listed L P (take n ks)) + (length (level_words L k (lines P k)) + length (listed L P (drop (suc n) ks))) =
        ap length s
        ∙ length-append (listed L P (take n ks)) (level_words L k (lines P k) ++ listed L P (drop (suc n) ks))
        ∙ ap (λ (z : ℕ). length (listed L P (take n ks)) + z) (length-append (level_words L k (lines P k)) (listed L P (drop (suc n) ks))) in
        omega arith

    pub before_within : (n p : ℕ) → n < length ks → p ≤ size P → length (before n p) ≤ length (listed L P ks)
    unfolding before
    before_within n p h q =
        let k = get_or ks n 0 in
        let s : p + (size P - p) ≡ size P = omega arith in
        let g : length (words_to P k L p) ≤ length (words_to P k L (p + (size P - p))) = words_grow k p (size P - p) in
        let g2 : length (words_to P k L (p + (size P - p))) ≡ length (words_to P k L (size P)) = ap (λ (z : ℕ). length (words_to P k L z)) s in
        omega
        (arith, level_room n h, length-append (listed L P (take n ks)) (words_to P k L p), length-append (listed L P (take n ks)) (words_to P k L (size P)))

    -- the i-th word of the line that leads at place p has its place
    pub before_room : (n p i : ℕ) → n < length ks → p < size P → is_lead P (get_or ks n 0) (2 * p) ≡ true → i < length (line P (get_or ks n 0) (2 * p))
        → length (before n p) + i < length (listed L P ks)
    before_room n p i h q e l =
        let k = get_or ks n 0 in
        let a : length (before n (suc p)) ≤ length (listed L P ks) = before_within n (suc p) h q in
        let b : length (before n (suc p)) ≡ length (before n p) + length (line P k (2 * p)) =
        ap length (before_line n p e)
        ∙ length-append (before n p) (encode L k true (line P k (2 * p)))
        ∙ ap (λ (z : ℕ). length (before n p) + z) (encode_length L k true (line P k (2 * p))) in
        omega arith
