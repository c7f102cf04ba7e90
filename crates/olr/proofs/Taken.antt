-- The words and levels that a file holds, one after the other. Assumes nothing.
-- Definitions: `Taken` the words before one are taken, and their flags counted.
-- Main laws: `words_length`, `words_at` the list of the words; `place_there` the block of a word is in the file; `word_in` a word in its block; `tally_more` one more in a count; `taken_start`, `taken_more`, `taken_all` the words as
--   they are taken; `levels_length`, `levels_rest` the levels; `bad_told` the test of a word.
use mathlib.Core.Path.{◌≡◌, refl, sym, ap, ap₂, ◌∙◌}
use mathlib.Core.Bool.{Bool, not}
use mathlib.Core.List.{List, [], ◌∷◌, ◌++◌}
use Prim.Native.Nat.{ℕ, ◌+◌, ◌-◌, ◌*◌, ◌/◌, ◌%◌, ◌≤◌, ◌<◌}
use native.Mathlib.Nat.{zero-add}
use native.Mathlib.Numerals.{add-one}
use native.Mathlib.Omega.{arith}
use lib.Arith.{digits_div, digits_mod}
use lib.ListN.{length, get_or, take, drop, set, replicate, length-take, length-drop}
use lib.Seq.{take-suc, take_all}
use Rattle.std.proofs.lemmas.List.{drop-replicate}
use Rattle.tally.specs.Tally.{one, tally}
use Rattle.tally.proofs.Build.{build_length, build_at}
use Rattle.tally.proofs.Count.{tally_append}
use Rattle.tally.proofs.Fill.{fill}
use Rattle.tally.proofs.Test.{one_le}
use Rattle.edgel.specs.Word.{flagged}
use Rattle.matte.specs.Layout.{eight}
use Rattle.words.specs.Fit.{bad_word}
use Rattle.words.specs.Listed.{level_table, word_fits}
use Rattle.words.proofs.Table.{word_told}
use Rattle.block.specs.Block.{num4}
use Rattle.block.proofs.Bytes.{num4_drop}
use Rattle.olr.specs.File.{blocks_for}
use Rattle.olr.specs.Read.{file_count, file_word_count, file_levels, file_words}
use Rattle.olr.proofs.Laid.{levels_part}

-- where word i stands
abbrev pub word_place : ℕ → ℕ
word_place i = 512 * (1 + i / 127) + 4 * (i % 127)

pub words_length : (f : List ℕ) → length (file_words f) ≡ file_word_count f
unfolding file_words
words_length f = build_length (λ i. num4 f (word_place i)) 0 (file_word_count f)

pub words_at : (f : List ℕ) (i : ℕ) → i < file_word_count f → get_or (file_words f) i 0 ≡ num4 f (word_place i)
unfolding file_words
words_at f i h = build_at (λ i. num4 f (word_place i)) 0 (file_word_count f) i h ∙ ap (λ (j : ℕ). num4 f (word_place j)) (zero-add i)

-- word j of block 1 + b
pub word_in : (f : List ℕ) (b j u : ℕ) → j < 127 → u ≡ num4 (take (length f - 512 * (1 + b)) (drop (512 * (1 + b)) f)) (4 * j) → u ≡ num4 f (word_place (127 * b + j))
word_in f b j u h p =
    let at = 512 * (1 + b) in
    let e : 127 * b + j ≡ b * 127 + j = omega arith in
    let q : (127 * b + j) / 127 ≡ b = ap (λ (z : ℕ). z / 127) e ∙ digits_div b h in
    let r : (127 * b + j) % 127 ≡ j = ap (λ (z : ℕ). z % 127) e ∙ digits_mod b h in
    p
    ∙ ap (λ (l : List ℕ). num4 l (4 * j)) (take_all (length f - at) (drop at f) (omega (arith, length-drop at f)))
    ∙ num4_drop at f (4 * j)
    ∙ ap (num4 f) (omega (arith, q, r))

pub place_there : (i n : ℕ) → i < n → 512 * (1 + i / 127) + 512 ≤ 512 * (1 + blocks_for n)
place_there i n h = omega arith

tally_one : (p : ℕ → Bool) (x : ℕ) → tally p (x ∷ []) ≡ one (p x)
unfolding tally
tally_one p x = let e : one (p x) + 0 ≡ one (p x) = omega arith in e

tally_none : (p : ℕ → Bool) → tally p [] ≡ 0
unfolding tally
tally_none p = refl

pub tally_more : (p : ℕ → Bool) (l : List ℕ) (i : ℕ) → i < length l → tally p (take (i + 1) l) ≡ tally p (take i l) + one (p (get_or l i 0))
tally_more p l i h =
    ap (λ (n : ℕ). tally p (take n l)) (add-one i)
    ∙ ap (tally p) (take-suc l i 0 h)
    ∙ tally_append p (take i l) (get_or l i 0 ∷ [])
    ∙ ap (λ (n : ℕ). tally p (take i l) + n) (tally_one p (get_or l i 0))

-- the words before i are taken, and their flags counted
abbrev pub Taken : List ℕ → List ℕ → List ℕ → ℕ → ℕ → Type 0
Taken f was words lines i = (words ≡ take i (file_words f) ++ drop i was) × (lines ≡ tally (flagged eight) (take i (file_words f))) × (lines ≤ i)

module _ (f was : List ℕ) where
  pub taken_start : (i : ℕ) → i ≡ 0 → Taken f was was 0 i
  taken_start i e = rw e (refl, sym (tally_none (flagged eight)), omega arith)

  pub taken_more : (words : List ℕ) (lines i u m k : ℕ) → Taken f was words lines i → i < file_word_count f → file_word_count f ≤ length was → u ≡ num4 f (word_place i) → m ≡ one (flagged eight u) → k ≡ i + 1
      → Taken f was (set words i u) (lines + m) k
  taken_more words lines i u m k t h w p q e =
      let g : u ≡ get_or (file_words f) i 0 = p ∙ sym (words_at f i h) in
      let l : i < length (file_words f) = omega (arith, words_length f) in
      rw e (
        fill (file_words f) was words i u l (omega arith) t.0 g,
        ap₂ ◌+◌ t.1 (q ∙ ap (λ (x : ℕ). one (flagged eight x)) g) ∙ sym (tally_more (flagged eight) (file_words f) i l),
        omega (arith, t.2, q, one_le (flagged eight u)),
      )

  pub taken_all : (words : List ℕ) (lines i n : ℕ) → Taken f was words lines i → n ≡ file_word_count f → i ≡ n → (lines ≡ tally (flagged eight) (file_words f)) × (words ≡ file_words f ++ drop n was)
  taken_all words lines i n t e q =
      let all : take i (file_words f) ≡ file_words f = take_all i (file_words f) (omega (arith, words_length f)) in
      (t.1 ∙ ap (tally (flagged eight)) all, t.0 ∙ ap₂ (λ (x : List ℕ) (y : ℕ). x ++ drop y was) all q)

pub levels_length : (f : List ℕ) → 512 ≤ length f → file_count f < 256 → length (file_levels f) ≡ file_count f
levels_length f h k = omega (arith, length-take (file_count f) (drop 16 f), length-drop 16 f)

zeros_left : (m n k : ℕ) → n - m ≡ k → drop m (replicate {A = ℕ} n 0) ≡ replicate k 0
zeros_left m n k e = drop-replicate m n 0 ∙ ap (λ (j : ℕ). replicate j 0) e

-- the levels in front of zeros
pub levels_rest : (f part : List ℕ) (n : ℕ) → n ≡ file_count f → part ≡ take (16 + n - 16) (drop 16 f) → part ++ drop (n - 0) (replicate 255 0) ≡ file_levels f ++ replicate (255 - file_count f) 0
levels_rest f part n e q =
    let k : 16 + n - 16 ≡ file_count f = omega arith in
    let m : 255 - (n - 0) ≡ 255 - file_count f = omega arith in
    ap₂ ◌++◌ (q ∙ ap (λ (m : ℕ). take m (drop 16 f)) k) (zeros_left (n - 0) 255 (255 - file_count f) m)

-- the test of word j of block 1 + b with the table of the file's levels
pub bad_told : (f t : List ℕ) (w h b j u m : ℕ) (r v : Bool) → m ≡ file_count f → t ≡ level_table eight (take (16 + m - 16) (drop 16 f)) → j < 127 → 127 * b + j < file_word_count f
    → u ≡ num4 (take (length f - 512 * (1 + b)) (drop (512 * (1 + b)) f)) (4 * j) → r ≡ word_fits eight w h t u → not r ≡ v
    → bad_word eight w h (file_levels f) (get_or (file_words f) (127 * b + j) 0) ≡ v
bad_told f t w h b j u m r v e q k l p g s =
    ap (bad_word eight w h (file_levels f)) (words_at f (127 * b + j) l ∙ sym (word_in f b j u k p))
    ∙ word_told w h (file_levels f) t u r (q ∙ ap (level_table eight) (levels_part f (16 + m) (ap (λ (n : ℕ). 16 + n) e))) g v s
