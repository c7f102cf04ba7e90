-- Words: what they say of their code, level and flag, for any layout; and the words of lines. Assumes nothing.
-- Definitions: `of_level L j p u` the word u is of level j and its code passes p.
-- Main laws: `code_word`, `level_word`, `flag_word` a word says what it was made of, with code and level in their widths; `encode_length`, `encode_at` the words of a line one by one; `level_length` of a
--   level's lines; `flag_first` the first word of a line is flagged and no other; `flags_line`, `flags_level` how many flags there are; `tally_line`, `tally_level` words of a level by their codes.
use mathlib.Core.Path.{◌≡◌, refl, sym, ap, ◌∙◌}
use mathlib.Core.Bool.{Bool, true, false, ◌&&◌}
use mathlib.Core.List.{List, [], ◌∷◌, ◌++◌, append_assoc}
use Prim.Native.Nat.{ℕ, zero, suc, ◌+◌, ◌*◌, ◌/◌, ◌%◌, ◌<◌}
use native.Mathlib.Nat.{zero-mul}
use native.Mathlib.Omega.{arith}
use lib.Dec.{eqb}
use lib.Arith.{digits_div, digits_mod, digits_lt}
use lib.ListN.{length, get_or, length-append}
use borrow.Author.Tests.{le-leb, lt-leb, eq-eqb, ne_eqb}
use Rattle.tally.specs.Tally.{one, count, tally, flat}
use Rattle.tally.proofs.Test.{by_test}
use Rattle.tally.proofs.Count.{count_at, count_append, tally_append}
use Rattle.matte.specs.Layout.{Layout, flag}
use Rattle.edgel.specs.Word.{word, code_of, level_of, flagged}
use Rattle.outline.specs.List.{encode, level_words}

module _ (L : Layout) where
  -- a word in two digits: code, and level with flag
  digits : (c k : ℕ) (b : Bool) → word L c k b ≡ (one b * L.levels + k) * L.codes + c
  digits c k true = omega arith
  digits c k false = omega (arith, zero-mul L.levels, zero-mul (flag L))

  pub code_word : (c k : ℕ) (b : Bool) → c < L.codes → code_of L (word L c k b) ≡ c
  code_word c k b h = ap (λ (z : ℕ). z % L.codes) (digits c k b) ∙ digits_mod (one b * L.levels + k) h

  pub level_word : (c k : ℕ) (b : Bool) → c < L.codes → k < L.levels → level_of L (word L c k b) ≡ k
  level_word c k b h l =
      ap (λ (z : ℕ). z / L.codes % L.levels) (digits c k b)
      ∙ ap (λ (z : ℕ). z % L.levels) (digits_div (one b * L.levels + k) h)
      ∙ digits_mod (one b) l

  pub flag_word : (c k : ℕ) (b : Bool) → c < L.codes → k < L.levels → flagged L (word L c k b) ≡ b
  flag_word c k true h l = le-leb (flag L) (word L c k true) (omega arith)
  flag_word c k false h l = lt-leb (flag L) (word L c k false) (omega (arith, digits_lt l h, zero-mul (flag L)))

  -- ---- the words of a line, one by one
  pub encode_length : (k : ℕ) (b : Bool) (l : List ℕ) → length (encode L k b l) ≡ length l
  unfolding encode
  encode_length k b [] = refl
  encode_length k b (c ∷ l) = ap suc (encode_length k _ l)

  pub encode_plain : (k : ℕ) (l : List ℕ) (i : ℕ) → i < length l → get_or (encode L k false l) i 0 ≡ word L (get_or l i 0) k false
  unfolding encode
  encode_plain k [] i h = absurd (omega arith)
  encode_plain k (c ∷ l) zero h = refl
  encode_plain k (c ∷ l) (suc i) h = encode_plain k l i (omega arith)

  pub encode_at : (k : ℕ) (l : List ℕ) (i : ℕ) → i < length l → get_or (encode L k true l) i 0 ≡ word L (get_or l i 0) k (eqb i 0)
  unfolding encode
  encode_at k [] i h = absurd (omega arith)
  encode_at k (c ∷ l) zero h = refl
  encode_at k (c ∷ l) (suc i) h = encode_plain k l i (omega arith) ∙ ap (λ (b : Bool). word L (get_or l i 0) k b) (sym (ne_eqb (suc i) 0 (omega arith)))

  pub level_length : (k : ℕ) (ls : List (List ℕ)) → length (level_words L k ls) ≡ length (flat ls)
  unfolding level_words flat
  level_length k [] = refl
  level_length k (l ∷ ls) =
      length-append (encode L k true l) (level_words L k ls)
      ∙ rw (encode_length k true l, level_length k ls) (sym (length-append l (flat ls)))

  pub level_append : (k : ℕ) (ls ms : List (List ℕ)) → level_words L k (ls ++ ms) ≡ level_words L k ls ++ level_words L k ms
  unfolding level_words
  level_append k [] ms = refl
  level_append k (l ∷ ls) ms =
      ap (λ (z : List ℕ). encode L k true l ++ z) (level_append k ls ms) ∙ sym (append_assoc (encode L k true l) (level_words L k ls) (level_words L k ms))

  -- ---- of codes and a level within the widths
  pub record Narrow (k : ℕ) (l : List ℕ) : Type 0 where
    pub level : k < L.levels
    pub codes : (c : ℕ) → 0 < count c l → c < L.codes

  narrow_head : (k c : ℕ) (l : List ℕ) → Narrow k (c ∷ l) → c < L.codes
  unfolding count
  narrow_head k c l N = N.codes c (rw (eq-eqb c c refl) (omega arith))

  narrow_tail : (k c : ℕ) (l : List ℕ) → Narrow k (c ∷ l) → Narrow k l
  unfolding count
  narrow_tail k c l N = record { level = N.level; codes = λ d h. N.codes d (omega arith) }

  pub narrow_line : (k : ℕ) (l : List ℕ) (ls : List (List ℕ)) → Narrow k (flat (l ∷ ls)) → Narrow k l
  unfolding flat
  narrow_line k l ls N = record { level = N.level; codes = λ d h. N.codes d (omega (arith, count_append d l (flat ls))) }

  pub narrow_lines : (k : ℕ) (l : List ℕ) (ls : List (List ℕ)) → Narrow k (flat (l ∷ ls)) → Narrow k (flat ls)
  unfolding flat
  narrow_lines k l ls N = record { level = N.level; codes = λ d h. N.codes d (omega (arith, count_append d l (flat ls))) }

  pub flag_first : (k : ℕ) (l : List ℕ) → Narrow k l → (i : ℕ) → i < length l → flagged L (get_or (encode L k true l) i 0) ≡ eqb i 0
  flag_first k l N i h =
      ap (flagged L) (encode_at k l i h) ∙ flag_word (get_or l i 0) k (eqb i 0) (N.codes (get_or l i 0) (count_at l i h)) N.level

  flags_rest : (k : ℕ) (l : List ℕ) → Narrow k l → tally (flagged L) (encode L k false l) ≡ 0
  unfolding tally encode
  flags_rest k [] N = refl
  flags_rest k (c ∷ l) N = rw (flag_word c k false (narrow_head k c l N) N.level, flags_rest k l (narrow_tail k c l N))

  pub flags_line : (k : ℕ) (l : List ℕ) → Narrow k l → 0 < length l → tally (flagged L) (encode L k true l) ≡ 1
  unfolding tally encode
  flags_line k [] N h = absurd (omega arith)
  flags_line k (c ∷ l) N h = rw (flag_word c k true (narrow_head k c l N) N.level, flags_rest k l (narrow_tail k c l N))

  pub flags_level : (k : ℕ) (ls : List (List ℕ)) → Narrow k (flat ls) → ((n : ℕ) → n < length ls → 0 < length (get_or ls n [])) → tally (flagged L) (level_words L k ls) ≡ length ls
  unfolding tally level_words
  flags_level k [] N h = refl
  flags_level k (l ∷ ls) N h =
      let a : tally (flagged L) (encode L k true l) ≡ 1 = flags_line k l (narrow_line k l ls N) (h 0 (omega arith)) in
      let b : tally (flagged L) (level_words L k ls) ≡ length ls = flags_level k ls (narrow_lines k l ls N) (λ n i. h (suc n) (omega arith)) in
      tally_append (flagged L) (encode L k true l) (level_words L k ls) ∙ rw (a, b) (omega arith)

  -- ---- words of a level by their codes
  abbrev pub of_level : ℕ → (ℕ → Bool) → ℕ → Bool
  of_level j p u = eqb (level_of L u) j && p (code_of L u)

  of_word : (j k : ℕ) (p : ℕ → Bool) (c : ℕ) (b : Bool) → c < L.codes → k < L.levels → of_level j p (word L c k b) ≡ (eqb k j && p c)
  of_word j k p c b h l = rw (level_word c k b h l, code_word c k b h)

  pub tally_line : (j k : ℕ) (p : ℕ → Bool) (b : Bool) (l : List ℕ) → Narrow k l → tally (of_level j p) (encode L k b l) ≡ one (eqb k j) * tally p l
  unfolding tally encode
  tally_line j k p b [] N = omega arith
  tally_line j k p b (c ∷ l) N =
      let r : tally (of_level j p) (encode L k false l) ≡ one (eqb k j) * tally p l = tally_line j k p false l (narrow_tail k c l N) in
      rw (of_word j k p c b (narrow_head k c l N) N.level, r)
      (by_test (eqb k j)
      (λ e. rw e (omega arith))
      (λ e. rw e (omega (arith, zero-mul (tally p l), zero-mul (one (p c) + tally p l)))))

  pub tally_level : (j k : ℕ) (p : ℕ → Bool) (ls : List (List ℕ)) → Narrow k (flat ls) → tally (of_level j p) (level_words L k ls) ≡ one (eqb k j) * tally p (flat ls)
  unfolding tally level_words flat
  tally_level j k p [] N = omega arith
  tally_level j k p (l ∷ ls) N =
      let a = tally_line j k p true l (narrow_line k l ls N) in
      let b = tally_level j k p ls (narrow_lines k l ls N) in
      tally_append (of_level j p) (encode L k true l) (level_words L k ls) ∙ rw (a, b, tally_append p l (flat ls)) (omega arith)
