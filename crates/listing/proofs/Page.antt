-- The text by words is the text line by line. Assumes nothing.
-- Main laws: `block` the words of a line give its row and those of its crossings; `lines_text_lem` all words give all lines; `page` the whole text; `answered_page`, `printed_page` what is
--   printed where nothing is refused.
use mathlib.Core.Path.{◌≡◌, refl, sym, ap, ◌∙◌}
use mathlib.Core.Bool.{true, false}
use mathlib.Core.List.{List, [], ◌∷◌, ◌++◌, map, append_assoc}
use mathlib.Core.Logic.{◌⊎◌, inl, inr, ⊎_elim}
use Prim.Native.Nat.{ℕ, zero, suc, ◌+◌, ◌≤◌, ◌<◌}
use native.Mathlib.Nat.{zero-add}
use native.Mathlib.Numerals.{add-one}
use native.Mathlib.Omega.{arith}
use borrow.Author.Tests.{eq-eqb, ltb-true, ltb-false}
use lib.Dec.{ltb}
use lib.ListN.{length, get_or, drop, drop_of_length-le}
use lib.Seq.{drop-cons}
use Rattle.tally.specs.Tally.{count, first_at, tally, flat}
use Rattle.tally.proofs.Build.{build_at}
use Rattle.tally.proofs.Test.{by_test}
use Rattle.tally.proofs.First.{first_yes, first_no}
use Rattle.matte.specs.Layout.{eight}
use Rattle.matte.specs.Picture.{Picture, picture}
use Rattle.edgel.specs.Word.{word, flagged}
use Rattle.outline.specs.List.{encode, listed}
use Rattle.outline.proofs.Levels.{level_below}
use Rattle.outline.proofs.Lines.{line_long}
use Rattle.outline.proofs.Places.{line_low}
use Rattle.outline.proofs.Words.{Narrow, code_word, level_word, flag_word}
use Rattle.enclosure.specs.Tree.{firsts, line_count, level_at, lead_at, crossings_at, entry, entries}
use Rattle.enclosure.proofs.Lines.{Setting, lead_cut}
use Rattle.enclosure.proofs.Tree.{line_of}
use Rattle.enclosure.proofs.Numbers.{line_words, firsts_words, count_flags}
use Rattle.form.specs.Text.{form_text, Fits}
use Rattle.text.specs.Listing.{first_text, line_text, crossing_text, words_text, listing_text}
use Rattle.listing.specs.Lines.{rows_text, block_text, lines_text, page_text}
use Rattle.listing.specs.Printed.{blank, call_verdict, answered, printed}
use Rattle.listing.proofs.Call.{setting_for}
use Rattle.listing.proofs.Told.{printed_form, tree_row}

-- a list that is empty or starts with a flagged word: where a line may end
abbrev Starts : List ℕ → Type 0
Starts ws = (ws ≡ []) ⊎ (flagged eight (get_or ws 0 0) ≡ true)

head_code : (k c : ℕ) (l : List ℕ) → Narrow eight k (c ∷ l) → c < 8388608
unfolding count
head_code k c l N = N.codes c (rw (eq-eqb c c refl) (omega arith))

tail_narrow : (k c : ℕ) (l : List ℕ) → Narrow eight k (c ∷ l) → Narrow eight k l
unfolding count
tail_narrow k c l N = record { level = N.level; codes = λ d h. N.codes d (omega arith) }

-- ---- the words of one line
module _ (P : Picture) (es rest : List ℕ) where
  plain : (n k : ℕ) (l : List ℕ) → Narrow eight k l → words_text eight P n es (encode eight k false l ++ rest) ≡ rows_text P k l ++ words_text eight P n es rest
  unfolding words_text encode rows_text
  plain n k [] N = refl
  plain n k (c ∷ l) N =
      let h = head_code k c l N in
      let z : n + 0 ≡ n = omega arith in
      rw (flag_word eight c k false h N.level, level_word eight c k false h N.level, code_word eight c k false h, z, plain n k l (tail_narrow k c l N))
      (sym (append_assoc (crossing_text P k c) (rows_text P k l) (words_text eight P n es rest)))

  run : (k : ℕ) (l : List ℕ) → Narrow eight k l → Starts rest → first_at (flagged eight) (encode eight k false l ++ rest) ≡ length l
  unfolding encode first_at
  run k [] N s = ⊎_elim (λ e. rw e) (λ e. first_here rest e) s
    where
      first_here : (ws : List ℕ) → flagged eight (get_or ws 0 0) ≡ true → first_at (flagged eight) ws ≡ 0
      first_here [] e = refl
      first_here (u ∷ ws) e = first_yes (flagged eight) u ws e
  run k (c ∷ l) N s =
      first_no (flagged eight) (word eight c k false) (encode eight k false l ++ rest) (flag_word eight c k false (head_code k c l N) N.level) ∙ ap suc (run k l (tail_narrow k c l N) s)

  pub block : (n k : ℕ) (l : List ℕ) → Narrow eight k l → 0 < length l → Starts rest
      → words_text eight P n es (encode eight k true l ++ rest) ≡ (line_text eight n k (get_or es n 0) (length l) ++ rows_text P k l) ++ words_text eight P (suc n) es rest
  unfolding words_text encode rows_text
  block n k [] N h s = absurd (omega arith)
  block n k (c ∷ l) N h s =
      let b = head_code k c l N in
      let M = tail_narrow k c l N in
      let t = line_text eight n k (get_or es n 0) (suc (length l)) in
      let x = crossing_text P k c in
      rw (flag_word eight c k true b N.level, level_word eight c k true b N.level, code_word eight c k true b, run k l M s, add-one n, plain (suc n) k l M)
      (ap (λ (z : List ℕ). t ++ z) (sym (append_assoc x (rows_text P k l) (words_text eight P (suc n) es rest))) ∙ sym (append_assoc t (x ++ rows_text P k l) (words_text eight P (suc n) es rest)))

first_flag : (k : ℕ) (l rest : List ℕ) → Narrow eight k l → 0 < length l → flagged eight (get_or (encode eight k true l ++ rest) 0 0) ≡ true
unfolding encode
first_flag k [] rest N h = absurd (omega arith)
first_flag k (c ∷ l) rest N h = flag_word eight c k true (head_code k c l N) N.level

-- ---- the words of all lines
module _ (P : Picture) (ks : List ℕ) (S : Setting eight P ks) where
  leads : List ℕ
  leads = firsts eight P ks

  from : ℕ → List ℕ
  from i = flat (map (line_words eight P) (drop i leads))

  from_next : (i : ℕ) → i < line_count eight P ks → from i ≡ encode eight (level_at eight P ks i) true (crossings_at eight P ks i) ++ from (suc i)
  unfolding from leads flat level_at lead_at
  from_next i h = ap (λ (z : List ℕ). flat (map (line_words eight P) z)) (drop-cons leads i 0 h)

  from_end : (i : ℕ) → line_count eight P ks ≤ i → from i ≡ []
  unfolding from leads flat
  from_end i h = ap (λ (z : List ℕ). flat (map (line_words eight P) z)) (drop_of_length-le leads h)

  narrow : (n : ℕ) → n < line_count eight P ks → Narrow eight (level_at eight P ks n) (crossings_at eight P ks n)
  unfolding line_of
  narrow n a =
      let M = line_of S n a in
      record {
        level = omega (arith, level_below eight ks S.levels M.lvl M.listed);
        codes = λ c h. omega (arith, S.fits.room, line_low P S.border M.lvl M.lead c (lead_cut S M) h);
      }

  long : (n : ℕ) → n < line_count eight P ks → 0 < length (crossings_at eight P ks n)
  unfolding line_of
  long n a = let M = line_of S n a in line_long P S.border M.lvl M.lead M.leads

  starts : (i : ℕ) → Starts (from i)
  starts i =
      by_test (ltb i (line_count eight P ks))
      (λ t.
      let h = ltb-true i (line_count eight P ks) t in
      inr (ap (λ (z : List ℕ). flagged eight (get_or z 0 0)) (from_next i h) ∙ first_flag (level_at eight P ks i) (crossings_at eight P ks i) (from (suc i)) (narrow i h) (long i h)))
      (λ t. inl (from_end i (ltb-false i (line_count eight P ks) t)))

  lines_from : (m i : ℕ) → i + m ≡ line_count eight P ks → words_text eight P i (entries eight P ks) (from i) ≡ lines_text P ks i m
  unfolding lines_text block_text words_text
  lines_from zero i e = ap (words_text eight P i (entries eight P ks)) (from_end i (omega arith))
  lines_from (suc m) i e =
      let h : i < line_count eight P ks = omega arith in
      let k = level_at eight P ks i in
      let l = crossings_at eight P ks i in
      ap (words_text eight P i (entries eight P ks)) (from_next i h)
      ∙ block P (entries eight P ks) (from (suc i)) i k l (narrow i h) (long i h) (starts (suc i))
      ∙ ap (λ (z : ℕ). (line_text eight i k z (length l) ++ rows_text P k l) ++ words_text eight P (suc i) (entries eight P ks) (from (suc i)))
      (build_at (entry eight P ks) 0 (line_count eight P ks) i h ∙ ap (entry eight P ks) (zero-add i))
      ∙ ap (λ (z : List ℕ). (z ++ rows_text P k l) ++ words_text eight P (suc i) (entries eight P ks) (from (suc i))) (tree_row P ks S i k (length l) h)
      ∙ ap (λ (z : List ℕ). block_text P ks i ++ z) (lines_from m (suc i) (omega arith))

  pub lines_text_lem : words_text eight P 0 (entries eight P ks) (listed eight P ks) ≡ lines_text P ks 0 (line_count eight P ks)
  unfolding from leads
  lines_text_lem =
      ap (words_text eight P 0 (entries eight P ks)) (sym (firsts_words eight P S.fits.room ks)) ∙ lines_from (line_count eight P ks) 0 (omega arith)

  pub page : listing_text eight P ks (listed eight P ks) (entries eight P ks) ≡ page_text P ks
  page =
      ap (λ (z : List ℕ). first_text P.w P.h (get_or P.px 0 0) (length ks) (length (listed eight P ks)) (tally (flagged eight) (listed eight P ks)) ++ z) lines_text_lem
      ∙ ap (λ (n : ℕ). first_text P.w P.h (get_or P.px 0 0) (length ks) (length (listed eight P ks)) n ++ lines_text P ks 0 (line_count eight P ks)) (sym (count_flags S))

-- ---- a call that is done
module _ (P : Picture) (ks : List ℕ) (e : (call_verdict P ks).number ≡ 0) where
  pub answered_page : answered P ks ≡ page_text P ks
  unfolding answered call_verdict
  answered_page = rw (eq-eqb (call_verdict P ks).number 0 e) (page P ks (setting_for P ks (blank 16384) (blank 16384) (blank 8192) e))

-- input of the form whose picture and levels are not refused
pub printed_page : (ks : List ℕ) (w h : ℕ) (px : List ℕ) → Fits ks w h px → (call_verdict (picture w h px) ks).number ≡ 0 → printed (form_text ks w h px) ≡ page_text (picture w h px) ks
printed_page ks w h px f e = printed_form ks w h px f ∙ answered_page (picture w h px) ks e
