-- The refusals of reading, and the call. Assumes nothing.
-- Definitions: `Readable` what a call that is not refused has; `r12` to `r6` the rows.
-- Main laws: `whole_blocks`, `readable`, `accepted` what a verdict of 0 says, `read_done` and back; `read_refused`, `read_taken` the call.
use mathlib.Core.Path.{◌≡◌, refl, sym, ap, ap₂, ◌∙◌}
use mathlib.Core.Bool.{Bool, true, false, not, ◌||◌}
use mathlib.Core.List.{List, [], ◌∷◌, ◌++◌}
use Prim.Native.Nat.{ℕ, ◌-◌, ◌%◌, ◌≤◌, ◌<◌}
use native.Mathlib.Omega.{arith}
use lib.Dec.{eqb, ltb}
use lib.ListN.{length, drop, replicate}
use borrow.Author.Tests.{le-ltb, ltb-false, eq-eqb, ne_eqb, eqb-true, eqb-false, not-false}
use Rattle.tally.specs.Tally.{tally, first_at, first_from}
use Rattle.tally.proofs.Test.{no}
use Rattle.refuse.specs.declared.Answer.{Answer}
use Rattle.refuse.specs.Refusal.{Verdict}
use Rattle.matte.specs.Layout.{eight}
use Rattle.refuse.specs.Refusal.{Row, row, row_at, verdict, words_row, answer, afterwards}
use Rattle.refuse.proofs.Rows.{passed, fit, clean, clean_fit, parted, done_answer, refused_answer, done_after, refused_after}
use Rattle.edgel.specs.Word.{flagged}
use Rattle.words.specs.Fit.{bad_word, words_fit_row}
use Rattle.olr.specs.Read.{blocks, check_fits, file_width, file_height, file_border, file_count, file_word_count, file_levels, file_words, laid_out, read_verdict, read_answer, read_words}
use Rattle.olr.specs.Held.{stored}
use Rattle.olr.proofs.Taken.{words_length}

-- not empty, and whole blocks
abbrev pub length_bad : List ℕ → Bool
length_bad f = eqb (length f) 0 || not (eqb (length f % 512) 0)

module _ (f : List ℕ) where
  abbrev pub bad_block : ℕ
  bad_block = first_from (λ i. not (check_fits f i)) 0 (blocks f)

  abbrev pub bad_at : ℕ
  bad_at = first_at (bad_word eight (file_width f) (file_height f) (file_levels f)) (file_words f)

  pub record Readable (out : List ℕ) : Type 0 where
    pub some : 0 < length f
    pub whole : length f % 512 ≡ 0
    pub checked : blocks f ≤ bad_block
    pub layout : laid_out f ≡ true
    pub good : file_word_count f ≤ bad_at
    pub roomy : file_word_count f ≤ length out

  pub bad_no : 0 < length f → length f % 512 ≡ 0 → length_bad f ≡ false
  bad_no e g =
      ap (λ (b : Bool). b || not (eqb (length f % 512) 0)) (ne_eqb (length f) 0 (λ z. omega (arith, e))) ∙ ap not (eq-eqb (length f % 512) 0 g)

  or_no : (a b : Bool) → (a || b) ≡ false → (a ≡ false) × (b ≡ false)
  or_no true b e = no refl e
  or_no false b e = (refl, e)

  module _ (out : List ℕ) where
    abbrev pub r12 : Row
    r12 = row 12 (length_bad f)

    abbrev pub r13 : Row
    r13 = row_at 13 (ltb bad_block (blocks f)) bad_block

    abbrev pub r14 : Row
    r14 = row 14 (not (laid_out f))

    abbrev pub r8 : Row
    r8 = words_fit_row eight (file_width f) (file_height f) (file_levels f) (file_words f)

    abbrev pub r6 : Row
    r6 = words_row out (file_word_count f)

    -- a file that passes the first row has whole blocks
    pub whole_blocks : (verdict (r12 ∷ [])).number ≡ 0 → (0 < length f) × (length f % 512 ≡ 0)
    whole_blocks e =
        let a = clean r12 [] (λ z. omega arith) e in
        let o = or_no (eqb (length f) 0) (not (eqb (length f % 512) 0)) a.0 in
        (omega (arith, eqb-false (length f) 0 o.0), eqb-true _ _ (not-false _ o.1))

    pub readable : (read_verdict f out).number ≡ 0 → Readable out
    readable e =
        let a = parted (r12 ∷ []) (r13 ∷ r14 ∷ r8 ∷ r6 ∷ []) refl e in
        let b = clean r13 (r14 ∷ r8 ∷ r6 ∷ []) (λ z. omega arith) a.1 in
        let c = clean_fit 14 (laid_out f) (r8 ∷ r6 ∷ []) (λ z. omega arith) b.1 in
        let d = clean r8 (r6 ∷ []) (λ z. omega arith) c.1 in
        let g = clean r6 [] (λ z. omega arith) d.1 in
        let o = whole_blocks a.0 in
        record {
          some = o.0;
          whole = o.1;
          checked = ltb-false _ _ b.0;
          layout = c.0;
          good = omega (arith, ltb-false bad_at (length (file_words f)) d.0, words_length f);
          roomy = ltb-false _ _ g.0;
        }

    pub accepted : (t : Verdict) → t ≡ read_verdict f out → t.number ≡ 0 → Readable out
    accepted t e z = readable (sym (ap (λ (u : Verdict). u.number) e) ∙ z)

    pub read_done : Readable out → (read_verdict f out).number ≡ 0
    read_done R =
        ap (λ (t : Verdict). t.number)
        (passed r12 (r13 ∷ r14 ∷ r8 ∷ r6 ∷ []) (bad_no R.some R.whole)
        ∙ passed r13 (r14 ∷ r8 ∷ r6 ∷ []) (le-ltb _ _ R.checked)
        ∙ fit 14 (laid_out f) (r8 ∷ r6 ∷ []) R.layout
        ∙ passed r8 (r6 ∷ []) (le-ltb bad_at (length (file_words f)) (omega (arith, R.good, words_length f)))
        ∙ passed r6 [] (le-ltb _ _ R.roomy))

    -- the call, refused
    pub read_refused : (t : Verdict) → t ≡ read_verdict f out → (t.number ≡ 0 → ⊥) → (r : Answer) → r ≡ answer t 0 0
        → (record {
          answer = r;
          width = 0;
          height = 0;
          border = 0;
          count = 0;
          levels = replicate 255 0;
        } ≡ read_answer f out) × (out ≡ read_words f out)
    read_refused t e z r q =
        let T = read_verdict f out in
        let y : T.number ≡ 0 → ⊥ = λ x. z (ap (λ (u : Verdict). u.number) e ∙ x) in
        let a : r ≡ (read_answer f out).answer =
        q ∙ ap (λ (u : Verdict). answer u 0 0) e ∙ refused_answer T 0 0 y ∙ sym (refused_answer T (file_word_count f) (tally (flagged eight) (file_words f)) y) in
        let n : (d : ℕ) → 0 ≡ afterwards T 0 d = λ d. sym (refused_after T 0 d y) in
        let l : replicate 255 0 ≡ afterwards T (replicate 255 0) (file_levels f ++ replicate (255 - file_count f) 0) =
        sym (refused_after T (replicate 255 0) (file_levels f ++ replicate (255 - file_count f) 0) y) in (
          λ i. record {
            answer = a i;
            width = n (file_width f) i;
            height = n (file_height f) i;
            border = n (file_border f) i;
            count = n (file_count f) i;
            levels = l i;
          },
          sym (refused_after T out (file_words f ++ drop (file_word_count f) out) y),
        )

    -- the call, done
    pub read_taken : (n lines : ℕ) (ws : List ℕ) → (read_verdict f out).number ≡ 0 → n ≡ file_word_count f → lines ≡ tally (flagged eight) (file_words f) → ws ≡ file_words f ++ drop n out
        → (stored f n lines ≡ read_answer f out) × (ws ≡ read_words f out)
    read_taken n lines ws z e g q =
        let T = read_verdict f out in
        let a : ◌≡◌ {A = Answer} (record { number = 0; place = 0; words = n; lines = lines }) (read_answer f out).answer =
        ap₂ (λ (k m : ℕ). record { number = 0; place = 0; words = k; lines = m }) e g ∙ sym (done_answer T (file_word_count f) (tally (flagged eight) (file_words f)) z) in
        let d : (x : ℕ) → x ≡ afterwards T 0 x = λ x. sym (done_after T 0 x z) in
        let l : file_levels f ++ replicate (255 - file_count f) 0 ≡ afterwards T (replicate 255 0) (file_levels f ++ replicate (255 - file_count f) 0) =
        sym (done_after T (replicate 255 0) (file_levels f ++ replicate (255 - file_count f) 0) z) in (
          λ i. record {
            answer = a i;
            width = d (file_width f) i;
            height = d (file_height f) i;
            border = d (file_border f) i;
            count = d (file_count f) i;
            levels = l i;
          },
          q ∙ ap (λ (k : ℕ). file_words f ++ drop k out) e ∙ sym (done_after T out (file_words f ++ drop (file_word_count f) out) z),
        )
