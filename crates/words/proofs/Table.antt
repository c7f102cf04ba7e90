-- The table of the listed levels, filled one level at a time. Assumes nothing.
-- Main laws: `table_none` with no level all entries are 0; `table_more` one level more sets its entry; `table_at` an entry; `table_word` with the table the test of a word is that of the list,
--   `word_told` the same for a table that equals it.
use mathlib.Core.Path.{◌≡◌, refl, sym, ap, ◌∙◌}
use mathlib.Core.Bool.{Bool, true, false, not, ◌||◌}
use mathlib.Core.List.{List, [], ◌∷◌, ◌++◌}
use Prim.Native.Nat.{ℕ, zero, suc, ◌/◌, ◌<◌}
use native.Mathlib.Nat.{zero-add, mod-lt}
use native.Mathlib.Omega.{arith}
use lib.Dec.{eqb, ltb}
use lib.ListN.{length, get_or, set, replicate, length-set, length-replicate, get_or-replicate}
use lib.Seq.{ext_get_or, get_or-set_same, get_or-set_other}
use borrow.Author.Tests.{eqb-true, eqb-false, lt-ltb, eq-eqb, ne_eqb}
use Rattle.tally.specs.Tally.{one, count}
use Rattle.tally.proofs.Test.{by_test}
use Rattle.tally.proofs.Count.{count_append}
use Rattle.tally.proofs.Build.{build_length, build_at, is_build}
use Rattle.matte.specs.Layout.{eight}
use Rattle.edgel.specs.Word.{level_of}
use Rattle.words.specs.Fit.{bad_code, bad_word}
use Rattle.words.specs.Listed.{level_table, word_fits}

pub table_length : (ks : List ℕ) → length (level_table eight ks) ≡ 256
unfolding level_table
table_length ks = build_length (λ k. one (ltb 0 (count k ks))) 0 256

pub table_at : (ks : List ℕ) (k : ℕ) → k < 256 → get_or (level_table eight ks) k 0 ≡ one (ltb 0 (count k ks))
unfolding level_table
table_at ks k h = build_at (λ k. one (ltb 0 (count k ks))) 0 256 k h ∙ ap (λ (z : ℕ). one (ltb 0 (count z ks))) (zero-add k)

pub table_none : replicate 256 (zero) ≡ level_table eight []
unfolding level_table count
table_none =
    let z : ℕ = 0 in
    is_build (λ k. one (ltb 0 (count k []))) (replicate 256 z) 256 (length-replicate 256 z) (λ j h. get_or-replicate 256 j z z h)

here : (ks : List ℕ) (k : ℕ) → 0 < count k (ks ++ (k ∷ []))
unfolding count
here ks k = rw (count_append k ks (k ∷ []), eq-eqb k k refl) (omega arith)

there : (ks : List ℕ) (k j : ℕ) → eqb j k ≡ false → count j (ks ++ (k ∷ [])) ≡ count j ks
unfolding count
there ks k j e = rw (count_append j ks (k ∷ []), e) (omega arith)

pub table_more : (ks : List ℕ) (k : ℕ) → k < 256 → set (level_table eight ks) k 1 ≡ level_table eight (ks ++ (k ∷ []))
table_more ks k h =
    ext_get_or 0 (set (level_table eight ks) k 1) (level_table eight (ks ++ (k ∷ [])))
    (length-set (level_table eight ks) k 1 ∙ table_length ks ∙ sym (table_length (ks ++ (k ∷ []))))
    (λ j l.
    let m : j < 256 = omega (arith, length-set (level_table eight ks) k 1, table_length ks) in
    by_test (eqb j k)
    (λ e.
    let s : j ≡ k = eqb-true j k e in
    rw s (get_or-set_same (level_table eight ks) k 1 0 (omega (arith, table_length ks))
    ∙ sym (table_at (ks ++ (k ∷ [])) k h ∙ ap one (lt-ltb 0 _ (here ks k)))))
    (λ e.
    get_or-set_other (level_table eight ks) k j 1 0 (eqb-false j k e)
    ∙ table_at ks j m
    ∙ sym (table_at (ks ++ (k ∷ [])) j m ∙ ap (λ (z : ℕ). one (ltb 0 z)) (there ks k j e))))

one_zero : (n : ℕ) → eqb (one (ltb 0 n)) 0 ≡ eqb n 0
one_zero zero = refl
one_zero (suc n) = rw (lt-ltb 0 (suc n) (omega arith)) (sym (ne_eqb (suc n) 0 (omega arith)))

pub table_word : (w h : ℕ) (ks : List ℕ) (u : ℕ) → word_fits eight w h (level_table eight ks) u ≡ not (bad_word eight w h ks u)
table_word w h ks u =
    ap (λ (b : Bool). not (bad_code eight w h u || b))
    (ap (λ (z : ℕ). eqb z 0) (table_at ks (level_of eight u) (mod-lt (u / 8388608) (omega arith))) ∙ one_zero (count (level_of eight u) ks))

not_not : (b : Bool) → not (not b) ≡ b
not_not true = refl
not_not false = refl

-- what the test with the table says of the word
pub word_told : (w h : ℕ) (ks t : List ℕ) (u : ℕ) (b : Bool) → t ≡ level_table eight ks → b ≡ word_fits eight w h t u → (v : Bool) → not b ≡ v → bad_word eight w h ks u ≡ v
word_told w h ks t u b s e v n =
    sym (not_not _) ∙ ap not (sym (table_word w h ks u) ∙ ap (λ (z : List ℕ). word_fits eight w h z u) (sym s) ∙ sym e) ∙ n
