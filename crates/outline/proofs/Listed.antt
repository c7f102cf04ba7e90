-- The whole list of words over all levels. Assumes nothing.
-- Definitions: `Fits L P` the layout has room for the picture's codes and for all levels.
-- Main laws: `fits_eight` bytes have room for every picture; `listed_length` the list has as many words as crossed edgels at all levels, so that this can be counted before anything is followed;
--   `listed_flags` as many flags as lines; `listed_append`, `listed_more` level after level; `tally_listed` a level's words among all words are those of its own lines; `listed_once` the word of a
--   crossed edgel and a listed level stands there once; `word_cut` every word is of a listed level and of an edgel that it crosses.
use mathlib.Core.Path.{◌≡◌, refl, sym, ap, ◌∙◌, subst}
use mathlib.Core.Bool.{Bool, true, false}
use mathlib.Core.List.{List, [], ◌∷◌, ◌++◌, append_assoc, append-nil}
use Prim.Native.Nat.{ℕ, ◌+◌, ◌*◌, ◌≤◌, ◌<◌}
use native.Mathlib.Nat.{zero-mul, one-mul, mul-le-mul}
use native.Mathlib.Omega.{arith}
use lib.Dec.{eqb, ltb, leb}
use lib.ListN.{length, get_or, length-append}
use borrow.Author.Tests.{ltb-true, ltb-false, leb-true, eqb-true, eqb-false, eq-eqb, ne_eqb}
use Rattle.tally.specs.Tally.{one, sum, count, tally, flat, total}
use Rattle.tally.proofs.Test.{by_test, and_2, one_pos}
use Rattle.tally.proofs.Count.{tally_append, tally_eq, tally_has}
use Rattle.matte.specs.Layout.{Layout, eight}
use Rattle.matte.specs.Picture.{Picture, size, side_fits, levels_fit}
use Rattle.edgel.specs.Word.{code_of, level_of, flagged}
use Rattle.outline.specs.Line.{cut_at, lines}
use Rattle.outline.specs.List.{level_words, listed}
use Rattle.outline.proofs.Border.{Border}
use Rattle.outline.proofs.Paper.{closed_at}
use Rattle.outline.proofs.Whole.{each_once, words_total}
use Rattle.outline.proofs.Lines.{line_at_lem, line_some}
use Rattle.outline.proofs.Levels.{level_below, level_once}
use Rattle.outline.proofs.Words.{Narrow, level_length, flags_level, of_level, tally_level}

pub record Fits (L : Layout) (P : Picture) : Type 0 where
  pub room : 2 * size P ≤ L.codes
  pub tops : L.most ≤ L.levels

-- bytes have room for every picture of sides up to 2,048
pub fits_eight : (P : Picture) → side_fits P.w ≡ true → side_fits P.h ≡ true → Fits eight P
fits_eight P a b =
    let u : P.w ≤ 2048 = leb-true P.w 2048 (and_2 (leb 2 P.w) _ a) in
    let v : P.h ≤ 2048 = leb-true P.h 2048 (and_2 (leb 2 P.h) _ b) in
    let m : P.w * P.h ≤ 2048 * 2048 = mul-le-mul u v in
    record { room = omega arith; tops = omega arith }

module _ (L : Layout) (P : Picture) where
  pub listed_append : (ks js : List ℕ) → listed L P (ks ++ js) ≡ listed L P ks ++ listed L P js
  unfolding listed
  listed_append [] js = refl
  listed_append (k ∷ ks) js =
      ap (λ (z : List ℕ). level_words L k (lines P k) ++ z) (listed_append ks js) ∙ sym (append_assoc (level_words L k (lines P k)) (listed L P ks) (listed L P js))

  pub listed_more : (ks : List ℕ) (k : ℕ) → listed L P (ks ++ (k ∷ [])) ≡ listed L P ks ++ level_words L k (lines P k)
  unfolding listed
  listed_more ks k = listed_append ks (k ∷ []) ∙ ap (λ (z : List ℕ). listed L P ks ++ z) (append-nil (level_words L k (lines P k)))

  pub listed_length : Border P → (ks : List ℕ) → length (listed L P ks) ≡ total (λ k. sum (λ c. one (cut_at P k c)) (2 * size P)) ks
  unfolding listed total
  listed_length B [] = refl
  listed_length B (k ∷ ks) =
      length-append (level_words L k (lines P k)) (listed L P ks) ∙ rw (level_length L k (lines P k), words_total P B k, listed_length B ks)

module _ (L : Layout) (P : Picture) (F : Fits L P) (B : Border P) where
  pub narrow : (k : ℕ) → k < L.most → Narrow L k (flat (lines P k))
  narrow k h =
      record {
        level = omega (arith, F.tops);
        codes = λ c m.
            by_test (cut_at P k c)
            (λ e. omega (arith, F.room, (closed_at P B k).bound c e))
            (λ e. absurd (omega (arith, each_once P B k c ∙ ap one e)));
      }

  flags_of : (ks : List ℕ) → ((k : ℕ) → 0 < count k ks → k < L.most) → tally (flagged L) (listed L P ks) ≡ total (λ k. length (lines P k)) ks
  unfolding listed total tally count
  flags_of [] h = refl
  flags_of (k ∷ ks) h =
      let i : 0 < one (eqb k k) + count k ks = rw (eq-eqb k k refl) (omega arith) in
      tally_append (flagged L) (level_words L k (lines P k)) (listed L P ks)
      ∙ rw (flags_level L k (lines P k) (narrow k (h k i)) (λ n m. line_some P B k (get_or (lines P k) n []) (line_at_lem P k n m)), flags_of ks (λ d l. h d (omega arith)))

  tally_of : (j : ℕ) (p : ℕ → Bool) (ks : List ℕ) → ((k : ℕ) → 0 < count k ks → k < L.most) → tally (of_level L j p) (listed L P ks) ≡ count j ks * tally p (flat (lines P j))
  unfolding tally listed count
  tally_of j p [] h = omega arith
  tally_of j p (k ∷ ks) h =
      let i : 0 < one (eqb k k) + count k ks = rw (eq-eqb k k refl) (omega arith) in
      let a = tally_level L j k p (lines P k) (narrow k (h k i)) in
      let b = tally_of j p ks (λ d l. h d (omega arith)) in
      tally_append (of_level L j p) (level_words L k (lines P k)) (listed L P ks)
      ∙ rw (a, b)
      (by_test (eqb k j)
      (λ e.
      let s : k ≡ j = eqb-true k j e in
      rw (e, s, eq-eqb j j refl) (omega arith))
      (λ e. rw (e, ne_eqb j k (λ z. eqb-false k j e (sym z))) (omega (arith, zero-mul (tally p (flat (lines P k)))))))

  module _ (ks : List ℕ) (e : levels_fit L ks ≡ true) where
    pub listed_flags : tally (flagged L) (listed L P ks) ≡ total (λ k. length (lines P k)) ks
    listed_flags = flags_of ks (level_below L ks e)

    pub tally_listed : (j : ℕ) (p : ℕ → Bool) → tally (of_level L j p) (listed L P ks) ≡ count j ks * tally p (flat (lines P j))
    tally_listed j p = tally_of j p ks (level_below L ks e)

    pub tally_own : (j : ℕ) (p : ℕ → Bool) → 0 < count j ks → tally (of_level L j p) (listed L P ks) ≡ tally p (flat (lines P j))
    tally_own j p h = tally_listed j p ∙ rw (level_once L ks e j h) (one-mul (tally p (flat (lines P j))))

    pub listed_once : (j c : ℕ) → 0 < count j ks → tally (of_level L j (eqb c)) (listed L P ks) ≡ one (cut_at P j c)
    listed_once j c h = tally_own j (eqb c) h ∙ tally_eq c (flat (lines P j)) ∙ each_once P B j c

    -- what a word of the list says: its level is listed, and its code is crossed there
    pub word_level : (u : ℕ) → 0 < count u (listed L P ks) → 0 < count (level_of L u) ks
    word_level u h =
        let j = level_of L u in
        let t : 0 < tally (of_level L j (λ c. true)) (listed L P ks) =
        tally_has (of_level L j (λ c. true)) u (listed L P ks) (rw (eq-eqb j j refl)) h in
        by_test (ltb 0 (count j ks))
        (λ y. ltb-true 0 (count j ks) y)
        (λ y. absurd (omega (arith, t, tally_listed j (λ c. true) ∙ ap (λ (z : ℕ). z * tally (λ c. true) (flat (lines P j))) (none (count j ks) y), zero-mul (tally (λ c. true) (flat (lines P j))))))
      where
        none : (n : ℕ) → ltb 0 n ≡ false → n ≡ 0
        none n y = omega (arith, ltb-false 0 n y)

    pub word_cut : (u : ℕ) → 0 < count u (listed L P ks) → cut_at P (level_of L u) (code_of L u) ≡ true
    word_cut u h =
        let j = level_of L u in
        let c = code_of L u in
        let t : 0 < tally (of_level L j (eqb c)) (listed L P ks) =
        tally_has (of_level L j (eqb c)) u (listed L P ks) (rw (eq-eqb j j refl) (eq-eqb c c refl)) h in
        one_pos (cut_at P j c) (subst (λ (z : ℕ). 0 < z) (listed_once j c (word_level u h)) t)
