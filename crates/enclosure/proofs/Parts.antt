-- Line n of the word list: where it stands, and the flags before it. Assumes nothing.
-- Definitions: `words_before L P ks n` the words of the lines below n.
-- Main laws: `listed_part` the list is the words before line n, those of line n, and the rest; `flags_before` there are n flags before it; `before_all` the words before line `line_count` are the list; `narrow_at`, `long_at` a
--   line's level and codes fit a word, and it has crossings.
use mathlib.Core.Path.{◌≡◌, refl, sym, ap, ◌∙◌}
use mathlib.Core.Bool.{true}
use mathlib.Core.List.{List, [], ◌∷◌, ◌++◌, map, append-nil}
use Prim.Native.Nat.{ℕ, zero, suc, ◌≤◌, ◌<◌}
use native.Mathlib.Omega.{arith}
use lib.ListN.{get_or, length, take, drop}
use lib.Seq.{take-suc, take-length, split_at}
use Rattle.tally.specs.Tally.{tally, flat}
use Rattle.tally.proofs.Count.{tally_append}
use Rattle.tally.proofs.Pick.{flat_append}
use Rattle.matte.specs.Layout.{Layout}
use Rattle.matte.specs.Picture.{Picture}
use Rattle.edgel.specs.Word.{flagged}
use Rattle.outline.specs.List.{encode, listed}
use Rattle.outline.proofs.Levels.{level_below}
use Rattle.outline.proofs.Lines.{line_long}
use Rattle.outline.proofs.Places.{line_low}
use Rattle.outline.proofs.Words.{Narrow, flags_line}
use Rattle.enclosure.specs.Tree.{firsts, line_count, level_at, lead_at, crossings_at}
use Rattle.enclosure.proofs.Lists.{map_join}
use Rattle.enclosure.proofs.Lines.{Setting, lead_cut}
use Rattle.enclosure.proofs.Tree.{line_of}
use Rattle.enclosure.proofs.Numbers.{line_words, firsts_words}

module _ (L : Layout) (P : Picture) (ks : List ℕ) where
  unfoldable pub words_before : ℕ → List ℕ
  words_before n = flat (map (line_words L P) (take n (firsts L P ks)))

module _ {L : Layout} {P : Picture} {ks : List ℕ} (S : Setting L P ks) where
  abbrev all : List ℕ
  all = firsts L P ks

  -- the words of line n
  here : (n : ℕ) → line_words L P (get_or all n 0) ≡ encode L (level_at L P ks n) true (crossings_at L P ks n)
  unfolding level_at lead_at
  here n = refl

  pub listed_part : (n : ℕ) → n < line_count L P ks
      → (after : List ℕ) × (listed L P ks ≡ words_before L P ks n ++ (encode L (level_at L P ks n) true (crossings_at L P ks n) ++ after))
  unfolding words_before flat
  listed_part n a =
      let f = line_words L P in
      let x = get_or all n 0 in
      let after = flat (map f (drop (suc n) all)) in (
        after,
        sym (firsts_words L P S.fits.room ks)
            ∙ ap (λ (z : List ℕ). flat (map f z)) (split_at all n 0 a)
            ∙ ap flat (map_join f (take n all) (x ∷ drop (suc n) all))
            ∙ flat_append (map f (take n all)) (f x ∷ map f (drop (suc n) all))
            ∙ ap (λ (z : List ℕ). flat (map f (take n all)) ++ (z ++ after)) (here n),
      )

  before_next : (n : ℕ) → n < line_count L P ks → words_before L P ks (suc n) ≡ words_before L P ks n ++ encode L (level_at L P ks n) true (crossings_at L P ks n)
  unfolding words_before flat
  before_next n a =
      let f = line_words L P in
      ap (λ (z : List ℕ). flat (map f z)) (take-suc all n 0 a)
      ∙ ap flat (map_join f (take n all) (get_or all n 0 ∷ []))
      ∙ flat_append (map f (take n all)) (f (get_or all n 0) ∷ [])
      ∙ ap (λ (z : List ℕ). flat (map f (take n all)) ++ z) (append-nil (f (get_or all n 0)) ∙ here n)

  pub before_all : words_before L P ks (line_count L P ks) ≡ listed L P ks
  unfolding words_before
  before_all = ap (λ (z : List ℕ). flat (map (line_words L P) z)) (take-length all) ∙ firsts_words L P S.fits.room ks

  pub narrow_at : (n : ℕ) → n < line_count L P ks → Narrow L (level_at L P ks n) (crossings_at L P ks n)
  unfolding line_of
  narrow_at n a =
      let M = line_of S n a in
      record {
        level = omega (arith, level_below L ks S.levels M.lvl M.listed, S.fits.tops);
        codes = λ c h. omega (arith, S.fits.room, line_low P S.border M.lvl M.lead c (lead_cut S M) h);
      }

  pub long_at : (n : ℕ) → n < line_count L P ks → 0 < length (crossings_at L P ks n)
  unfolding line_of
  long_at n a = let M = line_of S n a in line_long P S.border M.lvl M.lead M.leads

  pub flags_before : (n : ℕ) → n ≤ line_count L P ks → tally (flagged L) (words_before L P ks n) ≡ n
  unfolding words_before flat tally
  flags_before zero h = refl
  flags_before (suc n) h =
      let l = encode L (level_at L P ks n) true (crossings_at L P ks n) in
      let a : tally (flagged L) l ≡ 1 = flags_line L (level_at L P ks n) (crossings_at L P ks n) (narrow_at n h) (long_at n h) in
      let b : tally (flagged L) (words_before L P ks n) ≡ n = flags_before n (omega arith) in
      ap (tally (flagged L)) (before_next n h) ∙ tally_append (flagged L) (words_before L P ks n) l ∙ omega arith
