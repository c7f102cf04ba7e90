-- The numbers of the tree are those of the list, and there are at most half as many lines as horizontal crossings. Assumes nothing.
-- Definitions: `all_lines P ks` the lines of all levels, levels in order, as lists of codes; `line_words L P x` the words of the line whose lead is the word x.
-- Main laws: `firsts_lines` the lines of the leads are all lines in order; `crossings_at_lem` the n-th is that of the n-th lead; `firsts_words` their words joined are the list; `count_lines`,
--   `count_flags` there are as many as the list has flags; `heads_even_all`, `half_twice` the horizontal crossings of all levels are an even number, so its half is whole; `lines_within` there
--   are at most that half.
use mathlib.Core.Path.{◌≡◌, refl, sym, ap, ◌∙◌}
use mathlib.Core.Bool.{Bool, true, false}
use mathlib.Core.List.{List, [], ◌∷◌, ◌++◌, map}
use Prim.Native.Nat.{ℕ, zero, suc, ◌+◌, ◌*◌, ◌/◌, ◌%◌, ◌≤◌, ◌<◌}
use native.Mathlib.Omega.{arith}
use lib.ListN.{get_or, length, length-map, length-append}
use lib.Arith.{digits_mod, digits_div}
use Rattle.tally.specs.Tally.{odd, tally, total, flat, pick}
use Rattle.tally.proofs.Test.{by_test}
use Rattle.tally.proofs.Pick.{pick_yes, pick_no, flat_append}
use Rattle.tally.proofs.Parity.{odd_plus, even_half}
use Rattle.matte.specs.Layout.{Layout}
use Rattle.matte.specs.Picture.{Picture, size}
use Rattle.edgel.specs.Word.{flagged}
use Rattle.outline.specs.Line.{line, is_lead, lines}
use Rattle.outline.specs.List.{encode, level_words, listed}
use Rattle.outline.proofs.Border.{Border}
use Rattle.outline.proofs.Listed.{listed_flags}
use Rattle.outline.proofs.Counting.{heads_even, lines_heads}
use Rattle.enclosure.specs.Tree.{lead_words, firsts, line_count, level_at, lead_at, crossings_at}
use Rattle.enclosure.specs.Call.{heads, half}
use Rattle.enclosure.proofs.Lists.{map_join, at_map}
use Rattle.enclosure.proofs.Lines.{Setting}
use Rattle.enclosure.proofs.Firsts.{lead_yes, lead_no}

-- ---- one level
leads_pick : (p : ℕ → Bool) (g f : ℕ → List ℕ) (b i m : ℕ) → ((j : ℕ) → j < i + m → f (b + 2 * j) ≡ g j) → map f (lead_words p b i m) ≡ pick p g i m
unfolding lead_words pick
leads_pick p g f b i zero q = refl
leads_pick p g f b i (suc m) q =
    let r : map f (lead_words p b (suc i) m) ≡ pick p g (suc i) m = leads_pick p g f b (suc i) m (λ j h. q j (omega arith)) in
    by_test (p i)
    (λ e. ap (map f) (lead_yes p b i m e) ∙ ap (λ (z : List ℕ). z ∷ map f (lead_words p b (suc i) m)) (q i (omega arith)) ∙ ap (λ (z : List (List ℕ)). g i ∷ z) r ∙ sym (pick_yes p g i m e))
    (λ e. ap (map f) (lead_no p b i m e) ∙ r ∙ sym (pick_no p g i m e))

leads_words : (L : Layout) (k : ℕ) (p : ℕ → Bool) (g f : ℕ → List ℕ) (b i m : ℕ) → ((j : ℕ) → j < i + m → f (b + 2 * j) ≡ encode L k true (g j))
    → flat (map f (lead_words p b i m)) ≡ level_words L k (pick p g i m)
unfolding lead_words pick flat level_words
leads_words L k p g f b i zero q = refl
leads_words L k p g f b i (suc m) q =
    let r : flat (map f (lead_words p b (suc i) m)) ≡ level_words L k (pick p g (suc i) m) = leads_words L k p g f b (suc i) m (λ j h. q j (omega arith)) in
    by_test (p i)
    (λ e.
    ap (λ (z : List ℕ). flat (map f z)) (lead_yes p b i m e)
    ∙ ap (λ (z : List ℕ). z ++ flat (map f (lead_words p b (suc i) m))) (q i (omega arith))
    ∙ ap (λ (z : List ℕ). encode L k true (g i) ++ z) r
    ∙ sym (ap (level_words L k) (pick_yes p g i m e)))
    (λ e. ap (λ (z : List ℕ). flat (map f z)) (lead_no p b i m e) ∙ r ∙ sym (ap (level_words L k) (pick_no p g i m e)))

-- ---- all levels
unfoldable pub all_lines : Picture → List ℕ → List (List ℕ)
all_lines P [] = []
all_lines P (k ∷ ks) = lines P k ++ all_lines P ks

all_length : (P : Picture) (ks : List ℕ) → length (all_lines P ks) ≡ total (λ k. length (lines P k)) ks
unfolding all_lines total
all_length P [] = refl
all_length P (k ∷ ks) = length-append (lines P k) (all_lines P ks) ∙ ap (λ (z : ℕ). length (lines P k) + z) (all_length P ks)

abbrev pub line_words : Layout → Picture → ℕ → List ℕ
line_words L P x = encode L (x / L.codes) true (line P (x / L.codes) (x % L.codes))

module _ (L : Layout) (P : Picture) (r : 2 * size P ≤ L.codes) where
  abbrev C : ℕ
  C = L.codes

  abbrev f : ℕ → List ℕ
  f x = line P (x / C) (x % C)

  -- a lead of level k, as a word
  lead_line : (k j : ℕ) → j < 0 + size P → f (k * C + 2 * j) ≡ line P k (2 * j)
  lead_line k j b =
      let s : 2 * j < C = omega arith in
      ap (λ (z : ℕ). line P z ((k * C + 2 * j) % C)) (digits_div k s) ∙ ap (line P k) (digits_mod k s)

  pub firsts_lines : (ks : List ℕ) → map (λ x. line P (x / L.codes) (x % L.codes)) (firsts L P ks) ≡ all_lines P ks
  unfolding firsts all_lines lines
  firsts_lines [] = refl
  firsts_lines (k ∷ ks) =
      let l = lead_words (λ i. is_lead P k (2 * i)) (k * C) 0 (size P) in
      map_join f l (firsts L P ks)
      ∙ ap (λ (z : List (List ℕ)). z ++ map f (firsts L P ks))
      (leads_pick (λ i. is_lead P k (2 * i)) (λ i. line P k (2 * i)) f (k * C) 0 (size P) (lead_line k))
      ∙ ap (λ (z : List (List ℕ)). lines P k ++ z) (firsts_lines ks)

  pub firsts_words : (ks : List ℕ) → flat (map (line_words L P) (firsts L P ks)) ≡ listed L P ks
  unfolding firsts listed lines flat
  firsts_words [] = refl
  firsts_words (k ∷ ks) =
      let l = lead_words (λ i. is_lead P k (2 * i)) (k * C) 0 (size P) in
      ap flat (map_join (line_words L P) l (firsts L P ks))
      ∙ flat_append (map (line_words L P) l) (map (line_words L P) (firsts L P ks))
      ∙ ap (λ (z : List ℕ). z ++ flat (map (line_words L P) (firsts L P ks)))
      (leads_words L k (λ i. is_lead P k (2 * i)) (λ i. line P k (2 * i)) (line_words L P) (k * C) 0 (size P)
      (λ j b.
      let s : 2 * j < C = omega arith in
      ap (λ (z : ℕ). encode L z true (f (k * C + 2 * j))) (digits_div k s) ∙ ap (encode L k true) (lead_line k j b)))
      ∙ ap (λ (z : List ℕ). level_words L k (lines P k) ++ z) (firsts_words ks)

  module _ (ks : List ℕ) where
    pub count_lines : line_count L P ks ≡ length (all_lines P ks)
    count_lines = sym (ap length (sym (firsts_lines ks)) ∙ length-map (firsts L P ks) f)

    pub crossings_at_lem : (n : ℕ) → n < line_count L P ks → get_or (all_lines P ks) n [] ≡ crossings_at L P ks n
    unfolding level_at lead_at
    crossings_at_lem n l = ap (λ (z : List (List ℕ)). get_or z n []) (sym (firsts_lines ks)) ∙ at_map f (firsts L P ks) n l

-- ---- how many
module _ {L : Layout} {P : Picture} {ks : List ℕ} (S : Setting L P ks) where
  count_total : line_count L P ks ≡ total (λ k. length (lines P k)) ks
  count_total = count_lines L P S.fits.room ks ∙ all_length P ks

  pub count_flags : line_count L P ks ≡ tally (flagged L) (listed L P ks)
  count_flags = count_total ∙ sym (listed_flags L P S.fits S.border ks S.levels)

  pub lines_within : line_count L P ks ≤ half P ks
  unfolding heads half
  lines_within = omega (arith, count_total, lines_heads P S.border ks)

-- the half that is asked for is whole
module _ (P : Picture) (B : Border P) (p : 0 < P.w) where
  pub heads_even_all : (ks : List ℕ) → odd (total (heads P) ks) ≡ false
  unfolding total heads
  heads_even_all [] = refl
  heads_even_all (k ∷ ks) = odd_plus (heads P k) (total (heads P) ks) ∙ rw (heads_even P B k p, heads_even_all ks)

  pub half_twice : (ks : List ℕ) → total (heads P) ks ≡ 2 * half P ks
  unfolding half
  half_twice ks = even_half (total (heads P) ks) (heads_even_all ks)
