-- The customer's third demand, of the words: a sample against the border, by the lines of the list that have it inside. Assumes nothing.
-- Definitions: `odd_of P ks k x y` how many lines of the list are of level k and have the sample inside.
-- Main laws: `odd_of_level` they are as many as the lines of the level that count odd; `words_as_border`, `words_not_as_border` above the level exactly if the border is, where they are an even number, and
--   else exactly if the border is not.
use mathlib.Core.Path.{◌≡◌, refl, sym, ap, ◌∙◌}
use mathlib.Core.Bool.{Bool, true, false, not, ◌&&◌}
use mathlib.Core.List.{List, [], ◌∷◌, ◌++◌, map, append-nil}
use Prim.Native.Nat.{ℕ, ◌+◌, ◌*◌, ◌/◌, ◌%◌, ◌<◌}
use native.Mathlib.Nat.{zero-mul, one-mul}
use native.Mathlib.Numerals.{one-add}
use native.Mathlib.Omega.{arith}
use lib.Dec.{eqb}
use lib.Arith.{digits_div}
use lib.ListN.{length, get_or}
use borrow.Author.Tests.{eqb-true, eqb-false, eq-eqb, ne_eqb}
use Rattle.tally.specs.Tally.{one, odd, count, sum, total}
use Rattle.tally.proofs.Test.{by_test}
use Rattle.tally.proofs.Sum.{sum_same, sum_cut, total_same, total_append, total_times}
use Rattle.matte.specs.Layout.{eight}
use Rattle.matte.specs.Picture.{Picture, high}
use Rattle.edgel.specs.Word.{level_of}
use Rattle.edgel.specs.Beside.{odd_west, odd_lines}
use Rattle.outline.specs.Line.{line, is_lead, lines}
use Rattle.outline.proofs.Levels.{level_once}
use Rattle.enclosure.specs.Tree.{lead_words, firsts, level_at, lead_at}
use Rattle.enclosure.proofs.Firsts.{firsts_has}
use Rattle.enclosure.proofs.Numbers.{all_lines, firsts_lines, count_flags}
use Rattle.paint.specs.Member.{inside}
use Rattle.promises.proofs.DemandThree.{Scan, fits, as_border, not_as_border}
use Rattle.promises.proofs.DemandThreeWords.{line_total, line_at, setting, inside_is_odd, level_is}

-- by the level of a line's first word, and by membership
abbrev pub odd_of : Picture → List ℕ → ℕ → ℕ → ℕ → ℕ
odd_of P ks k x y = sum (λ n. one (eqb (level_of eight (get_or (line_at P ks n) 0 0)) k && inside eight P.w (line_at P ks n) x y)) (line_total P ks)

-- ---- over a list, and over its places
sum_places : (f : ℕ → ℕ) (l : List ℕ) → sum (λ n. f (get_or l n 0)) (length l) ≡ total f l
unfolding sum total
sum_places f [] = refl
sum_places f (x ∷ l) =
    let g : ℕ → ℕ = λ n. f (get_or (x ∷ l) n 0) in
    let r : sum (λ i. g (1 + i)) (length l) ≡ total f l = sum_same (λ i. g (1 + i)) (λ i. f (get_or l i 0)) (length l) (λ i h. ap g (one-add i)) ∙ sum_places f l in
    ap (sum g) (sym (one-add (length l))) ∙ sum_cut g 1 (length l) ∙ rw r (omega arith)

odd_each : (w x y : ℕ) (f : ℕ → List ℕ) (l : List ℕ) → total (λ z. one (odd_west w (f z) x y)) l ≡ odd_lines w (map f l) x y
unfolding total odd_lines
odd_each w x y f [] = refl
odd_each w x y f (z ∷ l) = ap (λ (i : ℕ). one (odd_west w (f z) x y) + i) (odd_each w x y f l)

one_both : (a b : Bool) → one (a && b) ≡ one a * one b
one_both true b = omega arith
one_both false b = omega (arith, zero-mul (one b))

module _ (P : Picture) (ks : List ℕ) (S : Scan P ks) (k x y : ℕ) where
  abbrev C : ℕ
  C = eight.codes

  -- the line of a lead, as in the list of leads
  abbrev f : ℕ → List ℕ
  f z = line P (z / C) (z % C)

  abbrev counts : ℕ → ℕ
  counts z = one (eqb (z / C) k && odd_west P.w (f z) x y)

  -- ---- the leads of one level
  alone : (j : ℕ) → map f (firsts eight P (j ∷ [])) ≡ lines P j
  unfolding all_lines
  alone j = firsts_lines eight P (fits P ks S).room (j ∷ []) ∙ append-nil (lines P j)

  level_of_lead : (j z : ℕ) → 0 < count z (firsts eight P (j ∷ [])) → z / eight.codes ≡ j
  unfolding count
  level_of_lead j z h =
      let r = firsts_has eight P (j ∷ []) z h in
      let b : r.1 < C = omega (arith, r.5, (fits P ks S).room) in
      by_test (eqb r.0 j)
      (λ e. ap (λ (i : ℕ). i / C) r.2 ∙ digits_div r.0 b ∙ eqb-true r.0 j e)
      (λ e. absurd (omega (arith, rw e at r.3)))

  of_one : (j : ℕ) → total counts (firsts eight P (j ∷ [])) ≡ one (eqb j k) * odd_lines P.w (lines P j) x y
  of_one j =
      let l = firsts eight P (j ∷ []) in
      total_same counts (λ z. one (eqb j k) * one (odd_west P.w (f z) x y)) l
      (λ z h. one_both (eqb (z / C) k) (odd_west P.w (f z) x y) ∙ ap (λ (i : ℕ). one (eqb i k) * one (odd_west P.w (f z) x y)) (level_of_lead j z h))
      ∙ total_times (one (eqb j k)) (λ z. one (odd_west P.w (f z) x y)) l
      ∙ ap (λ (i : ℕ). one (eqb j k) * i) (odd_each P.w x y f l ∙ ap (λ (ls : List (List ℕ)). odd_lines P.w ls x y) (alone j))

  -- ---- of all levels
  firsts_next : (j : ℕ) (js : List ℕ) → firsts eight P (j ∷ js) ≡ firsts eight P (j ∷ []) ++ firsts eight P js
  unfolding firsts
  firsts_next j js = ap (λ (l : List ℕ). l ++ firsts eight P js) (sym (append-nil (lead_words (λ i. is_lead P j (2 * i)) (j * C) 0 (P.w * P.h))))

  of_all : (js : List ℕ) → total counts (firsts eight P js) ≡ count k js * odd_lines P.w (lines P k) x y
  unfolding count total firsts
  of_all [] = omega (arith, zero-mul (odd_lines P.w (lines P k) x y))
  of_all (j ∷ js) =
      let n = odd_lines P.w (lines P k) x y in
      ap (total counts) (firsts_next j js)
      ∙ total_append counts (firsts eight P (j ∷ [])) (firsts eight P js)
      ∙ rw (of_one j, of_all js)
      (by_test (eqb j k)
      (λ e.
      let s : j ≡ k = eqb-true j k e in
      rw (e, s, eq-eqb k k refl) (omega arith))
      (λ e. rw (e, ne_eqb k j (λ z. eqb-false j k e (sym z))) (omega (arith, zero-mul (odd_lines P.w (lines P j) x y)))))

  same_at : (n : ℕ) → n < line_total P ks
      → one (eqb (level_of eight (get_or (line_at P ks n) 0 0)) k && inside eight P.w (line_at P ks n) x y) ≡ counts (get_or (firsts eight P ks) n 0)
  unfolding level_at lead_at
  same_at n h = rw (level_is P ks S n h, inside_is_odd P ks S n h x y) refl

  pub odd_of_level : 0 < count k ks → odd_of P ks k x y ≡ odd_lines P.w (lines P k) x y
  odd_of_level h =
      sum_same _ (λ n. counts (get_or (firsts eight P ks) n 0)) (line_total P ks) same_at
      ∙ ap (sum (λ n. counts (get_or (firsts eight P ks) n 0))) (sym (count_flags (setting P ks S)))
      ∙ sum_places counts (firsts eight P ks)
      ∙ of_all ks
      ∙ rw (level_once eight ks S.levels k h) (one-mul (odd_lines P.w (lines P k) x y))

  pub words_as_border : 0 < count k ks → x < P.w → y < P.h → odd (odd_of P ks k x y) ≡ false → high P k (y * P.w + x) ≡ high P k 0
  words_as_border h a b e = as_border P ks S k x y a b (ap odd (sym (odd_of_level h)) ∙ e)

  pub words_not_as_border : 0 < count k ks → x < P.w → y < P.h → odd (odd_of P ks k x y) ≡ true → high P k (y * P.w + x) ≡ not (high P k 0)
  words_not_as_border h a b e = not_as_border P ks S k x y a b (ap odd (sym (odd_of_level h)) ∙ e)
