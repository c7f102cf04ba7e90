-- All lines of a word list. Assumes nothing.
-- Main laws: `part_empty` a line past the last is empty; `part_some` any other is not; `part_exact` the two together; `part_nowhere` a line past the last starts at 0; `rest_take` the words before the next flag are as many as stand before it; `part_there` as many words as it has, from its start on, are the line; `parts_all` the lines one after the other are the list from its first flag on.
use mathlib.Core.Path.{◌≡◌, refl, sym, ap, ◌∙◌}
use mathlib.Core.Bool.{true, false}
use mathlib.Core.List.{List, [], ◌∷◌, ◌++◌}
use Prim.Native.Nat.{ℕ, zero, suc, ◌+◌, ◌≤◌, ◌<◌}
use native.Mathlib.Nat.{zero-add}
use native.Mathlib.Numerals.{one-add}
use native.Mathlib.Omega.{arith}
use lib.Dec.{ltb}
use lib.ListN.{length, take, drop, take-append-drop, length-drop}
use borrow.Author.Tests.{lt-ltb, ltb-true, ltb-false}
use Rattle.tally.specs.Tally.{tally, first_at, flat, pick}
use Rattle.tally.proofs.Test.{by_test}
use Rattle.tally.proofs.First.{first_yes, first_no}
use Rattle.matte.specs.Layout.{Layout}
use Rattle.edgel.specs.Word.{flagged}
use Rattle.paint.specs.Part.{rest, part, words_before, part_start}
use Rattle.paint.specs.Span.{whole}
use Rattle.paint.proofs.Lines.{rest_yes, rest_no, part_yes, part_next, part_no, before_next, before_no, part_before, start_here, start_none}

-- g i, .., g (i + m - 1)
abbrev row : (ℕ → List ℕ) → ℕ → ℕ → List (List ℕ)
row g i m = pick (λ n. true) g i m

row_same : (f g : ℕ → List ℕ) (i j m : ℕ) → ((n : ℕ) → f (i + n) ≡ g (j + n)) → row f i m ≡ row g j m
unfolding pick
row_same f g i j zero q = refl
row_same f g i j (suc m) q =
    let a : i + 0 ≡ i = omega arith in
    let b : j + 0 ≡ j = omega arith in
    let r : f i ≡ g j = rw (a, b) at (q 0) in
    rw r
    (ap (λ (l : List (List ℕ)). g j ∷ l)
    (row_same f g (suc i) (suc j) m
    (λ n.
    let c : suc i + n ≡ i + suc n = omega arith in
    let d : suc j + n ≡ j + suc n = omega arith in
    rw (c, d) (q (suc n)))))

module _ (L : Layout) where
  tally_yes : (u : ℕ) (ws : List ℕ) → flagged L u ≡ true → tally (flagged L) (u ∷ ws) ≡ suc (tally (flagged L) ws)
  unfolding tally
  tally_yes u ws e = rw (e, one-add (tally (flagged L) ws))

  tally_no : (u : ℕ) (ws : List ℕ) → flagged L u ≡ false → tally (flagged L) (u ∷ ws) ≡ tally (flagged L) ws
  unfolding tally
  tally_no u ws e = rw (e, zero-add (tally (flagged L) ws))

  pub part_empty : (n : ℕ) (ws : List ℕ) → tally (flagged L) ws ≤ n → part L n ws ≡ []
  unfolding part
  part_empty n [] h = refl
  part_empty zero (u ∷ ws) h =
      by_test (flagged L u)
      (λ e. absurd (omega (arith, tally_yes u ws e)))
      (λ e. part_no L zero u ws e ∙ part_empty zero ws (omega (arith, tally_no u ws e)))
  part_empty (suc n) (u ∷ ws) h =
      by_test (flagged L u)
      (λ e. part_next L n u ws e ∙ part_empty n ws (omega (arith, tally_yes u ws e)))
      (λ e. part_no L (suc n) u ws e ∙ part_empty (suc n) ws (omega (arith, tally_no u ws e)))

  pub part_some : (n : ℕ) (ws : List ℕ) → n < tally (flagged L) ws → 0 < length (part L n ws)
  unfolding tally
  part_some n [] h = absurd (omega arith)
  part_some zero (u ∷ ws) h =
      by_test (flagged L u)
      (λ e. rw (part_yes L u ws e) (omega arith))
      (λ e. rw (part_no L zero u ws e) (part_some zero ws (omega (arith, tally_no u ws e))))
  part_some (suc n) (u ∷ ws) h =
      by_test (flagged L u)
      (λ e. rw (part_next L n u ws e) (part_some n ws (omega (arith, tally_yes u ws e))))
      (λ e. rw (part_no L (suc n) u ws e) (part_some (suc n) ws (omega (arith, tally_no u ws e))))

  before_all : (n : ℕ) (ws : List ℕ) → tally (flagged L) ws ≤ n → words_before L n ws ≡ length ws
  unfolding words_before
  before_all n [] h = refl
  before_all zero (u ∷ ws) h =
      by_test (flagged L u)
      (λ e. absurd (omega (arith, tally_yes u ws e)))
      (λ e. omega (arith, before_no L zero u ws e, before_all zero ws (omega (arith, tally_no u ws e))))
  before_all (suc n) (u ∷ ws) h =
      by_test (flagged L u)
      (λ e. omega (arith, before_next L n u ws e, before_all n ws (omega (arith, tally_yes u ws e))))
      (λ e. omega (arith, before_no L (suc n) u ws e, before_all (suc n) ws (omega (arith, tally_no u ws e))))

  -- a line that is not there starts at 0
  pub part_nowhere : (n : ℕ) (ws : List ℕ) → tally (flagged L) ws ≤ n → part_start L n ws ≡ 0
  part_nowhere n ws h = start_none L n ws (omega (arith, before_all n ws h))

  -- ---- start and count give the line
  rest_front : (l : List ℕ) → take (length (rest L l)) l ≡ rest L l
  unfolding rest
  rest_front [] = refl
  rest_front (u ∷ l) =
      by_test (flagged L u)
      (λ e. rw (rest_yes L u l e) refl)
      (λ e. rw (rest_no L u l e) (ap (λ (x : List ℕ). u ∷ x) (rest_front l)))

  whole_front : (l : List ℕ) → take (length (whole L l)) l ≡ whole L l
  unfolding whole
  whole_front [] = refl
  whole_front (u ∷ l) = ap (λ (x : List ℕ). u ∷ x) (rest_front l)

  no_words : (l : List ℕ) → length l ≡ 0 → whole L l ≡ []
  unfolding whole
  no_words [] e = refl
  no_words (u ∷ l) e = absurd (omega arith)

  pub part_there : (n : ℕ) (ws : List ℕ) → take (length (part L n ws)) (drop (part_start L n ws) ws) ≡ part L n ws
  part_there n ws =
      by_test (ltb (words_before L n ws) (length ws))
      (λ e. rw (start_here L n ws (ltb-true _ _ e), part_before L n ws) (whole_front (drop (words_before L n ws) ws)))
      (λ e.
      let h : length ws ≤ words_before L n ws = ltb-false (words_before L n ws) (length ws) e in
      let z : part L n ws ≡ [] = part_before L n ws ∙ no_words (drop (words_before L n ws) ws) (length-drop (words_before L n ws) ws ∙ omega arith) in
      rw z refl)

  -- a line is empty exactly if there is no such line
  pub part_exact : (n : ℕ) (ws : List ℕ) → ltb 0 (length (part L n ws)) ≡ ltb n (tally (flagged L) ws)
  part_exact n ws =
      by_test (ltb n (tally (flagged L) ws))
      (λ e. lt-ltb 0 (length (part L n ws)) (part_some n ws (ltb-true n (tally (flagged L) ws) e)) ∙ sym e)
      (λ e. rw (part_empty n ws (ltb-false n (tally (flagged L) ws) e)) (sym e))

  pub rest_take : (ws : List ℕ) → rest L ws ≡ take (first_at (flagged L) ws) ws
  unfolding rest first_at
  rest_take [] = refl
  rest_take (u ∷ ws) =
      by_test (flagged L u)
      (λ e. rest_yes L u ws e ∙ ap (λ (k : ℕ). take k (u ∷ ws)) (sym (first_yes (flagged L) u ws e)))
      (λ e. rest_no L u ws e ∙ ap (λ (l : List ℕ). u ∷ l) (rest_take ws) ∙ ap (λ (k : ℕ). take k (u ∷ ws)) (sym (first_no (flagged L) u ws e)))

  pub parts_all : (ws : List ℕ) → flat (pick (λ n. true) (λ n. part L n ws) 0 (tally (flagged L) ws)) ≡ drop (first_at (flagged L) ws) ws
  unfolding flat pick tally first_at
  parts_all [] = refl
  parts_all (u ∷ ws) =
      by_test (flagged L u)
      (λ e.
      ap (λ (k : ℕ). flat (row (λ n. part L n (u ∷ ws)) 0 k)) (tally_yes u ws e)
      ∙ ap (λ (l : List (List ℕ)). part L 0 (u ∷ ws) ++ flat l)
      (row_same (λ n. part L n (u ∷ ws)) (λ n. part L n ws) 1 0 (tally (flagged L) ws) (λ n. rw (one-add n, zero-add n) (part_next L n u ws e)))
      ∙ rw (part_yes L u ws e, parts_all ws, first_yes (flagged L) u ws e)
      (ap (λ (l : List ℕ). u ∷ l) (ap (λ (l : List ℕ). l ++ drop (first_at (flagged L) ws) ws) (rest_take ws) ∙ take-append-drop (first_at (flagged L) ws) ws)))
      (λ e.
      ap (λ (k : ℕ). flat (row (λ n. part L n (u ∷ ws)) 0 k)) (tally_no u ws e)
      ∙ ap flat (row_same (λ n. part L n (u ∷ ws)) (λ n. part L n ws) 0 0 (tally (flagged L) ws) (λ n. part_no L (0 + n) u ws e))
      ∙ parts_all ws
      ∙ ap (λ (k : ℕ). drop k (u ∷ ws)) (sym (first_no (flagged L) u ws e)))
