-- The lines of a word list, from a place on. Assumes nothing.
-- Main laws: `part_before` line n is the line after the words before it; `before_found`, `before_skip`, `before_more` their number from another place on;
--   `start_here`, `start_none` where line n starts, by whether words are left;
--   `whole_at` a line is its first word and those before the next flag.
use mathlib.Core.Path.{◌≡◌, refl, sym, ap, ◌∙◌}
use mathlib.Core.Bool.{true, false}
use mathlib.Core.List.{List, [], ◌∷◌}
use Prim.Native.Nat.{ℕ, zero, suc, ◌+◌, ◌-◌, ◌≤◌, ◌<◌}
use native.Mathlib.Numerals.{add-one}
use native.Mathlib.Omega.{arith}
use lib.ListN.{length, get_or, take, drop}
use borrow.Author.Tests.{lt-ltb, le-ltb}
use lib.Seq.{drop-cons, drop-length}
use Rattle.tally.proofs.Test.{by_test}
use Rattle.matte.specs.Layout.{Layout}
use Rattle.edgel.specs.Word.{flagged}
use Rattle.paint.specs.Part.{rest, part, words_before, part_start}
use Rattle.paint.specs.Span.{whole}

module _ (L : Layout) where
  pub rest_yes : (u : ℕ) (ws : List ℕ) → flagged L u ≡ true → rest L (u ∷ ws) ≡ []
  unfolding rest
  rest_yes u ws e = rw (e, rest)

  pub rest_no : (u : ℕ) (ws : List ℕ) → flagged L u ≡ false → rest L (u ∷ ws) ≡ u ∷ rest L ws
  unfolding rest
  rest_no u ws e = rw (e, rest)

  pub part_yes : (u : ℕ) (ws : List ℕ) → flagged L u ≡ true → part L 0 (u ∷ ws) ≡ u ∷ rest L ws
  unfolding part
  part_yes u ws e = rw (e, part)

  pub part_next : (n u : ℕ) (ws : List ℕ) → flagged L u ≡ true → part L (suc n) (u ∷ ws) ≡ part L n ws
  unfolding part
  part_next n u ws e = rw (e, part)

  pub part_no : (n u : ℕ) (ws : List ℕ) → flagged L u ≡ false → part L n (u ∷ ws) ≡ part L n ws
  unfolding part
  part_no n u ws e = rw (e, part)

  before_yes : (u : ℕ) (ws : List ℕ) → flagged L u ≡ true → words_before L 0 (u ∷ ws) ≡ 0
  unfolding words_before
  before_yes u ws e = rw (e, words_before)

  pub before_next : (n u : ℕ) (ws : List ℕ) → flagged L u ≡ true → words_before L (suc n) (u ∷ ws) ≡ words_before L n ws + 1
  unfolding words_before
  before_next n u ws e = rw (e, words_before)

  pub before_no : (n u : ℕ) (ws : List ℕ) → flagged L u ≡ false → words_before L n (u ∷ ws) ≡ words_before L n ws + 1
  unfolding words_before
  before_no n u ws e = rw (e, words_before)

  later : (u a b : ℕ) (ws : List ℕ) → a ≡ b + 1 → whole L (drop a (u ∷ ws)) ≡ whole L (drop b ws)
  later u a b ws e = rw (e, add-one b) refl

  pub part_before : (n : ℕ) (ws : List ℕ) → part L n ws ≡ whole L (drop (words_before L n ws) ws)
  unfolding part words_before whole
  part_before n [] = refl
  part_before zero (u ∷ ws) =
      by_test (flagged L u)
      (λ e. part_yes u ws e ∙ sym (ap (λ (k : ℕ). whole L (drop k (u ∷ ws))) (before_yes u ws e)))
      (λ e. part_no zero u ws e ∙ part_before zero ws ∙ sym (later u _ _ ws (before_no zero u ws e)))
  part_before (suc n) (u ∷ ws) =
      by_test (flagged L u)
      (λ e. part_next n u ws e ∙ part_before n ws ∙ sym (later u _ _ ws (before_next n u ws e)))
      (λ e. part_no (suc n) u ws e ∙ part_before (suc n) ws ∙ sym (later u _ _ ws (before_no (suc n) u ws e)))

  pub start_here : (n : ℕ) (ws : List ℕ) → words_before L n ws < length ws → part_start L n ws ≡ words_before L n ws
  unfolding part_start
  start_here n ws h = rw (lt-ltb (words_before L n ws) (length ws) h)

  pub start_none : (n : ℕ) (ws : List ℕ) → length ws ≤ words_before L n ws → part_start L n ws ≡ 0
  unfolding part_start
  start_none n ws h = rw (le-ltb (words_before L n ws) (length ws) h)

  pub before_end : (n i : ℕ) (s : List ℕ) → i ≡ length s → words_before L n (drop i s) ≡ 0
  unfolding words_before
  before_end n i s e = rw (e, drop-length s)

  module _ (s : List ℕ) (i : ℕ) (h : i < length s) where
    here : drop i s ≡ get_or s i 0 ∷ drop (i + 1) s
    here = rw (add-one i) (drop-cons s i 0 h)

    pub before_found : flagged L (get_or s i 0) ≡ true → words_before L 0 (drop i s) ≡ 0
    before_found e = ap (words_before L 0) here ∙ before_yes (get_or s i 0) (drop (i + 1) s) e

    pub before_skip : (n : ℕ) → flagged L (get_or s i 0) ≡ true → 0 < n → words_before L n (drop i s) ≡ words_before L (n - 1) (drop (i + 1) s) + 1
    before_skip zero e p = absurd (omega arith)
    before_skip (suc n) e p =
        let z : suc n - 1 ≡ n = omega arith in
        ap (words_before L (suc n)) here ∙ before_next n (get_or s i 0) (drop (i + 1) s) e ∙ ap (λ (k : ℕ). words_before L k (drop (i + 1) s) + 1) (sym z)

    pub before_more : (n : ℕ) → flagged L (get_or s i 0) ≡ false → words_before L n (drop i s) ≡ words_before L n (drop (i + 1) s) + 1
    before_more n e = ap (words_before L n) here ∙ before_no n (get_or s i 0) (drop (i + 1) s) e

    pub whole_at : (r e : ℕ) → rest L (drop (i + 1) s) ≡ take r (drop (i + 1) s) → e ≡ suc r → take e (drop i s) ≡ whole L (drop i s)
    unfolding whole
    whole_at r e q p = rw (p, here) (ap (λ (l : List ℕ). get_or s i 0 ∷ l) (sym q))
