-- The rows of words: from the numbers at hand to the text, and word after word. Assumes nothing.
-- Definitions: `Wording` the rows of some words are put.
-- Main laws: `word_row` a crossing's row from its heading and fraction; `one_from` 1 for true; `begin`, `start_room`, `word_room`, `go`, `end` the words one by one.
use mathlib.Core.Path.{◌≡◌, refl, sym, ap, ◌∙◌}
use mathlib.Core.Bool.{Bool, true, false}
use mathlib.Core.List.{List, [], ◌++◌, append_assoc, append-nil}
use Prim.Native.Nat.{ℕ, ◌+◌, ◌-◌, ◌/◌, ◌%◌, ◌≤◌, ◌<◌}
use native.Mathlib.Numerals.{add-one}
use native.Mathlib.Omega.{arith}
use lib.ListN.{length, get_or, take, drop, length-append, drop_of_length-le}
use lib.Seq.{drop-cons}
use Rattle.std.specs.Int.{from_bool}
use Rattle.tally.specs.Tally.{one}
use Rattle.tally.proofs.Test.{one_le}
use Rattle.matte.specs.Layout.{eight}
use Rattle.matte.specs.Picture.{Picture, picture}
use Rattle.edgel.specs.Word.{code_of, level_of, flagged}
use Rattle.crossing.specs.declared.Passage.{Passage}
use Rattle.crossing.specs.Crossing.{passage}
use Rattle.form.proofs.Line.{part_end}
use Rattle.text.specs.Put.{Put}
use Rattle.text.specs.Listing.{letter, row_text, crossing_text, word_text, start_text, words_text}
use Rattle.text.proofs.Puts.{put_long, put_none, put_as, then}

-- ---- a crossing
module _ (w h : ℕ) (px : List ℕ) (u c k g : ℕ) (t : Passage) (ec : c ≡ code_of eight u) (ek : k ≡ level_of eight u) (et : t ≡ passage (picture w h px) k c) (eg : g ≡ letter t.heading) where
  pub word_row : word_text eight (picture w h px) u ≡ row_text (c / 2 % w) (c / 2 / w) g t.num t.den
  unfolding crossing_text
  word_row = rw (eg, et, ek, ec)

-- 1 for true, as the machine has it
pub one_from : (b : Bool) → from_bool b ≡ one b
one_from true = refl
one_from false = refl

-- ---- word after word: the rows of the first i words are put, n of them flagged
pub record Wording (P : Picture) (es ws d : List ℕ) (from : ℕ) (e : List ℕ) (at n i : ℕ) : Type 0 where
  pub done : List ℕ
  pub put : Put d from done at e
  pub left : words_text eight P 0 es ws ≡ done ++ words_text eight P n es (drop i ws)
  pub inside : i ≤ length ws
  pub few : n ≤ i

module _ (P : Picture) (es ws d : List ℕ) (from : ℕ) (h : from + length (words_text eight P 0 es ws) ≤ length d) where
  pub begin : Wording P es ws d from d from 0 0
  begin = record { done = []; put = put_none d from (omega arith); left = refl; inside = omega arith; few = omega arith }

  pub end : (e : List ℕ) (at n i : ℕ) → Wording P es ws d from e at n i → length ws ≤ i → Put d from (words_text eight P 0 es ws) at e
  unfolding words_text
  end e at n i t k =
      put_as (sym (t.left ∙ ap (λ (l : List ℕ). t.done ++ words_text eight P n es l) (drop_of_length-le ws k) ∙ append-nil t.done)) t.put

  module _ (e : List ℕ) (at n i : ℕ) (t : Wording P es ws d from e at n i) (k : i < length ws) where
    u : ℕ
    u = get_or ws i 0

    rest : List ℕ
    rest = take (length ws - (i + 1)) (drop (i + 1) ws)

    next : words_text eight P n es (drop i ws) ≡ start_text eight n es u rest ++ (word_text eight P u ++ words_text eight P (n + one (flagged eight u)) es (drop (i + 1) ws))
    unfolding words_text u rest
    next =
        ap (words_text eight P n es) (drop-cons ws i 0 k)
        ∙ ap (λ (l : List ℕ). start_text eight n es u l ++ (word_text eight P u ++ words_text eight P (n + one (flagged eight u)) es l)) (ap (λ (j : ℕ). drop j ws) (sym (add-one i)))
        ∙ ap (λ (l : List ℕ). start_text eight n es u l ++ (word_text eight P u ++ words_text eight P (n + one (flagged eight u)) es (drop (i + 1) ws))) (sym (part_end ws (i + 1)))

    long : length (words_text eight P 0 es ws) ≡ length t.done + (length (start_text eight n es u rest) + (length (word_text eight P u) + length (words_text eight P (n + one (flagged eight u)) es (drop (i + 1) ws))))
    long = ap length (t.left ∙ ap (λ (l : List ℕ). t.done ++ l) next) ∙ simp length-append

    pub start_room : at + length (start_text eight n es (get_or ws i 0) (take (length ws - (i + 1)) (drop (i + 1) ws))) ≤ length e
    unfolding u rest
    start_room = omega (arith, long, put_long t.put, t.put.next)

    module _ (a : ℕ) (f : List ℕ) (p : Put e at (start_text eight n es (get_or ws i 0) (take (length ws - (i + 1)) (drop (i + 1) ws))) a f) where
      pub word_room : a + length (word_text eight P (get_or ws i 0)) ≤ length f
      unfolding u rest
      word_room = omega (arith, long, put_long t.put, t.put.next, put_long p, p.next)

      pub go : (b : ℕ) (g : List ℕ) → Put f a (word_text eight P (get_or ws i 0)) b g → (o : ℕ) → o ≡ one (flagged eight (get_or ws i 0)) → Wording P es ws d from g b (n + o) (i + 1)
      unfolding u rest
      go b g q o r =
          let s = start_text eight n es u rest in
          let x = word_text eight P u in
          record {
            done = (t.done ++ s) ++ x;
            put = then (then t.put p) q;
            left =
                t.left
                ∙ ap (λ (l : List ℕ). t.done ++ l) next
                ∙ sym (append_assoc t.done s (x ++ words_text eight P (n + one (flagged eight u)) es (drop (i + 1) ws)))
                ∙ sym (append_assoc (t.done ++ s) x (words_text eight P (n + one (flagged eight u)) es (drop (i + 1) ws)))
                ∙ ap (λ (m : ℕ). ((t.done ++ s) ++ x) ++ words_text eight P (n + m) es (drop (i + 1) ws)) (sym r);
            inside = omega arith;
            few = omega (arith, t.few, one_le (flagged eight u));
          }
