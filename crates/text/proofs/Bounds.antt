-- How long the printed text is: a row of a crossing at most 24 bytes, any other row at most 40. Assumes nothing.
-- Definitions: `Sized` sides that fit, samples that are bytes, at most 255 levels and 16,384 words.
-- Main laws: `field_length`, `row_length`, `crossing_length`, `line_length`, `first_length` of the rows; `words_length` at most 64 bytes a word; `listing_length` at most 1,048,616 bytes in all.
use mathlib.Core.List.{List, [], ◌∷◌}
use Prim.Native.Nat.{ℕ, suc, ◌+◌, ◌*◌, ◌/◌, ◌%◌, ◌^◌, ◌≤◌, ◌<◌}
use native.Mathlib.Nat.{mod-lt, div-le_self}
use native.Mathlib.Omega.{arith}
use lib.ListN.{length, get_or, length-append}
use Rattle.tally.specs.Tally.{one, tally, first_at}
use Rattle.tally.proofs.Test.{by_test, one_le}
use Rattle.tally.proofs.Count.{tally_length}
use Rattle.tally.proofs.First.{first_le}
use Rattle.matte.specs.Layout.{eight}
use Rattle.matte.specs.Picture.{Picture, at, high}
use Rattle.edgel.specs.Edgel.{first, second, column, row, heading_at}
use Rattle.edgel.specs.Word.{code_of, level_of, flagged}
use Rattle.crossing.specs.Crossing.{gap, span, num, den}
use Rattle.crossing.proofs.Lowest.{num_few, den_few}
use Rattle.form.specs.Decimal.{decimal}
use Rattle.form.proofs.Decimal.{decimal_length}
use Rattle.text.specs.Listing.{field, letter, row_text, crossing_text, first_text, line_text, start_text, words_text, listing_text}

pub field_length : (k n b : ℕ) → n < 10 ^ suc k → length (field n b) ≤ suc (suc k)
unfolding field
field_length k n b h = omega (arith, length-append (decimal n) (b ∷ []), decimal_length k n h)

pub row_length : (x y g n d : ℕ) → x < 10000 → y < 10000000 → n < 1000 → d < 1000 → length (row_text x y g n d) ≤ 24
unfolding row_text
row_length x y g n d hx hy hn hd =
    simp length-append (omega (arith, field_length 3 x 32 hx, field_length 6 y 32 hy, field_length 2 n 32 hn, field_length 2 d 10 hd))

pub line_length : (n k e m : ℕ) → n < 100000 → k < 1000 → m < 100000 → length (line_text eight n k e m) ≤ 40
unfolding line_text
line_length n k e m hn hk hm =
    simp length-append
    (omega (arith, field_length 4 n 32 hn, field_length 2 k 32 hk, field_length 9 (e % 2147483648) 32 (omega arith), field_length 4 m 10 hm))

pub first_length : (w h border levels words lines : ℕ) → w < 100000 → h < 100000 → border < 1000 → levels < 1000 → words < 100000 → lines < 100000
    → length (first_text w h border levels words lines) ≤ 40
unfolding first_text
first_length w h border levels words lines a b c d e f =
    simp length-append
    (omega (arith, field_length 4 w 32 a, field_length 4 h 32 b, field_length 2 border 32 c, field_length 2 levels 32 d, field_length 4 words 32 e, field_length 4 lines 10 f))

pub record Sized (P : Picture) (ks ws : List ℕ) : Type 0 where
  pub some : 0 < P.w
  pub wide : P.w ≤ 2048
  pub tall : P.h ≤ 2048
  pub bytes : (i : ℕ) → at P i < 256
  pub few : length ks ≤ 255
  pub words : length ws ≤ 16384

module _ (P : Picture) (some : 0 < P.w) (wide : P.w ≤ 2048) (bytes : (i : ℕ) → at P i < 256) where
  pub crossing_length : (k c : ℕ) → k < 256 → c < 8388608 → length (crossing_text P k c) ≤ 24
  unfolding crossing_text gap span
  crossing_length k c hk hc =
      row_length (column P.w c) (row P.w c) (letter (heading_at (high P k) c)) (num P k c) (den P k c)
      (omega (arith, mod-lt (c / 2) some))
      (omega (arith, div-le_self (c / 2) P.w))
      (omega (arith, num_few P k c, bytes (first c)))
      (omega (arith, den_few P k c, bytes (first c), bytes (second P.w c)))

  start_length : (n : ℕ) (es : List ℕ) (u : ℕ) (ws : List ℕ) → n < 100000 → length ws < 99999 → length (start_text eight n es u ws) ≤ 40
  start_length n es u ws h k =
      by_test (flagged eight u)
      (λ f. rw f (line_length n (level_of eight u) (get_or es n 0) (suc (first_at (flagged eight) ws)) h (omega arith) (omega (arith, first_le (flagged eight) ws))))
      (λ f. rw f (omega arith))

  pub words_length : (n : ℕ) (es ws : List ℕ) → n + length ws < 100000 → length (words_text eight P n es ws) ≤ 64 * length ws
  unfolding words_text
  words_length n es [] h = omega arith
  words_length n es (u ∷ ws) h =
      simp length-append
      (omega (
        arith,
        start_length n es u ws (omega arith) (omega arith),
        crossing_length (level_of eight u) (code_of eight u) (omega arith) (omega arith),
        words_length (n + one (flagged eight u)) es ws (omega (arith, one_le (flagged eight u))),
      ))

pub listing_length : (P : Picture) (ks ws es : List ℕ) → Sized P ks ws → length (listing_text eight P ks ws es) ≤ 1048616
listing_length P ks ws es s =
    simp length-append
    (omega (
      arith,
      first_length P.w P.h (at P 0) (length ks) (length ws) (tally (flagged eight) ws) (omega (arith, s.wide)) (omega (arith, s.tall)) (omega (arith, s.bytes 0)) (omega (arith, s.few))
          (omega (arith, s.words))
          (omega (arith, s.words, tally_length (flagged eight) ws)),
      words_length P s.some s.wide s.bytes 0 es ws (omega (arith, s.words)),
      s.words,
    ))
