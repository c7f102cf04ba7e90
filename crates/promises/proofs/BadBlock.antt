-- What a bad block can do (02, R-14): an accepted file f, damaged, is refused as 13 with the number of the block. Assumes nothing.
-- Main laws: `byte_refused` one byte changed, check bytes included; `exchange_refused` two blocks changed places, the smaller number; behind them `block_refused` any damage that begins in a block whose check is then wrong, and
--   `elsewhere_refused` a file that begins as f and goes on with a block of f from another place. They rest on a file's blocks and the rows 12 and 13 alone. The premise on bytes holds of every u8.
use mathlib.Core.Path.{◌≡◌, sym, ap, ◌∙◌}
use mathlib.Core.Bool.{false, not}
use mathlib.Core.List.{List, [], ◌∷◌}
use mathlib.Core.Logic.{◌≢◌}
use Prim.Native.Nat.{ℕ, ◌+◌, ◌*◌, ◌/◌, ◌%◌, ◌≤◌, ◌<◌}
use native.Mathlib.Omega.{arith}
use lib.ListN.{length, get_or, take, drop, set, length-set}
use lib.Seq.{take-set-le}
use Rattle.matte.specs.Layout.{eight}
use Rattle.refuse.specs.Refusal.{Row, row, words_row}
use Rattle.words.specs.Fit.{words_fit_row}
use Rattle.block.specs.Damage.{block_at, block_fits, exchanged, exchanged_at}
use Rattle.block.proofs.Bytes.{Below, below_take, below_drop}
use Rattle.block.proofs.Damage.{byte_changed}
use Rattle.block.proofs.Place.{at_length, at_byte, at_set, exchanged_length, exchanged_front, exchanged_there}
use Rattle.olr.specs.Read.{blocks, file_width, file_height, file_levels, file_words, file_word_count, laid_out, read_verdict}
use Rattle.olr.proofs.Damage.{Sound, sound, wrong_first, elsewhere_first, refused_told}
use Rattle.promises.specs.Storage.{RefusedAs}

-- the rows of reading after 12 and 13
abbrev pub later : List ℕ → List ℕ → List Row
later g out = row 14 (not (laid_out g)) ∷ words_fit_row eight (file_width g) (file_height g) (file_levels g) (file_words g) ∷ words_row out (file_word_count g) ∷ []

module _ (f places : List ℕ) (done : (read_verdict f places).number ≡ 0) where
  abbrev pub right : Sound f
  right = sound f places done

  -- up to block b the file is as it was, and the check of block b is wrong: whatever stands behind it
  pub block_refused : (g : List ℕ) (b : ℕ) → length g % 512 ≡ 0 → b < blocks g → b ≤ blocks f → take (512 * b) g ≡ take (512 * b) f → block_fits b (block_at g b) ≡ false → RefusedAs g 13 b
  block_refused g b whole here there front e out =
      refused_told g out 13 b (λ z. omega arith) (wrong_first f g right b whole here there front (later g out) e)

  -- up to block b the file is as it was, and there stands block k: whatever stands behind it
  pub elsewhere_refused : (g : List ℕ) (b k : ℕ) → length g % 512 ≡ 0 → b < blocks g → b ≤ blocks f → take (512 * b) g ≡ take (512 * b) f → k < blocks f → k ≢ b → block_at g b ≡ block_at f k → RefusedAs g 13 b
  elsewhere_refused g b k whole here there front h d e out =
      refused_told g out 13 b (λ z. omega arith) (elsewhere_first f g right b whole here there front (later g out) k h d e)

  module _ (bytes : Below 256 f) where
    pub byte_refused : (n v : ℕ) → n < length f → v < 256 → v ≢ get_or f n 0 → RefusedAs (set f n v) 13 (n / 512)
    byte_refused n v h k d =
        let b = n / 512 in
        let i = n % 512 in
        let at : n ≡ 512 * b + i = omega arith in
        let S = right in
        let l : length (set f n v) ≡ length f = length-set f n v in
        let o : get_or (block_at f b) i 0 ≡ get_or f n 0 = at_byte f b i (omega arith) ∙ ap (λ (m : ℕ). get_or f m 0) (sym at) in
        block_refused (set f n v) b (ap (λ (m : ℕ). m % 512) l ∙ S.whole) (omega (arith, l, S.whole)) (omega arith) (take-set-le (512 * b) f n v (omega arith))
        (ap (block_fits b) (ap (λ (m : ℕ). block_at (set f m v) b) at ∙ at_set f b i v (omega arith))
        ∙ byte_changed (block_at f b) i v (at_length f b (omega (arith, S.whole))) (below_take 256 512 (drop (512 * b) f) (below_drop 256 (512 * b) f bytes)) k (λ z. d (z ∙ o)) b
        (S.fits b (omega (arith, S.whole)))
        (omega arith))

  pub exchange_refused : (i j : ℕ) → i < blocks f → j < blocks f → i ≢ j → RefusedAs (exchanged f i j) 13 (exchanged_at i j)
  exchange_refused i j h k d =
      let p : 512 * i + 512 ≤ length f = omega arith in
      let q : 512 * j + 512 ≤ length f = omega arith in
      let l = exchanged_length f i j p q in
      let t = exchanged_there f i j p q d in
      elsewhere_refused (exchanged f i j) (exchanged_at i j) t.0 (ap (λ (m : ℕ). m % 512) l ∙ right.whole) (omega (arith, l)) (omega arith) (exchanged_front f i j p q)
      (omega (arith, t.1)) t.2 t.3
