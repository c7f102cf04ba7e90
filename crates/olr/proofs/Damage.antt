-- Files whose checks are right, and what a damaged one is refused as. Assumes nothing.
-- Definitions: `Sound` whole blocks with right checks, numbered within 32 bits; `check_rows` the rows 12 and 13, with which reading begins.
-- Main laws: `sound` a file that reading accepts is sound; `wrong_first` whatever rows follow, a file that begins as a sound one and then has a block whose check is wrong is refused as 13 with that block's number; `elsewhere_first` so is one
--   that goes on with another block of the sound file; `short_refused` a file that is not whole blocks is refused as 12; `unlaid` a sound file without the layout is refused as 14, `cut_refused` so are the first blocks of an accepted file alone, `zeroed_refused` and one whose block 0 is
--   zeros; `longer_refused` a file that goes on where an accepted one ends is refused; `refused_told` what reading answers and leaves where it refuses.
use mathlib.Core.Path.{◌≡◌, refl, sym, ap, ◌∙◌}
use mathlib.Core.Bool.{Bool, true, false, not, ◌||◌}
use mathlib.Core.List.{List, [], ◌∷◌, ◌++◌}
use mathlib.Core.Logic.{◌≢◌}
use Prim.Native.Nat.{ℕ, ◌+◌, ◌*◌, ◌%◌, ◌≤◌, ◌<◌}
use native.Mathlib.Omega.{arith}
use lib.Dec.{eqb, ltb}
use lib.ListN.{length, take, replicate, length-append}
use lib.Seq.{length-take-le, take-take}
use borrow.Author.Tests.{lt-ltb, le-ltb, eqb-true, eqb-false, ne_eqb, not-false}
use Rattle.tally.proofs.Test.{by_test}
use Rattle.tally.proofs.First.{from_before}
use Rattle.refuse.specs.Refusal.{Verdict}
use Rattle.refuse.specs.Refusal.{Row, row, row_at, verdict}
use Rattle.refuse.proofs.Rows.{given, passed, unfit, refused_answer}
use Rattle.block.specs.Damage.{block_at, block_fits, with_block}
use Rattle.block.proofs.Bytes.{num4_take, num4_front}
use Rattle.block.proofs.Damage.{elsewhere_told, zeros_right}
use Rattle.block.proofs.Place.{at_front, with_length, with_at, with_after}
use Rattle.olr.specs.File.{blocks_for}
use Rattle.olr.specs.Read.{blocks, check_fits, file_word_count, laid_out, read_verdict, read_answer, read_words}
use Rattle.olr.proofs.Checks.{check_part, bad_stop, bad_all}
use Rattle.olr.proofs.Laid.{Laid, laid}
use Rattle.olr.proofs.Read.{length_bad, bad_no, bad_block, readable, read_refused}

pub record Sound (f : List ℕ) : Type 0 where
  pub some : 0 < length f
  pub whole : length f % 512 ≡ 0
  pub few : blocks f < 4294967296
  pub fits : (i : ℕ) → i < blocks f → block_fits i (block_at f i) ≡ true

abbrev pub check_rows : List ℕ → List Row
check_rows f = row 12 (length_bad f) ∷ row_at 13 (ltb (bad_block f) (blocks f)) (bad_block f) ∷ []

-- the test of block i looks at that block alone
pub fits_is : (f : List ℕ) (i : ℕ) → block_fits i (block_at f i) ≡ check_fits f i
fits_is f i = check_part f i 512 (block_fits i (block_at f i)) refl refl

pub sound : (f out : List ℕ) → (read_verdict f out).number ≡ 0 → Sound f
sound f out e =
    let R = readable f out e in
    let L = laid f R.layout in
    record {
      some = R.some;
      whole = R.whole;
      few = omega (arith, L.count, L.most);
      fits = λ i h. fits_is f i ∙ not-false (check_fits f i) (from_before (λ j. not (check_fits f j)) 0 (blocks f) i (omega arith) (omega (arith, R.checked)));
    }

module _ (f g : List ℕ) (S : Sound f) (b : ℕ) (whole : length g % 512 ≡ 0) (here : b < blocks g) (there : b ≤ blocks f) (front : take (512 * b) g ≡ take (512 * b) f) (rs : List Row) where
  before : (i : ℕ) → i < b → not (check_fits g i) ≡ false
  before i h =
      ap not
      (sym (fits_is g i)
      ∙ ap (block_fits i) (at_front f g (512 * b) i (omega arith) (omega arith) (omega arith) front)
      ∙ S.fits i (omega arith))

  pub wrong_first : block_fits b (block_at g b) ≡ false → verdict (check_rows g ++ rs) ≡ record { number = 13; place = b }
  wrong_first e =
      let bad : b ≡ bad_block g = bad_stop g b before here (ap not (sym (fits_is g b) ∙ e)) in
      passed (row 12 (length_bad g)) (row_at 13 (ltb (bad_block g) (blocks g)) (bad_block g) ∷ rs) (bad_no g (omega arith) whole)
      ∙ given (row_at 13 (ltb (bad_block g) (blocks g)) (bad_block g)) rs (lt-ltb (bad_block g) (blocks g) (omega arith))
      ∙ ap (λ (n : ℕ). record { number = 13; place = n }) (sym bad)

  pub elsewhere_first : (k : ℕ) → k < blocks f → k ≢ b → block_at g b ≡ block_at f k → verdict (check_rows g ++ rs) ≡ record { number = 13; place = b }
  elsewhere_first k h d e =
      wrong_first (ap (block_fits b) e ∙ elsewhere_told b k (block_at f k) (omega (arith, S.few)) (omega (arith, S.few)) (λ z. d (sym z)) (S.fits k h))

-- not whole blocks: 12
or_yes : (a b : Bool) → b ≡ true → (a || b) ≡ true
or_yes true b e = refl
or_yes false b e = e

pub short_refused : (g : List ℕ) (rs : List Row) → length g % 512 ≢ 0 → verdict (check_rows g ++ rs) ≡ record { number = 12; place = 0 }
short_refused g rs d =
    given (row 12 (length_bad g)) (row_at 13 (ltb (bad_block g) (blocks g)) (bad_block g) ∷ rs) (or_yes (eqb (length g) 0) (not (eqb (length g % 512) 0)) (ap not (ne_eqb (length g % 512) 0 d)))

-- sound, but not laid out: 14
module _ (g : List ℕ) (S : Sound g) (rs : List Row) where
  pub unlaid : laid_out g ≡ false → verdict (check_rows g ++ (row 14 (not (laid_out g)) ∷ rs)) ≡ record { number = 14; place = 0 }
  unlaid e =
      let all : blocks g ≡ bad_block g = bad_all g (blocks g) (λ i h. ap not (sym (fits_is g i) ∙ S.fits i h)) refl in
      let r13 = row_at 13 (ltb (bad_block g) (blocks g)) (bad_block g) in
      passed (row 12 (length_bad g)) (r13 ∷ row 14 (not (laid_out g)) ∷ rs) (bad_no g S.some S.whole)
      ∙ passed r13 (row 14 (not (laid_out g)) ∷ rs) (le-ltb (bad_block g) (blocks g) (omega arith))
      ∙ unfit 14 (laid_out g) rs e

not_laid : (g : List ℕ) → (Laid g → ⊥) → laid_out g ≡ false
not_laid g h = by_test (laid_out g) (λ t. absurd (h (laid g t))) (λ t. t)

-- ---- the first blocks of a file alone
module _ (f out : List ℕ) (done : (read_verdict f out).number ≡ 0) where
  module _ (m : ℕ) (some : 0 < m) (less : m < blocks f) where
    abbrev part : List ℕ
    part = take (512 * m) f

    part_length : length part ≡ 512 * m
    part_length = length-take-le (512 * m) f (omega arith)

    part_sound : Sound part
    part_sound =
        let S = sound f out done in
        record {
          some = omega (arith, part_length);
          whole = omega (arith, part_length);
          few = omega (arith, part_length, S.few);
          fits = λ i h.
              ap (block_fits i) (at_front f part (512 * m) i (omega (arith, part_length)) (omega arith) (omega (arith, part_length)) (take-take (512 * m) (512 * m) f (omega arith)))
              ∙ S.fits i (omega (arith, part_length));
        }

    pub cut_unlaid : laid_out part ≡ false
    cut_unlaid =
        let L = laid f (readable f out done).layout in
        let n : file_word_count part ≡ file_word_count f = num4_take (512 * m) f 12 (omega arith) in
        let b : blocks_for (file_word_count part) ≡ blocks_for (file_word_count f) = ap blocks_for n in
        not_laid part (λ K. omega (arith, part_length, L.count, K.count))

    pub cut_refused : (rs : List Row) → verdict (check_rows part ++ (row 14 (not (laid_out part)) ∷ rs)) ≡ record { number = 14; place = 0 }
    cut_refused rs = unlaid part part_sound rs cut_unlaid

  -- a file that begins as f and goes on is not accepted
  pub longer_refused : (e places : List ℕ) → 0 < length e → (read_verdict (f ++ e) places).number ≢ 0
  longer_refused e places h d =
      let R = readable f out done in
      let Q = readable (f ++ e) places d in
      let L = laid f R.layout in
      let K = laid (f ++ e) Q.layout in
      let n : file_word_count (f ++ e) ≡ file_word_count f = num4_front f e 12 (omega (arith, R.some, R.whole)) in
      let b : blocks_for (file_word_count (f ++ e)) ≡ blocks_for (file_word_count f) = ap blocks_for n in
      omega (arith, length-append f e, R.whole, Q.whole, L.count, K.count)

  -- block 0 as zeros: its check is right, its letters are not
  zeroed_unlaid : laid_out (with_block f 0 (replicate 512 0)) ≡ false
  zeroed_unlaid = not_laid (with_block f 0 (replicate 512 0)) (λ K. omega (arith, K.magic))

  zeroed_sound : Sound (with_block f 0 (replicate 512 0))
  zeroed_sound =
      let S = sound f out done in
      let there : 512 * 0 + 512 ≤ length f = omega (arith, S.some, S.whole) in
      let l = with_length f 0 (replicate 512 0) there refl in
      record {
        some = omega (arith, l, S.some);
        whole = omega (arith, l, S.whole);
        few = omega (arith, l, S.few);
        fits = λ i h.
            by_test (eqb i 0)
            (λ t.
            ap (λ (k : ℕ). block_fits k (block_at (with_block f 0 (replicate 512 0)) k)) (eqb-true i 0 t) ∙ ap (block_fits 0) (with_at f 0 (replicate 512 0) there refl) ∙ zeros_right)
            (λ t. ap (block_fits i) (with_after f 0 (replicate 512 0) there refl i (omega (arith, eqb-false i 0 t))) ∙ S.fits i (omega (arith, l)));
      }

  pub zeroed_refused : (rs : List Row) → verdict (check_rows (with_block f 0 (replicate 512 0)) ++ (row 14 (not (laid_out (with_block f 0 (replicate 512 0)))) ∷ rs)) ≡ record { number = 14; place = 0 }
  zeroed_refused rs = unlaid (with_block f 0 (replicate 512 0)) zeroed_sound rs zeroed_unlaid

-- what reading answers and leaves, by the verdict
pub refused_told : (g out : List ℕ) (number place : ℕ) → number ≢ 0 → read_verdict g out ≡ record { number = number; place = place }
    → (read_answer g out ≡ record {
      answer = record { number = number; place = place; words = 0; lines = 0 };
      width = 0;
      height = 0;
      border = 0;
      count = 0;
      levels = replicate 255 0;
    }) × (read_words g out ≡ out)
refused_told g out number place d e =
    let t : Verdict = record { number = number; place = place } in
    let p = read_refused g out t (sym e) d (record { number = number; place = place; words = 0; lines = 0 }) (sym (refused_answer t 0 0 d)) in
    (sym p.0, sym p.1)
