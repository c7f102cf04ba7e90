-- Demand 2, the file, forth: what is written reads back. Assumes nothing.
-- Definitions: `ReadBack` a file reads as this outline list.
-- Main laws: `reads_back` the file of every input that writing accepts says what was written; `round` reading accepts it, where there is room for the words; `round_answer`, `round_words` what the reading call
--   hands back then; `written` the file stands at the front of the room that was lent; `file_told` different inputs have different files.
use mathlib.Core.Path.{◌≡◌, refl, sym, ap, ap₂, ◌∙◌}
use mathlib.Core.Bool.{true, not, ◌&&◌}
use mathlib.Core.List.{List, ◌++◌}
use Prim.Native.Nat.{ℕ, ◌+◌, ◌-◌, ◌*◌, ◌/◌, ◌%◌, ◌≤◌, ◌<◌}
use native.Mathlib.Omega.{arith}
use lib.Dec.{eqb}
use lib.ListN.{length, take, drop, replicate, length-take, length-drop}
use lib.Seq.{take_at, drop_at}
use borrow.Author.Tests.{eqb-true, eqb-false}
use Rattle.tally.specs.Tally.{tally, first_at}
use Rattle.tally.proofs.Test.{by_test}
use Rattle.tally.proofs.First.{from_is}
use Rattle.tally.proofs.Build.{is_build}
use Rattle.matte.specs.Layout.{eight}
use Rattle.matte.specs.Picture.{side_fits, levels_fit}
use Rattle.refuse.proofs.Rows.{done_after}
use Rattle.edgel.specs.Word.{flagged}
use Rattle.words.specs.Fit.{bad_word}
use Rattle.refuse.proofs.Sides.{sides_in}
use Rattle.block.specs.Block.{num4}
use Rattle.block.proofs.Bytes.{Below}
use Rattle.olr.specs.File.{header, word_bytes, blocks_for, file, file_length, write_verdict, write_room}
use Rattle.olr.specs.Read.{zeros, blocks, payload, check_fits, file_width, file_height, file_border, file_count, file_word_count, file_levels, file_words, after_levels, after_words, laid_out, read_verdict, read_answer, read_words}
use Rattle.olr.proofs.Words.{bytes_length}
use Rattle.olr.proofs.Zeros.{are_zeros}
use Rattle.olr.proofs.Ascend.{levels_length}
use Rattle.olr.proofs.Laid.{laid_back, after_none, after_words_lem}
use Rattle.olr.proofs.Write.{Writable, writable}
use Rattle.olr.proofs.Read.{read_done, read_taken, bad_at, bad_block}
use Rattle.olr.proofs.There.{wide, tall, bordered, counted, worded, lettered, spared, leveled, file_length_lem, file_blocks, file_head, file_word, checked_there, word_there}

-- the file reads as these sides, border value, levels and words
pub record ReadBack (f : List ℕ) (w h v : ℕ) (ks ws : List ℕ) : Type 0 where
  pub width : file_width f ≡ w
  pub height : file_height f ≡ h
  pub border : file_border f ≡ v
  pub count : file_count f ≡ length ks
  pub levels : file_levels f ≡ ks
  pub number : file_word_count f ≡ length ws
  pub words : file_words f ≡ ws

module _ (w h v : ℕ) (ks ws room : List ℕ) (below : Below 4294967296 ws) (done : (write_verdict w h v ks ws room).number ≡ 0) where
  W : Writable w h v ks ws room
  W = writable w h v ks ws room done

  few : length ks ≤ 255
  few = levels_length ks W.levels

  abbrev it : List ℕ
  it = file w h v ks ws

  n_is : file_word_count it ≡ length ws
  n_is = worded w h v ks ws (omega (arith, W.most))

  words_back : file_words it ≡ ws
  unfolding file_words
  words_back =
      sym
      (is_build (λ i. num4 it (512 * (1 + i / 127) + 4 * (i % 127))) ws (file_word_count it) (sym n_is)
      (λ j l. sym (word_there w h v ks ws few below j (omega (arith, n_is)))))

  pub reads_back : ReadBack it w h v ks ws
  reads_back =
      let S = sides_in w h W.sides in
      record {
        width = wide w h v ks ws (omega (arith, S.w_most));
        height = tall w h v ks ws (omega (arith, S.h_most));
        border = bordered w h v ks ws;
        count = counted w h v ks ws;
        levels = leveled w h v ks ws;
        number = n_is;
        words = words_back;
      }

  -- zeros after the last level and after the last word
  level_zeros : zeros (after_levels it) ≡ true
  level_zeros =
      let z : List ℕ = replicate (508 - length (header w h v ks (length ws))) 0 in
      ap (λ (m : ℕ). zeros (drop (16 + m) (payload it 0))) (counted w h v ks ws)
      ∙ ap (λ (p : List ℕ). zeros (drop (16 + length ks) p)) (file_head w h v ks ws few)
      ∙ ap zeros (drop_at (header w h v ks (length ws)) z (16 + length ks) (let e : length (header w h v ks (length ws)) ≡ 16 + length ks = omega arith in e))
      ∙ are_zeros (508 - length (header w h v ks (length ws)))

  word_zeros : zeros (after_words it) ≡ true
  word_zeros =
      by_test (eqb (file_word_count it % 127) 0)
      (λ t. sym (after_none it (file_word_count it % 127) refl (eqb-true _ _ t)))
      (λ t.
      let n = length ws in
      let b = n / 127 in
      let r = file_word_count it % 127 in
      let ne : r ≡ 0 → ⊥ = eqb-false r 0 t in
      let q = take 127 (drop (127 * b) ws) in
      let rn : r ≡ n % 127 = ap (λ (k : ℕ). k % 127) n_is in
      let l : b < blocks_for n = omega (arith, ne) in
      let k : blocks it - 1 ≡ 1 + b = omega (arith, file_blocks w h v ks ws few, ne) in
      let lq : length (word_bytes q) ≡ 4 * r = omega (arith, bytes_length q, length-take 127 (drop (127 * b) ws), length-drop (127 * b) ws) in
      let z : List ℕ = replicate (508 - length (word_bytes q)) 0 in
      ap zeros (sym (after_words_lem it r refl ne))
      ∙ ap (λ (m : ℕ). zeros (drop (4 * r) (payload it m))) k
      ∙ ap (λ (p : List ℕ). zeros (drop (4 * r) p)) (file_word w h v ks ws few b l)
      ∙ ap zeros (drop_at (word_bytes q) z (4 * r) lq)
      ∙ are_zeros (508 - length (word_bytes q)))

  pub laid_there : laid_out it ≡ true
  laid_there =
      let B = reads_back in
      laid_back it
      (record {
        magic = lettered w h v ks ws;
        spare = spared w h v ks ws;
        most = omega (arith, W.most, n_is);
        count = file_blocks w h v ks ws few ∙ ap (λ (n : ℕ). 1 + blocks_for n) (sym n_is);
        sides = ap₂ (λ (x y : ℕ). side_fits x && side_fits y) B.width B.height ∙ W.sides;
        levels = ap (levels_fit eight) B.levels ∙ W.levels;
        after_level = level_zeros;
        after_word = word_zeros;
      })

  -- the first bad word is as before: there is none
  good_there : file_word_count it ≤ bad_at it
  good_there =
      let B = reads_back in
      let e : bad_at it ≡ first_at (bad_word eight w h ks) ws =
      ap₂ (λ (x y : ℕ). first_at (bad_word eight x y (file_levels it)) (file_words it)) B.width B.height
      ∙ ap₂ (λ (l m : List ℕ). first_at (bad_word eight w h l) m) B.levels B.words in
      omega (arith, W.good, n_is)

  checks_there : blocks it ≤ bad_block it
  checks_there =
      let e : bad_block it ≡ blocks it =
      from_is (λ i. not (check_fits it i)) 0 (blocks it) (blocks it) (omega arith) (omega arith)
      (λ i _ l. ap not (checked_there w h v ks ws few i l))
      (λ l. absurd (omega arith)) in
      omega arith

  module _ (out : List ℕ) (roomy : length ws ≤ length out) where
    pub round : (read_verdict it out).number ≡ 0
    round =
        read_done it out
        (record {
          some = omega (arith, file_length_lem w h v ks ws few);
          whole = omega (arith, file_length_lem w h v ks ws few);
          checked = checks_there;
          layout = laid_there;
          good = good_there;
          roomy = omega (arith, n_is);
        })

    pub round_words : read_words it out ≡ ws ++ drop (length ws) out
    round_words =
        done_after (read_verdict it out) out (file_words it ++ drop (file_word_count it) out) round
        ∙ ap₂ (λ (l : List ℕ) (n : ℕ). l ++ drop n out) reads_back.words n_is

    pub round_answer : read_answer it out ≡ record {
      answer = record { number = 0; place = 0; words = length ws; lines = tally (flagged eight) ws };
      width = w;
      height = h;
      border = v;
      count = length ks;
      levels = ks ++ replicate (255 - length ks) 0;
    }
    round_answer =
        let B = reads_back in
        sym (read_taken it out (file_word_count it) (tally (flagged eight) (file_words it)) (file_words it ++ drop (file_word_count it) out) round refl refl refl).0
        ∙ (λ i. record {
          answer = record { number = 0; place = 0; words = n_is i; lines = tally (flagged eight) (B.words i) };
          width = B.width i;
          height = B.height i;
          border = B.border i;
          count = B.count i;
          levels = B.levels i ++ replicate (255 - B.count i) 0;
        })

  -- the room that was lent begins with the file
  pub written : take (file_length w h v ks ws) (write_room w h v ks ws room) ≡ it
  written =
      ap (take (file_length w h v ks ws)) (done_after (write_verdict w h v ks ws room) room (it ++ drop (file_length w h v ks ws) room) done)
      ∙ take_at it (drop (file_length w h v ks ws) room) (file_length w h v ks ws) (file_length_lem w h v ks ws few)

-- different inputs that writing accepts have different files
pub file_told : (w h v : ℕ) (ks ws room : List ℕ) (w' h' v' : ℕ) (ks' ws' room' : List ℕ) → Below 4294967296 ws → Below 4294967296 ws' → (write_verdict w h v ks ws room).number ≡ 0
    → (write_verdict w' h' v' ks' ws' room').number ≡ 0 → file w h v ks ws ≡ file w' h' v' ks' ws' → (w ≡ w') × (h ≡ h') × (v ≡ v') × (ks ≡ ks') × (ws ≡ ws')
file_told w h v ks ws room w' h' v' ks' ws' room' b b' d d' e =
    let B = reads_back w h v ks ws room b d in
    let C = reads_back w' h' v' ks' ws' room' b' d' in (
      sym B.width ∙ ap file_width e ∙ C.width,
      sym B.height ∙ ap file_height e ∙ C.height,
      sym B.border ∙ ap file_border e ∙ C.border,
      sym B.levels ∙ ap file_levels e ∙ C.levels,
      sym B.words ∙ ap file_words e ∙ C.words,
    )
