-- The customer's second demand, of the calls that take a list back: the words of every list are accepted. Assumes nothing.
-- Main laws: `list_scan`, `list_whole` where the list call is done, the premises of the others hold; `word_good`, `listed_fit` no word of a list is bad for its picture and levels; `listed_below` each is
--   a u32; `paints`, `paints_back` the painting call takes the list and leaves the stepped picture, `paints_matte` with all 255 levels the matte itself; `writes`, `writes_file` the writing call
--   takes a list of at most 16,777,215 words and leaves its file, `reads_list` which reads back as the list.
use mathlib.Core.Path.{◌≡◌, refl, ap, ap₂, ◌∙◌, subst}
use mathlib.Core.Bool.{Bool, true, false, not, ◌&&◌, ◌||◌}
use mathlib.Core.List.{List, [], ◌∷◌, ◌++◌}
use Prim.Native.Nat.{ℕ, ◌+◌, ◌-◌, ◌≤◌, ◌<◌}
use native.Mathlib.Omega.{arith}
use lib.Dec.{eqb, ltb}
use lib.ListN.{length, get_or, take, drop, replicate, length-append, get_or-append}
use lib.Seq.{get_or-append-add}
use borrow.Author.Tests.{eq-eqb, ne_eqb, le-ltb, ltb-true, ltb-false}
use Rattle.tally.specs.Tally.{one, count, tally, first_at, flat}
use Rattle.tally.proofs.Test.{by_test, and_1}
use Rattle.tally.proofs.Count.{count_at}
use Rattle.tally.proofs.First.{first_is}
use Rattle.refuse.specs.Refusal.{Verdict}
use Rattle.matte.specs.Layout.{eight}
use Rattle.matte.specs.Picture.{Picture, size, at, high, side_fits, levels_fit}
use Rattle.refuse.specs.Refusal.{levels_row, room_row}
use Rattle.refuse.proofs.Rows.{fit, passed, done_after}
use Rattle.edgel.specs.Edgel.{edgel, crossed, cut}
use Rattle.edgel.specs.Word.{word, code_of, level_of, flagged}
use Rattle.words.specs.Fit.{bad_word, words_fit_row}
use Rattle.block.proofs.Bytes.{Below}
use Rattle.refuse.proofs.Sides.{in_sides}
use Rattle.outline.specs.Line.{cut_at, lines}
use Rattle.outline.specs.List.{encode, level_words, listed, list_verdict}
use Rattle.outline.proofs.Levels.{level_below}
use Rattle.outline.proofs.Words.{Narrow, encode_length, encode_at, narrow_line, narrow_lines}
use Rattle.outline.proofs.Listed.{narrow, word_level, word_cut}
use Rattle.paint.specs.Paint.{painting, paint_verdict, paint_room}
use Rattle.olr.specs.File.{limit, file, file_length, write_verdict, write_room}
use Rattle.olr.specs.Read.{read_answer, read_words}
use Rattle.olr.proofs.Write.{write_done}
use Rattle.trace.proofs.Refusals.{sound}
use Rattle.promises.specs.Stepped.{stepped_picture, all_levels}
use Rattle.promises.proofs.DemandThree.{Scan, B, fits}
use Rattle.promises.proofs.DemandTwoPaint.{painted_is_stepped, painted_is_matte}
use Rattle.promises.proofs.DemandTwoFile.{written_reads}

-- what the list call accepts
module _ (P : Picture) (ks work out : List ℕ) (done : (list_verdict eight P ks work out).number ≡ 0) where
  pub list_scan : Scan P ks
  list_scan =
      let s = sound eight P ks work out done in
      record { sides = in_sides P.w P.h s.ground.sides; levels = s.levels; border = s.ground.border }

  pub list_whole : length P.px ≡ size P
  list_whole = (sound eight P ks work out done).ground.whole

-- ---- words within 32 bits
below_append : (m : ℕ) (l r : List ℕ) → Below m l → Below m r → Below m (l ++ r)
below_append m l r a b i h =
    by_test (ltb i (length l))
    (λ e.
    let t : i < length l = ltb-true _ _ e in
    omega (arith, a i t, get_or-append l r 0 i t))
    (λ e.
    let t : length l ≤ i = ltb-false _ _ e in
    let n : i - length l < length r = omega (arith, length-append l r) in
    let d : length l + (i - length l) ≡ i = omega arith in
    subst (λ (z : ℕ). get_or (l ++ r) z 0 < m) d (omega (arith, b (i - length l) n, get_or-append-add l r (i - length l) 0)))

word_below : (c k : ℕ) (b : Bool) → c < 8388608 → k < 256 → word eight c k b < 4294967296
word_below c k true h l = omega arith
word_below c k false h l = omega arith

line_below : (k : ℕ) (l : List ℕ) → Narrow eight k l → Below 4294967296 (encode eight k true l)
line_below k l N i h =
    let t : i < length l = omega (arith, encode_length eight k true l) in
    omega (arith, word_below (get_or l i 0) k (eqb i 0) (N.codes (get_or l i 0) (count_at l i t)) N.level, encode_at eight k l i t)

lines_below : (k : ℕ) (ls : List (List ℕ)) → Narrow eight k (flat ls) → Below 4294967296 (level_words eight k ls)
unfolding level_words
lines_below k [] N = λ i h. absurd (omega arith)
lines_below k (l ∷ ls) N =
    below_append 4294967296 (encode eight k true l) (level_words eight k ls) (line_below k l (narrow_line eight k l ls N)) (lines_below k ls (narrow_lines eight k l ls N))

module _ (P : Picture) (ks : List ℕ) (S : Scan P ks) where
  levels_below : (js : List ℕ) → ((k : ℕ) → 0 < count k js → k < 255) → Below 4294967296 (listed eight P js)
  unfolding listed count
  levels_below [] h = λ i l. absurd (omega arith)
  levels_below (k ∷ js) h =
      let a : 0 < one (eqb k k) + count k js = rw (eq-eqb k k refl) (omega arith) in
      below_append 4294967296 (level_words eight k (lines P k)) (listed eight P js)
      (lines_below k (lines P k) (narrow eight P (fits P ks S) (B P ks S) k (h k a)))
      (levels_below js (λ d l. h d (omega arith)))

  pub listed_below : Below 4294967296 (listed eight P ks)
  listed_below = levels_below ks (level_below eight ks S.levels)

  -- ---- words that fit
  crossed_edgel : (k c : ℕ) → cut_at P k c ≡ true → edgel P.w P.h c ≡ true
  unfolding cut
  crossed_edgel k c e = and_1 (edgel P.w P.h c) (crossed (high P k) P.w c) e

  pub word_good : (u : ℕ) → 0 < count u (listed eight P ks) → bad_word eight P.w P.h ks u ≡ false
  word_good u h =
      let a : edgel P.w P.h (code_of eight u) ≡ true =
      crossed_edgel (level_of eight u) (code_of eight u) (word_cut eight P (fits P ks S) (B P ks S) ks S.levels u h) in
      let b : 0 < count (level_of eight u) ks = word_level eight P (fits P ks S) (B P ks S) ks S.levels u h in
      ap₂ (λ (x y : Bool). not x || y) a (ne_eqb (count (level_of eight u) ks) 0 (λ z. omega (arith, z)))

  pub listed_fit : first_at (bad_word eight P.w P.h ks) (listed eight P ks) ≡ length (listed eight P ks)
  listed_fit =
      let ws = listed eight P ks in
      first_is (bad_word eight P.w P.h ks) ws (length ws) (omega arith) (λ i h. word_good (get_or ws i 0) (count_at ws i h)) (λ h. absurd (omega arith))

  words_row_lem : (words_fit_row eight P.w P.h ks (listed eight P ks)).given ≡ false
  words_row_lem =
      let ws = listed eight P ks in
      le-ltb (first_at (bad_word eight P.w P.h ks) ws) (length ws) (omega (arith, listed_fit))

  -- ---- painting
  module _ (room : List ℕ) (roomy : size P ≤ length room) where
    pub paints : paint_verdict eight P.w P.h (at P 0) ks (listed eight P ks) room ≡ record { number = 0; place = 0 }
    paints =
        let W = words_fit_row eight P.w P.h ks (listed eight P ks) in
        let R = room_row P.w P.h room in
        fit 1 (side_fits P.w && side_fits P.h) (levels_row eight ks ∷ W ∷ R ∷ []) S.sides
        ∙ fit 3 (levels_fit eight ks) (W ∷ R ∷ []) S.levels
        ∙ passed W (R ∷ []) words_row_lem
        ∙ passed R [] (le-ltb _ _ roomy)

    paints_all : paint_room eight P.w P.h (at P 0) ks (listed eight P ks) room ≡ painting eight P.w P.h (at P 0) ks (listed eight P ks) ++ drop (size P) room
    paints_all =
        done_after (paint_verdict eight P.w P.h (at P 0) ks (listed eight P ks) room) room
        (painting eight P.w P.h (at P 0) ks (listed eight P ks) ++ drop (size P) room)
        (ap (λ (t : Verdict). t.number) paints)

    pub paints_back : paint_room eight P.w P.h (at P 0) ks (listed eight P ks) room ≡ stepped_picture ks P ++ drop (size P) room
    paints_back = paints_all ∙ ap (λ (l : List ℕ). l ++ drop (size P) room) (painted_is_stepped P ks S)

  -- ---- writing, with any border value
  module _ (v : ℕ) (room : List ℕ) (few : length (listed eight P ks) ≤ limit) (roomy : file_length P.w P.h v ks (listed eight P ks) ≤ length room) where
    pub writes : (write_verdict P.w P.h v ks (listed eight P ks) room).number ≡ 0
    writes =
        write_done P.w P.h v ks (listed eight P ks) room
        (record { sides = S.sides; levels = S.levels; most = few; good = omega (arith, listed_fit); roomy = roomy })

    pub writes_file : write_room P.w P.h v ks (listed eight P ks) room
        ≡ file P.w P.h v ks (listed eight P ks) ++ drop (file_length P.w P.h v ks (listed eight P ks)) room
    writes_file =
        done_after (write_verdict P.w P.h v ks (listed eight P ks) room) room
        (file P.w P.h v ks (listed eight P ks) ++ drop (file_length P.w P.h v ks (listed eight P ks)) room)
        writes

    -- the bytes that writing put into the room
    abbrev stored : List ℕ
    stored = take (file_length P.w P.h v ks (listed eight P ks)) (write_room P.w P.h v ks (listed eight P ks) room)

    -- and back, into any room that holds the words
    pub reads_list : (out : List ℕ) → length (listed eight P ks) ≤ length out
        → (read_words stored out ≡ listed eight P ks ++ drop (length (listed eight P ks)) out) × (read_answer stored out ≡ record {
          answer = record { number = 0; place = 0; words = length (listed eight P ks); lines = tally (flagged eight) (listed eight P ks) };
          width = P.w;
          height = P.h;
          border = v;
          count = length ks;
          levels = ks ++ replicate (255 - length ks) 0;
        })
    reads_list out holds = written_reads P.w P.h v ks (listed eight P ks) room listed_below writes out holds

-- a picture of bytes with a constant border is painted whole
pub paints_matte : (P : Picture) → Scan P all_levels → length P.px ≡ size P → ((i : ℕ) → at P i ≤ 255) → (room : List ℕ) → size P ≤ length room
    → paint_room eight P.w P.h (at P 0) all_levels (listed eight P all_levels) room ≡ P.px ++ drop (size P) room
paints_matte P S n q room roomy = paints_all P all_levels S room roomy ∙ ap (λ (l : List ℕ). l ++ drop (size P) room) (painted_is_matte P S n q)
