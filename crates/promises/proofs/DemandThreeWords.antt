-- The customer's third demand, of the words: line n of the list that the list call writes, as the line part call hands it over and as the membership call counts it. Assumes nothing.
-- Definitions: `line_total P ks` the number of lines that the list call answers; `line_at P ks n` line n of its words.
-- Main laws: `part_is_line` line n is the words of the n-th line, levels in order and on each its lines in order; `part_of_level` that is a line of a listed level, and `line_is_part` every line of a
--   listed level is there; `starts_flagged` no word stands before the first line, `level_each` the words of a line have its level; `inside_is_odd` membership in line n counts as the demand does, and `member_is_odd` so does the call's answer; hence the demand's sentences of words: `words_row_as_column`
--   counting along the row or the column gives the same odd or even, `words_differ_east`, `words_differ_south` neighbours differ exactly if a word of the line is between them.
use mathlib.Core.Path.{◌≡◌, refl, sym, ap, subst, ◌∙◌}
use mathlib.Core.Bool.{Bool, true, false, not, ◌&&◌}
use mathlib.Core.List.{List, [], ◌∷◌, ◌++◌, map}
use Prim.Native.Nat.{ℕ, zero, suc, ◌/◌, ◌%◌, ◌<◌}
use native.Mathlib.Omega.{arith}
use lib.Dec.{eqb, ltb}
use lib.ListN.{length, get_or}
use borrow.Author.Tests.{eqb-true, lt-ltb, ltb-true}
use Rattle.tally.specs.Tally.{odd, differ, count, stands, tally, first_at, flat}
use Rattle.tally.proofs.Test.{by_test, no, both, and_1}
use Rattle.tally.proofs.Count.{count_self, count_later, count_at, tally_eq}
use Rattle.tally.proofs.First.{first_passes}
use Rattle.refuse.specs.declared.Answer.{Answer}
use Rattle.refuse.specs.Refusal.{Verdict}
use Rattle.matte.specs.Layout.{Layout, eight}
use Rattle.matte.specs.Picture.{Picture, side_fits}
use Rattle.refuse.specs.Refusal.{Row, row, answer, afterwards}
use Rattle.refuse.proofs.Rows.{fit, passed}
use Rattle.edgel.specs.Edgel.{across, down, edgel, cut}
use Rattle.edgel.specs.Word.{word, code_of, level_of, flagged}
use Rattle.words.specs.Fit.{bad_code, codes_row}
use Rattle.edgel.specs.Beside.{west_of, north_of, odd_west}
use Rattle.outline.specs.Line.{line, lines}
use Rattle.outline.specs.List.{encode, listed}
use Rattle.outline.proofs.Words.{Narrow, code_word, level_word, flag_word}
use Rattle.outline.proofs.Lines.{IsLine, line_at_lem, line_of}
use Rattle.outline.proofs.Listed.{word_cut}
use Rattle.outline.proofs.Above.{row_is_column, between_east, between_south}
use Rattle.enclosure.specs.Tree.{firsts, line_count, level_at, lead_at, crossings_at}
use Rattle.enclosure.proofs.Lines.{Setting}
use Rattle.enclosure.proofs.Parts.{narrow_at, long_at}
use Rattle.enclosure.proofs.Tree.{parts, number_of}
use Rattle.enclosure.proofs.Numbers.{firsts_words, count_flags}
use Rattle.paint.specs.declared.Membership.{Membership}
use Rattle.paint.specs.Part.{rest, part}
use Rattle.paint.specs.Member.{inside, member_verdict, member_answer}
use Rattle.paint.proofs.Lines.{rest_yes, rest_no, part_yes, part_next, part_no}
use Rattle.paint.proofs.Parts.{part_some}
use Rattle.promises.proofs.DemandThree.{Scan, B, fits}

-- ---- the words of lines one after the other
module _ (L : Layout) where
  head_low : (k c : ℕ) (l : List ℕ) → Narrow L k (c ∷ l) → c < L.codes
  head_low k c l N = N.codes c (count_self c l)

  tail_low : (k c : ℕ) (l : List ℕ) → Narrow L k (c ∷ l) → Narrow L k l
  tail_low k c l N = record { level = N.level; codes = λ d h. N.codes d (count_later d c l h) }

  first_flag : (k c : ℕ) (l : List ℕ) → Narrow L k (c ∷ l) → flagged L (word L c k true) ≡ true
  first_flag k c l N = flag_word L c k true (head_low k c l N) N.level

  no_flag : (k c : ℕ) (l : List ℕ) → Narrow L k (c ∷ l) → flagged L (word L c k false) ≡ false
  no_flag k c l N = flag_word L c k false (head_low k c l N) N.level

  -- words after a line's first end where the next line starts
  rest_line : (k : ℕ) (l ws : List ℕ) → Narrow L k l → rest L ws ≡ [] → rest L (encode L k false l ++ ws) ≡ encode L k false l
  unfolding encode
  rest_line k [] ws N e = e
  rest_line k (c ∷ l) ws N e =
      rest_no L (word L c k false) (encode L k false l ++ ws) (no_flag k c l N) ∙ ap (λ (z : List ℕ). word L c k false ∷ z) (rest_line k l ws (tail_low k c l N) e)

  -- and count for no line's start
  part_past : (n k : ℕ) (l ws : List ℕ) → Narrow L k l → part L n (encode L k false l ++ ws) ≡ part L n ws
  unfolding encode
  part_past n k [] ws N = refl
  part_past n k (c ∷ l) ws N = part_no L n (word L c k false) (encode L k false l ++ ws) (no_flag k c l N) ∙ part_past n k l ws (tail_low k c l N)

  rest_stops : (k : ℕ) (l ws : List ℕ) → Narrow L k l → 0 < length l → rest L (encode L k true l ++ ws) ≡ []
  unfolding encode
  rest_stops k [] ws N h = absurd (omega arith)
  rest_stops k (c ∷ l) ws N h = rest_yes L (word L c k true) (encode L k false l ++ ws) (first_flag k c l N)

  part_here : (k : ℕ) (l ws : List ℕ) → Narrow L k l → 0 < length l → rest L ws ≡ [] → part L 0 (encode L k true l ++ ws) ≡ encode L k true l
  unfolding encode
  part_here k [] ws N h e = absurd (omega arith)
  part_here k (c ∷ l) ws N h e =
      part_yes L (word L c k true) (encode L k false l ++ ws) (first_flag k c l N) ∙ ap (λ (z : List ℕ). word L c k true ∷ z) (rest_line k l ws (tail_low k c l N) e)

  part_later : (n k : ℕ) (l ws : List ℕ) → Narrow L k l → 0 < length l → part L (suc n) (encode L k true l ++ ws) ≡ part L n ws
  unfolding encode
  part_later n k [] ws N h = absurd (omega arith)
  part_later n k (c ∷ l) ws N h =
      part_next L n (word L c k true) (encode L k false l ++ ws) (first_flag k c l N) ∙ part_past n k l ws (tail_low k c l N)

  -- the codes of a line's words are the line
  tally_codes : (p : ℕ → Bool) (k : ℕ) (b : Bool) (l : List ℕ) → Narrow L k l → tally (λ u. p (code_of L u)) (encode L k b l) ≡ tally p l
  unfolding tally encode
  tally_codes p k b [] N = refl
  tally_codes p k b (c ∷ l) N = rw (code_word L c k b (head_low k c l N), tally_codes p k false l (tail_low k c l N))

  -- and all have its level
  levels_one : (k : ℕ) (b : Bool) (l : List ℕ) → Narrow L k l → (u : ℕ) → 0 < count u (encode L k b l) → level_of L u ≡ k
  unfolding count encode
  levels_one k b [] N u a = absurd (omega arith)
  levels_one k b (c ∷ l) N u a =
      by_test (eqb u (word L c k b))
      (λ e. ap (level_of L) (eqb-true u (word L c k b) e) ∙ level_word L c k b (head_low k c l N) N.level)
      (λ e. levels_one k false l (tail_low k c l N) u (omega (arith, rw e at a)))

  level_first : (k : ℕ) (l : List ℕ) → Narrow L k l → 0 < length l → level_of L (get_or (encode L k true l) 0 0) ≡ k
  unfolding encode
  level_first k [] N h = absurd (omega arith)
  level_first k (c ∷ l) N h = level_word L c k true (head_low k c l N) N.level

  -- lines of level K x and crossings G x, for each x of a list
  module _ (K : ℕ → ℕ) (G : ℕ → List ℕ) where
    abbrev written : ℕ → List ℕ
    written x = encode L (K x) true (G x)

    record Good (xs : List ℕ) : Type 0 where
      narrow : (n : ℕ) → n < length xs → Narrow L (K (get_or xs n 0)) (G (get_or xs n 0))
      long : (n : ℕ) → n < length xs → 0 < length (G (get_or xs n 0))

    good_tail : (x : ℕ) (xs : List ℕ) → Good (x ∷ xs) → Good xs
    good_tail x xs A = record { narrow = λ n h. A.narrow (suc n) (omega arith); long = λ n h. A.long (suc n) (omega arith) }

    rest_lines : (xs : List ℕ) → Good xs → rest L (flat (map written xs)) ≡ []
    unfolding flat rest
    rest_lines [] A = refl
    rest_lines (x ∷ xs) A = rest_stops (K x) (G x) (flat (map written xs)) (A.narrow 0 (omega arith)) (A.long 0 (omega arith))

    part_lines : (xs : List ℕ) (n : ℕ) → Good xs → n < length xs → part L n (flat (map written xs)) ≡ written (get_or xs n 0)
    unfolding flat
    part_lines [] n A h = absurd (omega arith)
    part_lines (x ∷ xs) zero A h =
        part_here (K x) (G x) (flat (map written xs)) (A.narrow 0 (omega arith)) (A.long 0 (omega arith)) (rest_lines xs (good_tail x xs A))
    part_lines (x ∷ xs) (suc n) A h =
        part_later n (K x) (G x) (flat (map written xs)) (A.narrow 0 (omega arith)) (A.long 0 (omega arith)) ∙ part_lines xs n (good_tail x xs A) (omega arith)

-- ---- the list of a picture
abbrev made : Answer → Bool → Membership
made a z = record { answer = a; inside = z }

module _ (P : Picture) (ks : List ℕ) where
  abbrev pub line_total : ℕ
  line_total = tally (flagged eight) (listed eight P ks)

  abbrev pub line_at : ℕ → List ℕ
  line_at n = part eight n (listed eight P ks)

module _ (P : Picture) (ks : List ℕ) (S : Scan P ks) where
  pub setting : Setting eight P ks
  setting = record { fits = fits P ks S; border = B P ks S; levels = S.levels }

  abbrev lv : ℕ → ℕ
  lv = level_at eight P ks

  abbrev cs : ℕ → List ℕ
  cs = crossings_at eight P ks

  numbered : (n : ℕ) → n < line_total P ks → n < line_count eight P ks
  numbered n h = omega (arith, count_flags setting)

  pub part_is_line : (n : ℕ) → n < line_total P ks → line_at P ks n ≡ encode eight (level_at eight P ks n) true (crossings_at eight P ks n)
  unfolding level_at lead_at
  part_is_line n h =
      ap (part eight n) (sym (firsts_words eight P (fits P ks S).room ks))
      ∙ part_lines eight (λ x. x / eight.codes) (λ x. line P (x / eight.codes) (x % eight.codes)) (firsts eight P ks) n
      record { narrow = narrow_at setting; long = long_at setting }
      (numbered n h)

  -- no word stands before the first flag
  pub starts_flagged : rest eight (listed eight P ks) ≡ []
  unfolding level_at lead_at
  starts_flagged =
      ap (rest eight) (sym (firsts_words eight P (fits P ks S).room ks))
      ∙ rest_lines eight (λ x. x / eight.codes) (λ x. line P (x / eight.codes) (x % eight.codes)) (firsts eight P ks)
      record { narrow = narrow_at setting; long = long_at setting }

  -- line n of the list is line m of its level, and that is listed
  pub part_of_level : (n : ℕ) → n < line_total P ks
      → (m : ℕ) × (m < length (lines P (level_at eight P ks n))) × (get_or (lines P (level_at eight P ks n)) m [] ≡ crossings_at eight P ks n) × (0 < count (level_at eight P ks n) ks)
  part_of_level n h =
      let X = parts setting n (numbered n h) in
      let r = line_of P (B P ks S) (lv n) (lead_at eight P ks n) X.leads in
      (r.0, r.1, r.2, X.listed)

  -- every line m of a listed level k is some line n of the list
  pub line_is_part : (k m : ℕ) → 0 < count k ks → m < length (lines P k) → (n : ℕ) × (n < line_total P ks) × (line_at P ks n ≡ encode eight k true (get_or (lines P k) m []))
  line_is_part k m h l =
      let I = line_at_lem P k m l in
      let N = number_of setting (record { lvl = k; lead = I.lead; listed = h; leads = I.leading }) in
      let b : N.n < line_total P ks = omega (arith, count_flags setting, N.in_list) in (
        N.n,
        b,
        part_is_line N.n b
            ∙ ap (λ (z : ℕ). encode eight z true (line P z (lead_at eight P ks N.n))) N.level
            ∙ ap (λ (z : ℕ). encode eight k true (line P k z)) N.code
            ∙ ap (encode eight k true) (sym I.list),
      )

  -- ---- line n as words and as crossings
  module _ (n : ℕ) (h : n < line_total P ks) where
    is_line : IsLine P (level_at eight P ks n) (crossings_at eight P ks n)
    is_line = record { lead = lead_at eight P ks n; leading = (parts setting n (numbered n h)).leads; list = refl }

    pub codes_tallied : (p : ℕ → Bool) → tally (λ u. p (code_of eight u)) (line_at P ks n) ≡ tally p (crossings_at eight P ks n)
    codes_tallied p = ap (tally (λ u. p (code_of eight u))) (part_is_line n h) ∙ tally_codes eight p (lv n) true (cs n) (narrow_at setting n (numbered n h))

    pub inside_is_odd : (x y : ℕ) → inside eight P.w (line_at P ks n) x y ≡ odd_west P.w (crossings_at eight P ks n) x y
    unfolding inside
    inside_is_odd x y = ap odd (codes_tallied (west_of P.w x y))

    -- a line has one level
    pub level_each : (u : ℕ) → 0 < count u (line_at P ks n) → level_of eight u ≡ level_at eight P ks n
    level_each u a = levels_one eight (lv n) true (cs n) (narrow_at setting n (numbered n h)) u (subst (λ (l : List ℕ). 0 < count u l) (part_is_line n h) a)

    pub level_is : level_of eight (get_or (line_at P ks n) 0 0) ≡ level_at eight P ks n
    level_is =
        ap (λ (z : List ℕ). level_of eight (get_or z 0 0)) (part_is_line n h) ∙ level_first eight (lv n) (cs n) (narrow_at setting n (numbered n h)) (long_at setting n (numbered n h))

    stands_tallied : (c : ℕ) → ltb 0 (tally (λ u. eqb c (code_of eight u)) (line_at P ks n)) ≡ stands c (crossings_at eight P ks n)
    stands_tallied c = ap (ltb 0) (codes_tallied (eqb c) ∙ tally_eq c (cs n))

    pub words_row_as_column : (x y : ℕ) → x < P.w → y < P.h → inside eight P.w (line_at P ks n) x y ≡ odd (tally (λ u. north_of P.w x y (code_of eight u)) (line_at P ks n))
    words_row_as_column x y a b =
        inside_is_odd x y ∙ row_is_column P (B P ks S) (lv n) (cs n) is_line x y a b ∙ sym (ap odd (codes_tallied (north_of P.w x y)))

    pub words_differ_east : (x y : ℕ) → suc x < P.w → y < P.h
        → differ (inside eight P.w (line_at P ks n) x y) (inside eight P.w (line_at P ks n) (suc x) y) ≡ ltb 0 (tally (λ u. eqb (across P.w x y) (code_of eight u)) (line_at P ks n))
    words_differ_east x y a b =
        rw (inside_is_odd x y, inside_is_odd (suc x) y, stands_tallied (across P.w x y)) (between_east P (B P ks S) (lv n) (cs n) is_line x y a b)

    pub words_differ_south : (x y : ℕ) → x < P.w → suc y < P.h
        → differ (inside eight P.w (line_at P ks n) x y) (inside eight P.w (line_at P ks n) x (suc y)) ≡ ltb 0 (tally (λ u. eqb (down P.w x y) (code_of eight u)) (line_at P ks n))
    words_differ_south x y a b =
        rw (inside_is_odd x y, inside_is_odd x (suc y), stands_tallied (down P.w x y)) (between_south P (B P ks S) (lv n) (cs n) is_line x y a b)

  -- ---- the membership call takes the list
  codes_fit : ltb (first_at (bad_code eight P.w P.h) (listed eight P ks)) (length (listed eight P ks)) ≡ false
  unfolding cut
  codes_fit =
      let ws = listed eight P ks in
      let i = first_at (bad_code eight P.w P.h) ws in
      by_test (ltb i (length ws))
      (λ t.
      let l : i < length ws = ltb-true i (length ws) t in
      let u = get_or ws i 0 in
      let e : edgel P.w P.h (code_of eight u) ≡ true = and_1 (edgel P.w P.h (code_of eight u)) _ (word_cut eight P (fits P ks S) (B P ks S) ks S.levels u (count_at ws i l)) in
      no (first_passes (bad_code eight P.w P.h) ws l) (ap not e))
      (λ t. t)

  pub member_is_odd : (n x y : ℕ) → n < line_total P ks → x < P.w → y < P.h
      → member_answer eight P.w P.h (listed eight P ks) n x y
      ≡ record { answer = record { number = 0; place = 0; words = 0; lines = 0 }; inside = odd_west P.w (crossings_at eight P ks n) x y }
  member_is_odd n x y h a b =
      let ws = listed eight P ks in
      let t : Bool = ltb 0 (length (line_at P ks n)) && (ltb x P.w && ltb y P.h) in
      let e : t ≡ true = both (lt-ltb 0 (length (line_at P ks n)) (part_some eight n ws h)) (both (lt-ltb x P.w a) (lt-ltb y P.h b)) in
      let r : Row = codes_row eight P.w P.h ws in
      let v : member_verdict eight P.w P.h ws n x y ≡ record { number = 0; place = 0 } =
      fit 1 (side_fits P.w && side_fits P.h) (r ∷ row 11 (not t) ∷ []) S.sides ∙ passed r (row 11 (not t) ∷ []) codes_fit ∙ fit 11 t [] e in
      ap (λ (z : Verdict). made (answer z 0 0) (afterwards z false (inside eight P.w (line_at P ks n) x y))) v
      ∙ ap (λ (z : Bool). made (record { number = 0; place = 0; words = 0; lines = 0 }) z) (inside_is_odd n h x y)
