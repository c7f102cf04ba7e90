-- All levels: the loop that lists one after the other. Assumes nothing.
-- Definitions: `Listing` the loop's invariant before level number j.
-- Main laws: `layout_fits`, `eight_fits` the picture's codes and levels fit a word; `listed_take`, `listed_room` the words of the first levels; `all_begin`, `level_ready`, `all_go`, `all_end` the loop's moves.
use mathlib.Core.Path.{◌≡◌, refl, sym, ap, ◌∙◌}
use mathlib.Core.Bool.{Bool, true, false}
use mathlib.Core.List.{List, [], ◌∷◌, ◌++◌}
use mathlib.Core.Logic.{◌≢◌}
use Prim.Native.Nat.{ℕ, ◌+◌, ◌%◌, ◌≤◌, ◌<◌}
use native.Mathlib.Nat.{mul-le-mul}
use native.Mathlib.Numerals.{add-one}
use native.Mathlib.Omega.{arith}
use lib.ListN.{length, take, drop, get_or, length-append, length-drop, take-append-drop}
use lib.Seq.{take-suc, take_all, length-take-le}
use Rattle.tally.specs.Tally.{total}
use Rattle.tally.proofs.Count.{count_at}
use Rattle.tally.proofs.Sum.{total_append}
use Rattle.matte.specs.Layout.{Layout, eight, layout_of}
use Rattle.matte.specs.Picture.{Picture, size}
use Rattle.outline.specs.Line.{lines}
use Rattle.outline.specs.List.{level_words, listed}
use Rattle.outline.proofs.Levels.{level_below}
use Rattle.outline.proofs.Listed.{Fits, listed_append, listed_more, listed_flags}
use Rattle.trace.specs.declared.scan.Written.{Written}
use Rattle.refuse.specs.Shape.{Ground}
use Rattle.follow.specs.Words.{upper, pasted}
use Rattle.trace.specs.Level.{LevelReady, LevelDone, Marked, AllReady, AllDone}
use Rattle.count.proofs.Flat.{border_of}
use Rattle.trace.proofs.Scanning.{paste_on}
use Rattle.trace.proofs.Level.{paste_none}

-- within the sample limit of a width
pub layout_fits : (wide : Bool) (P : Picture) → size P ≤ (layout_of wide).samples → Fits (layout_of wide) P
layout_fits true P h = record { room = omega arith; tops = omega arith }
layout_fits false P h = record { room = omega arith; tops = omega arith }

pub eight_fits : (P : Picture) → Ground P → Fits eight P
eight_fits P G = layout_fits false P (omega (arith, mul-le-mul G.sides.w_most G.sides.h_most))

module _ (L : Layout) (P : Picture) (ks : List ℕ) where
  abbrev so : ℕ → List ℕ
  so j = listed L P (take j ks)

  abbrev counted : ℕ → ℕ
  counted j = total (λ k. length (lines P k)) (take j ks)

  module _ (j : ℕ) (h : j < length ks) where
    abbrev k : ℕ
    k = get_or ks j 0

    one_more : take (j + 1) ks ≡ take j ks ++ (k ∷ [])
    one_more = ap (λ (z : ℕ). take z ks) (add-one j) ∙ take-suc ks j 0 h

    pub listed_take : so (j + 1) ≡ so j ++ level_words L k (lines P k)
    listed_take = ap (listed L P) one_more ∙ listed_more L P (take j ks) k

    counted_more : counted (j + 1) ≡ counted j + length (lines P k)
    unfolding total
    counted_more =
        ap (total (λ z. length (lines P z))) one_more
        ∙ total_append (λ z. length (lines P z)) (take j ks) (k ∷ [])
        ∙ omega arith

  pub listed_room : (j : ℕ) → length (so j) ≤ length (listed L P ks)
  listed_room j =
      omega (arith, ap (λ (l : List ℕ). length (listed L P l)) (take-append-drop j ks), ap length (listed_append L P (take j ks) (drop j ks)), length-append (so j) (listed L P (drop j ks)))

  module _ (work₀ words₀ : List ℕ) (R : AllReady L P ks work₀ words₀) where
    pub record Listing (j : ℕ) (s : Written) (work words : List ℕ) : Type 0 where
      pub told : words ≡ pasted words₀ 0 (so j)
      pub words_so : s.words ≡ length (so j)
      pub lines_so : s.lines ≡ counted j
      pub fewer : s.lines ≤ s.words
      pub long : length work ≡ length work₀
      pub rest : drop (upper P) work ≡ drop (upper P) work₀
      pub low : j % 255 ≢ 0 → (i : ℕ) → i < upper P → get_or work i 0 ≤ j % 255

    pub all_begin : Listing 0 (record { words = 0; lines = 0 }) work₀ words₀
    unfolding listed total
    all_begin =
        record { told = paste_none words₀ 0; words_so = refl; lines_so = refl; fewer = omega arith; long = refl; rest = refl; low = λ t i h. absurd (t refl) }

    module _ (j : ℕ) (h : j < length ks) (s : Written) (was work words : List ℕ) (Z : Listing j s was words) (m : ℕ) (M : Marked (upper P) j was m work) where
      same : length words ≡ length words₀
      same =
          omega (arith, ap length Z.told, length-append (take 0 words₀ ++ so j) (drop (0 + length (so j)) words₀), length-append (take 0 words₀) (so j), length-take-le 0 words₀ (omega arith), length-drop (0 + length (so j)) words₀, listed_room j, R.room)

      pub level_ready : LevelReady L P (get_or ks j 0) m work words s
      level_ready =
          record {
            ground = R.ground;
            level = level_below L ks R.levels (get_or ks j 0) (count_at ks j h);
            codes = R.fits.room;
            wide = omega (arith, R.wide, Z.long, M.long);
            low = M.low;
            room = omega (arith, same, Z.words_so, ap length (listed_take j h), length-append (so j) (level_words L (get_or ks j 0) (lines P (get_or ks j 0))), listed_room (j + 1), R.room);
            fewer = Z.fewer;
          }

      pub all_go : (s' : Written) (work' words' : List ℕ) → LevelDone L P (get_or ks j 0) m work words s s' work' words' → Listing (j + 1) s' work' words'
      all_go s' work' words' D =
          let W = level_words L (get_or ks j 0) (lines P (get_or ks j 0)) in
          let e : so (j + 1) ≡ so j ++ W = listed_take j h in
          record {
            told = D.all
                ∙ ap (λ (l : List ℕ). pasted l s.words W) Z.told
                ∙ paste_on words₀ 0 s.words (so j) W (omega (arith, Z.words_so)) (omega (arith, Z.words_so, listed_room j, R.room))
                ∙ ap (pasted words₀ 0) (sym e);
            words_so = omega (arith, D.words_are, Z.words_so, ap length e, length-append (so j) W);
            lines_so = omega (arith, D.lines_are, Z.lines_so, counted_more j h);
            fewer = D.fewer;
            long = D.worn.long ∙ M.long ∙ Z.long;
            rest = D.worn.rest ∙ M.rest ∙ Z.rest;
            low = λ t i l. omega (arith, D.worn.low i l, M.is);
          }

    pub all_end : (j : ℕ) → length ks ≤ j → (s : Written) (work words : List ℕ) → Listing j s work words → AllDone L P ks work₀ words₀ s work words
    all_end j h s work words Z =
        let t : take j ks ≡ ks = take_all j ks h in
        let e : so j ≡ listed L P ks = ap (listed L P) t in
        record {
          words_are = Z.words_so ∙ ap length e;
          lines_are = Z.lines_so
              ∙ ap (total (λ k. length (lines P k))) t
              ∙ sym (listed_flags L P R.fits (border_of P R.ground) ks R.levels);
          all = Z.told ∙ ap (pasted words₀ 0) e ∙ ap (λ (z : ℕ). listed L P ks ++ drop z words₀) (zero_plus (length (listed L P ks)));
          long = Z.long;
          rest = Z.rest;
        }
      where
        zero_plus : (n : ℕ) → 0 + n ≡ n
        zero_plus n = omega arith
