-- The text to print, from what the tree call hands back. Assumes nothing.
-- Main laws: `call_refused` the text of a refused call; `call_sides` a call that is done has sides that fit; `call_words`, `call_entries` the list and the tree in lent memory,
--   `entries_inside` inside of it; `call_text`, `call_room` the text of a call that is done, and room for it; `not_of_form`, `of_form` the two cases of an input, `form_levels`, `form_count`, `form_at` its
--   parts; `run_refused`, `run_done`, `run_entries`, `run_room` the tree call for input of the form.
use mathlib.Core.Path.{◌≡◌, refl, sym, ap, ◌∙◌}
use mathlib.Core.Bool.{true}
use mathlib.Core.List.{List, ◌++◌}
use Prim.Native.Nat.{ℕ, ◌+◌, ◌-◌, ◌≤◌, ◌<◌}
use native.Mathlib.Omega.{arith}
use borrow.Author.Tests.{eqb-true, eqb-false, eq-eqb, ne_eqb}
use lib.Dec.{eqb}
use lib.ListN.{length, get_or, take, drop, length-append}
use lib.Seq.{take_at, get_or-drop, length-take-le}
use Rattle.std.specs.Prelude.{Some, None}
use Rattle.tally.specs.Tally.{tally}
use Rattle.tally.proofs.Test.{by_test}
use Rattle.tally.proofs.Build.{build_length}
use Rattle.refuse.specs.declared.Answer.{Answer}
use Rattle.refuse.specs.Refusal.{Verdict}
use Rattle.matte.specs.Layout.{eight}
use Rattle.matte.specs.Picture.{Picture, picture, at}
use Rattle.refuse.proofs.Rows.{done_answer, refused_answer, done_after}
use Rattle.edgel.specs.Word.{flagged}
use Rattle.refuse.specs.Shape.{Sides}
use Rattle.trace.proofs.Refusals.{Sound}
use Rattle.outline.specs.List.{listed}
use Rattle.enclosure.specs.Tree.{entry, entries, line_count}
use Rattle.enclosure.specs.Call.{tree_verdict, tree_answer, tree_words, tree_entries}
use Rattle.enclosure.proofs.Lines.{Setting}
use Rattle.enclosure.proofs.Numbers.{count_flags}
use Rattle.form.specs.declared.Form.{Form}
use Rattle.form.specs.Text.{FormRead}
use Rattle.form.specs.Reader.{form_of, form_told}
use Rattle.form.proofs.ExactForm.{Inside, form_inside}
use Rattle.form.proofs.Whole.{form_given, form_missing}
use Rattle.form.proofs.Line.{part_end}
use Rattle.text.specs.Listing.{first_text, words_text, listing_text, refused_text, not_form_text}
use Rattle.text.proofs.Bounds.{listing_length}
use Rattle.listing.specs.Printed.{call_verdict, answered, printed, Rooms}
use Rattle.listing.proofs.Call.{same_verdict, ground_of, setting_for}

module _ (P : Picture) (ks work words places : List ℕ) (x : length work ≡ 16384) (y : length words ≡ 16384) (z : length places ≡ 8192)
    (a : Answer) (ea : a ≡ tree_answer eight P ks work words places) where
  told : Verdict
  told = tree_verdict eight P ks work words places

  number_is : a.number ≡ (call_verdict P ks).number
  unfolding told
  number_is =
      by_test (eqb told.number 0)
      (λ t.
      let e = eqb-true told.number 0 t in
      ap (λ (i : Answer). i.number) (ea ∙ done_answer told (length (listed eight P ks)) (tally (flagged eight) (listed eight P ks)) e) ∙ sym e)
      (λ t. ap (λ (i : Answer). i.number) (ea ∙ refused_answer told (length (listed eight P ks)) (tally (flagged eight) (listed eight P ks)) (eqb-false told.number 0 t)))
      ∙ ap (λ (v : Verdict). v.number) (same_verdict P ks work words places x y z)

  pub call_refused : (a.number ≡ 0 → ⊥) → answered P ks ≡ refused_text a.number
  unfolding answered
  call_refused n = rw (← number_is, ne_eqb a.number 0 n)

  module _ (e : a.number ≡ 0) where
    zero_is : told.number ≡ 0
    unfolding told
    zero_is = ap (λ (v : Verdict). v.number) (same_verdict P ks work words places x y z) ∙ sym number_is ∙ e

    S : Sound eight P ks work words
    unfolding told
    S = ground_of P ks work words places zero_is

    T : Setting eight P ks
    unfolding told
    T = setting_for P ks work words places zero_is

    pub call_sides : Sides P.w P.h
    call_sides = S.ground.sides

    done : a ≡ record { number = 0; place = 0; words = length (listed eight P ks); lines = tally (flagged eight) (listed eight P ks) }
    unfolding told
    done = ea ∙ done_answer told (length (listed eight P ks)) (tally (flagged eight) (listed eight P ks)) zero_is

    words_is : a.words ≡ length (listed eight P ks)
    words_is = ap (λ (i : Answer). i.words) done

    lines_is : a.lines ≡ tally (flagged eight) (listed eight P ks)
    lines_is = ap (λ (i : Answer). i.lines) done

    entries_length : length (entries eight P ks) ≡ a.lines
    entries_length = build_length (entry eight P ks) 0 (line_count eight P ks) ∙ count_flags T ∙ sym lines_is

    module _ (ws : List ℕ) (ew : ws ≡ tree_words eight P ks work words places) where
      words_are : ws ≡ listed eight P ks ++ drop (length (listed eight P ks)) words
      unfolding told
      words_are = ew ∙ done_after told words (listed eight P ks ++ drop (length (listed eight P ks)) words) zero_is

      pub call_words : take a.words ws ≡ listed eight P ks
      call_words = ap (take a.words) words_are ∙ take_at (listed eight P ks) (drop (length (listed eight P ks)) words) a.words (sym words_is)

    module _ (ps : List ℕ) (ep : ps ≡ tree_entries eight P ks work words places) where
      entries_are : ps ≡ entries eight P ks ++ drop (line_count eight P ks) places
      unfolding told
      entries_are = ep ∙ done_after told places (entries eight P ks ++ drop (line_count eight P ks) places) zero_is

      pub entries_inside : a.lines ≤ length ps
      entries_inside = omega (arith, ap length entries_are, length-append (entries eight P ks) (drop (line_count eight P ks) places), entries_length)

      pub call_entries : take a.lines ps ≡ entries eight P ks
      call_entries = ap (take a.lines) entries_are ∙ take_at (entries eight P ks) (drop (line_count eight P ks) places) a.lines entries_length

    module _ (ws ps : List ℕ) (ew : ws ≡ tree_words eight P ks work words places) (ep : ps ≡ tree_entries eight P ks work words places) (n : ℕ) (en : length ks ≡ n) where
      put : List ℕ
      put =
          first_text P.w P.h (at P 0) n (length (take a.words ws)) a.lines
          ++ words_text eight P 0 (take a.lines ps) (take a.words ws)

      put_is : put ≡ listing_text eight P ks (listed eight P ks) (entries eight P ks)
      unfolding put
      put_is = rw (call_words ws ew, call_entries ps ep, lines_is, ← en)

      pub call_text : answered P ks ≡ first_text P.w P.h (at P 0) n (length (take a.words ws)) a.lines
          ++ words_text eight P 0 (take a.lines ps) (take a.words ws)
      unfolding answered put
      call_text = rw (← number_is, eq-eqb a.number 0 e) (sym put_is)

      pub call_room : ((i : ℕ) → at P i < 256) → n ≤ 255
          → length (first_text P.w P.h (at P 0) n (length (take a.words ws)) a.lines ++ words_text eight P 0 (take a.lines ps) (take a.words ws)) ≤ 1048616
      unfolding put
      call_room b h =
          rw put_is
          (listing_length P ks (listed eight P ks) (entries eight P ks)
          (record {
            some = omega (arith, call_sides.w_least);
            wide = call_sides.w_most;
            tall = call_sides.h_most;
            bytes = b;
            few = omega (arith, en);
            words = omega (arith, S.room, y);
          }))

-- ---- the input
part_bytes : (s : List ℕ) (n : ℕ) → ((j : ℕ) → get_or s j 0 < 256) → (i : ℕ) → get_or (take (length s - n) (drop n s)) i 0 < 256
part_bytes s n b i = rw (part_end s n, get_or-drop n s i 0) (b (n + i))

module _ (s : List ℕ) where
  pub not_of_form : None ≡ form_told (form_of s) → printed s ≡ not_form_text
  unfolding printed
  not_of_form e = rw (form_missing (form_of s) e)

  module _ (f : Form) (e : Some f ≡ form_told (form_of s)) where
    read : FormRead
    read = record { ok = true; width = f.width; height = f.height; count = f.count; levels = f.levels; at = f.at }

    read_is : form_of s ≡ read
    unfolding read
    read_is = form_given f (form_of s) e

    pub form_kept : Inside s (record { ok = true; width = f.width; height = f.height; count = f.count; levels = f.levels; at = f.at })
    unfolding read
    form_kept = form_inside s read (sym read_is) refl

    pub of_form : printed s ≡ answered (picture f.width f.height (take (length s - f.at) (drop f.at s))) (take f.count f.levels)
    unfolding printed read
    of_form = rw (read_is, part_end s f.at)

    pub form_levels : f.count ≤ length f.levels
    form_levels = omega (arith, form_kept.held)

    pub form_count : length (take f.count f.levels) ≡ f.count
    form_count = length-take-le f.count f.levels form_levels

    pub form_at : f.at ≤ length s
    form_at = omega (arith, form_kept.whole)

    -- ---- what the tree call hands back for its picture and levels
    module _ (work words places out : List ℕ) (m : Rooms work words places out) (a : Answer)
        (ea : a ≡ tree_answer eight (picture f.width f.height (take (length s - f.at) (drop f.at s))) (take f.count f.levels) work words places) where
      abbrev P : Picture
      P = picture f.width f.height (take (length s - f.at) (drop f.at s))

      abbrev ks : List ℕ
      ks = take f.count f.levels

      pub run_refused : (a.number ≡ 0 → ⊥) → printed s ≡ refused_text a.number
      run_refused n = of_form ∙ call_refused P ks work words places m.for_work m.for_words m.for_places a ea n

      module _ (z : a.number ≡ 0) (ws ps : List ℕ) (ew : ws ≡ tree_words eight P ks work words places) (ep : ps ≡ tree_entries eight P ks work words places) where
        abbrev pub run_text : List ℕ
        run_text = first_text P.w P.h (at P 0) f.count (length (take a.words ws)) a.lines ++ words_text eight P 0 (take a.lines ps) (take a.words ws)

        pub run_done : printed s ≡ run_text
        run_done = of_form ∙ call_text P ks work words places m.for_work m.for_words m.for_places a ea z ws ps ew ep f.count form_count

        pub run_entries : a.lines ≤ length ps
        run_entries = entries_inside P ks work words places m.for_work m.for_words m.for_places a ea z ps ep

        pub run_room : ((i : ℕ) → get_or s i 0 < 256) → (0 < f.width) × (f.width ≤ 2048) × (length run_text ≤ length out)
        run_room b =
            let q = call_sides P ks work words places m.for_work m.for_words m.for_places a ea z in (
              omega (arith, q.w_least),
              q.w_most,
              omega (
                arith,
                m.for_text,
                call_room P ks work words places m.for_work m.for_words m.for_places a ea z ws ps ew ep f.count form_count (part_bytes s f.at b) form_kept.few,
              ),
            )
