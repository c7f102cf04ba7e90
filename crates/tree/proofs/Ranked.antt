-- The ranks of the code are those of the theory, and a followed line is a noted one. Assumes nothing.
-- Main laws: `setting_of`; `gaps_run` the running sums; `gaps_total` all of them; `rank_is` the rank of a crossing; `line_ready` what noting line n asks; `line_noted` afterwards it is noted, and past the ranks nothing has
--   changed.
use mathlib.Core.Path.{◌≡◌, refl, sym, ap, subst, ◌∙◌}
use mathlib.Core.Bool.{true}
use mathlib.Core.List.{List}
use Prim.Native.Nat.{ℕ, zero, suc, ◌+◌, ◌-◌, ◌*◌, ◌/◌, ◌%◌, ◌≤◌, ◌<◌}
use native.Mathlib.Numerals.{add-one}
use native.Mathlib.Omega.{arith}
use lib.ListN.{length, take, drop, get_or}
use lib.Seq.{take-suc, take-length, drop-set-lt}
use borrow.Author.Tests.{eqb-true, lt-ltb, le-ltb, ltb-true, ltb-false}
use Rattle.tally.specs.Tally.{apart, total}
use Rattle.tally.proofs.Test.{by_test}
use Rattle.tally.proofs.Sum.{sum_same}
use Rattle.tally.proofs.Count.{count_at, tally_none}
use Rattle.matte.specs.Layout.{eight}
use Rattle.matte.specs.Picture.{Picture, size, at, high, levels_fit}
use Rattle.edgel.specs.Edgel.{horizontal, first}
use Rattle.outline.specs.Line.{cut_at, line}
use Rattle.outline.proofs.Counting.{steps, crossings}
use Rattle.outline.proofs.Codes.{right_in}
use Rattle.outline.proofs.Levels.{level_below}
use Rattle.refuse.specs.Shape.{Ground}
use Rattle.count.proofs.Flat.{border_of, some, cut_column}
use Rattle.trace.proofs.All.{eight_fits}
use Rattle.follow.proofs.Tracing.{place_in}
use Rattle.enclosure.specs.Position.{key}
use Rattle.enclosure.specs.Tree.{firsts, line_count, level_at, lead_at, crossings_at}
use Rattle.enclosure.specs.Call.{heads}
use Rattle.enclosure.proofs.Lines.{Setting, pass_cut, lead_cut, lead_pass}
use Rattle.enclosure.proofs.Tree.{line_of}
use Rattle.enclosure.proofs.Value.{lines_few}
use Rattle.enclosure.proofs.Rank.{rank, pos_at, On, pass_on}
use Rattle.enclosure.proofs.Running.{run, run_next, run_total, place_apart, rank_south, rank_north, rank_below}
use Rattle.enclosure.proofs.Notes.{Noted, noted_flat, noted_tall, noted_line}
use Rattle.tree.specs.Note.{Table, Starts, gap_at, gaps, rank_at, noted, noted_all, note_for, LineReady}
use Rattle.tree.proofs.Sums.{rising}
use Rattle.tree.proofs.Noting.{all_length, all_append}

pub setting_of : (P : Picture) (ks : List ℕ) → Ground P → levels_fit eight ks ≡ true → Setting eight P ks
setting_of P ks G l = record { fits = eight_fits P G; border = border_of P G; levels = l }

module _ (P : Picture) (ks : List ℕ) (G : Ground P) (fit : levels_fit eight ks ≡ true) (st : List ℕ) (T : Table ks st) (bytes : (i : ℕ) → get_or P.px i 0 < 256) where
  S : Setting eight P ks
  S = setting_of P ks G fit

  pub gaps_run : (i : ℕ) → i < size P → gaps st P.px i ≡ run P ks i
  unfolding gaps
  gaps_run i h =
      sum_same (gap_at st P.px) (λ j. crossings P ks (2 * j)) i
      (λ j l.
      ap (λ (z : ℕ). apart z (get_or st (at P (j + 1)) 0)) (T.tells (at P j) (bytes j))
      ∙ ap (apart (steps ks (at P j))) (T.tells (at P (j + 1)) (bytes (j + 1)))
      ∙ sym (place_apart P (border_of P G) ks j (omega arith)))

  -- the last place has no edgel to its right
  last_none : (i : ℕ) → i + 1 ≡ size P → crossings P ks (2 * i) ≡ 0
  last_none i e =
      tally_none (λ k. cut_at P k (2 * i)) ks
      (λ k h.
      by_test (cut_at P k (2 * i))
      (λ o. absurd (omega (arith, right_in P.w P.h i (omega arith) (cut_column P G k i o))))
      (λ o. o))

  pub gaps_total : gaps st P.px (length P.px - 1) ≡ total (heads P) ks
  gaps_total =
      let s = some G in
      let q = G.whole in
      let i = length P.px - 1 in
      let m : i + 1 ≡ size P = omega arith in
      omega (arith, gaps_run i (omega arith), run_next P (border_of P G) ks i, last_none i m, run_total S, ap (run P ks) m)

  pub rank_is : (k i : ℕ) → k < 255 → cut_at P k (2 * i) ≡ true → rank_at st P.px k i ≡ rank eight P ks (key P 256 k (2 * i))
  unfolding rank_at
  rank_is k i l o =
      let h : 2 * i / 2 < size P = place_in P G k (2 * i) o in
      let g : gaps st P.px i ≡ run P ks i = gaps_run i (omega arith) in
      let s : get_or st (at P i) 0 ≡ steps ks (at P i) = T.tells (at P i) (bytes i) in
      by_test (high P k i)
      (λ t.
      let u : get_or st (k + 1) 0 ≡ steps ks (suc k) = T.tells (k + 1) (omega arith) ∙ ap (steps ks) (add-one k) in
      rw t (omega (arith, rank_north S k i (omega arith) o t)))
      (λ t.
      let u : get_or st k 0 ≡ steps ks k = T.tells k (omega arith) in
      rw t (omega (arith, rank_south S k i (omega arith) o t)))

  flat_twice : (c : ℕ) → horizontal c ≡ true → 2 * first c ≡ c
  flat_twice c f = omega (arith, eqb-true (c % 2) 0 f)

  -- ---- line n
  module _ (n : ℕ) (a : n < line_count eight P ks) where
    abbrev k : ℕ
    k = level_at eight P ks n

    abbrev e : ℕ
    e = first (lead_at eight P ks n)

    abbrev l : List ℕ
    l = crossings_at eight P ks n

    pub low : level_at eight P ks n < 255
    unfolding line_of
    low = let M = line_of S n a in level_below eight ks fit M.lvl M.listed

    pub lead_twice : 2 * first (lead_at eight P ks n) ≡ lead_at eight P ks n
    unfolding line_of
    lead_twice = flat_twice (lead_at eight P ks n) (lead_pass S (line_of S n a)).flat

    pub lead_crossed : cut_at P (level_at eight P ks n) (lead_at eight P ks n) ≡ true
    unfolding line_of
    lead_crossed = lead_cut S (line_of S n a)

    -- the lead as a word
    pub level_of_lem : (x : ℕ) → x ≡ get_or (firsts eight P ks) n 0 → x / 8388608 ≡ level_at eight P ks n
    unfolding level_at
    level_of_lem x q = ap (λ (z : ℕ). z / 8388608) q

    pub lead_of : (x : ℕ) → x ≡ get_or (firsts eight P ks) n 0 → x % 8388608 / 2 ≡ first (lead_at eight P ks n)
    unfolding lead_at
    lead_of x q = ap (λ (z : ℕ). z % 8388608 / 2) q

    on_cut : (c : ℕ) → On eight P ks n c → cut_at P k c ≡ true
    unfolding line_of
    on_cut c A = pass_cut S (line_of S n A.number) c (pass_on S n c A)

    pub rank_on : (c : ℕ) → On eight P ks n c → rank_at st P.px (level_at eight P ks n) (first c) ≡ rank eight P ks (pos_at eight P ks n c)
    rank_on c A =
        let t = flat_twice c A.flat in
        rank_is k (first c) low (ap (cut_at P k) t ∙ on_cut c A) ∙ ap (λ (z : ℕ). rank eight P ks (key P 256 k z)) t

    pub line_ready : (starts u : List ℕ) → Starts st P.px starts → total (heads P) ks ≤ length u → LineReady P st starts (level_at eight P ks n) n (first (lead_at eight P ks n)) u
    line_ready starts u R room =
        record {
          ground = G;
          level = low;
          rising = rising ks st T;
          sums = R;
          few = omega (arith, lines_few S);
          lead = ap (cut_at P k) lead_twice ∙ lead_crossed;
          room = λ i h.
              let f : horizontal (2 * i) ≡ true = even i in
              let A : On eight P ks n (2 * i) = record { number = a; flat = f; here = rw (sym lead_twice) h } in
              let s : 2 * i / 2 ≡ i = omega arith in
              omega (arith, ap (rank_at st P.px k) s, rank_on (2 * i) A, rank_below S n (2 * i) A);
        }
      where
        even : (i : ℕ) → horizontal (2 * i) ≡ true
        even i = borrow.Author.Tests.eq-eqb (2 * i % 2) 0 (omega arith)

    pub word_ready : (x : ℕ) (starts u : List ℕ) → x ≡ get_or (firsts eight P ks) n 0 → Starts st P.px starts → total (heads P) ks ≤ length u
        → LineReady P st starts (x / 8388608) n (x % 8388608 / 2) u
    word_ready x starts u q R room = rw (level_of_lem x q, lead_of x q) (line_ready starts u R room)

    abbrev all : List ℕ → List ℕ → List ℕ
    all u m = noted_all st P.px k n e u m

    record Part (u₀ : List ℕ) (i : ℕ) (u : List ℕ) : Type 0 where
      so : Noted eight P ks (note_for P ks) n i u
      rest : drop (total (heads P) ks) u ≡ drop (total (heads P) ks) u₀

    module _ (u₀ : List ℕ) (X : Noted eight P ks (note_for P ks) n 0 u₀) (room : total (heads P) ks ≤ length u₀) where
      more : (i : ℕ) → i < length l → Part u₀ i (all u₀ (take i l)) → Part u₀ (suc i) (noted st P.px k n e (all u₀ (take i l)) (get_or l i 0))
      unfolding noted
      more i h Y =
          let c = get_or l i 0 in
          let u = all u₀ (take i l) in
          let w : length u ≡ length u₀ = all_length st P.px k n e u₀ (take i l) in
          by_test (horizontal c)
          (λ f.
          let A : On eight P ks n c = record { number = a; flat = f; here = count_at l i h } in
          let r = rank_on c A in
          rw (f, sym (add-one i))
          (record {
            so = noted_flat S (note_for P ks) n i u Y.so a c (rank_at st P.px k (first c)) (note_for P ks n c) h refl f r refl (omega arith);
            rest = drop-set-lt (total (heads P) ks) u (rank_at st P.px k (first c)) (note_for P ks n c) (omega (arith, rank_below S n c A)) ∙ Y.rest;
          }))
          (λ f. rw (f, sym (add-one i)) (record { so = noted_tall S (note_for P ks) n i u Y.so a h f; rest = Y.rest }))

      parts : (i : ℕ) → i ≤ length l → Part u₀ i (all u₀ (take i l))
      unfolding noted_all
      parts zero h = record { so = X; rest = refl }
      parts (suc i) h =
          rw (take-suc l i 0 h, all_append st P.px k n e u₀ (take i l) (get_or l i 0)) (more i h (parts i (omega arith)))

      whole : Part u₀ (length l) (all u₀ l)
      whole = subst (λ (z : List ℕ). Part u₀ (length l) (all u₀ z)) (take-length l) (parts (length l) (omega arith))

      same : line P k (2 * e) ≡ l
      same = ap (line P k) lead_twice

      pub line_noted : Noted eight P ks (note_for P ks) (n + 1) 0 (noted_all st P.px (level_at eight P ks n) n (first (lead_at eight P ks n)) u₀ (line P (level_at eight P ks n) (2 * first (lead_at eight P ks n))))
      line_noted = rw same (noted_line S (note_for P ks) n (length l) (all u₀ l) whole.so a refl)

      pub line_rest : drop (total (heads P) ks) (noted_all st P.px (level_at eight P ks n) n (first (lead_at eight P ks n)) u₀ (line P (level_at eight P ks n) (2 * first (lead_at eight P ks n)))) ≡ drop (total (heads P) ks) u₀
      line_rest = rw same whole.rest

      pub word_noted : (x : ℕ) (u : List ℕ) → x ≡ get_or (firsts eight P ks) n 0
          → u ≡ noted_all st P.px (x / 8388608) n (x % 8388608 / 2) u₀ (line P (x / 8388608) (2 * (x % 8388608 / 2)))
          → (Noted eight P ks (note_for P ks) (n + 1) 0 u) × (drop (total (heads P) ks) u ≡ drop (total (heads P) ks) u₀)
      word_noted x u q g =
          let y : u ≡ all u₀ (line P k (2 * e)) =
          g
          ∙ ap (λ (z : ℕ). noted_all st P.px z n (x % 8388608 / 2) u₀ (line P z (2 * (x % 8388608 / 2)))) (level_of_lem x q)
          ∙ ap (λ (z : ℕ). noted_all st P.px k n z u₀ (line P k (2 * z))) (lead_of x q) in
          (rw y line_noted, rw y line_rest)
