-- The steps of a tree call that is not refused, one after the other, over the lent memory as lists. Assumes nothing.
-- Main laws: `work_wide` there are at least as many work bytes as samples; `collect_ready`, `notes_ready`, `walk_ready` what each step finds; `made` what the last one leaves.
use mathlib.Core.Path.{◌≡◌, refl, sym, ap, subst, ◌∙◌}
use mathlib.Core.List.{List, ◌++◌}
use Prim.Native.Nat.{ℕ, ◌+◌, ◌-◌, ◌≤◌}
use native.Mathlib.Omega.{arith}
use lib.Dec.{leb}
use lib.ListN.{length, take, drop, get_or, replicate, length-append, length-drop, get_or-append}
use lib.Seq.{take_at, drop_at, drop-drop}
use Rattle.tally.specs.Tally.{tally, total}
use Rattle.refuse.specs.declared.Answer.{Answer}
use Rattle.refuse.specs.Refusal.{Verdict}
use Rattle.matte.specs.Layout.{eight}
use Rattle.matte.specs.Picture.{Picture, size}
use Rattle.refuse.proofs.Rows.{done_answer, done_after}
use Rattle.edgel.specs.Word.{flagged}
use Rattle.outline.specs.List.{listed, list_verdict, list_answer, list_work, list_words}
use Rattle.refuse.specs.Shape.{Ground}
use Rattle.trace.proofs.Refusals.{Sound, sound}
use Rattle.trace.proofs.Zeros.{cleared_length, cleared_rest}
use Rattle.enclosure.specs.Tree.{firsts, line_count, entries}
use Rattle.enclosure.specs.Call.{heads, half}
use Rattle.enclosure.proofs.Lines.{Setting}
use Rattle.enclosure.proofs.Numbers.{count_flags, lines_within}
use Rattle.enclosure.proofs.Running.{heads_words}
use Rattle.tree.specs.Note.{leads_of, NotesReady}
use Rattle.tree.specs.Walk.{WalkReady}
use Rattle.tree.specs.Made.{TreeMade}
use Rattle.tree.proofs.Ranked.{setting_of}
use Rattle.tree.proofs.Flagged.{leads_firsts}
use Rattle.tree.proofs.Verdicts.{same_verdict}

module _ (P : Picture) (ks work₀ words₀ places₀ : List ℕ) (v : (list_verdict eight P ks work₀ words₀).number ≡ 0) (h : half P ks ≤ length places₀) where
  A : Sound eight P ks work₀ words₀
  A = sound eight P ks work₀ words₀ v

  G : Ground P
  G = A.ground

  S : Setting eight P ks
  S = setting_of P ks G A.levels

  abbrev l : List ℕ
  l = listed eight P ks

  abbrev N : ℕ
  N = length l

  abbrev n : ℕ
  n = line_count eight P ks

  few : n ≤ length places₀
  few = omega (arith, lines_within S)

  room : N ≤ length words₀
  room = A.room

  -- ---- the list
  module _ (a : Answer) (work₁ words₁ : List ℕ) (e : a ≡ list_answer eight P ks work₀ words₀) (f : work₁ ≡ list_work eight P ks work₀ words₀) (g : words₁ ≡ list_words eight P ks work₀ words₀) where
    answer_is : a ≡ record { number = 0; place = 0; words = N; lines = tally (flagged eight) l }
    answer_is = e ∙ done_answer (list_verdict eight P ks work₀ words₀) N (tally (flagged eight) l) v

    words_is : a.words ≡ N
    words_is = ap (λ (z : Answer). z.words) answer_is

    lines_is : a.lines ≡ n
    lines_is = ap (λ (z : Answer). z.lines) answer_is ∙ sym (count_flags S)

    work_is : work₁ ≡ replicate (size P) 0 ++ drop (size P) work₀
    work_is = f ∙ done_after (list_verdict eight P ks work₀ words₀) work₀ (replicate (size P) 0 ++ drop (size P) work₀) v

    list_is : words₁ ≡ l ++ drop N words₀
    list_is = g ∙ done_after (list_verdict eight P ks work₀ words₀) words₀ (l ++ drop N words₀) v

    work_long : length work₁ ≡ length work₀
    work_long = ap length work_is ∙ cleared_length (size P) work₀ A.wide

    pub work_wide : length P.px ≤ length work₁
    work_wide = omega (arith, work_long, G.whole, A.wide)

    words_long : length words₁ ≡ length words₀
    words_long = ap length list_is ∙ omega (arith, length-append l (drop N words₀), length-drop N words₀, room)

    taken : take a.words words₁ ≡ l
    taken = ap (λ (z : ℕ). take z words₁) words_is ∙ ap (take N) list_is ∙ take_at l (drop N words₀) N refl

    pub collect_ready : (a.words ≤ length words₁) × (tally (leb 2147483648) (take a.words words₁) ≤ length places₀)
    collect_ready =
        let c : tally (leb 2147483648) (take a.words words₁) ≡ n = ap (tally (leb 2147483648)) taken ∙ sym (count_flags S) in
        (omega (arith, words_is, words_long, room), omega (arith, few))

    -- ---- the leads
    module _ (places₁ : List ℕ) (q : places₁ ≡ leads_of (take a.words words₁) ++ drop (length (leads_of (take a.words words₁))) places₀) where
      leads_is : places₁ ≡ firsts eight P ks ++ drop n places₀
      leads_is =
          let c : leads_of (take a.words words₁) ≡ firsts eight P ks = ap leads_of taken ∙ leads_firsts P ks G S in
          q ∙ ap (λ (z : List ℕ). z ++ drop (length z) places₀) c

      leads_long : length places₁ ≡ length places₀
      leads_long = ap length leads_is ∙ omega (arith, length-append (firsts eight P ks) (drop n places₀), length-drop n places₀, few)

      pub notes_ready : NotesReady P ks places₁ a.lines words₁
      notes_ready =
          record {
            ground = G;
            levels = A.levels;
            count = lines_is;
            long = omega (arith, lines_is, leads_long, few);
            leads = λ m t. ap (λ (z : List ℕ). get_or z m 0) leads_is ∙ get_or-append (firsts eight P ks) (drop n places₀) 0 m (omega (arith, lines_is));
            room = omega (arith, heads_words S, words_long, room);
          }

      -- ---- the notes
      module _ (words₂ : List ℕ) (w : drop (total (heads P) ks) words₂ ≡ drop (total (heads P) ks) words₁) (k : length words₂ ≡ length words₁) where
        pub walk_ready : WalkReady P ks words₂ places₁
        walk_ready = record { ground = G; levels = A.levels; room = omega (arith, heads_words S, words_long, room); long = omega (arith, leads_long, few) }

        rest_is : drop N words₂ ≡ drop N words₀
        rest_is =
            let T = total (heads P) ks in
            let d : T + (N - T) ≡ N = omega (arith, heads_words S) in
            let c : (z : List ℕ) → drop N z ≡ drop (N - T) (drop T z) = λ z. ap (λ (y : ℕ). drop y z) (sym d) ∙ sym (drop-drop (N - T) T z) in
            c words₂ ∙ ap (drop (N - T)) w ∙ sym (c words₁) ∙ ap (drop N) list_is ∙ drop_at l (drop N words₀) N refl

        -- ---- the walk
        module _ (places₂ : List ℕ) (x : places₂ ≡ entries eight P ks ++ drop n places₁) where
          entries_is : places₂ ≡ entries eight P ks ++ drop n places₀
          entries_is = x ∙ ap (λ (z : List ℕ). entries eight P ks ++ z) (ap (drop n) leads_is ∙ drop_at (firsts eight P ks) (drop n places₀) n refl)

          -- ---- the list again, with what the notes left in the work bytes
          module _ (work₂ : List ℕ) (o : drop (length P.px) work₂ ≡ drop (length P.px) work₁) (u : length work₂ ≡ length work₁) where
            again : (list_verdict eight P ks work₂ words₂).number ≡ 0
            again = ap (λ (z : Verdict). z.number) (same_verdict P ks work₀ words₀ work₂ words₂ (u ∙ work_long) (k ∙ words_long)) ∙ v

            pub made : (r : Answer) (work₃ words₃ : List ℕ) → r ≡ list_answer eight P ks work₂ words₂ → work₃ ≡ list_work eight P ks work₂ words₂
                → words₃ ≡ list_words eight P ks work₂ words₂ → TreeMade P ks work₀ words₀ places₀ r work₃ words₃ places₂
            made r work₃ words₃ i j m =
                let y = list_verdict eight P ks work₂ words₂ in
                record {
                  answers = i ∙ done_answer y N (tally (flagged eight) l) again;
                  work_is =
                      j
                      ∙ done_after y work₂ (replicate (size P) 0 ++ drop (size P) work₂) again
                      ∙ ap (λ (z : List ℕ). replicate (size P) 0 ++ z) (subst (λ (z : ℕ). drop z work₂ ≡ drop z work₁) G.whole o ∙ ap (drop (size P)) work_is ∙ cleared_rest (size P) work₀);
                  words_are = m ∙ done_after y words₂ (l ++ drop N words₂) again ∙ ap (λ (z : List ℕ). l ++ z) rest_is;
                  places_are = entries_is;
                }
