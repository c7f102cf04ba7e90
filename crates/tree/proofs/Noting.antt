-- The loop that follows one line and notes its horizontal crossings at their ranks. Assumes nothing.
-- Definitions: `Noting` the loop's invariant at the crossing c.
-- Main laws: `note_flat`, `note_tall` one crossing; `noted_length`, `all_length` the places stay as many; `begin`, `go`, `stop`, `never` the loop's moves.
use mathlib.Core.Path.{◌≡◌, refl, sym, ap, ◌∙◌}
use mathlib.Core.Bool.{Bool, true, false, cond}
use mathlib.Core.List.{List, [], ◌∷◌, ◌++◌}
use mathlib.Core.Logic.{◌≢◌}
use Prim.Native.Nat.{ℕ, suc, ◌+◌, ◌*◌, ◌%◌, ◌<◌}
use native.Mathlib.Numerals.{add-one}
use native.Mathlib.Omega.{arith}
use lib.ListN.{length, take, get_or, set, length-set}
use lib.Seq.{take-length}
use borrow.Author.Tests.{eqb-true}
use Rattle.tally.proofs.Test.{by_test}
use Rattle.tally.proofs.Count.{count_at}
use Rattle.tally.specs.Tally.{count}
use Rattle.orbit.proofs.Orbit.{Closed}
use Rattle.orbit.proofs.Walk.{Walk, walk_begin, walk_go, walk_stop, walk_ok, walk_room, walk_take}
use Rattle.matte.specs.Picture.{Picture, size, high}
use Rattle.edgel.specs.declared.Heading.{Heading}
use Rattle.edgel.specs.declared.Heading.TheVariants.{South, East, North, West}
use Rattle.edgel.specs.Edgel.{horizontal, first}
use Rattle.cell.specs.Turn.{next}
use Rattle.step.specs.declared.State.{State}
use Rattle.step.specs.Step.{code_on, code_at, state_at, after, Ready}
use Rattle.step.proofs.Next.{state_code}
use Rattle.outline.specs.Line.{cut_at, line}
use Rattle.outline.proofs.Paper.{closed_at}
use Rattle.refuse.specs.Shape.{Ground}
use Rattle.count.proofs.Flat.{border_of}
use Rattle.follow.proofs.Tracing.{place_in, ready, onward}
use Rattle.tree.specs.Note.{rank_at, note_at, noted, noted_all}

pub first_on : (g : Heading) (i : ℕ) → first (code_on g i) ≡ i
first_on South i = omega arith
first_on East i = omega arith
first_on North i = omega arith
first_on West i = omega arith

module _ (st px : List ℕ) (k n e : ℕ) where
  pub note_flat : (u : List ℕ) (s : State) → horizontal (code_at s) ≡ true → noted st px k n e u (code_at s) ≡ set u (rank_at st px k s.place) (note_at px k n e s.place)
  unfolding noted
  note_flat u s h =
      ap (λ (b : Bool). cond b (set u (rank_at st px k (first (code_at s))) (note_at px k n e (first (code_at s)))) u) h
      ∙ ap (λ (i : ℕ). set u (rank_at st px k i) (note_at px k n e i)) (first_on s.heading s.place)

  pub note_tall : (u : List ℕ) (s : State) → horizontal (code_at s) ≡ false → noted st px k n e u (code_at s) ≡ u
  unfolding noted
  note_tall u s h = ap (λ (b : Bool). cond b (set u (rank_at st px k (first (code_at s))) (note_at px k n e (first (code_at s)))) u) h

  pub noted_length : (u : List ℕ) (c : ℕ) → length (noted st px k n e u c) ≡ length u
  unfolding noted
  noted_length u c = by_test (horizontal c) (λ t. rw t (simp length-set)) (λ t. rw t)

  pub all_length : (u l : List ℕ) → length (noted_all st px k n e u l) ≡ length u
  unfolding noted_all
  all_length u [] = refl
  all_length u (c ∷ l) = all_length (noted st px k n e u c) l ∙ noted_length u c

  pub all_append : (u l : List ℕ) (c : ℕ) → noted_all st px k n e u (l ++ (c ∷ [])) ≡ noted st px k n e (noted_all st px k n e u l) c
  unfolding noted_all
  all_append u [] c = refl
  all_append u (d ∷ l) c = all_append (noted st px k n e u d) l c

module _ (P : Picture) (G : Ground P) (k : ℕ) (st : List ℕ) (n e : ℕ) (o : cut_at P k (2 * e) ≡ true) (u₀ : List ℕ) where
  abbrev H : ℕ → Bool
  H = high P k

  abbrev a : ℕ
  a = 2 * e

  K : Closed (next P k) (cut_at P k) (2 * size P)
  K = closed_at P (border_of P G) k

  abbrev all : List ℕ → List ℕ
  all l = noted_all st P.px k n e u₀ l

  pub record Noting (i : ℕ) (s : State) (u : List ℕ) : Type 0 where
    pub c : ℕ
    pub state : s ≡ state_at H c
    pub walk : Walk (next P k) (2 * size P) a i c
    pub told : u ≡ noted_all st P.px k n e u₀ (take i (line P k (2 * e)))

  pub begin : (s : State) → s ≡ state_at (high P k) (2 * e) → Noting 0 s u₀
  unfolding noted_all
  begin s p = record { c = a; state = p; walk = walk_begin K a o; told = refl }

  module _ (i : ℕ) (s : State) (u : List ℕ) (T : Noting i s u) where
    pub here : cut_at P k T.c ≡ true
    here = walk_ok K a o i T.c T.walk

    pub code_is : code_at s ≡ T.c
    code_is = ap code_at T.state ∙ state_code H T.c

    pub set_off : Ready P.px P.w s
    set_off = rw T.state (ready P G k T.c here)

    pub place_is : s.place < size P
    place_is = rw T.state (place_in P G k T.c here)

    -- a horizontal one stands on the line with its place's code
    pub flat_here : horizontal (code_at s) ≡ true → 0 < count (2 * s.place) (line P k (2 * e))
    unfolding line
    flat_here h =
        let q : 2 * s.place ≡ get_or (line P k a) i 0 = sym (flat_code s h) ∙ code_is ∙ sym T.walk.here in
        rw q (count_at (line P k a) i T.walk.inside)
      where
        on : (g : Heading) (j : ℕ) → horizontal (code_on g j) ≡ true → code_on g j ≡ 2 * j
        on South j t = refl
        on East j t = absurd (omega (arith, eqb-true ((2 * j + 1) % 2) 0 t))
        on North j t = refl
        on West j t = absurd (omega (arith, eqb-true ((2 * j + 1) % 2) 0 t))

        flat_code : (s : State) → horizontal (code_at s) ≡ true → code_at s ≡ 2 * s.place
        flat_code s t = on s.heading s.place t

    ticked : noted st P.px k n e u T.c ≡ all (take (suc i) (line P k a))
    unfolding line
    ticked =
        ap (λ (l : List ℕ). noted st P.px k n e l T.c) T.told
        ∙ sym (all_append st P.px k n e u₀ (take i (line P k a)) T.c)
        ∙ ap all (sym (walk_take (next P k) (2 * size P) a i T.c T.walk))
        ∙ ap (λ (z : ℕ). all (take z (line P k a))) (add-one i)

    module _ (s' : State) (p : s' ≡ after P k s) where
      next_state : s' ≡ state_at H (next P k T.c)
      next_state = p ∙ ap (after P k) T.state ∙ onward P G k T.c here

      next_code : code_at s' ≡ next P k T.c
      next_code = ap code_at next_state ∙ state_code H (next P k T.c)

      module _ (u' : List ℕ) (x : u' ≡ noted st P.px k n e u (code_at s)) where
        told' : u' ≡ all (take (suc i) (line P k a))
        told' = x ∙ ap (noted st P.px k n e u) code_is ∙ ticked

        pub go : code_at s' ≢ 2 * e → Noting (i + 1) s' u'
        go q =
            rw (add-one i)
            (record { c = next P k T.c; state = next_state; walk = walk_go K a o i T.c T.walk (λ z. q (next_code ∙ z)); told = told' })

        pub stop : code_at s' ≡ 2 * e → u' ≡ noted_all st P.px k n e u₀ (line P k (2 * e))
        unfolding line
        stop q =
            let z : suc i ≡ length (line P k a) = walk_stop K a o i T.c T.walk (sym next_code ∙ q) in
            told' ∙ ap all (ap (λ (m : ℕ). take m (line P k a)) z ∙ take-length (line P k a))

    pub never : i < 2 * size P
    never = walk_room K a o i T.c T.walk
