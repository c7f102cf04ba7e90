-- The loop that follows one line: where it stands, and what it has written and marked. Assumes nothing.
-- Definitions: `Tracing` the loop's invariant at the crossing c.
-- Main laws: `ready` a crossing of the line enters a cell of the picture; `onward` the step is the next crossing; `begin`, `go`, `stop` the loop's moves: it begins at the
--   lead, goes on while the next crossing is not the lead, and has the whole line when it is; `placed` it never runs out of places.
use mathlib.Core.Path.{◌≡◌, refl, sym, ap, ◌∙◌}
use mathlib.Core.Bool.{Bool, true, false}
use mathlib.Core.List.{List, ◌++◌}
use mathlib.Core.Logic.{◌≢◌}
use Prim.Native.Nat.{ℕ, suc, ◌+◌, ◌*◌, ◌%◌, ◌≤◌, ◌<◌}
use native.Mathlib.Nat.{add-mod_right, mul-le-mul}
use native.Mathlib.Numerals.{add-one}
use native.Mathlib.Omega.{arith}
use lib.ListN.{length, take, drop, get_or, set}
use lib.Seq.{take-length, paste, paste-zero, paste-suc}
use Rattle.orbit.proofs.Orbit.{Closed}
use Rattle.orbit.proofs.Walk.{Walk, walk_begin, walk_go, walk_stop, walk_ok}
use Rattle.matte.specs.Layout.{Layout}
use Rattle.matte.specs.Picture.{Picture, size, high}
use Rattle.edgel.specs.declared.Heading.{Heading}
use Rattle.edgel.specs.declared.Heading.TheVariants.{South, East, North, West}
use Rattle.edgel.specs.Edgel.{first, heading_at}
use Rattle.edgel.specs.Word.{word}
use Rattle.cell.specs.Turn.{out, into, leave, next}
use Rattle.cell.proofs.Five.{back}
use Rattle.step.specs.declared.State.{State}
use Rattle.step.specs.Step.{code_at, state_at, after, entry, Ready}
use Rattle.step.proofs.Next.{state_code, after_state, ready_in}
use Rattle.outline.specs.Line.{cut_at, line}
use Rattle.outline.specs.List.{encode}
use Rattle.outline.proofs.Codes.{into_out, right_in}
use Rattle.outline.proofs.Entered.{heads, goes_heading}
use Rattle.outline.proofs.Paper.{bit, leave_is, entered_at, next_is, closed_at}
use Rattle.outline.proofs.Words.{encode_length, encode_plain}
use Rattle.outline.proofs.Bytes.{mark, mark_all, mark_take}
use Rattle.refuse.specs.Shape.{Ground}
use Rattle.count.proofs.Flat.{border_of, cut_above}
use Rattle.follow.specs.Words.{upper, pasted}

-- ---- states and cells
entry_first : (w : ℕ) (g : Heading) (t : ℕ) → first (out w (back g) t) ≡ entry w g t
entry_first w South t = omega arith
entry_first w East t = omega arith
entry_first w North t = omega arith
entry_first w West t = omega arith

module _ (P : Picture) (G : Ground P) (k : ℕ) where
  abbrev H : ℕ → Bool
  H = high P k

  pub place_in : (c : ℕ) → cut_at P k c ≡ true → first c < size P
  place_in c o = omega (arith, (closed_at P (border_of P G) k).bound c o)

  pub ready : (c : ℕ) → cut_at P k c ≡ true → Ready P.px P.w (state_at H c)
  ready c o =
      let E = entered_at P (border_of P G) k c o in
      let g : heading_at H c ≡ E.g = heads H (bit P k) P.w P.h c E in
      let m : (E.t + P.w) % P.w + 1 < P.w = rw (add-mod_right E.t P.w) E.here.col in
      let f : P.w * P.h ≤ 2048 * 2048 = mul-le-mul G.sides.w_most G.sides.h_most in
      ready_in P.px P.w E.t (state_at H c) G.sides.w_most (omega (arith, G.whole)) (omega (arith, G.whole, right_in P.w P.h (E.t + P.w) E.here.row m))
      (ap first E.code ∙ entry_first P.w E.g E.t ∙ ap (λ (z : Heading). entry P.w z E.t) (sym g))

  pub onward : (c : ℕ) → cut_at P k c ≡ true → after P k (state_at H c) ≡ state_at H (next P k c)
  onward c o =
      let E = entered_at P (border_of P G) k c o in
      let g : heading_at H c ≡ E.g = heads H (bit P k) P.w P.h c E in
      let t : into P.w (heading_at H c) c ≡ E.t =
      ap (λ (z : Heading). into P.w z c) g ∙ ap (into P.w E.g) E.code ∙ into_out P.w E.g E.t in
      after_state P k c
      (ap (heading_at H) (next_is P (border_of P G) k c o)
      ∙ goes_heading H (bit P k) P.w P.h c E
      ∙ sym (leave_is P k E.g E.t E.enter)
      ∙ ap (λ (z : Heading). leave P k z E.t) (sym g)
      ∙ ap (leave P k (heading_at H c)) (sym t))

  -- ---- the loop
  module _ (L : Layout) (m e : ℕ) (o : cut_at P k (2 * e) ≡ true) (from : ℕ) (work₀ words₀ : List ℕ) where
    abbrev a : ℕ
    a = 2 * e

    abbrev F : List ℕ
    F = encode L k false (line P k a)

    K : Closed (next P k) (cut_at P k) (2 * size P)
    K = closed_at P (border_of P G) k

    pub record Tracing (n : ℕ) (s : State) (work words : List ℕ) : Type 0 where
      pub c : ℕ
      pub i : ℕ
      pub state : s ≡ state_at H c
      pub done : n ≡ from + i
      pub walk : Walk (next P k) (2 * size P) a i c
      pub marks : work ≡ mark_all m work₀ (take i (line P k a))
      pub told : words ≡ paste words₀ from F i

    pub begin : (s : State) → s ≡ state_at H a → Tracing from s work₀ words₀
    unfolding mark_all
    begin s p =
        record { c = a; i = 0; state = p; done = omega arith; walk = walk_begin K a o; marks = refl; told = paste-zero words₀ from F }

    module _ (room : from + length (line P k a) ≤ length words₀) (n : ℕ) (s : State) (work words : List ℕ) (T : Tracing n s work words) where
      pub here : cut_at P k T.c ≡ true
      here = walk_ok K a o T.i T.c T.walk

      pub code_is : code_at s ≡ T.c
      code_is = ap code_at T.state ∙ state_code H T.c

      pub set_off : Ready P.px P.w s
      set_off = rw T.state (ready T.c here)

      pub place_up : s.place < upper P
      place_up = rw T.state (omega (arith, cut_above P G k T.c here))

      pub in_line : T.i < length (line P k a)
      unfolding line
      in_line = T.walk.inside

      -- there is a place for its word
      pub placed : n < length words₀
      placed = omega (arith, T.done, in_line, room)

      -- what one turn writes and marks
      wrote : (v : ℕ) → v ≡ word L T.c k false → set words n v ≡ paste words₀ from F (suc T.i)
      unfolding line
      wrote v p =
          let q : get_or F T.i 0 ≡ v = encode_plain L k (line P k a) T.i in_line ∙ ap (λ (z : ℕ). word L z k false) T.walk.here ∙ sym p in
          ap (λ (z : ℕ). set words z v) T.done
          ∙ ap (λ (l : List ℕ). set l (from + T.i) v) T.told
          ∙ ap (λ (z : ℕ). set (paste words₀ from F T.i) (from + T.i) z) (sym q)
          ∙ paste-suc words₀ from F T.i 0 (omega (arith, in_line)) (omega (arith, in_line, encode_length L k false (line P k a)))

      ticked : mark m work T.c ≡ mark_all m work₀ (take (suc T.i) (line P k a))
      unfolding line
      ticked =
          ap (λ (l : List ℕ). mark m l T.c) T.marks
          ∙ sym (mark_take (next P k) (2 * size P) a T.i T.c m work₀ T.walk)
          ∙ ap (λ (z : ℕ). mark_all m work₀ (take z (line P k a))) (add-one T.i)

      module _ (s' : State) (p : s' ≡ after P k s) where
        next_state : s' ≡ state_at H (next P k T.c)
        next_state = p ∙ ap (after P k) T.state ∙ onward T.c here

        pub next_code : code_at s' ≡ next P k T.c
        next_code = ap code_at next_state ∙ state_code H (next P k T.c)

        module _ (work' words' : List ℕ) (u : work' ≡ mark m work (code_at s)) (x : words' ≡ set words n (word L (code_at s) k false)) where
          marked' : work' ≡ mark_all m work₀ (take (suc T.i) (line P k a))
          marked' = u ∙ ap (mark m work) code_is ∙ ticked

          told' : words' ≡ paste words₀ from F (suc T.i)
          told' = x ∙ wrote (word L (code_at s) k false) (ap (λ (z : ℕ). word L z k false) code_is)

          pub go : code_at s' ≢ a → Tracing (n + 1) s' work' words'
          go q =
              record {
                c = next P k T.c;
                i = suc T.i;
                state = next_state;
                done = omega (arith, T.done);
                walk = walk_go K a o T.i T.c T.walk (λ z. q (next_code ∙ z));
                marks = marked';
                told = told';
              }

          pub stop : code_at s' ≡ a
              → (n + 1 ≡ from + length (line P k a)) × (work' ≡ mark_all m work₀ (line P k a)) × (words' ≡ pasted words₀ from F)
          unfolding line
          stop q =
              let z : suc T.i ≡ length (line P k a) = walk_stop K a o T.i T.c T.walk (sym next_code ∙ q) in
              let y : suc T.i ≡ length F = z ∙ sym (encode_length L k false (line P k a)) in (
                omega (arith, T.done),
                marked' ∙ ap (mark_all m work₀) (ap (λ (m : ℕ). take m (line P k a)) z ∙ take-length (line P k a)),
                told' ∙ ap (paste words₀ from F) y ∙ ap (λ (l : List ℕ). take from words₀ ++ l ++ drop (from + length F) words₀) (take-length F),
              )
