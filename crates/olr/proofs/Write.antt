-- The refusals of writing, and the call. Assumes nothing.
-- Definitions: `Writable` what a call that is not refused has.
-- Main laws: `writable`, `accepted` what a verdict of 0 says, `write_done` and back;
--   `write_refused`, `write_written` the call.
use mathlib.Core.Path.{◌≡◌, refl, sym, ap, ◌∙◌}
use mathlib.Core.Bool.{true, ◌&&◌}
use mathlib.Core.List.{List, [], ◌∷◌, ◌++◌}
use Prim.Native.Nat.{ℕ, ◌+◌, ◌*◌, ◌≤◌}
use native.Mathlib.Omega.{arith}
use lib.Dec.{ltb}
use lib.ListN.{length, take, drop}
use lib.Seq.{take_at, drop-append-add, drop-drop}
use borrow.Author.Tests.{le-ltb, ltb-false}
use Rattle.tally.specs.Tally.{first_at}
use Rattle.refuse.specs.declared.Answer.{Answer}
use Rattle.refuse.specs.Refusal.{Verdict}
use Rattle.matte.specs.Layout.{eight}
use Rattle.matte.specs.Picture.{side_fits, levels_fit}
use Rattle.refuse.specs.Refusal.{Row, row, row_at, answer, levels_row}
use Rattle.refuse.proofs.Rows.{passed, fit, clean, clean_fit, done_after, refused_after}
use Rattle.words.specs.Fit.{bad_word, words_fit_row}
use Rattle.block.specs.Block.{pad, block}
use Rattle.olr.specs.File.{limit, header, blocks_for, word_blocks, file, file_length, write_verdict, write_answer, write_room}
use Rattle.olr.proofs.Ascend.{levels_length}
use Rattle.olr.proofs.Head.{head_length}

pub file_is : (w h v : ℕ) (ks ws : List ℕ) → file w h v ks ws ≡ block 0 (pad (header w h v ks (length ws))) ++ word_blocks 1 (blocks_for (length ws)) ws
unfolding file
file_is w h v ks ws = refl

module _ (w h v : ℕ) (ks ws : List ℕ) where
  pub record Writable (room : List ℕ) : Type 0 where
    pub sides : (side_fits w && side_fits h) ≡ true
    pub levels : levels_fit eight ks ≡ true
    pub most : length ws ≤ limit
    pub good : length ws ≤ first_at (bad_word eight w h ks) ws
    pub roomy : file_length w h v ks ws ≤ length room

  module _ (room : List ℕ) where
    abbrev needed : ℕ
    needed = file_length w h v ks ws

    abbrev r16 : Row
    r16 = row 16 (ltb limit (length ws))

    abbrev r8 : Row
    r8 = words_fit_row eight w h ks ws

    abbrev r15 : Row
    r15 = row_at 15 (ltb (length room) needed) needed

    pub writable : (write_verdict w h v ks ws room).number ≡ 0 → Writable room
    writable e =
        let a = clean_fit 1 (side_fits w && side_fits h) (levels_row eight ks ∷ r16 ∷ r8 ∷ r15 ∷ []) (λ z. omega arith) e in
        let b = clean_fit 3 (levels_fit eight ks) (r16 ∷ r8 ∷ r15 ∷ []) (λ z. omega arith) a.1 in
        let c = clean r16 (r8 ∷ r15 ∷ []) (λ z. omega arith) b.1 in
        let d = clean r8 (r15 ∷ []) (λ z. omega arith) c.1 in
        let f = clean r15 [] (λ z. omega arith) d.1 in
        record { sides = a.0; levels = b.0; most = ltb-false _ _ c.0; good = ltb-false _ _ d.0; roomy = ltb-false _ _ f.0 }

    pub accepted : (t : Verdict) → t ≡ write_verdict w h v ks ws room → t.number ≡ 0 → Writable room
    accepted t e z = writable (sym (ap (λ (u : Verdict). u.number) e) ∙ z)

    pub write_done : Writable room → (write_verdict w h v ks ws room).number ≡ 0
    write_done W =
        ap (λ (t : Verdict). t.number)
        (fit 1 (side_fits w && side_fits h) (levels_row eight ks ∷ r16 ∷ r8 ∷ r15 ∷ []) W.sides
        ∙ fit 3 (levels_fit eight ks) (r16 ∷ r8 ∷ r15 ∷ []) W.levels
        ∙ passed r16 (r8 ∷ r15 ∷ []) (le-ltb _ _ W.most)
        ∙ passed r8 (r15 ∷ []) (le-ltb _ _ W.good)
        ∙ passed r15 [] (le-ltb _ _ W.roomy))

    -- the call, refused
    pub write_refused : (t : Verdict) → t ≡ write_verdict w h v ks ws room → (t.number ≡ 0 → ⊥) → (r : Answer) → r ≡ answer t 0 0
        → (r ≡ write_answer w h v ks ws room) × (room ≡ write_room w h v ks ws room)
    write_refused t e z r q =
        let T = write_verdict w h v ks ws room in (
          q ∙ ap (λ (u : Verdict). answer u 0 0) e,
          sym (refused_after T room (file w h v ks ws ++ drop (file_length w h v ks ws) room) (λ y. z (ap (λ (u : Verdict). u.number) e ∙ y))),
        )

    -- the call, done: block 0, then the blocks of words
    pub write_written : (b c : List ℕ) (t : Verdict) → t ≡ write_verdict w h v ks ws room → t.number ≡ 0 → (r : Answer) → r ≡ answer t 0 0 → b ≡ block 0 (pad (header w h v ks (length ws)))
        → c ≡ (take 512 (b ++ drop 512 room) ++ word_blocks 1 (blocks_for (length ws)) ws) ++ drop (512 * (1 + blocks_for (length ws))) (b ++ drop 512 room)
        → (r ≡ write_answer w h v ks ws room) × (c ≡ write_room w h v ks ws room)
    write_written b c t x y r q e f =
        let T = write_verdict w h v ks ws room in
        let z : T.number ≡ 0 = sym (ap (λ (u : Verdict). u.number) x) ∙ y in
        let W = writable z in
        let n = length ws in
        let m = blocks_for n in
        let l : length b ≡ 512 = ap length e ∙ head_length w h v ks n (levels_length ks W.levels) in
        let k : 512 * (1 + m) ≡ length b + 512 * m = omega arith in
        let g : take 512 (b ++ drop 512 room) ≡ b = take_at b (drop 512 room) 512 l in
        let d : drop (512 * (1 + m)) (b ++ drop 512 room) ≡ drop (512 * (1 + m)) room =
        ap (λ (j : ℕ). drop j (b ++ drop 512 room)) k
        ∙ drop-append-add b (drop 512 room) (512 * m)
        ∙ drop-drop (512 * m) 512 room
        ∙ ap (λ (j : ℕ). drop j room) (let q : 512 + 512 * m ≡ 512 * (1 + m) = omega arith in q) in (
          q ∙ ap (λ (u : Verdict). answer u 0 0) x,
          f
              ∙ ap (λ (x : List ℕ). (x ++ word_blocks 1 m ws) ++ drop (512 * (1 + m)) (b ++ drop 512 room)) (g ∙ e)
              ∙ ap (λ (x : List ℕ). (block 0 (pad (header w h v ks n)) ++ word_blocks 1 m ws) ++ x) d
              ∙ ap (λ (x : List ℕ). x ++ drop (512 * (1 + m)) room) (sym (file_is w h v ks ws))
              ∙ sym (done_after T room (file w h v ks ws ++ drop (file_length w h v ks ws) room) z),
        )
