-- The customer's second demand, from call to call: what the list call left in the lent word places is painted back, and is stored and read back. Assumes nothing.
-- Definitions: `shown` the words that a list call that is done has handed over, read from the word places; `StoresBack` words are written and read back.
-- Main laws: `list_paints` painting them is done and leaves the stepped picture in the room; `list_matte` with all 255 levels the samples themselves; `list_stores` a file of them is written and reads back as the list, with
--   sides, border value and levels.
use mathlib.Core.Path.{◌≡◌, sym, ap, subst, ◌∙◌}
use mathlib.Core.List.{List, ◌++◌}
use Prim.Native.Nat.{ℕ, ◌-◌, ◌≤◌}
use lib.ListN.{length, take, drop, replicate}
use Rattle.tally.specs.Tally.{tally}
use Rattle.refuse.specs.Refusal.{Verdict}
use Rattle.matte.specs.Layout.{eight}
use Rattle.matte.specs.Picture.{Picture, size, at}
use Rattle.edgel.specs.Word.{flagged}
use Rattle.outline.specs.List.{listed, list_verdict, list_answer, list_words}
use Rattle.paint.specs.Paint.{painting, paint_verdict, paint_answer, paint_room}
use Rattle.olr.specs.File.{limit, file_length, write_verdict, write_answer, write_room}
use Rattle.olr.specs.Read.{read_answer, read_words}
use Rattle.promises.specs.Stepped.{stepped_picture, all_levels}
use Rattle.promises.proofs.RefusedExactly.{same_number}
use Rattle.promises.proofs.DemandThree.{Scan}
use Rattle.promises.proofs.DemandTwoPaint.{painted_is_stepped, painted_is_matte}
use Rattle.promises.proofs.DemandTwoCalls.{list_scan, list_whole, paints, writes, reads_list}
use Rattle.promises.proofs.DoneHolds.{Holds, list_holds, paint_holds}

-- the first places of the lent word places, as many as the answer says
abbrev pub shown : Picture → List ℕ → List ℕ → List ℕ → List ℕ
shown P ks work out = take (list_answer eight P ks work out).words (list_words eight P ks work out)

-- writing the words ws is done, and the file that it leaves in the room reads back as them, into any places that hold them
abbrev pub StoresBack : Picture → List ℕ → ℕ → List ℕ → List ℕ → Type 0
StoresBack P ks v room ws =
    ((write_answer P.w P.h v ks ws room).number ≡ 0)
    × ((places : List ℕ) → length ws ≤ length places
    → let f = take (file_length P.w P.h v ks ws) (write_room P.w P.h v ks ws room) in
    (read_words f places ≡ ws ++ drop (length ws) places) × (read_answer f places ≡ record {
      answer = record { number = 0; place = 0; words = length ws; lines = tally (flagged eight) ws };
      width = P.w;
      height = P.h;
      border = v;
      count = length ks;
      levels = ks ++ replicate (255 - length ks) 0;
    }))

module _ (P : Picture) (ks work out : List ℕ) (done : (list_answer eight P ks work out).number ≡ 0) where
  verdict_done : (list_verdict eight P ks work out).number ≡ 0
  verdict_done = sym (same_number (list_verdict eight P ks work out) _ _) ∙ done

  scan : Scan P ks
  scan = list_scan P ks work out verdict_done

  is_listed : listed eight P ks ≡ shown P ks work out
  is_listed = sym (list_holds P ks work out done).0.front

  -- ---- painting
  module _ (room : List ℕ) (roomy : size P ≤ length room) where
    -- of the list itself
    painted : (new : List ℕ) → painting eight P.w P.h (at P 0) ks (listed eight P ks) ≡ new
        → ((paint_answer eight P.w P.h (at P 0) ks (shown P ks work out) room).number ≡ 0) × Holds (size P) new room (paint_room eight P.w P.h (at P 0) ks (shown P ks work out) room)
    painted new e =
        let v = paint_verdict eight P.w P.h (at P 0) ks (listed eight P ks) room in
        let z : (paint_answer eight P.w P.h (at P 0) ks (listed eight P ks) room).number ≡ 0 = same_number v 0 0 ∙ ap (λ (t : Verdict). t.number) (paints P ks scan room roomy) in
        subst (λ (ws : List ℕ). ((paint_answer eight P.w P.h (at P 0) ks ws room).number ≡ 0) × Holds (size P) new room (paint_room eight P.w P.h (at P 0) ks ws room)) is_listed
        (z, subst (λ (l : List ℕ). Holds (size P) l room (paint_room eight P.w P.h (at P 0) ks (listed eight P ks) room)) e (paint_holds P.w P.h (at P 0) ks (listed eight P ks) room z))

    pub list_paints : ((paint_answer eight P.w P.h (at P 0) ks (shown P ks work out) room).number ≡ 0)
        × Holds (size P) (stepped_picture ks P) room (paint_room eight P.w P.h (at P 0) ks (shown P ks work out) room)
    list_paints = painted (stepped_picture ks P) (painted_is_stepped P ks scan)

  -- ---- storing
  module _ (v : ℕ) (room : List ℕ) (few : length (shown P ks work out) ≤ limit) (roomy : file_length P.w P.h v ks (shown P ks work out) ≤ length room) where
    pub list_stores : StoresBack P ks v room (shown P ks work out)
    list_stores =
        let ws = listed eight P ks in
        let a : length ws ≤ limit = subst (λ (l : List ℕ). length l ≤ limit) (sym is_listed) few in
        let b : file_length P.w P.h v ks ws ≤ length room = subst (λ (l : List ℕ). file_length P.w P.h v ks l ≤ length room) (sym is_listed) roomy in
        subst (StoresBack P ks v room) is_listed (
          same_number (write_verdict P.w P.h v ks ws room) 0 0 ∙ writes P ks scan v room a b,
          λ places h. reads_list P ks scan v room a b places h,
        )

-- a picture of bytes
pub list_matte : (P : Picture) (work out : List ℕ) → (list_answer eight P all_levels work out).number ≡ 0 → ((i : ℕ) → at P i ≤ 255) → (room : List ℕ) → size P ≤ length room
    → ((paint_answer eight P.w P.h (at P 0) all_levels (shown P all_levels work out) room).number ≡ 0)
    × Holds (size P) P.px room (paint_room eight P.w P.h (at P 0) all_levels (shown P all_levels work out) room)
list_matte P work out done q room roomy =
    painted P all_levels work out done room roomy P.px
    (painted_is_matte P (scan P all_levels work out done) (list_whole P all_levels work out (verdict_done P all_levels work out done)) q)
