-- The customer's second and third demand are about the memory that the caller sees: where a call answers 0, the first places of what it was lent hold what the demands speak of, and the rest is as it was. Assumes nothing.
-- Definitions: `Holds` of a buffer; `Property` of a call, `Done` what a contract allows with the number 0 has it; `ListHolds`, `TreeHolds`, `FrameHolds`, `PaintHolds`, `WriteHolds`, `ReadHolds`, `PgmHolds` the property for each call.
-- Main laws: `list_holds`, `tree_holds`, `frame_holds`, `paint_holds`, `write_holds`, `read_holds`, `pgm_holds` of the definitions that the contracts cite; `list_done` and so on of the contracts themselves, as in OneAnswer, `c_list_done`
--   and so on of the calls for C.
use mathlib.Core.Path.{◌≡◌, refl, sym, ap, ap₂, ◌∙◌}
use mathlib.Core.Bool.{true, ◌&&◌}
use mathlib.Core.List.{List, ◌++◌}
use Prim.Native.Nat.{ℕ, ◌*◌}
use lib.ListN.{length, take, drop, replicate, length-replicate}
use lib.Seq.{take_at, drop_at}
use contract.Lifetimes.{Lfts}
use denote.Triple.Entry.{Args, Res}
use denote.Triple.Clauses.{Ended, Lasts, AtExit, at_exit}
use Rattle.tally.specs.Tally.{tally}
use Rattle.tally.proofs.Build.{build_length}
use Rattle.refuse.specs.declared.Answer.{Answer}
use Rattle.refuse.specs.Refusal.{Verdict}
use Rattle.matte.specs.Layout.{eight}
use Rattle.matte.specs.Picture.{Picture, picture, size}
use Rattle.refuse.specs.Refusal.{answer, afterwards}
use Rattle.refuse.proofs.Rows.{done_answer, done_after}
use Rattle.edgel.specs.Word.{flagged}
use Rattle.outline.specs.List.{listed, list_verdict, list_answer, list_work, list_words}
use Rattle.enclosure.specs.Tree.{entries, entry, line_count}
use Rattle.enclosure.specs.Call.{tree_verdict, tree_answer, tree_work, tree_words, tree_entries}
use Rattle.enclosure.proofs.Numbers.{count_flags}
use Rattle.frame.specs.Frame.{framed, frame_verdict, frame_answer, frame_room}
use Rattle.paint.specs.Paint.{painting, paint_verdict, paint_answer, paint_room}
use Rattle.olr.specs.declared.Stored.{Stored}
use Rattle.olr.specs.File.{file, file_length, write_verdict, write_answer, write_room}
use Rattle.olr.specs.Read.{file_words, file_word_count, read_verdict, read_answer, read_words}
use Rattle.pgm.specs.declared.Grey.{Grey}
use Rattle.pgm.specs.Reader.{head_of}
use Rattle.pgm.specs.Call.{pgm_samples, pgm_verdict, pgm_answer, pgm_room}
use Rattle.pgm.proofs.Rows.{samples_length}
use Rattle.olr.proofs.Ascend.{levels_length}
use Rattle.olr.proofs.Taken.{words_length}
use Rattle.olr.proofs.There.{file_length_lem}
use Rattle.olr.proofs.Write.{writable}
use Rattle.trace.proofs as Trace
use Rattle.trace.specs.contracts as TraceContracts
use Rattle.tree.proofs as Tree
use Rattle.tree.specs.contracts as TreeContracts
use Rattle.tree.proofs.Verdicts.{passed_both}
use Rattle.frame.proofs as Frame
use Rattle.frame.specs.contracts as FrameContracts
use Rattle.paint.proofs as Paint
use Rattle.paint.specs.contracts as PaintContracts
use Rattle.olr.proofs as Olr
use Rattle.olr.specs.contracts as OlrContracts
use Rattle.pgm.proofs as Pgm
use Rattle.pgm.specs.contracts as PgmContracts
use Rattle.host.proofs as Host
use Rattle.host.specs.contracts as HostContracts
use Rattle.promises.proofs.RefusedExactly.{same_number}
use Rattle.promises.proofs.DemandThree.{Scan}
use Rattle.promises.proofs.DemandThreeWords.{setting}
use Rattle.promises.proofs.DemandTwoCalls.{list_scan}

-- of a buffer that held `was` and then holds `is`: the first n places are `new`, the rest is left
pub record Holds (n : ℕ) (new was is : List ℕ) : Type 0 where
  pub front : take n is ≡ new
  pub left : drop n is ≡ drop n was

holds_as : (n m : ℕ) (new was is then : List ℕ) → n ≡ m → is ≡ then → Holds m new was then → Holds n new was is
holds_as n m new was is then a b H =
    record { front = ap₂ (λ (i : ℕ) (l : List ℕ). take i l) a b ∙ H.front; left = ap₂ (λ (i : ℕ) (l : List ℕ). drop i l) a b ∙ H.left ∙ ap (λ (i : ℕ). drop i was) (sym a) }

filled : (v : Verdict) (n : ℕ) (new was : List ℕ) → length new ≡ n → v.number ≡ 0 → Holds n new was (afterwards v was (new ++ drop n was))
filled v n new was l e =
    holds_as n n new was _ (new ++ drop n was) refl (done_after v was (new ++ drop n was) e)
    (record { front = take_at new (drop n was) n l; left = drop_at new (drop n was) n l })

-- ---- of the definitions
module _ (P : Picture) (ks work out : List ℕ) where
  pub list_holds : (list_answer eight P ks work out).number ≡ 0
      → Holds (list_answer eight P ks work out).words (listed eight P ks) out (list_words eight P ks work out) × Holds (size P) (replicate (size P) 0) work (list_work eight P ks work out)
  list_holds e =
      let v = list_verdict eight P ks work out in
      let d : v.number ≡ 0 = sym (same_number v _ _) ∙ e in
      let n = ap (λ (a : Answer). a.words) (done_answer v (length (listed eight P ks)) (tally (flagged eight) (listed eight P ks)) d) in
      (holds_as _ _ _ out _ _ n refl (filled v (length (listed eight P ks)) (listed eight P ks) out refl d), filled v (size P) (replicate (size P) 0) work (length-replicate (size P) 0) d)

  module _ (tree : List ℕ) (e : (tree_answer eight P ks work out tree).number ≡ 0) where
    pub tree_scan : Scan P ks
    tree_scan = list_scan P ks work out (passed_both eight P ks work out tree (sym (same_number (tree_verdict eight P ks work out tree) _ _) ∙ e)).0

    pub tree_holds : Holds (tree_answer eight P ks work out tree).words (listed eight P ks) out (tree_words eight P ks work out tree)
        × Holds (tree_answer eight P ks work out tree).lines (entries eight P ks) tree (tree_entries eight P ks work out tree)
        × Holds (size P) (replicate (size P) 0) work (tree_work eight P ks work out tree)
    tree_holds =
        let v = tree_verdict eight P ks work out tree in
        let d : v.number ≡ 0 = sym (same_number v _ _) ∙ e in
        let r = done_answer v (length (listed eight P ks)) (tally (flagged eight) (listed eight P ks)) d in (
          holds_as _ _ _ out _ _ (ap (λ (a : Answer). a.words) r) refl (filled v (length (listed eight P ks)) (listed eight P ks) out refl d),
          holds_as _ _ _ tree _ _ (ap (λ (a : Answer). a.lines) r ∙ sym (count_flags (setting P ks tree_scan))) refl
              (filled v (line_count eight P ks) (entries eight P ks) tree (build_length (entry eight P ks) 0 (line_count eight P ks)) d),
          filled v (size P) (replicate (size P) 0) work (length-replicate (size P) 0) d,
        )

pub frame_holds : (P : Picture) (room : List ℕ) → (frame_answer eight P room).number ≡ 0 → Holds (size P) (framed eight P) room (frame_room eight P room)
unfolding framed
frame_holds P room e = let v = frame_verdict eight P room in filled v (size P) (framed eight P) room (build_length _ 0 (size P)) (sym (same_number v 0 0) ∙ e)

pub paint_holds : (w h v : ℕ) (ks ws room : List ℕ) → (paint_answer eight w h v ks ws room).number ≡ 0
    → Holds (w * h) (painting eight w h v ks ws) room (paint_room eight w h v ks ws room)
unfolding painting
paint_holds w h v ks ws room e =
    let t = paint_verdict eight w h v ks ws room in filled t (w * h) (painting eight w h v ks ws) room (build_length _ 0 (w * h)) (sym (same_number t 0 0) ∙ e)

pub write_holds : (w h v : ℕ) (ks ws room : List ℕ) → (write_answer w h v ks ws room).number ≡ 0
    → Holds (file_length w h v ks ws) (file w h v ks ws) room (write_room w h v ks ws room)
write_holds w h v ks ws room e =
    let t = write_verdict w h v ks ws room in
    let d : t.number ≡ 0 = sym (same_number t 0 0) ∙ e in
    filled t (file_length w h v ks ws) (file w h v ks ws) room (file_length_lem w h v ks ws (levels_length ks (writable w h v ks ws room d).levels)) d

pub read_holds : (f out : List ℕ) → (read_answer f out).answer.number ≡ 0 → Holds (read_answer f out).answer.words (file_words f) out (read_words f out)
read_holds f out e =
    let v = read_verdict f out in
    let d : v.number ≡ 0 = sym (same_number v (file_word_count f) (tally (flagged eight) (file_words f))) ∙ e in
    holds_as _ _ _ out _ _ (ap (λ (a : Answer). a.words) (done_answer v (file_word_count f) (tally (flagged eight) (file_words f)) d)) refl
    (filled v (file_word_count f) (file_words f) out (words_length f) d)

pub pgm_holds : (f room : List ℕ) → (pgm_answer f room).answer.number ≡ 0
    → Holds ((pgm_answer f room).width * (pgm_answer f room).height) (pgm_samples f (head_of f)) room (pgm_room f room)
pgm_holds f room e =
    let v = pgm_verdict f room in
    let h = head_of f in
    let d : v.number ≡ 0 = sym (same_number v 0 0) ∙ e in
    let n = ap₂ (λ (x y : ℕ). x * y) (done_after v 0 h.width d) (done_after v 0 h.height d) in
    holds_as _ _ _ room _ _ n refl (filled v (h.width * h.height) (pgm_samples f h) room (samples_length f h.plain (h.width * h.height) h.at) d)

-- ---- of the contracts: a property of the parameters, the result and the parameters afterwards, for a signature with what is lent
abbrev pub Property : Ended → Type 1
Property T = (κs : Lfts T.signature.lifetimes) → Args T.signature κs → Res T.signature κs → AtExit T κs → Type 0

-- C a contract, `number` the number that a result tells
module _ (T : Ended) (C : Property T) (number : (κs : Lfts T.signature.lifetimes) → Res T.signature κs → ℕ) where
  abbrev pub Done : Property T → Type 0
  Done Q =
      (κs : Lfts T.signature.lifetimes) (a : Args T.signature κs) (z : Res T.signature κs) (ws : Lasts T κs a) → C κs a z (at_exit T κs a ws)
      → number κs z ≡ 0 → Q κs a z (at_exit T κs a ws)

-- an answer that a contract equates with another has its number
number_of : (z r : Answer) → z ≡ r → z.number ≡ 0 → r.number ≡ 0
number_of z r p e = ap (λ (a : Answer). a.number) (sym p) ∙ e

abbrev pub ListHolds : Property TraceContracts.list.ended
ListHolds κs (w, (h, (px, (levels, (work, (words, u)))))) z (w', (h', (px', (levels', (work', (words', u')))))) =
    Holds z.words (listed eight (picture w h px.now) levels.now) words.now words'.now × Holds (w * h) (replicate (w * h) 0) work.now work'.now

pub list_done : Done TraceContracts.list.ended Trace.list.Reads.Learnt (λ κs z. z.number) ListHolds
list_done κs (w, (h, (px, (levels, (work, (words, u)))))) z ws p e =
    let H = list_holds (picture w h px.now) levels.now work.now words.now (number_of z _ p.0 e) in
    (holds_as _ _ _ _ _ _ (ap (λ (a : Answer). a.words) p.0) p.2 H.0, holds_as _ _ _ _ _ _ refl p.1 H.1)

abbrev pub TreeHolds : Property TreeContracts.tree.ended
TreeHolds κs (w, (h, (px, (levels, (work, (words, (places, u))))))) z (w', (h', (px', (levels', (work', (words', (places', u'))))))) =
    Holds z.words (listed eight (picture w h px.now) levels.now) words.now words'.now
    × Holds z.lines (entries eight (picture w h px.now) levels.now) places.now places'.now
    × Holds (w * h) (replicate (w * h) 0) work.now work'.now

pub tree_done : Done TreeContracts.tree.ended Tree.tree.Reads.Learnt (λ κs z. z.number) TreeHolds
tree_done κs (w, (h, (px, (levels, (work, (words, (places, u))))))) z ws p e =
    let H = tree_holds (picture w h px.now) levels.now work.now words.now places.now (number_of z _ p.0 e) in
    (holds_as _ _ _ _ _ _ (ap (λ (a : Answer). a.words) p.0) p.2 H.0, holds_as _ _ _ _ _ _ (ap (λ (a : Answer). a.lines) p.0) p.3 H.1, holds_as _ _ _ _ _ _ refl p.1 H.2)

abbrev pub FrameHolds : Property FrameContracts.frame_picture.ended
FrameHolds κs (w, (h, (px, (room, u)))) z (w', (h', (px', (room', u')))) = Holds (w * h) (framed eight (picture w h px.now)) room.now room'.now

pub frame_done : Done FrameContracts.frame_picture.ended Frame.frame_picture.Reads.Learnt (λ κs z. z.number) FrameHolds
frame_done κs (w, (h, (px, (room, u)))) z ws p e =
    holds_as _ _ _ _ _ _ refl p.1 (frame_holds (picture w h px.now) room.now (number_of z _ p.0 e))

abbrev pub PaintHolds : Property PaintContracts.paint_words.ended
PaintHolds κs (w, (h, (v, (levels, (words, (room, u)))))) z (w', (h', (v', (levels', (words', (room', u')))))) =
    Holds (w * h) (painting eight w h v levels.now words.now) room.now room'.now

pub paint_done : Done PaintContracts.paint_words.ended Paint.paint_words.Reads.Learnt (λ κs z. z.number) PaintHolds
paint_done κs (w, (h, (v, (levels, (words, (room, u)))))) z ws p e =
    holds_as _ _ _ _ _ _ refl p.1 (paint_holds w h v levels.now words.now room.now (number_of z _ p.0 e))

abbrev pub WriteHolds : Property OlrContracts.write_file.ended
WriteHolds κs (w, (h, (v, (levels, (words, (room, u)))))) z (w', (h', (v', (levels', (words', (room', u')))))) =
    Holds (file_length w h v levels.now words.now) (file w h v levels.now words.now) room.now room'.now

pub write_done : Done OlrContracts.write_file.ended Olr.write_file.Reads.Learnt (λ κs z. z.number) WriteHolds
write_done κs (w, (h, (v, (levels, (words, (room, u)))))) z ws p e =
    holds_as _ _ _ _ _ _ refl p.1 (write_holds w h v levels.now words.now room.now (number_of z _ p.0 e))

abbrev pub ReadHolds : Property OlrContracts.read_file.ended
ReadHolds κs (f, (words, u)) z (f', (words', u')) = Holds z.answer.words (file_words f.now) words.now words'.now

pub read_done : Done OlrContracts.read_file.ended Olr.read_file.Reads.Learnt (λ κs z. z.answer.number) ReadHolds
read_done κs (f, (words, u)) z ws p e =
    let q = ap (λ (s : Stored). s.answer) p.0 in
    holds_as _ _ _ _ _ _ (ap (λ (a : Answer). a.words) q) p.1 (read_holds f.now words.now (number_of z.answer _ q e))

abbrev pub PgmHolds : Property PgmContracts.read_pgm.ended
PgmHolds κs (f, (room, u)) z (f', (room', u')) = Holds (z.width * z.height) (pgm_samples f.now (head_of f.now)) room.now room'.now

pub pgm_done : Done PgmContracts.read_pgm.ended Pgm.read_pgm.Reads.Learnt (λ κs z. z.answer.number) PgmHolds
pgm_done κs (f, (room, u)) z ws p e =
    holds_as _ _ _ _ _ _ (ap (λ (s : Grey). s.width * s.height) p.0) p.1 (pgm_holds f.now room.now (number_of z.answer _ (ap (λ (s : Grey). s.answer) p.0) e))

-- ---- the calls for C, with the same contracts
pub c_list_done : Done HostContracts.loafcanyon_list.ended Host.loafcanyon_list.Reads.Learnt (λ κs z. z.number) ListHolds
c_list_done = list_done

pub c_tree_done : Done HostContracts.loafcanyon_tree.ended Host.loafcanyon_tree.Reads.Learnt (λ κs z. z.number) TreeHolds
c_tree_done = tree_done

pub c_frame_done : Done HostContracts.loafcanyon_frame.ended Host.loafcanyon_frame.Reads.Learnt (λ κs z. z.number) FrameHolds
c_frame_done = frame_done

pub c_paint_done : Done HostContracts.loafcanyon_paint.ended Host.loafcanyon_paint.Reads.Learnt (λ κs z. z.number) PaintHolds
c_paint_done = paint_done

pub c_write_done : Done HostContracts.loafcanyon_write.ended Host.loafcanyon_write.Reads.Learnt (λ κs z. z.number) WriteHolds
c_write_done = write_done

pub c_read_done : Done HostContracts.loafcanyon_read.ended Host.loafcanyon_read.Reads.Learnt (λ κs z. z.answer.number) ReadHolds
c_read_done = read_done

pub c_pgm_done : Done HostContracts.loafcanyon_pgm.ended Host.loafcanyon_pgm.Reads.Learnt (λ κs z. z.answer.number) PgmHolds
c_pgm_done = pgm_done
