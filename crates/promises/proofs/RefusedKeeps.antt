-- The customer's first demand, of lent memory, as the caller sees it: where a call answers with a number that is not 0, all that it was handed is as it was. Assumes nothing.
-- It is said of the contracts themselves, as in OneAnswer.
-- Definitions: `Keeps` whatever result with a number other than 0 and last contents a contract allows, they are the first contents; `OnlyReads` they are with any result.
-- Main laws: `list_keeps` and so on, one for each call that is lent memory to write to, and for its call for C; `crossing_reads` and so on, the calls that are lent nothing to write to leave all as it was, whatever they
--   answer.
use mathlib.Core.Path.{◌≡◌, refl, ap, ◌∙◌}
use mathlib.Core.Logic.{◌≢◌}
use Prim.Native.Nat.{ℕ}
use contract.Lifetimes.{Lfts}
use denote.Ref.{at_last}
use denote.Triple.Entry.{Args, Res}
use denote.Triple.Clauses.{Ended, Lasts, AtExit, at_exit}
use Rattle.refuse.specs.declared.Answer.{Answer}
use Rattle.refuse.specs.Refusal.{Verdict}
use Rattle.matte.specs.Layout.{eight}
use Rattle.matte.specs.Picture.{picture}
use Rattle.refuse.specs.Refusal.{answer}
use Rattle.outline.specs.List.{list_verdict}
use Rattle.enclosure.specs.Call.{tree_verdict}
use Rattle.frame.specs.Frame.{frame_verdict}
use Rattle.paint.specs.Paint.{paint_verdict}
use Rattle.olr.specs.declared.Stored.{Stored}
use Rattle.olr.specs.File.{write_verdict}
use Rattle.olr.specs.Read.{read_verdict}
use Rattle.pgm.specs.declared.Grey.{Grey}
use Rattle.pgm.specs.Call.{pgm_verdict}
use Rattle.trace.proofs as Trace
use Rattle.trace.specs.contracts as TraceContracts
use Rattle.tree.proofs as Tree
use Rattle.tree.specs.contracts as TreeContracts
use Rattle.frame.proofs as Frame
use Rattle.frame.specs.contracts as FrameContracts
use Rattle.crossing.proofs as Crossing
use Rattle.crossing.specs.contracts as CrossingContracts
use Rattle.piece.proofs as Piece
use Rattle.piece.specs.contracts as PieceContracts
use Rattle.paint.proofs as Paint
use Rattle.paint.specs.contracts as PaintContracts
use Rattle.olr.proofs as Olr
use Rattle.olr.specs.contracts as OlrContracts
use Rattle.pgm.proofs as Pgm
use Rattle.pgm.specs.contracts as PgmContracts
use Rattle.form.proofs as Form
use Rattle.form.specs.contracts as FormContracts
use Rattle.host.proofs as Host
use Rattle.host.specs.contracts as HostContracts
use Rattle.promises.proofs.RefusedExactly.{refuses}
use Rattle.promises.proofs.DemandOne.{list_kept, tree_kept, frame_kept, paint_kept, write_kept, read_kept, pgm_kept}

-- T a signature with what is lent, C a contract of it; `number` the number that a result tells, `same` a call's parameters after it, taken as parameters
module _ (T : Ended) (C : (κs : Lfts T.signature.lifetimes) → Args T.signature κs → Res T.signature κs → AtExit T κs → Type 0)
    (number : (κs : Lfts T.signature.lifetimes) → Res T.signature κs → ℕ) (same : (κs : Lfts T.signature.lifetimes) → AtExit T κs → Args T.signature κs) where
  abbrev pub Keeps : Type 0
  Keeps =
      (κs : Lfts T.signature.lifetimes) (a : Args T.signature κs) (z : Res T.signature κs) (ws : Lasts T κs a) → C κs a z (at_exit T κs a ws)
      → number κs z ≢ 0 → same κs (at_exit T κs a ws) ≡ a

module _ (T : Ended) (C : (κs : Lfts T.signature.lifetimes) → Args T.signature κs → Res T.signature κs → AtExit T κs → Type 0)
    (same : (κs : Lfts T.signature.lifetimes) → AtExit T κs → Args T.signature κs) where
  abbrev pub OnlyReads : Type 0
  OnlyReads =
      (κs : Lfts T.signature.lifetimes) (a : Args T.signature κs) (z : Res T.signature κs) (ws : Lasts T κs a) → C κs a z (at_exit T κs a ws)
      → same κs (at_exit T κs a ws) ≡ a

-- an answer's number is that of the verdict that it is made from
refused_by : (v : Verdict) (words lines : ℕ) (r : Answer) → r ≡ answer v words lines → r.number ≢ 0 → v.number ≢ 0
refused_by v words lines r e q = refuses v words lines (λ z. q (ap (λ (x : Answer). x.number) e ∙ z))

-- ---- the calls of the base
pub list_keeps : Keeps TraceContracts.list.ended Trace.list.Reads.Learnt (λ κs z. z.number) (λ κs e. e)
list_keeps κs (w, (h, (px, (levels, (work, (words, u)))))) z ws p q =
    let P = picture w h px.now in
    let n = refused_by (list_verdict eight P levels.now work.now words.now) _ _ z p.0 q in
    let k = list_kept P levels.now work.now words.now n in
    λ i. (w, (h, (px, (levels, (at_last work ((p.1 ∙ k.0) i), (at_last words ((p.2 ∙ k.1) i), u))))))

pub tree_keeps : Keeps TreeContracts.tree.ended Tree.tree.Reads.Learnt (λ κs z. z.number) (λ κs e. e)
tree_keeps κs (w, (h, (px, (levels, (work, (words, (places, u))))))) z ws p q =
    let P = picture w h px.now in
    let n = refused_by (tree_verdict eight P levels.now work.now words.now places.now) _ _ z p.0 q in
    let k = tree_kept P levels.now work.now words.now places.now n in
    λ i. (w, (h, (px, (levels, (at_last work ((p.1 ∙ k.0) i), (at_last words ((p.2 ∙ k.1) i), (at_last places ((p.3 ∙ k.2) i), u)))))))

pub frame_keeps : Keeps FrameContracts.frame_picture.ended Frame.frame_picture.Reads.Learnt (λ κs z. z.number) (λ κs e. e)
frame_keeps κs (w, (h, (px, (room, u)))) z ws p q =
    let P = picture w h px.now in
    let n = refused_by (frame_verdict eight P room.now) 0 0 z p.0 q in
    λ i. (w, (h, (px, (at_last room ((p.1 ∙ frame_kept P room.now n) i), u))))

pub paint_keeps : Keeps PaintContracts.paint_words.ended Paint.paint_words.Reads.Learnt (λ κs z. z.number) (λ κs e. e)
paint_keeps κs (w, (h, (v, (levels, (words, (room, u)))))) z ws p q =
    let n = refused_by (paint_verdict eight w h v levels.now words.now room.now) 0 0 z p.0 q in
    λ i. (w, (h, (v, (levels, (words, (at_last room ((p.1 ∙ paint_kept w h v levels.now words.now room.now n) i), u))))))

pub write_keeps : Keeps OlrContracts.write_file.ended Olr.write_file.Reads.Learnt (λ κs z. z.number) (λ κs e. e)
write_keeps κs (w, (h, (v, (levels, (words, (file, u)))))) z ws p q =
    let n = refused_by (write_verdict w h v levels.now words.now file.now) 0 0 z p.0 q in
    λ i. (w, (h, (v, (levels, (words, (at_last file ((p.1 ∙ write_kept w h v levels.now words.now file.now n) i), u))))))

pub read_keeps : Keeps OlrContracts.read_file.ended Olr.read_file.Reads.Learnt (λ κs z. z.answer.number) (λ κs e. e)
read_keeps κs (file, (words, u)) z ws p q =
    let n = refused_by (read_verdict file.now words.now) _ _ z.answer (ap (λ (s : Stored). s.answer) p.0) q in
    λ i. (file, (at_last words ((p.1 ∙ read_kept file.now words.now n) i), u))

pub pgm_keeps : Keeps PgmContracts.read_pgm.ended Pgm.read_pgm.Reads.Learnt (λ κs z. z.answer.number) (λ κs e. e)
pgm_keeps κs (file, (room, u)) z ws p q =
    let n = refused_by (pgm_verdict file.now room.now) 0 0 z.answer (ap (λ (s : Grey). s.answer) p.0) q in
    λ i. (file, (at_last room ((p.1 ∙ pgm_kept file.now room.now n) i), u))

-- ---- the calls for C, with the same contracts
pub c_list_keeps : Keeps HostContracts.loafcanyon_list.ended Host.loafcanyon_list.Reads.Learnt (λ κs z. z.number) (λ κs e. e)
c_list_keeps = list_keeps

pub c_tree_keeps : Keeps HostContracts.loafcanyon_tree.ended Host.loafcanyon_tree.Reads.Learnt (λ κs z. z.number) (λ κs e. e)
c_tree_keeps = tree_keeps

pub c_frame_keeps : Keeps HostContracts.loafcanyon_frame.ended Host.loafcanyon_frame.Reads.Learnt (λ κs z. z.number) (λ κs e. e)
c_frame_keeps = frame_keeps

pub c_paint_keeps : Keeps HostContracts.loafcanyon_paint.ended Host.loafcanyon_paint.Reads.Learnt (λ κs z. z.number) (λ κs e. e)
c_paint_keeps = paint_keeps

pub c_write_keeps : Keeps HostContracts.loafcanyon_write.ended Host.loafcanyon_write.Reads.Learnt (λ κs z. z.number) (λ κs e. e)
c_write_keeps = write_keeps

pub c_read_keeps : Keeps HostContracts.loafcanyon_read.ended Host.loafcanyon_read.Reads.Learnt (λ κs z. z.answer.number) (λ κs e. e)
c_read_keeps = read_keeps

pub c_pgm_keeps : Keeps HostContracts.loafcanyon_pgm.ended Host.loafcanyon_pgm.Reads.Learnt (λ κs z. z.answer.number) (λ κs e. e)
c_pgm_keeps = pgm_keeps

-- ---- the calls that are lent nothing to write to
pub crossing_reads : OnlyReads CrossingContracts.crossing_at.ended Crossing.crossing_at.Reads.Learnt (λ κs e. e)
crossing_reads κs a z ws p = refl

pub piece_reads : OnlyReads PieceContracts.piece_at.ended Piece.piece_at.Reads.Learnt (λ κs e. e)
piece_reads κs a z ws p = refl

pub part_reads : OnlyReads PaintContracts.line_part.ended Paint.line_part.Reads.Learnt (λ κs e. e)
part_reads κs a z ws p = refl

pub start_reads : OnlyReads PaintContracts.start_of.ended Paint.start_of.Reads.Learnt (λ κs e. e)
start_reads κs a z ws p = refl

pub member_reads : OnlyReads PaintContracts.member.ended Paint.member.Reads.Learnt (λ κs e. e)
member_reads κs a z ws p = refl

pub form_reads : OnlyReads FormContracts.read_form.ended Form.read_form.Reads.Learnt (λ κs e. e)
form_reads κs a z ws p = refl

pub c_crossing_reads : OnlyReads HostContracts.loafcanyon_crossing.ended Host.loafcanyon_crossing.Reads.Learnt (λ κs e. e)
c_crossing_reads κs a z ws p = refl

pub c_piece_reads : OnlyReads HostContracts.loafcanyon_piece.ended Host.loafcanyon_piece.Reads.Learnt (λ κs e. e)
c_piece_reads κs a z ws p = refl

pub c_part_reads : OnlyReads HostContracts.loafcanyon_part.ended Host.loafcanyon_part.Reads.Learnt (λ κs e. e)
c_part_reads κs a z ws p = refl

pub c_member_reads : OnlyReads HostContracts.loafcanyon_member.ended Host.loafcanyon_member.Reads.Learnt (λ κs e. e)
c_member_reads κs a z ws p = refl
