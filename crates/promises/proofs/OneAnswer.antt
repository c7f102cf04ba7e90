-- One answer: of the result and of all lent memory a contract leaves no choice, for any input, refused ones too. Assumes nothing.
-- It is said of the contracts themselves: `CContracts.f.ended` is the signature of the function f of the crate C with what it is lent (its contracts are named so), and `C.f.Reads.Learnt` what its proved contract tells of arguments, result and lent memory.
-- Definitions: `SettledAs` whatever two results, looked at in some way, and two last contents of all lent memory the contract allows for one input, they coincide; `Settled` the same of the results themselves; `seen` a
--   reference's address and contents.
-- Main laws: `settled_as` a contract that says what the result and each last content are settles them, `settled` the same of the result itself; `NAME-one` it for each call. `part_one` is of
--   what is `seen` of the part handed back: else a slice has only a name that no program has.
use mathlib.Core.Path.{◌≡◌, refl, sym, ap, ◌∙◌}
use Prim.Native.Nat.{ℕ}
use contract.Lifetimes.{Lfts}
use denote.Ref.{Bor}
use denote.Triple.Entry.{Args, Res}
use denote.Triple.Clauses.{Ended, Lasts, AtExit, at_exit}
use Rattle.trace.proofs as Trace
use Rattle.trace.specs.contracts as TraceContracts
use Rattle.tree.proofs as Tree
use Rattle.tree.specs.contracts as TreeContracts
use Rattle.frame.proofs as Frame
use Rattle.frame.specs.contracts as FrameContracts
use Rattle.crossing.proofs as Crossing
use Rattle.crossing.specs.contracts as CrossingContracts
use Rattle.piece.proofs as Piece
use Rattle.piece.specs.contracts as PieceContracts
use Rattle.piece.proofs.Back.{found_by, found_back}
use Rattle.paint.proofs as Paint
use Rattle.paint.specs.contracts as PaintContracts
use Rattle.olr.proofs as Olr
use Rattle.olr.specs.contracts as OlrContracts
use Rattle.pgm.proofs as Pgm
use Rattle.pgm.specs.contracts as PgmContracts
use Rattle.form.proofs as Form
use Rattle.form.specs.contracts as FormContracts
use Rattle.text.proofs as Text
use Rattle.text.specs.contracts as TextContracts
use Rattle.host.proofs as Host
use Rattle.host.specs.contracts as HostContracts

-- all of a reference that a program has: its address and what lies there
abbrev pub seen : {A : Type 0} → Bor A → (ℕ × ℕ) × A
seen z = (z.ref_ptr, z.now)

-- T a signature with what is lent, C a contract of it
module _ (T : Ended) (C : (κs : Lfts T.signature.lifetimes) → Args T.signature κs → Res T.signature κs → AtExit T κs → Type 0) where
  module _ {X : Lfts T.signature.lifetimes → Type 0} (see : (κs : Lfts T.signature.lifetimes) → Res T.signature κs → X κs) where
    -- a the arguments, z a result, ws the last contents of what was lent to be written to
    abbrev pub SettledAs : Type 0
    SettledAs =
        (κs : Lfts T.signature.lifetimes) (a : Args T.signature κs) (z z' : Res T.signature κs) (ws ws' : Lasts T κs a) → C κs a z (at_exit T κs a ws)
        → C κs a z' (at_exit T κs a ws') → (see κs z ≡ see κs z') × (ws ≡ ws')

    pub settled_as : {f : (κs : Lfts T.signature.lifetimes) → Args T.signature κs → X κs} {g : (κs : Lfts T.signature.lifetimes) (a : Args T.signature κs) → Lasts T κs a}
        → ((κs : Lfts T.signature.lifetimes) (a : Args T.signature κs) (z : Res T.signature κs) (ws : Lasts T κs a) → C κs a z (at_exit T κs a ws) → (see κs z ≡ f κs a) × (ws ≡ g κs a)) → SettledAs
    settled_as says κs a z z' ws ws' p q =
        let x = says κs a z ws p in
        let y = says κs a z' ws' q in
        (x.0 ∙ sym y.0, x.1 ∙ sym y.1)

  abbrev pub Settled : Type 0
  Settled = SettledAs (λ κs z. z)

  pub settled : {f : (κs : Lfts T.signature.lifetimes) → Args T.signature κs → Res T.signature κs} {g : (κs : Lfts T.signature.lifetimes) (a : Args T.signature κs) → Lasts T κs a}
      → ((κs : Lfts T.signature.lifetimes) (a : Args T.signature κs) (z : Res T.signature κs) (ws : Lasts T κs a) → C κs a z (at_exit T κs a ws) → (z ≡ f κs a) × (ws ≡ g κs a)) → Settled
  settled says = settled_as (λ κs z. z) says

-- ---- the calls of the base
pub list_one : Settled TraceContracts.list.ended Trace.list.Reads.Learnt
list_one = settled TraceContracts.list.ended Trace.list.Reads.Learnt (λ κs a z ws p. (p.0, λ i. (tt, (tt, (tt, (tt, (p.1 i, (p.2 i, tt))))))))

pub tree_one : Settled TreeContracts.tree.ended Tree.tree.Reads.Learnt
tree_one = settled TreeContracts.tree.ended Tree.tree.Reads.Learnt (λ κs a z ws p. (p.0, λ i. (tt, (tt, (tt, (tt, (p.1 i, (p.2 i, (p.3 i, tt)))))))))

pub frame_one : Settled FrameContracts.frame_picture.ended Frame.frame_picture.Reads.Learnt
frame_one = settled FrameContracts.frame_picture.ended Frame.frame_picture.Reads.Learnt (λ κs a z ws p. (p.0, λ i. (tt, (tt, (tt, (p.1 i, tt))))))

pub crossing_one : Settled CrossingContracts.crossing_at.ended Crossing.crossing_at.Reads.Learnt
crossing_one = settled CrossingContracts.crossing_at.ended Crossing.crossing_at.Reads.Learnt (λ κs a z ws p. (p, refl))

pub piece_one : Settled PieceContracts.piece_at.ended Piece.piece_at.Reads.Learnt
piece_one = settled PieceContracts.piece_at.ended Piece.piece_at.Reads.Learnt (λ κs a z ws p. (sym (found_back z) ∙ ap found_by p, refl))

pub part_one : SettledAs PaintContracts.line_part.ended Paint.line_part.Reads.Learnt (λ κs z. seen z)
part_one = settled_as PaintContracts.line_part.ended Paint.line_part.Reads.Learnt (λ κs z. seen z) (λ κs a z ws p. (λ i. (p.1 i, p.0 i), refl))

pub start_one : Settled PaintContracts.start_of.ended Paint.start_of.Reads.Learnt
start_one = settled PaintContracts.start_of.ended Paint.start_of.Reads.Learnt (λ κs a z ws p. (p, refl))

pub member_one : Settled PaintContracts.member.ended Paint.member.Reads.Learnt
member_one = settled PaintContracts.member.ended Paint.member.Reads.Learnt (λ κs a z ws p. (p, refl))

pub paint_one : Settled PaintContracts.paint_words.ended Paint.paint_words.Reads.Learnt
paint_one = settled PaintContracts.paint_words.ended Paint.paint_words.Reads.Learnt (λ κs a z ws p. (p.0, λ i. (tt, (tt, (tt, (tt, (tt, (p.1 i, tt))))))))

pub write_one : Settled OlrContracts.write_file.ended Olr.write_file.Reads.Learnt
write_one = settled OlrContracts.write_file.ended Olr.write_file.Reads.Learnt (λ κs a z ws p. (p.0, λ i. (tt, (tt, (tt, (tt, (tt, (p.1 i, tt))))))))

pub read_one : Settled OlrContracts.read_file.ended Olr.read_file.Reads.Learnt
read_one = settled OlrContracts.read_file.ended Olr.read_file.Reads.Learnt (λ κs a z ws p. (p.0, λ i. (tt, (p.1 i, tt))))

pub pgm_one : Settled PgmContracts.read_pgm.ended Pgm.read_pgm.Reads.Learnt
pgm_one = settled PgmContracts.read_pgm.ended Pgm.read_pgm.Reads.Learnt (λ κs a z ws p. (p.0, λ i. (tt, (p.1 i, tt))))

-- ---- the calls of the listing program
pub form_one : Settled FormContracts.read_form.ended Form.read_form.Reads.Learnt
form_one = settled FormContracts.read_form.ended Form.read_form.Reads.Learnt (λ κs a z ws p. (p, refl))

pub listing_one : Settled TextContracts.put_listing.ended Text.put_listing.Reads.Learnt
listing_one = settled TextContracts.put_listing.ended Text.put_listing.Reads.Learnt (λ κs a z ws p. (p.next, λ i. (p.is i, (tt, (tt, (tt, (tt, (tt, (tt, (tt, tt))))))))))

pub refused_one : Settled TextContracts.put_refused.ended Text.put_refused.Reads.Learnt
refused_one = settled TextContracts.put_refused.ended Text.put_refused.Reads.Learnt (λ κs a z ws p. (p.next, λ i. (p.is i, (tt, tt))))

pub not_form_one : Settled TextContracts.put_not_form.ended Text.put_not_form.Reads.Learnt
not_form_one = settled TextContracts.put_not_form.ended Text.put_not_form.Reads.Learnt (λ κs a z ws p. (p.next, λ i. (p.is i, tt)))

-- ---- the calls for C: those with the contract of a call of the base are settled as it is
pub c_list_one : Settled HostContracts.loafcanyon_list.ended Host.loafcanyon_list.Reads.Learnt
c_list_one = list_one

pub c_tree_one : Settled HostContracts.loafcanyon_tree.ended Host.loafcanyon_tree.Reads.Learnt
c_tree_one = tree_one

pub c_crossing_one : Settled HostContracts.loafcanyon_crossing.ended Host.loafcanyon_crossing.Reads.Learnt
c_crossing_one = crossing_one

pub c_piece_one : Settled HostContracts.loafcanyon_piece.ended Host.loafcanyon_piece.Reads.Learnt
c_piece_one = settled HostContracts.loafcanyon_piece.ended Host.loafcanyon_piece.Reads.Learnt (λ κs a z ws p. (p, refl))

pub c_frame_one : Settled HostContracts.loafcanyon_frame.ended Host.loafcanyon_frame.Reads.Learnt
c_frame_one = frame_one

pub c_part_one : Settled HostContracts.loafcanyon_part.ended Host.loafcanyon_part.Reads.Learnt
c_part_one = settled HostContracts.loafcanyon_part.ended Host.loafcanyon_part.Reads.Learnt (λ κs a z ws p. (p, refl))

pub c_member_one : Settled HostContracts.loafcanyon_member.ended Host.loafcanyon_member.Reads.Learnt
c_member_one = member_one

pub c_paint_one : Settled HostContracts.loafcanyon_paint.ended Host.loafcanyon_paint.Reads.Learnt
c_paint_one = paint_one

pub c_write_one : Settled HostContracts.loafcanyon_write.ended Host.loafcanyon_write.Reads.Learnt
c_write_one = write_one

pub c_read_one : Settled HostContracts.loafcanyon_read.ended Host.loafcanyon_read.Reads.Learnt
c_read_one = read_one

pub c_pgm_one : Settled HostContracts.loafcanyon_pgm.ended Host.loafcanyon_pgm.Reads.Learnt
c_pgm_one = pgm_one
