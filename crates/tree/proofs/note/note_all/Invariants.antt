-- `tree::note::note_all`: the lines passed are noted. Assumes nothing.
use Rattle.std.proofs.Common.{◌≡◌, drop}
use Rattle.tally.specs.Tally.{total}
use Rattle.matte.specs.Layout.{eight}
use Rattle.matte.specs.Picture.{picture}
use Rattle.enclosure.specs.Call.{heads}
use Rattle.enclosure.proofs.Notes.{Noted}
use Rattle.tree.specs.Note.{note_for}
use Rattle.tree.proofs.note.note_all.Given as goal

abbrev pub invariant-loop-m : goal.invariant-loop-m
invariant-loop-m l =
    Noted eight (picture l.w l.h l.px) l.ks (note_for (picture l.w l.h l.px) l.ks) l.m 0 l.words
    × (drop (total (heads (picture l.w l.h l.px)) l.ks) l.words ≡ drop (total (heads (picture l.w l.h l.px)) l.ks) l.fn.words)
