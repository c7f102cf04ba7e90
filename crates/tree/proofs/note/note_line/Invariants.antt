-- `tree::note::note_line`: the loop is the walk of `Noting`. Assumes nothing.
use Rattle.std.proofs.Common.{◌≡◌, true, ◌*◌}
use Rattle.matte.specs.Picture.{picture}
use Rattle.outline.specs.Line.{cut_at}
use Rattle.refuse.specs.Shape.{Ground}
use Rattle.tree.proofs.Noting.{Noting}
use Rattle.tree.proofs.note.note_line.Given as goal

abbrev pub invariant-loop : goal.invariant-loop
invariant-loop l =
    (G : Ground (picture l.w l.h l.px)) (o : cut_at (picture l.w l.h l.px) l.k (2 * l.e) ≡ true) → Noting (picture l.w l.h l.px) G l.k l.st l.n l.e o l.fn.words l.counter l.s l.words
