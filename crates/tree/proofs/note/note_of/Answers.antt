-- `tree::note::note_of` meets its contract. Assumes nothing.
use Rattle.std.proofs.Common.{Bool, eqb, ltb, get_or, ap, ◌∙◌}
use Rattle.tree.specs.Note.{note_of, note_at}
use Rattle.tree.proofs.Sums.{alike}
use Rattle.tree.proofs.note.note_of.Goals as goal

pub returns : goal.returns
unfolding note_at
returns c =
    let a = c.args in
    let x = ltb a.k (get_or a.px.now a.i 0) in
    let y = ltb a.k (get_or a.px.now a.e 0) in
    c.note_word.ensures ∙ ap (λ (z : Bool). note_of a.n z (eqb a.i a.e) y) (alike x y)
