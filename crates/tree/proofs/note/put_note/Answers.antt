-- `tree::note::put_note` meets its contract. Assumes nothing.
use Rattle.std.proofs.Common.{ℕ, set, sym, ap, ◌∙◌}
use Rattle.tree.specs.Note.{rank_at}
use Rattle.tree.proofs.Noting.{note_flat, note_tall}
use Rattle.tree.proofs.note.put_note.Goals as goal

pub returns-then-level : goal.returns-then-level
returns-then-level c =
    let a = c.args in
    let h = sym (c.level.ensures a.s.place) ∙ c.if-level.true in
    ap (λ (z : ℕ). set a.words.now z c.note_of.result) c.rank_of-r.ensures
    ∙ ap (set a.words.now (rank_at a.st.now a.px.now a.k a.s.place)) c.note_of.ensures
    ∙ sym (note_flat a.st.now a.px.now a.k a.n a.e a.words.now a.s h)

pub returns-else-level : goal.returns-else-level
returns-else-level c =
    let a = c.args in
    sym (note_tall a.st.now a.px.now a.k a.n a.e a.words.now a.s (sym (c.level.ensures a.s.place) ∙ c.if-level.false))
