-- `trace::list` meets its contract: with no words, the work bytes are cleared; the bounds of any picture fit. Assumes nothing.
use Rattle.std.proofs.Common.{◌≡◌, sym, ap, ◌∙◌, List, [], ◌++◌, ℕ, length, drop, replicate}
use Rattle.tally.specs.Tally.{tally}
use Rattle.matte.specs.Layout.{eight}
use Rattle.matte.specs.Picture.{picture}
use Rattle.edgel.specs.Word.{flagged}
use Rattle.refuse.proofs.Rows.{silent, done_answer, done_after}
use Rattle.outline.specs.List.{listed, list_verdict}
use Rattle.trace.proofs.Refusals.{none, empty_answer, sound}
use Rattle.trace.proofs.list.Goals as goal

pub returns-in-Ok-eq0 : goal.returns-in-Ok-eq0
returns-in-Ok-eq0 c =
    let a = c.args in
    let v = list_verdict eight (picture a.w a.h a.px.now) a.levels.now a.work.now a.words.now in
    let l = listed eight (picture a.w a.h a.px.now) a.levels.now in
    let d = silent c.in-Ok-eq0.ensures.0 in
    let F = sound eight (picture a.w a.h a.px.now) a.levels.now a.work.now a.words.now d in
    let e : l ≡ [] = none l (sym c.in-Ok-eq0.ensures.1 ∙ c.in-Ok-eq0.field-0-test) in (
      c.done.ensures ∙ empty_answer eight l e ∙ sym (done_answer v (length l) (tally (flagged eight) l) d),
      c.clear.ensures ∙ ap (λ (y : ℕ). replicate y 0 ++ drop y a.work.now) F.ground.whole ∙ sym (done_after v a.work.now _ d),
      ap (λ (y : List ℕ). y ++ drop (length y) a.words.now) (sym e) ∙ sym (done_after v a.words.now (l ++ drop (length l) a.words.now) d),
    )
