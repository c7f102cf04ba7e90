-- `paint::paint_words` meets its contract: where no row refuses, the samples are painted level by level. Assumes nothing.
use Rattle.std.proofs.Common.{arith, ap, ◌∙◌, ◌++◌, drop, ◌*◌}
use Rattle.matte.specs.Layout.{eight}
use Rattle.refuse.specs.Refusal.{Verdict, answer, afterwards}
use Rattle.paint.specs.Paint.{painting}
use Rattle.paint.proofs.States.{painting_list}
use Rattle.paint.proofs.paint_words.Goals as goal

pub returns-in-Ok : goal.returns-in-Ok
returns-in-Ok c =
    let a = c.args in
    let v = c.in-Ok.ensures.0 in
    let q = c.in-Ok.ensures.1 in
    let done = painting eight a.w a.h a.v a.levels.now a.words.now ++ drop (a.w * a.h) a.room.now in (
      c.done.ensures ∙ ap (λ (z : Verdict). answer z 0 0) v,
      painting_list eight a.w a.v a.levels.now a.words.now (omega (arith, c.in-Ok.size.fits.w_least, q.0)) a.h a.room.now _ q.3 (rw (q.0, q.1) at c.add_levels.ensures)
          ∙ ap (λ (z : Verdict). afterwards z a.room.now done) v,
    )
