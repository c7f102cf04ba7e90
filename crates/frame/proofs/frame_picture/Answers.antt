-- `frame::frame_picture` meets its contract: where no row refuses, every sample is written. Assumes nothing.
use Rattle.std.proofs.Common.{ap, ◌∙◌, ◌++◌, drop, ◌*◌}
use Rattle.matte.specs.Layout.{eight}
use Rattle.matte.specs.Picture.{picture}
use Rattle.refuse.specs.Refusal.{Verdict, answer, afterwards}
use Rattle.frame.specs.Frame.{framed}
use Rattle.frame.proofs.Writes.{framed_list}
use Rattle.frame.proofs.frame_picture.Goals as goal

pub returns-in-Ok : goal.returns-in-Ok
returns-in-Ok c =
    let a = c.args in
    let P = picture a.w a.h a.px.now in
    let v = c.in-Ok.ensures.0 in
    let q = c.in-Ok.ensures.1 in
    let done = framed eight P ++ drop (a.w * a.h) a.room.now in (
      c.done.ensures ∙ ap (λ (z : Verdict). answer z 0 0) v,
      framed_list a.w a.h _ a.px.now a.room.now _ (rw (q.0, q.1) at c.border_median-m.ensures) q.3 (rw (q.0, q.1) at c.frame_rows.ensures)
          ∙ ap (λ (z : Verdict). afterwards z a.room.now done) v,
    )
