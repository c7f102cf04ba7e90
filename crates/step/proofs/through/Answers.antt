-- `through`: the heading out is that of the four corners, found from the ends of the entry. Assumes nothing.
use Rattle.std.proofs.Common.{◌≡◌, ◌∙◌, ap}
use Rattle.matte.specs.Picture.{picture}
use Rattle.edgel.specs.declared.Heading.{Heading}
use Rattle.store.specs.Store.{samples_of}
use Rattle.cell.specs.Turn.{leave}
use Rattle.step.specs.Step.{leaving}
use Rattle.step.proofs.Corner.{leave_from}
use Rattle.step.proofs.through.Goals as goal

pub returns : goal.returns
returns g c h =
    let S = g.T.Sample in
    let a = c.args in
    let P = picture a.w h (samples_of S.wide a.px.now) in
    let out : c.turn.result ≡ leave P a.k a.g a.t = c.turn.ensures ∙ leave_from P a.k a.g a.t a.r a.l _ _ c.requires.3 c.requires.4 c.place_ahead-a.ensures c.place_ahead-b.ensures in
    c.leave_by.ensures ∙ ap (λ (o : Heading). leaving a.w o a.t) out
