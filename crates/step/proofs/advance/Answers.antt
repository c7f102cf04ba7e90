-- `advance`: the cell ahead is the one that is entered, by the heading. Assumes nothing.
use Rattle.std.proofs.Common.{◌∙◌, sym}
use Rattle.matte.specs.Picture.{picture}
use Rattle.edgel.specs.declared.Heading.TheVariants.{South, East, North, West}
use Rattle.store.specs.Store.{samples_of}
use Rattle.step.proofs.Corner.{after_by}
use Rattle.step.proofs.advance.Goals as goal

pub returns-in-South : goal.returns-in-South
returns-in-South g c h =
    let S = g.T.Sample in
    let a = c.args in
    c.through.ensures h ∙ sym (after_by (picture a.w h (samples_of S.wide a.px.now)) a.k a.s South c.in-South.is)

pub returns-in-East : goal.returns-in-East
returns-in-East g c h =
    let S = g.T.Sample in
    let a = c.args in
    c.through-in-East.ensures h ∙ sym (after_by (picture a.w h (samples_of S.wide a.px.now)) a.k a.s East c.in-East.is)

pub returns-in-North : goal.returns-in-North
returns-in-North g c h =
    let S = g.T.Sample in
    let a = c.args in
    c.through-in-North.ensures h ∙ sym (after_by (picture a.w h (samples_of S.wide a.px.now)) a.k a.s North c.in-North.is)

pub returns-in-West : goal.returns-in-West
returns-in-West g c h =
    let S = g.T.Sample in
    let a = c.args in
    c.through-in-West.ensures h ∙ sym (after_by (picture a.w h (samples_of S.wide a.px.now)) a.k a.s West c.in-West.is)
