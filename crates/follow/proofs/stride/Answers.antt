-- `stride`: the step after a crossing by its heading, its word and its mark. Assumes nothing.
use Rattle.std.proofs.Common.{ℕ, set, false, ◌*◌, ◌∙◌, sym, ap}
use Rattle.matte.specs.Layout.{layout_of}
use Rattle.matte.specs.Picture.{picture}
use Rattle.edgel.specs.declared.Heading.{Heading}
use Rattle.edgel.specs.declared.Heading.TheVariants.{South, North}
use Rattle.edgel.specs.Word.{word}
use Rattle.store.specs.Store.{samples_of}
use Rattle.step.specs.Step.{code_on, after}
use Rattle.step.proofs.Corner.{after_by}
use Rattle.follow.proofs.Plain.{plain_word}
use Rattle.follow.proofs.Places.{mark_flat, mark_tall}
use Rattle.follow.proofs.Arriving.{south_flat, north_flat, east_tall, west_tall}
use Rattle.follow.proofs.stride.Goals as goal

pub returns-in-South : goal.returns-in-South
returns-in-South g c =
    let S = g.T.Sample in
    let a = c.args in
    let k = S.value a.k in
    let L = layout_of S.wide in
    let U = g.P.Place.words a.words.now in (
      λ h.
          let P = picture a.w h (samples_of S.wide a.px.now) in
          c.through.ensures h ∙ sym (after_by P c.number.result a.s South c.in-South.is) ∙ ap (λ (z : ℕ). after P z a.s) c.number.ensures,
      c.put_flat.ensures.0 ∙ sym (mark_flat a.m a.work.now a.s (south_flat a.s c.in-South.is)),
      c.put_flat.ensures.1 ∙ ap (λ (v : ℕ). set U a.n v) (plain_word L (2 * a.s.place) k a.base c.requires.3.is) ∙ ap (λ (d : Heading). set U a.n (word L (code_on d a.s.place) k false)) (sym c.in-South.is),
    )

pub returns-in-East : goal.returns-in-East
returns-in-East g c =
    let a = c.args in
    (c.go_east.ensures.0, sym (mark_tall a.m a.work.now a.s (east_tall a.s c.in-East.is)), c.go_east.ensures.1)

pub returns-in-North : goal.returns-in-North
returns-in-North g c =
    let S = g.T.Sample in
    let a = c.args in
    let k = S.value a.k in
    let L = layout_of S.wide in
    let U = g.P.Place.words a.words.now in (
      λ h.
          let P = picture a.w h (samples_of S.wide a.px.now) in
          c.through-in-North.ensures h ∙ sym (after_by P c.number-in-North.result a.s North c.in-North.is) ∙ ap (λ (z : ℕ). after P z a.s) c.number-in-North.ensures,
      c.put_flat-in-North.ensures.0 ∙ sym (mark_flat a.m a.work.now a.s (north_flat a.s c.in-North.is)),
      c.put_flat-in-North.ensures.1 ∙ ap (λ (v : ℕ). set U a.n v) (plain_word L (2 * a.s.place) k a.base c.requires.3.is) ∙ ap (λ (d : Heading). set U a.n (word L (code_on d a.s.place) k false)) (sym c.in-North.is),
    )

pub returns-in-West : goal.returns-in-West
returns-in-West g c =
    let a = c.args in
    (c.go_west.ensures.0, sym (mark_tall a.m a.work.now a.s (west_tall a.s c.in-West.is)), c.go_west.ensures.1)
