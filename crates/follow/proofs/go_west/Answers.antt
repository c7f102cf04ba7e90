-- `go_west`: the step after a vertical crossing, and its word. Assumes nothing.
use Rattle.std.proofs.Common.{ℕ, set, false, ◌+◌, ◌*◌, ◌∙◌, sym, ap}
use Rattle.matte.specs.Layout.{layout_of}
use Rattle.matte.specs.Picture.{picture}
use Rattle.edgel.specs.declared.Heading.{Heading}
use Rattle.edgel.specs.declared.Heading.TheVariants.{West}
use Rattle.edgel.specs.Word.{word}
use Rattle.store.specs.Store.{samples_of}
use Rattle.step.specs.Step.{code_on, after}
use Rattle.step.proofs.Corner.{after_by}
use Rattle.follow.proofs.Plain.{plain_word}
use Rattle.follow.proofs.go_west.Goals as goal

pub returns : goal.returns
returns g c =
    let S = g.T.Sample in
    let a = c.args in
    let k = S.value a.k in
    let L = layout_of S.wide in
    let U = g.P.Place.words a.words.now in (
      λ h.
          let P = picture a.w h (samples_of S.wide a.px.now) in
          c.through.ensures h ∙ sym (after_by P c.number.result a.s West c.requires.1) ∙ ap (λ (z : ℕ). after P z a.s) c.number.ensures,
      c.put_tall.ensures ∙ ap (λ (v : ℕ). set U a.n v) (plain_word L (2 * a.s.place + 1) k a.base c.requires.3.is) ∙ ap (λ (d : Heading). set U a.n (word L (code_on d a.s.place) k false)) (sym c.requires.1),
    )
