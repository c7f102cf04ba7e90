-- `tree::note::note_line` meets its contract: the loop is the walk of `Noting`. Assumes nothing.
use Rattle.std.proofs.Common.{ℕ, ◌*◌, ◌/◌, ◌<◌, sym, ap, ◌∙◌, refl, arith}
use Rattle.std.proofs.lemmas.Bool.{eqb-true, eqb-false}
use Rattle.matte.specs.Picture.{picture, high}
use Rattle.count.proofs.Flat.{area_most}
use Rattle.step.specs.Step.{after}
use Rattle.follow.proofs.Tracing.{place_in}
use Rattle.tree.proofs.Noting.{begin, go, stop, never, place_is, flat_here, set_off}
use Rattle.tree.proofs.note.note_line.Goals as goal

pub bounds-px-e : goal.bounds-px-e
bounds-px-e c =
    let a = c.args in
    let r : 2 * a.e / 2 < a.w * a.h = place_in (picture a.w a.h a.px.now) c.requires.ground a.k (2 * a.e) c.requires.lead in
    omega (arith, c.requires.ground.whole)

pub loop-init : goal.loop-init
loop-init c =
    let a = c.args in
    λ G o. begin (picture a.w a.h a.px.now) G a.k a.st.now a.n a.e o a.words.now c.lead_state-s.result (c.lead_state-s.ensures (high (picture a.w a.h a.px.now) a.k) refl)

pub put_note-requires : goal.put_note-requires
put_note-requires c =
    let p = c.requires in
    let a = c.args in
    let l = c.loop in
    let T = l.invariant p.ground p.lead in
    let r : 2 * a.e / 2 < a.w * a.h = place_in (picture a.w a.h a.px.now) p.ground a.k (2 * a.e) p.lead in (
      area_most p.ground,
      p.level,
      p.rising,
      p.sums,
      p.few,
      omega (arith, p.ground.whole),
      omega (arith, p.ground.whole, place_is (picture a.w a.h a.px.now) p.ground a.k a.st.now a.n a.e p.lead a.words.now l.counter l.s l.words T),
      λ h. omega (arith, l.auto.words, p.room l.s.place (flat_here (picture a.w a.h a.px.now) p.ground a.k a.st.now a.n a.e p.lead a.words.now l.counter l.s l.words T h)),
    )

pub advance-s-requires : goal.advance-s-requires
advance-s-requires c =
    let p = c.requires in
    let a = c.args in
    let l = c.loop in
    set_off (picture a.w a.h a.px.now) p.ground a.k a.st.now a.n a.e p.lead a.words.now l.counter l.s l.words (l.invariant p.ground p.lead)

pub returns-then-at_lead : goal.returns-then-at_lead
returns-then-at_lead c =
    let p = c.requires in
    let a = c.args in
    let l = c.loop in
    stop (picture a.w a.h a.px.now) p.ground a.k a.st.now a.n a.e p.lead a.words.now l.counter l.s l.words (l.invariant p.ground p.lead) c.advance-s.result (c.advance-s.ensures a.h ∙ ap (λ (z : ℕ). after (picture a.w a.h a.px.now) z l.s) c.from.ensures) _ c.put_note.ensures
    (eqb-true _ _ (sym c.at_lead.ensures ∙ c.if-at_lead.true))

pub loop-preserved : goal.loop-preserved
loop-preserved c =
    let a = c.args in
    let l = c.loop in
    λ G o. go (picture a.w a.h a.px.now) G a.k a.st.now a.n a.e o a.words.now l.counter l.s l.words (l.invariant G o) c.advance-s.result (c.advance-s.ensures a.h ∙ ap (λ (z : ℕ). after (picture a.w a.h a.px.now) z l.s) c.from.ensures) _ c.put_note.ensures
    (eqb-false _ _ (sym c.at_lead.ensures ∙ c.if-at_lead.false))

pub returns : goal.returns
returns c =
    let p = c.requires in
    let a = c.args in
    let l = c.loop in
    absurd (omega (arith, c.loop-test.false, never (picture a.w a.h a.px.now) p.ground a.k a.st.now a.n a.e p.lead a.words.now l.counter l.s l.words (l.invariant p.ground p.lead), p.ground.whole))
