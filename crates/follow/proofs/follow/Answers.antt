-- `follow`: the line begins at its lead, each step is the next crossing, and at the lead again the line is whole; there is a place for every word. Assumes nothing.
use Rattle.std.proofs.Common.{◌*◌, ◌/◌, ◌<◌, ◌∙◌, refl, sym, arith}
use borrow.Author.Tests.{eqb-true, eqb-false}
use Rattle.matte.specs.Layout.{layout_of}
use Rattle.matte.specs.Picture.{picture, size, high}
use Rattle.store.specs.Store.{samples_of}
use Rattle.follow.proofs.Tracing.{begin, place_in, place_up, placed, set_off}
use Rattle.follow.proofs.Arriving.{arrive, moving, arrive_tall, east_is, west_is, east_tall, west_tall, kept_long}
use Rattle.follow.proofs.follow.Goals as goal

pub at-requires : goal.at-requires
at-requires g c =
    let S = g.T.Sample in
    let W = g.P.Place.words in
    let a = c.args in
    let k = S.value a.k in
    let L = layout_of S.wide in
    let X = picture a.w a.h (samples_of S.wide a.px.now) in
    let r : 2 * a.e / 2 < size X = place_in X c.requires.0 k (2 * a.e) c.requires.3 in
    omega (arith, c.requires.0.whole)

pub loop-n-init : goal.loop-n-init
loop-n-init g c =
    let S = g.T.Sample in
    let W = g.P.Place.words in
    let a = c.args in
    let k = S.value a.k in
    let L = layout_of S.wide in
    let X = picture a.w a.h (samples_of S.wide a.px.now) in
    (refl, λ G o. begin X G k L a.m a.e o a.from a.work.now (W a.words.now) c.lead_state-s.result (c.lead_state-s.ensures (high X k) (rw (c.is_below.ensures, c.at.ensures) refl)))

pub stride-s-requires : goal.stride-s-requires
stride-s-requires g c =
    let S = g.T.Sample in
    let W = g.P.Place.words in
    let a = c.args in
    let k = S.value a.k in
    let L = layout_of S.wide in
    let X = picture a.w a.h (samples_of S.wide a.px.now) in
    let G = c.requires.0 in
    let o = c.requires.3 in
    let l = c.loop-n in
    let T = l.invariant.1 G o in
    (set_off X G k L a.m a.e o a.from a.work.now (W a.words.now) c.requires.4 l.n l.s l.work (W l.words) T, omega (arith, place_up X G k L a.m a.e o a.from a.work.now (W a.words.now) c.requires.4 l.n l.s l.work (W l.words) T, G.whole, c.requires.2, l.auto.work), omega (arith, placed X G k L a.m a.e o a.from a.work.now (W a.words.now) c.requires.4 l.n l.s l.work (W l.words) T, l.invariant.0), record { is = c.base_of-base.ensures.0; low = c.base_of-base.ensures.1 })

pub loop-k-init : goal.loop-k-init
loop-k-init g c =
    let S = g.T.Sample in
    let W = g.P.Place.words in
    let a = c.args in
    let k = S.value a.k in
    let L = layout_of S.wide in
    let X = picture a.w a.h (samples_of S.wide a.px.now) in
    let l = c.loop-n in
    let r = c.stride-s in (
      omega arith,
      kept_long _ _ _ _ _ r.ensures.2 l.invariant.0,
      λ G o. arrive X G k L a.m a.e o a.from a.work.now (W a.words.now) c.requires.4 l.n l.s l.work (W l.words) (l.invariant.1 G o) r.result (r.ensures.0 a.h) _ _ r.ensures.1 r.ensures.2,
    )

pub returns-then-limit-n : goal.returns-then-limit-n
returns-then-limit-n g c =
    let S = g.T.Sample in
    let W = g.P.Place.words in
    let a = c.args in
    let k = S.value a.k in
    let L = layout_of S.wide in
    let X = picture a.w a.h (samples_of S.wide a.px.now) in
    let G = c.requires.0 in
    let o = c.requires.3 in
    let l = c.loop-k in
    let f = east_is l.s.heading (sym c.heads_east.ensures ∙ c.loop-k-test.true) in
    let T = moving X G k L a.m a.e o a.from a.work.now (W a.words.now) c.requires.4 l.n l.s c.stride-s.new.work (W l.words) (east_tall l.s f) (l.invariant.2 G o) in
    absurd (omega (arith, c.if-limit-n.true, c.count-limit.ensures, placed X G k L a.m a.e o a.from a.work.now (W a.words.now) c.requires.4 l.n l.s c.stride-s.new.work (W l.words) T))

pub go_east-s-requires : goal.go_east-s-requires
go_east-s-requires g c =
    let S = g.T.Sample in
    let W = g.P.Place.words in
    let a = c.args in
    let k = S.value a.k in
    let L = layout_of S.wide in
    let X = picture a.w a.h (samples_of S.wide a.px.now) in
    let G = c.requires.0 in
    let o = c.requires.3 in
    let l = c.loop-k in
    let f = east_is l.s.heading (sym c.heads_east.ensures ∙ c.loop-k-test.true) in
    let T = moving X G k L a.m a.e o a.from a.work.now (W a.words.now) c.requires.4 l.n l.s c.stride-s.new.work (W l.words) (east_tall l.s f) (l.invariant.2 G o) in
    (set_off X G k L a.m a.e o a.from a.work.now (W a.words.now) c.requires.4 l.n l.s c.stride-s.new.work (W l.words) T, f, omega (arith, placed X G k L a.m a.e o a.from a.work.now (W a.words.now) c.requires.4 l.n l.s c.stride-s.new.work (W l.words) T, l.invariant.1), record { is = c.base_of-base.ensures.0; low = c.base_of-base.ensures.1 })

pub loop-k-preserved : goal.loop-k-preserved
loop-k-preserved g c =
    let S = g.T.Sample in
    let W = g.P.Place.words in
    let a = c.args in
    let k = S.value a.k in
    let L = layout_of S.wide in
    let X = picture a.w a.h (samples_of S.wide a.px.now) in
    let l = c.loop-k in
    let f = east_is l.s.heading (sym c.heads_east.ensures ∙ c.loop-k-test.true) in
    let r = c.go_east-s in (
      omega (arith, l.invariant.0),
      kept_long _ _ _ _ _ r.ensures.1 l.invariant.1,
      λ G o. arrive_tall X G k L a.m a.e o a.from a.work.now (W a.words.now) c.requires.4 l.n l.s c.stride-s.new.work (W l.words) (east_tall l.s f) (l.invariant.2 G o) r.result (r.ensures.0 a.h) _ r.ensures.1,
    )

pub returns-then-limit-n-2 : goal.returns-then-limit-n-2
returns-then-limit-n-2 g c =
    let S = g.T.Sample in
    let W = g.P.Place.words in
    let a = c.args in
    let k = S.value a.k in
    let L = layout_of S.wide in
    let X = picture a.w a.h (samples_of S.wide a.px.now) in
    let G = c.requires.0 in
    let o = c.requires.3 in
    let l = c.loop-k-2 in
    let f = west_is l.s.heading (sym c.heads_west.ensures ∙ c.loop-k-2-test.true) in
    let T = moving X G k L a.m a.e o a.from a.work.now (W a.words.now) c.requires.4 l.n l.s c.stride-s.new.work (W l.words) (west_tall l.s f) (l.invariant.2 G o) in
    absurd (omega (arith, c.if-limit-n-2.true, c.count-limit.ensures, placed X G k L a.m a.e o a.from a.work.now (W a.words.now) c.requires.4 l.n l.s c.stride-s.new.work (W l.words) T))

pub go_west-s-requires : goal.go_west-s-requires
go_west-s-requires g c =
    let S = g.T.Sample in
    let W = g.P.Place.words in
    let a = c.args in
    let k = S.value a.k in
    let L = layout_of S.wide in
    let X = picture a.w a.h (samples_of S.wide a.px.now) in
    let G = c.requires.0 in
    let o = c.requires.3 in
    let l = c.loop-k-2 in
    let f = west_is l.s.heading (sym c.heads_west.ensures ∙ c.loop-k-2-test.true) in
    let T = moving X G k L a.m a.e o a.from a.work.now (W a.words.now) c.requires.4 l.n l.s c.stride-s.new.work (W l.words) (west_tall l.s f) (l.invariant.2 G o) in
    (set_off X G k L a.m a.e o a.from a.work.now (W a.words.now) c.requires.4 l.n l.s c.stride-s.new.work (W l.words) T, f, omega (arith, placed X G k L a.m a.e o a.from a.work.now (W a.words.now) c.requires.4 l.n l.s c.stride-s.new.work (W l.words) T, l.invariant.1), record { is = c.base_of-base.ensures.0; low = c.base_of-base.ensures.1 })

pub loop-k-2-preserved : goal.loop-k-2-preserved
loop-k-2-preserved g c =
    let S = g.T.Sample in
    let W = g.P.Place.words in
    let a = c.args in
    let k = S.value a.k in
    let L = layout_of S.wide in
    let X = picture a.w a.h (samples_of S.wide a.px.now) in
    let l = c.loop-k-2 in
    let f = west_is l.s.heading (sym c.heads_west.ensures ∙ c.loop-k-2-test.true) in
    let r = c.go_west-s in (
      omega (arith, l.invariant.0),
      kept_long _ _ _ _ _ r.ensures.1 l.invariant.1,
      λ G o. arrive_tall X G k L a.m a.e o a.from a.work.now (W a.words.now) c.requires.4 l.n l.s c.stride-s.new.work (W l.words) (west_tall l.s f) (l.invariant.2 G o) r.result (r.ensures.0 a.h) _ r.ensures.1,
    )

pub returns-then-at_lead : goal.returns-then-at_lead
returns-then-at_lead g c =
    (c.loop-k-2.invariant.2 c.requires.0 c.requires.3).home (eqb-true _ _ (sym c.at_lead.ensures ∙ c.if-at_lead.true))

pub loop-n-preserved : goal.loop-n-preserved
loop-n-preserved g c =
    (c.loop-k-2.invariant.1, λ G o. (c.loop-k-2.invariant.2 G o).on (eqb-false _ _ (sym c.at_lead.ensures ∙ c.if-at_lead.false)))

pub returns : goal.returns
returns g c =
    let S = g.T.Sample in
    let W = g.P.Place.words in
    let a = c.args in
    let k = S.value a.k in
    let L = layout_of S.wide in
    let X = picture a.w a.h (samples_of S.wide a.px.now) in
    let G = c.requires.0 in
    let o = c.requires.3 in
    let l = c.loop-n in
    let T = l.invariant.1 G o in
    absurd (omega (arith, c.loop-n-test.false, c.count-limit.ensures, placed X G k L a.m a.e o a.from a.work.now (W a.words.now) c.requires.4 l.n l.s l.work (W l.words) T))
