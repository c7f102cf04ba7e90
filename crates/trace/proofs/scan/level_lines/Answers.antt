-- `scan::level_lines`: each lead that is found has its line traced, and the scan goes on behind it. Assumes nothing.
use Rattle.std.proofs.Common.{true, ℕ, ◌+◌, ◌-◌, ◌*◌, ◌<◌, length, refl, ap, ◌∙◌, arith}
use Rattle.tally.specs.Tally.{first_from}
use Rattle.tally.proofs.First.{from_ge}
use Rattle.matte.specs.Layout.{layout_of}
use Rattle.matte.specs.Picture.{picture}
use Rattle.outline.specs.Line.{line}
use Rattle.store.specs.Store.{samples_of}
use Rattle.count.proofs.Counting.{row_fits}
use Rattle.follow.specs.Words.{upper}
use Rattle.follow.proofs.Plain.{pasted_length}
use Rattle.follow.proofs.Flag.{line_cons}
use Rattle.seek.specs.Search.{fresh}
use Rattle.trace.proofs.Level.{at_begin, to_lead, lead_here, line_room, line_passed, at_line, at_end}
use Rattle.trace.proofs.scan.level_lines.Goals as goal

pub loop-p-init : goal.loop-p-init
loop-p-init g c =
    let S = g.T.Sample in
    let W = g.P.Place.words in
    let a = c.args in
    let k = S.value a.k in
    let L = layout_of S.wide in
    let X = picture a.w a.h (samples_of S.wide a.bounds.now.px.now) in (
      refl,
      c.requires.0.fewer,
      λ Q.
          to_lead X Q.ground k L a.m a.st.words a.st.lines a.work.now (W a.words.now) Q.wide Q.room 0 c.search-p.result a.st a.work.now (W a.words.now)
          (at_begin X Q.ground k L a.m a.st.words a.st.lines a.work.now (W a.words.now) Q.wide Q.room Q.low a.st refl refl)
          (c.search-p.ensures ∙ ap (λ (n : ℕ). first_from (fresh X.px a.work.now k a.m) 0 (n - a.w - 0)) (c.count.ensures ∙ Q.ground.whole)),
    )

pub trace_line-n-requires : goal.trace_line-n-requires
trace_line-n-requires g c =
    let S = g.T.Sample in
    let W = g.P.Place.words in
    let a = c.args in
    let k = S.value a.k in
    let L = layout_of S.wide in
    let X = picture a.w a.h (samples_of S.wide a.bounds.now.px.now) in
    let Q = c.requires.0 in
    let l = c.loop-p in
    let Z = l.invariant.2 Q in
    let t : l.p < upper X = omega (arith, c.loop-p-test.true, c.count.ensures, Q.ground.whole) in
    (Q.ground, Q.level, omega (arith, Q.ground.whole, Q.wide, l.auto.work), lead_here X Q.ground k L a.m a.st.words a.st.lines a.work.now (W a.words.now) Q.wide Q.room l.p l.s l.work (W l.words) Z t, omega (arith, line_room X Q.ground k L a.m a.st.words a.st.lines a.work.now (W a.words.now) Q.wide Q.room l.p l.s l.work (W l.words) Z t, l.invariant.0), omega (arith, Q.codes, Q.ground.whole))

pub overflow_add-s : goal.overflow_add-s
overflow_add-s g c =
    let S = g.T.Sample in
    let W = g.P.Place.words in
    let a = c.args in
    let k = S.value a.k in
    let L = layout_of S.wide in
    let X = picture a.w a.h (samples_of S.wide a.bounds.now.px.now) in
    let Q = c.requires.0 in
    let l = c.loop-p in
    let Z = l.invariant.2 Q in
    let t : l.p < upper X = omega (arith, c.loop-p-test.true, c.count.ensures, Q.ground.whole) in
    let n = line_cons X Q.ground k (2 * l.p) (lead_here X Q.ground k L a.m a.st.words a.st.lines a.work.now (W a.words.now) Q.wide Q.room l.p l.s l.work (W l.words) Z t) in
    omega (arith, l.invariant.1, c.trace_line-n.ensures.0, ap length n.1)

pub search-p-requires-in-loop-p : goal.search-p-requires-in-loop-p
search-p-requires-in-loop-p g c =
    let S = g.T.Sample in
    let W = g.P.Place.words in
    let a = c.args in
    let k = S.value a.k in
    let L = layout_of S.wide in
    let X = picture a.w a.h (samples_of S.wide a.bounds.now.px.now) in
    let Q = c.requires.0 in
    let l = c.loop-p in
    let Z = l.invariant.2 Q in
    let t : l.p < upper X = omega (arith, c.loop-p-test.true, c.count.ensures, Q.ground.whole) in
    (omega (arith, c.loop-p-test.true), omega (arith, c.count.ensures, row_fits Q.ground, Q.ground.sides.w_least), omega (arith, c.trace_line-n.auto.work, l.auto.work, c.count.ensures, Q.ground.whole, Q.wide), omega (arith, c.count.ensures, c.requires.1), line_passed X Q.ground k L a.m a.st.words a.st.lines a.work.now (W a.words.now) Q.wide Q.room l.p l.s l.work (W l.words) Z t _ c.trace_line-n.ensures.1)

pub loop-p-smaller : goal.loop-p-smaller
loop-p-smaller g c =
    let S = g.T.Sample in
    let W = g.P.Place.words in
    let a = c.args in
    let k = S.value a.k in
    let L = layout_of S.wide in
    let X = picture a.w a.h (samples_of S.wide a.bounds.now.px.now) in
    let l = c.loop-p in
    omega (arith, c.loop-p-test.true, c.search-p-in-loop-p.ensures, from_ge (fresh X.px c.trace_line-n.new.work k a.m) (l.p + 1) (c.count.result - a.w - (l.p + 1)))

pub loop-p-preserved : goal.loop-p-preserved
loop-p-preserved g c =
    let S = g.T.Sample in
    let W = g.P.Place.words in
    let a = c.args in
    let k = S.value a.k in
    let L = layout_of S.wide in
    let X = picture a.w a.h (samples_of S.wide a.bounds.now.px.now) in
    let Q = c.requires.0 in
    let l = c.loop-p in
    let Z = l.invariant.2 Q in
    let t : l.p < upper X = omega (arith, c.loop-p-test.true, c.count.ensures, Q.ground.whole) in
    let r = c.trace_line-n in
    let n = line_cons X Q.ground k (2 * l.p) (lead_here X Q.ground k L a.m a.st.words a.st.lines a.work.now (W a.words.now) Q.wide Q.room l.p l.s l.work (W l.words) Z t) in
    let f = line_room X Q.ground k L a.m a.st.words a.st.lines a.work.now (W a.words.now) Q.wide Q.room l.p l.s l.work (W l.words) Z t in (
      omega (arith, ap length r.ensures.2, pasted_length L k true (W l.words) l.s.words (line X k (2 * l.p)) (omega (arith, f, l.invariant.0)), l.invariant.0),
      omega (arith, l.invariant.1, r.ensures.0, ap length n.1),
      λ Q.
          to_lead X Q.ground k L a.m a.st.words a.st.lines a.work.now (W a.words.now) Q.wide Q.room (l.p + 1) c.search-p-in-loop-p.result _ _ _
          (at_line X Q.ground k L a.m a.st.words a.st.lines a.work.now (W a.words.now) Q.wide Q.room l.p l.s l.work (W l.words) (l.invariant.2 Q) t _ _ _ r.ensures.0 refl r.ensures.1 r.ensures.2)
          (c.search-p-in-loop-p.ensures ∙ ap (λ (n : ℕ). first_from (fresh X.px r.new.work k a.m) (l.p + 1) (n - a.w - (l.p + 1))) (c.count.ensures ∙ Q.ground.whole)),
    )

pub returns : goal.returns
returns g c =
    let S = g.T.Sample in
    let W = g.P.Place.words in
    let a = c.args in
    let k = S.value a.k in
    let L = layout_of S.wide in
    let X = picture a.w a.h (samples_of S.wide a.bounds.now.px.now) in
    let Q = c.requires.0 in
    let l = c.loop-p in
    let D = at_end X Q.ground k L a.m a.st.words a.st.lines a.work.now (W a.words.now) Q.wide Q.room l.p l.s l.work (W l.words) (l.invariant.2 Q) (omega (arith, c.loop-p-test.false, c.count.ensures, Q.ground.whole)) in
    record { words_are = D.words_are; lines_are = D.lines_are; fewer = l.invariant.1; all = D.all; worn = D.worn }
