-- `tree::walk::walk` meets its contract: each turn decides at one rank. Assumes nothing.
use Rattle.std.proofs.Common.{◌≡◌, ℕ, ◌+◌, ◌<◌, List, sym, subst, arith}
use Rattle.tally.specs.Tally as Tally
use Rattle.matte.specs.Layout.{eight}
use Rattle.matte.specs.Picture.{picture}
use Rattle.enclosure.specs.Tree.{entry}
use Rattle.enclosure.specs.Call.{heads}
use Rattle.enclosure.proofs.Walk.{Decided, decided_start, decided_end}
use Rattle.tree.proofs.Ranked.{setting_of}
use Rattle.tree.proofs.Walked.{line_in, step_ready, step_decided}
use Rattle.tree.proofs.walk.walk.Goals as goal

pub loop-r-init : goal.loop-r-init
loop-r-init c =
    let a = c.args in
    decided_start (setting_of (picture a.w a.h a.px.now) a.ks.now c.requires.0.ground c.requires.0.levels) (entry eight (picture a.w a.h a.px.now) a.ks.now) a.places.now

pub decide-requires : goal.decide-requires
decide-requires c =
    let a = c.args in
    let l = c.loop-r in
    let S = setting_of (picture a.w a.h a.px.now) a.ks.now c.requires.0.ground c.requires.0.levels in
    let t : l.r < Tally.total (heads (picture a.w a.h a.px.now)) a.ks.now = omega (arith, c.loop-r-test.true, c.crossings_of-total.ensures.0) in (
      omega (arith, c.requires.0.room),
      omega (arith, line_in (picture a.w a.h a.px.now) a.ks.now S a.words.now c.requires.1 a.places.now c.requires.0.long l.r t, l.auto.places),
      λ h. omega (arith, step_ready (picture a.w a.h a.px.now) a.ks.now S a.words.now c.requires.1 a.places.now c.requires.0.long l.r t h, l.auto.places),
    )

pub loop-r-preserved : goal.loop-r-preserved
loop-r-preserved c =
    let a = c.args in
    let l = c.loop-r in
    let P = picture a.w a.h a.px.now in
    let S = setting_of P a.ks.now c.requires.0.ground c.requires.0.levels in
    let t : l.r < Tally.total (heads P) a.ks.now = omega (arith, c.loop-r-test.true, c.crossings_of-total.ensures.0) in
    subst (λ (y : List ℕ). Decided eight P a.ks.now (entry eight P a.ks.now) a.places.now (l.r + 1) y) (sym c.decide.ensures)
    (step_decided P a.ks.now S a.words.now c.requires.1 a.places.now c.requires.0.long l.r t l.places l.invariant)

pub returns : goal.returns
returns c =
    let a = c.args in
    let l = c.loop-r in
    let P = picture a.w a.h a.px.now in
    let S = setting_of P a.ks.now c.requires.0.ground c.requires.0.levels in
    let e : l.r ≡ Tally.total (heads P) a.ks.now = omega (arith, c.loop-r-test.false, c.crossings_of-total.ensures.0) in
    decided_end S (entry eight P a.ks.now) a.places.now l.places (subst (λ (y : ℕ). Decided eight P a.ks.now (entry eight P a.ks.now) a.places.now y l.places) e l.invariant) c.requires.0.long
