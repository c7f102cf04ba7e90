-- `SlotBounds::next_live`: 16 slots more that are not live, and what is left is scanned. Assumes nothing.
use Rattle.std.proofs.Common.{◌≡◌, true, not, ◌+◌, ◌-◌, ◌≤◌, ltb, ◌∙◌, sym, ap, arith}
use borrow.Author.Tests.{ltb-true, ltb-false, not-true, not-false}
use Rattle.tally.specs.Tally.{every}
use Rattle.tally.proofs.Test.{by_test}
use Rattle.tally.proofs.First.{from_over}
use Rattle.tally.proofs.Every.{every_at}
use Rattle.store.specs.Store.{samples_of}
use Rattle.seek.specs.Search.{live_at}
use Rattle.seek.proofs.slot_bounds.SlotBounds.next_live.Goals as goal

pub returns-then-alive_in : goal.returns-then-alive_in
returns-then-alive_in g c =
    let S = g.T.Sample in
    let a = c.args in
    let l = c.loop-c in
    c.scan_live.ensures ∙ from_over (live_at (samples_of S.wide a.self.now.lo.now) (samples_of S.wide a.self.now.hi.now) (S.value a.k)) a.from l.c a.self.now.slots l.invariant.0 l.invariant.1 l.invariant.2

pub loop-c-preserved : goal.loop-c-preserved
loop-c-preserved g c =
    let S = g.T.Sample in
    let a = c.args in
    let l = c.loop-c in
    let live = live_at (samples_of S.wide a.self.now.lo.now) (samples_of S.wide a.self.now.hi.now) (S.value a.k) in
    let none : every (λ i. not (live (l.c + i))) 16 ≡ true = not-false _ (sym c.alive_in.ensures ∙ c.if-alive_in.false) in (
      omega arith,
      omega arith,
      λ d x y.
          by_test (ltb d l.c)
          (λ e. l.invariant.2 d x (ltb-true d l.c e))
          (λ e.
          let u : l.c ≤ d = ltb-false d l.c e in
          let s : l.c + (d - l.c) ≡ d = omega arith in
          ap live (sym s) ∙ not-true _ (every_at (λ i. not (live (l.c + i))) 16 none (d - l.c) (omega arith))),
    )

pub returns : goal.returns
returns g c =
    let S = g.T.Sample in
    let a = c.args in
    let l = c.loop-c in
    c.scan_live-2.ensures ∙ from_over (live_at (samples_of S.wide a.self.now.lo.now) (samples_of S.wide a.self.now.hi.now) (S.value a.k)) a.from l.c a.self.now.slots l.invariant.0 l.invariant.1 l.invariant.2
