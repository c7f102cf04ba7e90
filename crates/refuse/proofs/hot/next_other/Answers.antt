-- `refuse::hot::next_other` meets its contract. Assumes nothing.
use Rattle.std.proofs.Common.{arith, sym, ap, not, true, ◌∙◌, ◌≡◌, ◌+◌, ◌-◌, ◌≤◌, eqb, ltb, get_or}
use borrow.Author.Tests.{ltb-true, ltb-false, not-false}
use Rattle.tally.specs.Tally.{every}
use Rattle.tally.proofs.Test.{by_test}
use Rattle.tally.proofs.First.{from_over}
use Rattle.tally.proofs.Every.{every_at}
use Rattle.refuse.specs.Ends.{other_at}
use Rattle.refuse.proofs.hot.next_other.Goals as goal

pub returns-then-not-all_like : goal.returns-then-not-all_like
returns-then-not-all_like c =
    let a = c.args in
    let l = c.loop-i in
    c.scan_other.ensures ∙ from_over (other_at a.px.now a.v) a.from l.i a.to l.invariant.0 l.invariant.1 l.invariant.2

pub loop-i-preserved : goal.loop-i-preserved
loop-i-preserved c =
    let a = c.args in
    let l = c.loop-i in
    let all : every (λ j. eqb (get_or a.px.now (l.i + j) 0) a.v) 64 ≡ true = sym c.all_like.ensures ∙ c.if-not-all_like.false in (
      omega (arith, l.invariant.0),
      omega (arith, c.loop-i-test.true),
      λ d x y.
          by_test (ltb d l.i)
          (λ e. l.invariant.2 d x (ltb-true d l.i e))
          (λ e.
          let u : l.i ≤ d = ltb-false d l.i e in
          let s : l.i + (d - l.i) ≡ d = omega arith in
          ap (other_at a.px.now a.v) (sym s) ∙ ap not (every_at (λ j. eqb (get_or a.px.now (l.i + j) 0) a.v) 64 all (d - l.i) (omega arith))),
    )

pub returns : goal.returns
returns c =
    let a = c.args in
    let l = c.loop-i in
    c.scan_other-2.ensures ∙ from_over (other_at a.px.now a.v) a.from l.i a.to l.invariant.0 l.invariant.1 l.invariant.2
