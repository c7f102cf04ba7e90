-- `tree::rank::run_starts` meets its contract: each turn puts down one sum and finds the next. Assumes nothing.
use Rattle.std.proofs.Common.{◌≡◌, ◌+◌, ◌-◌, ◌*◌, ◌/◌, length, sym, ap, ◌∙◌, arith}
use Rattle.tree.specs.Note.{gaps}
use Rattle.tree.proofs.Sums.{gaps_none, running_none, running_more, running_starts}
use Rattle.tree.proofs.rank.run_starts.Goals as goal

pub loop-b-init : goal.loop-b-init
loop-b-init c =
    let a = c.args in
    (sym (gaps_none a.st.now a.px.now), omega arith, running_none a.st.now a.px.now a.work.now)

pub loop-b-preserved : goal.loop-b-preserved
loop-b-preserved c =
    let l = c.loop-b in
    let p = c.requires in
    let a = c.args in
    let r = c.sum_to-n in
    let s : 8 * l.b + 8 ≡ 8 * (l.b + 1) = omega arith in (
      r.ensures.0 ∙ ap (gaps a.st.now a.px.now) s,
      omega (arith, r.ensures.1),
      running_more a.st.now a.px.now a.work.now l.work _ l.b l.n c.put4.ensures (omega (arith, c.loop-b-test.true, p.0, p.2, l.invariant.2.long)) (omega (arith, c.loop-b-test.true, p.0)) p.1 l.invariant.0 l.invariant.1 l.invariant.2,
    )

pub returns : goal.returns
returns c =
    let p = c.requires in
    let a = c.args in
    let l = c.loop-b in
    let b = (length a.px.now - 1) / 8 in
    let e : l.b ≡ b = omega (arith, l.auto.b-end, c.loop-b-test.false) in
    let R = running_more a.st.now a.px.now a.work.now l.work _ b l.n c.put4-2.ensures (omega (arith, p.0, p.2, l.auto.work)) (omega (arith, p.0)) p.1 (rw e at l.invariant.0) (rw e at l.invariant.1) (rw e at l.invariant.2) in
    (running_starts a.st.now a.px.now a.work.now _ (b + 1) p.0 (omega (arith, p.2, R.long)) (omega arith) R, R.rest)
