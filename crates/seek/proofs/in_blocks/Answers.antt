-- `in_blocks`: the first fresh place of the first block that has one, or none. Assumes nothing.
use Rattle.std.proofs.Common.{◌+◌, ◌*◌, refl, arith}
use Rattle.store.specs.Store.{samples_of}
use Rattle.seek.proofs.Blocks.{stale_on, or_found, or_none}
use Rattle.seek.proofs.in_blocks.Goals as goal

pub returns-then-i-lt64 : goal.returns-then-i-lt64
returns-then-i-lt64 g c =
    let S = g.T.Sample in
    let a = c.args in
    let l = c.loop-c in
    let R = c.seen_in-i.ensures in
    let X = samples_of S.wide a.px.now in
    rw c.from.ensures
    (or_found X a.work.now (S.value a.k) a.m (64 * a.b) (64 * a.e) a.end (omega arith) (64 * l.c + c.seen_in-i.result) (omega arith) (omega arith)
    (stale_on X a.work.now (S.value a.k) a.m (64 * a.b) (64 * l.c) c.seen_in-i.result _ refl l.invariant R.passed)
    (R.found c.if-i-lt64.true))

pub loop-c-preserved : goal.loop-c-preserved
loop-c-preserved g c =
    let S = g.T.Sample in
    let a = c.args in
    let l = c.loop-c in
    stale_on (samples_of S.wide a.px.now) a.work.now (S.value a.k) a.m (64 * a.b) (64 * l.c) 64 _ (omega arith) l.invariant (λ i h. c.seen_in-i.ensures.passed i (omega arith))

pub returns : goal.returns
returns g c =
    let S = g.T.Sample in
    let a = c.args in
    or_none (samples_of S.wide a.px.now) a.work.now (S.value a.k) a.m (64 * a.b) (64 * a.e) a.end (omega arith) (λ j g h. c.loop-c.invariant j g (omega arith))
