-- `tail`: the first place that is fresh, or none is. Assumes nothing.
use Rattle.std.proofs.Common.{◌≡◌, true}
use Rattle.store.specs.Store.{samples_of}
use Rattle.seek.specs.Search.{fresh}
use Rattle.seek.proofs.Blocks.{first_found, first_none}
use Rattle.seek.proofs.tail.Goals as goal

pub returns-then-is_fresh : goal.returns-then-is_fresh
returns-then-is_fresh g c =
    let S = g.T.Sample in
    let a = c.args in
    let f = fresh (samples_of S.wide a.px.now) a.work.now (S.value a.k) a.m in
    let e : f c.loop-p.p ≡ true = cc in
    first_found f a.from a.end c.loop-p.p c.loop-p.auto.p c.loop-p-test.true c.loop-p.invariant e

pub returns : goal.returns
returns g c =
    let S = g.T.Sample in
    let a = c.args in
    let l = c.loop-p in
    first_none (fresh (samples_of S.wide a.px.now) a.work.now (S.value a.k) a.m) a.from a.end l.p c.requires.0 c.loop-p-test.false l.invariant
