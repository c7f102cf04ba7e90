-- `within::any_in`: one place more at each step. Assumes nothing.
use Rattle.std.proofs.Common.{◌≡◌, ℕ, ◌+◌}
use Rattle.store.specs.Store.{samples_of}
use Rattle.seek.specs.Search.{fresh}
use Rattle.seek.proofs.Blocks.{any_none, any_go}
use Rattle.seek.proofs.within.any_in.Goals as goal

pub loop-i-init : goal.loop-i-init
loop-i-init g c = any_none _

pub loop-i-preserved : goal.loop-i-preserved
loop-i-preserved g c =
    let S = g.T.Sample in
    let a = c.args in
    let l = c.loop-i in
    let f = λ (j : ℕ). fresh (samples_of S.wide a.px.now) a.work.now (S.value a.k) a.m (a.a + j) in
    let e : c.is_fresh-any.result ≡ f l.i = rw (c.at-p.ensures, c.at-q.ensures) at c.is_fresh-any.ensures in
    any_go f l.i l.any _ l.invariant e
