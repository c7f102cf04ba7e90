-- `bounds::bound_in`: the bound of one sample, and of one more. Assumes nothing.
use Rattle.std.proofs.Common.{◌∙◌}
use Rattle.store.specs.Store.{samples_of}
use Rattle.seek.proofs.Slots.{bound_none, bound_more}
use Rattle.seek.proofs.bounds.bound_in.Goals as goal

pub loop-i-init : goal.loop-i-init
loop-i-init g c = c.at-m.ensures ∙ bound_none _ c.args.a c.args.top

pub loop-i-preserved : goal.loop-i-preserved
loop-i-preserved g c =
    let S = g.T.Sample in
    let a = c.args in
    let l = c.loop-i in
    bound_more (samples_of S.wide a.px.now) a.a a.top l.i (S.value l.m) (S.value c.at.result) _ l.invariant c.at.ensures c.either-m.ensures
