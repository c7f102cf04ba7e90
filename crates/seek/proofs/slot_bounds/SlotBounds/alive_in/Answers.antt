-- `SlotBounds::alive_in`: one slot more at each step. Assumes nothing.
use Rattle.std.proofs.Common.{ℕ, ◌+◌}
use Rattle.store.specs.Store.{samples_of}
use Rattle.seek.specs.Search.{live_at}
use Rattle.seek.proofs.Blocks.{any_none, any_go}
use Rattle.seek.proofs.slot_bounds.SlotBounds.alive_in.Goals as goal

pub loop-i-init : goal.loop-i-init
loop-i-init g c = any_none _

pub loop-i-preserved : goal.loop-i-preserved
loop-i-preserved g c =
    let S = g.T.Sample in
    let a = c.args in
    let l = c.loop-i in
    let f = λ (j : ℕ). live_at (samples_of S.wide a.self.now.lo.now) (samples_of S.wide a.self.now.hi.now) (S.value a.k) (a.c + j) in
    any_go f l.i l.any _ l.invariant c.live-any.ensures
