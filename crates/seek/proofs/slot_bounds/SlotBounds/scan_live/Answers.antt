-- `SlotBounds::scan_live`: the first slot that is live, or none is. Assumes nothing.
use Rattle.std.proofs.Common.{◌∙◌, sym}
use Rattle.store.specs.Store.{samples_of}
use Rattle.seek.specs.Search.{live_at}
use Rattle.seek.proofs.Blocks.{first_found, first_none}
use Rattle.seek.proofs.slot_bounds.SlotBounds.scan_live.Goals as goal

pub returns-then-live : goal.returns-then-live
returns-then-live g c =
    let S = g.T.Sample in
    let a = c.args in
    first_found (live_at (samples_of S.wide a.self.now.lo.now) (samples_of S.wide a.self.now.hi.now) (S.value a.k)) a.from a.self.now.slots c.loop-c.c c.loop-c.auto.c c.loop-c-test.true c.loop-c.invariant (sym c.live.ensures ∙ c.if-live.true)

pub returns : goal.returns
returns g c =
    let S = g.T.Sample in
    let a = c.args in
    let l = c.loop-c in
    first_none (live_at (samples_of S.wide a.self.now.lo.now) (samples_of S.wide a.self.now.hi.now) (S.value a.k)) a.from a.self.now.slots l.c c.requires c.loop-c-test.false l.invariant
