-- `layer::by_levels` meets its contract: each level is added to those before. Assumes nothing.
use Rattle.std.proofs.Common.{◌<◌, length, refl, arith}
use Rattle.layer.proofs.Levels.{levels_begin, levels_go}
use Rattle.layer.proofs.by_levels.Goals as goal

pub loop-k-init : goal.loop-k-init
loop-k-init c = levels_begin _ _ c.args.levels.now _ _ _ _ (rw c.area.ensures.0 at c.blank.ensures)

pub loop-k-preserved : goal.loop-k-preserved
loop-k-preserved c =
    let j = c.loop-k.k-index in
    let h : j < length c.args.levels.now = omega arith in
    levels_go _ _ _ _ j _ _ _ _ _ _ c.loop-k.invariant h refl (λ t p u. refl) c.add_level.ensures
