-- `layer::by_groups` meets its contract: each level is added to those before, and its words end before those of the next. Assumes nothing.
use Rattle.std.proofs.Common.{◌<◌, length, refl, arith}
use Rattle.matte.specs.Layout.{eight}
use Rattle.layer.proofs.Ascent.{ascend_up}
use Rattle.layer.proofs.Grouping.{behind_none, behind_more, turned_kept}
use Rattle.layer.proofs.Levels.{levels_begin, levels_go}
use Rattle.layer.proofs.by_groups.Goals as goal

pub loop-k-init : goal.loop-k-init
loop-k-init c = (behind_none eight _ _, levels_begin _ _ c.args.levels.now _ _ _ _ (rw c.area.ensures.0 at c.blank.ensures))

pub loop-k-preserved : goal.loop-k-preserved
loop-k-preserved c =
    let ks = c.args.levels.now in
    let j = c.loop-k.k-index in
    let h : j < length ks = omega arith in
    let A = c.add_group-a.ensures in
    let up = ascend_up eight 0 ks c.requires.0 in (
      behind_more eight _ _ _ _ _ _ c.loop-k.invariant.0 h refl A.0 up,
      levels_go _ _ ks _ j _ _ _ _ _ _ c.loop-k.invariant.1 h refl
          (λ t p u. turned_kept eight _ _ p _ _ _ A.0 (λ e. omega (arith, up t j u h)))
          A.1,
    )
