-- `layer::add_group` meets its contract: the marks of the group, then a layer. Assumes nothing.
use Rattle.std.proofs.Common.{◌*◌, arith}
use Rattle.layer.proofs.Layers.{layered_same}
use Rattle.layer.proofs.Levels.{marks_turned}
use Rattle.layer.proofs.add_group.Goals as goal

pub returns : goal.returns
returns c =
    let s = c.args.size in
    let M = c.mark_group-e.ensures in (
      M.0,
      layered_same _ _ _ s.width (s.width * s.height) _ _
          (λ p h. marks_turned _ _ _ (c.clear.ensures p (omega (arith, c.area.ensures.0, c.div_ceil.ensures))) (M.1 p))
          c.add_layer.ensures,
    )
