-- `layer::add_level` meets its contract: the marks of the level, then a layer. Assumes nothing.
use Rattle.std.proofs.Common.{◌*◌, arith}
use Rattle.layer.proofs.Layers.{layered_same}
use Rattle.layer.proofs.Levels.{marks_turned}
use Rattle.layer.proofs.add_level.Goals as goal

pub returns : goal.returns
returns c =
    let s = c.args.size in
    layered_same _ _ _ s.width (s.width * s.height) _ _
    (λ p h. marks_turned _ _ _ (c.clear.ensures p (omega (arith, c.area.ensures.0, c.div_ceil.ensures))) (c.mark_words.ensures p))
    c.add_layer.ensures
