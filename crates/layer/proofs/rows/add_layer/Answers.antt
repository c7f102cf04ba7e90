-- `layer::rows::add_layer` meets its contract: each row is added to those before. Assumes nothing.
use Rattle.std.proofs.Common.{arith}
use Rattle.layer.proofs.Layers.{layer_begin, layer_go}
use Rattle.layer.proofs.rows.add_layer.Goals as goal

pub loop-y-init : goal.loop-y-init
loop-y-init c = layer_begin _ _ _ _

pub loop-y-preserved : goal.loop-y-preserved
loop-y-preserved c = layer_go _ _ _ _ c.loop-y.y _ _ _ _ (omega (arith, c.args.size.fits.w_least)) c.loop-y.invariant c.add_row-on.ensures
