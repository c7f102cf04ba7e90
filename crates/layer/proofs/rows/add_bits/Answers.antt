-- `layer::rows::add_bits` meets its contract: the lowest mark is the next one. Assumes nothing.
use Rattle.std.proofs.Common.{arith}
use Rattle.layer.proofs.Bits.{bits_begin, bits_room, bits_go, bits_end}
use Rattle.layer.proofs.rows.add_bits.Goals as goal

pub loop-y-init : goal.loop-y-init
loop-y-init c = bits_begin _ _ _ _

pub overflow_add-p-in-loop-y : goal.overflow_add-p-in-loop-y
overflow_add-p-in-loop-y c =
    omega (arith, bits_room _ _ _ _ _ _ _ _ c.loop-y.invariant c.loop-y-test.true c.ranges.x.fits _ c.requires, c.loop-y.invariant.walked.long)

pub turn-requires : goal.turn-requires
turn-requires c =
    omega (arith, bits_room _ _ _ _ _ _ _ _ c.loop-y.invariant c.loop-y-test.true c.ranges.x.fits _ c.requires, c.loop-y.invariant.walked.long)

pub loop-y-preserved : goal.loop-y-preserved
loop-y-preserved c = bits_go _ _ _ _ _ _ _ _ c.loop-y.invariant c.loop-y-test.true c.ranges.x.fits _ c.turn.ensures

pub returns : goal.returns
returns c = bits_end _ _ _ _ _ _ _ _ c.loop-y.invariant c.loop-y-test.false
