-- `layer::rows::add_row` meets its contract: the marks of each number follow those of the numbers before. Assumes nothing.
use Rattle.std.proofs.Common.{arith}
use Rattle.layer.proofs.Bytes.{turned_same}
use Rattle.layer.proofs.Walks.{walk_start, walk_whole}
use Rattle.layer.proofs.Bits.{part_go}
use Rattle.layer.proofs.rows.add_row.Goals as goal

pub loop-p-init : goal.loop-p-init
loop-p-init c = (omega arith, omega (arith, c.requires.0), walk_start _ _ _ c.args.lo _ c.args.f _ _ (turned_same _ _ _))

pub loop-p-preserved : goal.loop-p-preserved
loop-p-preserved c = (
  omega arith,
  omega arith,
  part_go _ _ _ _ c.ahead.ensures _ _ _ _ _ _ _ _ c.loop-p.invariant.2 c.loop-p.invariant.0 (omega arith) c.add_bits-on.ensures,
)

pub returns : goal.returns
returns c =
    walk_whole _ _ _ _ _ _ _ _ _ c.switch.ensures
    (part_go _ _ _ _ c.ahead_to.ensures _ _ _ _ _ _ _ _ c.loop-p.invariant.2 c.loop-p.invariant.0 c.loop-p.invariant.1 c.add_bits.ensures)
    (omega (arith, c.requires.0))
