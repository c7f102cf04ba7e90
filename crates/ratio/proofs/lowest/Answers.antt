-- `ratio::lowest` meets its contract: an odd number is not 0, so neither is the gcd. Assumes nothing.
use Rattle.std.proofs.Common.{arith}
use Rattle.ratio.proofs.Divisor.{gcd_pos}
use Rattle.ratio.proofs.lowest.Goals as goal

pub nonzero_div-result : goal.nonzero_div-result
nonzero_div-result c = omega (arith, gcd_pos c.args.a c.args.b (omega arith), c.gcd-g.ensures)

pub nonzero_div-result-2 : goal.nonzero_div-result-2
nonzero_div-result-2 c = omega (arith, gcd_pos c.args.a c.args.b (omega arith), c.gcd-g.ensures)
