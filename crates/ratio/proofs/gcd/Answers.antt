-- `ratio::gcd` meets its contract: each turn keeps the gcd and an odd number, and the sum falls. Assumes nothing.
use Rattle.std.proofs.Common.{sym, ap, ◌∙◌, arith}
use Rattle.ratio.specs.Lowest.{gcd}
use Rattle.ratio.proofs.Divisor.{gcd_none}
use Rattle.ratio.proofs.Twos.{odd_part, turn_odd, turn_keeps}
use Rattle.ratio.proofs.gcd.Goals as goal

pub loop-y-preserved : goal.loop-y-preserved
loop-y-preserved c =
    let x = c.loop-y.x in
    let y = c.loop-y.y in
    let v = c.loop-y.invariant in
    let r = odd_part 32 y (omega arith) (omega arith) in (
      turn_odd 32 x y _ _ _ v.0 r c.distance-y.ensures c.min-x.ensures,
      turn_keeps 32 x y _ _ _ v.0 r c.distance-y.ensures c.min-x.ensures ∙ v.1,
    )

pub returns : goal.returns
returns c = sym (gcd_none c.loop-y.x) ∙ ap (gcd c.loop-y.x) (sym c.loop-y-test.false) ∙ c.loop-y.invariant.1
