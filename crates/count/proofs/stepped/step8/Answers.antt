-- `stepped::step8`: one level more at each step. Assumes nothing.
use Rattle.std.proofs.Common.{◌≡◌, ℕ, Bool, true, false, ltb, get_or, arith}
use Rattle.std.specs.Int.{from_bool}
use Rattle.tally.specs.Tally.{one}
use Rattle.tally.proofs.Test.{one_le}
use Rattle.count.proofs.Counting.{sum_begin, sum_more}
use Rattle.count.proofs.stepped.step8.Goals as goal

byte_one : (b : Bool) (r : ℕ) → r ≡ from_bool b → r ≡ one b
byte_one true r e = e
byte_one false r e = e

pub loop-level-init : goal.loop-level-init
loop-level-init c = (sum_begin _, omega arith)

pub loop-level-preserved : goal.loop-level-preserved
loop-level-preserved c =
    let a = c.args in
    let l = c.loop-level in
    let b = ltb (get_or a.levels.now l.level-index 0) a.v in
    let e = byte_one b c.from-n.result c.from-n.ensures in
    (sum_more (λ k. one (ltb (get_or a.levels.now k 0) a.v)) l.level-index l.n c.from-n.result l.invariant.0 e, omega (arith, e, one_le b))
