-- `stepped::passed`: one more where the level is at most v, else the same. Assumes nothing.
use Rattle.std.proofs.Common.{arith}
use Rattle.count.proofs.Steps.{steps_passed, steps_stays, steps_over}
use Rattle.count.proofs.stepped.passed.Goals as goal
use Rattle.count.proofs.stepped.passed.Goals.{else-j-ks-via-then-j-ks+else-from-v, else-j-ks-via-else-j-ks}

pub returns-then-from-v : goal.returns-then-from-v
returns-then-from-v c = let a = c.args in steps_passed a.ks.now c.requires.0 a.j a.v c.requires.1 (omega arith) (omega arith)

pub returns-else-j-ks : goal.returns-else-j-ks
returns-else-j-ks c =
    let a = c.args in
    elim c.else-j-ks.branch [
      | else-j-ks-via-then-j-ks+else-from-v w ↦ steps_stays a.ks.now c.requires.0 a.j a.v c.requires.1 (omega arith) (omega arith)
      | else-j-ks-via-else-j-ks w ↦ steps_over a.ks.now c.requires.0 a.j a.v c.requires.1 (omega arith)
    ]
