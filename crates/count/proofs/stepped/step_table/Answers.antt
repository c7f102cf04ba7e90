-- `stepped::step_table`: one byte more at each step, its step below 256. Assumes nothing.
use Rattle.std.proofs.Common.{◌≡◌, refl, arith}
use Rattle.std.proofs.Math.ListN.{length-set}
use Rattle.tally.proofs.Build.{is_build}
use Rattle.count.specs.Steps.{steps}
use Rattle.count.proofs.Steps.{steps_none, steps_few}
use Rattle.count.proofs.Rows.{stored}
use Rattle.count.proofs.stepped.step_table.Goals as goal

pub loop-v-init : goal.loop-v-init
loop-v-init c = (refl, steps_none _ c.requires, λ i h. absurd (omega arith))

pub overflow_cast-t : goal.overflow_cast-t
overflow_cast-t c = omega (arith, steps_few c.args.ks.now c.loop-v.v c.requires)

pub loop-v-preserved : goal.loop-v-preserved
loop-v-preserved c =
    let l = c.loop-v in
    (simp length-set l.invariant.0, c.passed-j.ensures, stored (λ i x. x ≡ steps c.args.ks.now i) l.t l.v l.j (omega (arith, l.invariant.0)) l.invariant.2 l.invariant.1)

pub returns : goal.returns
returns c =
    let l = c.loop-v in
    is_build (steps c.args.ks.now) l.t 256 l.invariant.0 (λ i h. l.invariant.2 i (omega arith))
