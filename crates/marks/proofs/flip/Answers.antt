-- `marks::flip` meets its contract: one digit of one number is turned over, or none. Assumes nothing.
use Rattle.std.proofs.Common.{arith, ap, ◌∙◌, ℕ, ◌*◌, ◌%◌, ◌^◌}
use Rattle.tally.specs.Tally.{one}
use Rattle.tally.proofs.Test.{one_le}
use Rattle.marks.proofs.Digits.{shift_fits}
use Rattle.marks.proofs.Places.{one_from, turned}
use Rattle.marks.proofs.flip.Goals as goal

pub returns : goal.returns
returns c =
    let r = c.args.p % 64 in
    let b = c.args.on in
    turned c.args.m.now c.args.p _ b (omega arith)
    (ap (λ (z : ℕ). z * 2 ^ r % 2 ^ 64) (c.from.ensures ∙ one_from b) ∙ shift_fits (one b) r (omega (arith, one_le b)) (omega arith))
