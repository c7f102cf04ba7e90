-- `form::read_form` meets its contract: each return by the parts read up to it. Assumes nothing.
use Rattle.std.proofs.Common.{arith}
use Rattle.form.proofs.Whole.{whole_none, whole_header, whole_many, whole_else, whole_done}
use Rattle.form.proofs.read_form.Goals as goal
use Rattle.form.proofs.read_form.Goals.{then-samples-gt16384-via-then-samples-gt16384, then-samples-gt16384-via-else-samples-gt16384+then-input-at}

pub returns-in_err-count : goal.returns-in_err-count
returns-in_err-count c = rw c.from_residual.ensures (whole_none _ c.in_err-count.ensures.0)

pub returns-in_err-header : goal.returns-in_err-header
returns-in_err-header c = rw c.from_residual-in_err-header.ensures (whole_header _ _ c.in_ok-count.ensures.0 c.in_err-header.ensures.0)

pub returns-then-samples-gt16384 : goal.returns-then-samples-gt16384
returns-then-samples-gt16384 c =
    elim c.then-samples-gt16384.branch [
      | then-samples-gt16384-via-then-samples-gt16384 w ↦ whole_many _ _ c.in_ok-count.ensures.0 _ c.in_ok-header.ensures.0 w.if-samples-gt16384.true
      | then-samples-gt16384-via-else-samples-gt16384+then-input-at w ↦
          whole_else _ _ c.in_ok-count.ensures.0 _ c.in_ok-header.ensures.0 w.if-samples-gt16384.false (λ e. absurd (omega (arith, w.if-input-at.true)))
    ]

pub returns : goal.returns
returns c = whole_done _ _ c.in_ok-count.ensures.0 _ c.in_ok-header.ensures.0 c.if-samples-gt16384.false (omega (arith, c.if-input-at.false))
