-- `form::read_levels` meets its contract: the levels passed stand in the array, zeros after them. Assumes nothing.
use Rattle.std.proofs.Common.{sym, ◌∙◌}
use Rattle.form.proofs.Line.{line_empty, line_begin, line_none, line_last, line_bad, line_more, line_full}
use Rattle.form.proofs.read_levels.Goals as goal

pub returns-then-byte_at-eq10 : goal.returns-then-byte_at-eq10
returns-then-byte_at-eq10 c = line_empty _ (sym c.byte_at.ensures ∙ c.if-byte_at-eq10.true)

pub loop-n-init : goal.loop-n-init
loop-n-init c = line_begin _ (λ e. c.if-byte_at-eq10.false (c.byte_at.ensures ∙ e))

pub returns-in_err-level : goal.returns-in_err-level
returns-in_err-level c = rw c.from_residual.ensures (line_none _ _ _ _ c.loop-n.invariant c.loop-n-test.true c.in_err-level.ensures.0)

pub returns-then-after-eq10 : goal.returns-then-after-eq10
returns-then-after-eq10 c = line_last _ _ _ _ c.loop-n.invariant c.loop-n-test.true _ c.in_ok-level.ensures.0 _ c.byte_at-after.ensures c.if-after-eq10.true

pub returns-then-after-ne32 : goal.returns-then-after-ne32
returns-then-after-ne32 c = line_bad _ _ _ _ c.loop-n.invariant c.loop-n-test.true _ c.in_ok-level.ensures.0 _ c.byte_at-after.ensures c.if-after-eq10.false c.if-after-ne32.true

pub loop-n-preserved : goal.loop-n-preserved
loop-n-preserved c = line_more _ _ _ _ c.loop-n.invariant c.loop-n-test.true _ c.in_ok-level.ensures.0 _ c.byte_at-after.ensures c.if-after-eq10.false c.if-after-ne32.false

pub returns : goal.returns
returns c = line_full _ _ _ _ c.loop-n.invariant c.loop-n-test.false
