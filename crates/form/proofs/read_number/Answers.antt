-- `form::read_number` meets its contract: the digits passed make the value so far. Assumes nothing.
use Rattle.std.proofs.Common.{sym, ◌∙◌, arith}
use Rattle.form.proofs.Numbers.{read_zero, read_begin, read_stop, read_end, read_over, read_more}
use Rattle.form.proofs.read_number.Goals as goal

pub returns-then-byte_at-eq48 : goal.returns-then-byte_at-eq48
returns-then-byte_at-eq48 c = read_zero _ _ (omega arith)

pub loop-i-init : goal.loop-i-init
loop-i-init c = read_begin _ _ (λ e. c.if-byte_at-eq48.false (c.byte_at.ensures ∙ e))

pub returns-then-not-is_ascii_digit : goal.returns-then-not-is_ascii_digit
returns-then-not-is_ascii_digit c =
    read_stop _ _ _ _ c.loop-i.invariant _ (sym c.is_ascii_digit.ensures.value ∙ c.if-not-is_ascii_digit.true) c.stopped.ensures

pub returns-then-limit-value : goal.returns-then-limit-value
returns-then-limit-value c =
    read_over _ _ _ _ c.loop-i.invariant (omega arith) (sym c.is_ascii_digit.ensures.value ∙ c.if-not-is_ascii_digit.false) _ c.from.ensures c.if-limit-value.true

pub loop-i-preserved : goal.loop-i-preserved
loop-i-preserved c =
    read_more _ _ _ _ c.loop-i.invariant (omega arith) (sym c.is_ascii_digit.ensures.value ∙ c.if-not-is_ascii_digit.false) _ c.from.ensures c.if-limit-value.false

pub returns : goal.returns
returns c = read_end _ _ _ _ c.loop-i.invariant _ (omega arith) c.stopped-2.ensures
