-- `scan::number_at` meets its contract, one digit a turn. Assumes nothing.
use Rattle.std.proofs.Common.{sym, ◌∙◌}
use Rattle.pgm.proofs.Steps.{number_begin, number_stop, number_more, number_full}
use Rattle.pgm.proofs.scan.number_at.Goals as goal

pub loop-i-init : goal.loop-i-init
loop-i-init c = number_begin _ _ c.args.c.inside

pub returns-then-not-is_ascii_digit : goal.returns-then-not-is_ascii_digit
returns-then-not-is_ascii_digit c =
    number_stop _ _ _ _ c.loop-i.invariant _ c.loop-i-test.true (sym c.is_ascii_digit.ensures.value ∙ c.if-not-is_ascii_digit.true) c.found.ensures

pub loop-i-preserved : goal.loop-i-preserved
loop-i-preserved c =
    number_more _ _ _ _ c.loop-i.invariant _ c.loop-i-test.true (sym c.is_ascii_digit.ensures.value ∙ c.if-not-is_ascii_digit.false) c.more-value.ensures.0 c.more-value.ensures.1

pub returns : goal.returns
returns c = number_full _ _ _ _ c.loop-i.invariant _ c.loop-i-test.false c.found-2.ensures
