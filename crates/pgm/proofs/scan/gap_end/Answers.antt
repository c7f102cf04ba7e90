-- `scan::gap_end` meets its contract, one byte of the gap a turn. Assumes nothing.
use Rattle.std.proofs.Common.{refl, sym, ◌∙◌}
use Rattle.pgm.proofs.Steps.{gap_begin, gap_stop, gap_more, gap_full}
use Rattle.pgm.proofs.scan.gap_end.Goals as goal

pub loop-at-init : goal.loop-at-init
loop-at-init c = gap_begin _ _ c.args.c.inside

pub returns-then-not-in_gap : goal.returns-then-not-in_gap
returns-then-not-in_gap c = (gap_stop _ _ _ _ c.loop-at.invariant c.loop-at-test.true (sym c.in_gap.ensures ∙ c.if-not-in_gap.true), refl)

pub loop-at-preserved : goal.loop-at-preserved
loop-at-preserved c = rw c.opened-comment.ensures (gap_more _ _ _ _ c.loop-at.invariant c.loop-at-test.true (sym c.in_gap.ensures ∙ c.if-not-in_gap.false))

pub returns : goal.returns
returns c = (gap_full _ _ _ _ c.loop-at.invariant c.loop-at-test.false, refl)
