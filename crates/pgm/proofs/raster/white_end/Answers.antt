-- `raster::white_end` meets its contract, one white byte a turn. Assumes nothing.
use Rattle.std.proofs.Common.{refl, sym, ◌∙◌}
use Rattle.pgm.proofs.Steps.{white_begin, white_stop, white_more, white_full}
use Rattle.pgm.proofs.raster.white_end.Goals as goal

pub loop-at-init : goal.loop-at-init
loop-at-init c = white_begin _ _ c.args.c.inside

pub returns-then-not-is_white : goal.returns-then-not-is_white
returns-then-not-is_white c = (white_stop _ _ _ c.loop-at.invariant c.loop-at-test.true (sym c.is_white.ensures ∙ c.if-not-is_white.true), refl)

pub loop-at-preserved : goal.loop-at-preserved
loop-at-preserved c = white_more _ _ _ c.loop-at.invariant c.loop-at-test.true (sym c.is_white.ensures ∙ c.if-not-is_white.false)

pub returns : goal.returns
returns c = (white_full _ _ _ c.loop-at.invariant c.loop-at-test.false, refl)
