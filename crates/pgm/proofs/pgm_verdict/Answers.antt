-- `pgm::pgm_verdict` meets its contract: 1, then 9, then the samples. Assumes nothing.
use Rattle.std.proofs.Common.{refl, ◌∙◌}
use Rattle.refuse.proofs.Rows.{refuses, handed_on}
use Rattle.pgm.proofs.Verdicts.{given_1, given_raster}
use Rattle.pgm.proofs.pgm_verdict.Goals as goal

pub returns-in_err-size-clause-refused : goal.returns-in_err-size-clause-refused
returns-in_err-size-clause-refused c =
    let r = c.in_err-size.field-0.0 in
    handed_on _ r c.from_residual.ensures.1 ∙ given_1 _ _ _ c.requires.0 _ c.in_err-size.ensures.0 (refuses r)

pub returns-in_err-raster_verdict-clause-refused : goal.returns-in_err-raster_verdict-clause-refused
returns-in_err-raster_verdict-clause-refused c =
    let r = c.in_err-raster_verdict.field-0.0 in
    let s = c.in_ok-size.ensures in
    handed_on _ r c.from_residual-in_err-raster_verdict.ensures.1
    ∙ given_raster _ _ _ c.requires.0 _ s.0 refl _ (rw (s.1.0, s.1.1) at c.area-count.ensures.0) _ c.in_ok-row_verdict.ensures refl _ c.in_err-raster_verdict.ensures

pub returns-clause-refused : goal.returns-clause-refused
returns-clause-refused c =
    let s = c.in_ok-size.ensures in
    given_raster _ _ _ c.requires.0 _ s.0 refl _ (rw (s.1.0, s.1.1) at c.area-count.ensures.0) _ c.in_ok-row_verdict.ensures refl _ c.in_ok-raster_verdict.ensures
