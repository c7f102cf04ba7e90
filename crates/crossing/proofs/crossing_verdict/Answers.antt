-- `crossing::crossing_verdict` meets its contract: 1 2 3, then 8, then 10. Assumes nothing.
use Rattle.std.proofs.Common.{arith, refl, []}
use Rattle.std.proofs.lemmas.Result.{err_from_is_err_and}
use Rattle.matte.specs.Picture.{picture}
use Rattle.refuse.proofs.Rows.{clean_fit, silent}
use Rattle.crossing.proofs.Ends.{first_in, second_in}
use Rattle.crossing.proofs.Told.{last_row}
use Rattle.crossing.proofs.crossing_verdict.Goals as goal

pub bounds-px-i : goal.bounds-px-i
bounds-px-i c =
    let s = c.in_ok-size.ensures.1 in
    let e = clean_fit 8 c.edgel_fits.result [] (λ z. omega arith) (silent c.in_ok-row_verdict.ensures) in
    omega (arith, first_in _ _ c.args.code (rw (c.edgel_fits.ensures, s.0, s.1) at e.0), s.2)

pub bounds-px-j : goal.bounds-px-j
bounds-px-j c =
    let s = c.in_ok-size.ensures.1 in
    let e = clean_fit 8 c.edgel_fits.result [] (λ z. omega arith) (silent c.in_ok-row_verdict.ensures) in
    omega (arith, second_in _ _ c.args.code (rw (c.edgel_fits.ensures, s.0, s.1) at e.0), rw s.0 at c.other_end-j.ensures, s.2)

pub returns-in_err-row_verdict-2 : goal.returns-in_err-row_verdict-2
returns-in_err-row_verdict-2 c =
    let a = c.args in
    let s = c.in_ok-size.ensures in
    let p = err_from_is_err_and c.from_residual-in_err-row_verdict-2.result c.from_residual-in_err-row_verdict-2.ensures.1 in
    rw (p.1, p.2) (
      last_row (picture a.w a.h a.px.now) a.k a.code _ _ s.1.0 s.1.1 _ c.edgel_fits.ensures _ c.other_end-j.ensures _ c.splits.ensures _ refl s.0 c.in_ok-row_verdict.ensures _ c.in_err-row_verdict-2.ensures,
      tt,
    )

pub returns : goal.returns
returns c =
    let a = c.args in
    let s = c.in_ok-size.ensures in (
      last_row (picture a.w a.h a.px.now) a.k a.code _ _ s.1.0 s.1.1 _ c.edgel_fits.ensures _ c.other_end-j.ensures _ c.splits.ensures _ refl s.0 c.in_ok-row_verdict.ensures _ c.in_ok-row_verdict-2.ensures,
      (s.1.0, s.1.1),
    )
