-- `piece::piece_verdict` meets its contract: 1 2 3, then 11, then 10. Assumes nothing.
use Rattle.std.proofs.Common.{refl}
use Rattle.std.proofs.lemmas.Result.{err_from_is_err_and}
use Rattle.matte.specs.Picture.{picture}
use Rattle.piece.proofs.Told.{last_row}
use Rattle.piece.proofs.piece_verdict.Goals as goal

pub returns-in_err-row_verdict-2 : goal.returns-in_err-row_verdict-2
returns-in_err-row_verdict-2 c =
    let a = c.args in
    let s = c.in_ok-size.ensures in
    let p = err_from_is_err_and c.from_residual-in_err-row_verdict-2.result c.from_residual-in_err-row_verdict-2.ensures.1 in
    rw (p.1, p.2) (
      last_row (picture a.w a.h a.px.now) a.k a.x a.y _ _ s.1.0 s.1.1 _ c.is_cell.ensures _ c.corners_at-q.ensures _ c.is_mixed.ensures _ refl s.0 c.in_ok-row_verdict.ensures _ c.in_err-row_verdict-2.ensures,
      tt,
    )

pub returns : goal.returns
returns c =
    let a = c.args in
    let s = c.in_ok-size.ensures in (
      last_row (picture a.w a.h a.px.now) a.k a.x a.y _ _ s.1.0 s.1.1 _ c.is_cell.ensures _ c.corners_at-q.ensures _ c.is_mixed.ensures _ refl s.0 c.in_ok-row_verdict.ensures _ c.in_ok-row_verdict-2.ensures,
      rw s.1.0 at c.corners_at-q.ensures,
    )
