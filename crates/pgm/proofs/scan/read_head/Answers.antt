-- `scan::read_head` meets its contract: the magic, then number by number. Assumes nothing.
use Rattle.std.proofs.Common.{sym, ap, ◌∙◌}
use Rattle.std.proofs.lemmas.Result.{err_from_is_err_and}
use Rattle.pgm.specs.Grammar.{is_white}
use Rattle.pgm.proofs.Header.{stops, head_width, head_height, head_maximum, head_low, head_high, head_bare, head_whole}
use Rattle.pgm.proofs.scan.read_head.Goals as goal
use Rattle.pgm.proofs.scan.read_head.Goals.{then-maximum-lt1-via-then-maximum-lt1, then-maximum-lt1-via-else-maximum-lt1+then-maximum-gt-MOST}

pub returns-in_err-plain : goal.returns-in_err-plain
returns-in_err-plain c =
    let p = err_from_is_err_and c.from_residual.result c.from_residual.ensures.1 in
    rw (p.1, p.2) (stops _ _ c.in_err-plain.ensures)

pub returns-in_err-width : goal.returns-in_err-width
returns-in_err-width c =
    let p = err_from_is_err_and c.from_residual-in_err-width.result c.from_residual-in_err-width.ensures.1 in
    rw (p.1, p.2)
    (head_width _ _ c.in_ok-plain.ensures _ c.in_err-width.ensures.0)

pub returns-in_err-height : goal.returns-in_err-height
returns-in_err-height c =
    let p = err_from_is_err_and c.from_residual-in_err-height.result c.from_residual-in_err-height.ensures.1 in
    rw (p.1, p.2)
    (head_height _ _ c.in_ok-plain.ensures _ c.in_ok-width.ensures.0 _ c.in_err-height.ensures.0)

pub returns-in_err-maximum : goal.returns-in_err-maximum
returns-in_err-maximum c =
    let p = err_from_is_err_and c.from_residual-in_err-maximum.result c.from_residual-in_err-maximum.ensures.1 in
    rw (p.1, p.2)
    (head_maximum _ _ c.in_ok-plain.ensures _ c.in_ok-width.ensures.0 _ c.in_ok-height.ensures.0 _ c.in_err-maximum.ensures.0)

pub returns-then-maximum-lt1 : goal.returns-then-maximum-lt1
returns-then-maximum-lt1 c =
    elim c.then-maximum-lt1.branch [
      | then-maximum-lt1-via-then-maximum-lt1 w ↦ head_low _ _ c.in_ok-plain.ensures _ c.in_ok-width.ensures.0 _ c.in_ok-height.ensures.0 _ c.in_ok-maximum.ensures.0 w.if-maximum-lt1.true
      | then-maximum-lt1-via-else-maximum-lt1+then-maximum-gt-MOST w ↦ head_high _ _ c.in_ok-plain.ensures _ c.in_ok-width.ensures.0 _ c.in_ok-height.ensures.0 _ c.in_ok-maximum.ensures.0 w.if-maximum-lt1.false w.if-maximum-gt-MOST.true
    ]

pub returns-then-not-is_white : goal.returns-then-not-is_white
returns-then-not-is_white c =
    head_bare _ _ c.in_ok-plain.ensures _ c.in_ok-width.ensures.0 _ c.in_ok-height.ensures.0 _ c.in_ok-maximum.ensures.0 c.if-maximum-lt1.false c.if-maximum-gt-MOST.false
    (ap is_white (sym c.byte_at.ensures) ∙ sym c.is_white.ensures ∙ c.if-not-is_white.true)

pub returns : goal.returns
returns c =
    (head_whole _ _ c.in_ok-plain.ensures _ c.in_ok-width.ensures.0 _ c.in_ok-height.ensures.0 _ c.in_ok-maximum.ensures.0 c.if-maximum-lt1.false c.if-maximum-gt-MOST.false
    (ap is_white (sym c.byte_at.ensures) ∙ sym c.is_white.ensures ∙ c.if-not-is_white.false))
