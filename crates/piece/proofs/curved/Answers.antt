-- `piece::curved` meets its contract. Assumes nothing.
use Rattle.std.proofs.Common.{ap, sym, ◌∙◌, ◌*◌, ℕ, pos, ◌-ℤ◌}
use Rattle.piece.specs.Curve.{over}
use Rattle.piece.proofs.Bend.{curved_branch, curved_out_x, curved_out_y, curved_corner}
use Rattle.piece.proofs.curved.Goals as goal
use Rattle.piece.proofs.curved.Goals.{else-part_within-via-then-part_within+else-part_within-2, else-part_within-via-else-part_within}

pub returns-then-l-r : goal.returns-then-l-r
returns-then-l-r c =
    let a = c.args in
    curved_branch (pos a.x -ℤ pos a.u) (pos a.y -ℤ pos a.v) a.l a.r a.m _ _ c.quotient.ensures c.quotient-2.ensures c.if-l-r.true _
    (c.quotient-then-l-r.ensures ∙ ap (λ (n : ℕ). over (pos a.l -ℤ pos a.r) (2 * n)) c.product.ensures.0)

pub returns-then-part_within-2 : goal.returns-then-part_within-2
returns-then-part_within-2 c =
    let a = c.args in
    curved_corner (pos a.x -ℤ pos a.u) (pos a.y -ℤ pos a.v) a.l a.r a.m _ _ c.quotient.ensures c.quotient-2.ensures c.if-l-r.false (sym c.if-part_within.ensures) (sym c.if-part_within-2.ensures)

pub returns : goal.returns
returns c =
    let a = c.args in
    let X = pos a.x -ℤ pos a.u in
    let Y = pos a.y -ℤ pos a.v in
    elim c.else-part_within.branch [
      | else-part_within-via-then-part_within+else-part_within-2 w ↦
          curved_out_y X Y a.l a.r a.m _ _ c.quotient.ensures c.quotient-2.ensures c.if-l-r.false (sym w.if-part_within.ensures) (sym w.if-part_within-2.ensures)
      | else-part_within-via-else-part_within w ↦ curved_out_x X Y a.l a.r a.m _ _ c.quotient.ensures c.quotient-2.ensures c.if-l-r.false (sym w.if-part_within.ensures)
    ]
