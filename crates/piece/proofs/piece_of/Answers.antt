-- `piece::piece_of` meets its contract. Assumes nothing.
use Rattle.std.proofs.Common.{arith, ap, ◌∙◌, ◌+◌, ◌-◌, ℕ, pos, ◌-ℤ◌}
use Rattle.piece.specs.Curve.{curved_of, term}
use Rattle.piece.proofs.Bend.{piece_flat, piece_over, piece_under}
use Rattle.piece.proofs.piece_of.Goals as goal

pub returns-then-plus-minus : goal.returns-then-plus-minus
returns-then-plus-minus c = let a = c.args in piece_flat a.q.p0 a.q.p1 a.q.p2 a.q.p3 a.k c.if-plus-minus.true

pub returns-then-plus-minus-2 : goal.returns-then-plus-minus-2
returns-then-plus-minus-2 c =
    let a = c.args in
    c.curved.ensures
    ∙ ap (λ (n : ℕ). curved_of (pos a.q.p1 -ℤ pos a.q.p0) (pos a.q.p3 -ℤ pos a.q.p0) (pos n -ℤ pos c.term_of-r.result) (a.q.p1 + a.q.p3 - (a.q.p0 + a.q.p2))) c.term_of-l.ensures
    ∙ ap (λ (n : ℕ). curved_of (pos a.q.p1 -ℤ pos a.q.p0) (pos a.q.p3 -ℤ pos a.q.p0) (pos (term a.k a.q.p0 a.q.p2 a.q.p1 a.q.p3) -ℤ pos n) (a.q.p1 + a.q.p3 - (a.q.p0 + a.q.p2))) c.term_of-r.ensures
    ∙ piece_under a.q.p0 a.q.p1 a.q.p2 a.q.p3 a.k c.if-plus-minus-2.true

pub returns : goal.returns
returns c =
    let a = c.args in
    c.curved-2.ensures
    ∙ ap (λ (n : ℕ). curved_of (pos a.q.p0 -ℤ pos a.q.p1) (pos a.q.p0 -ℤ pos a.q.p3) (pos n -ℤ pos c.term_of-r.result) (a.q.p0 + a.q.p2 - (a.q.p1 + a.q.p3))) c.term_of-l.ensures
    ∙ ap (λ (n : ℕ). curved_of (pos a.q.p0 -ℤ pos a.q.p1) (pos a.q.p0 -ℤ pos a.q.p3) (pos (term a.k a.q.p0 a.q.p2 a.q.p1 a.q.p3) -ℤ pos n) (a.q.p0 + a.q.p2 - (a.q.p1 + a.q.p3))) c.term_of-r.ensures
    ∙ piece_over a.q.p0 a.q.p1 a.q.p2 a.q.p3 a.k (omega (arith, c.if-plus-minus.false, c.if-plus-minus-2.false))
