-- `stepped::long_sum`: one piece more at each step, then the rest. Assumes nothing.
use Rattle.std.proofs.Common.{◌≡◌, ◌+◌, ◌*◌, ◌/◌, ◌∙◌, ap, ℕ, get_or, arith}
use Rattle.tally.specs.Tally.{sum}
use Rattle.count.proofs.Counting.{sum_begin}
use Rattle.count.proofs.Rows.{part_piece}
use Rattle.count.proofs.stepped.long_sum.Goals as goal

pub loop-piece-init : goal.loop-piece-init
loop-piece-init c = (sum_begin (λ i. get_or c.args.d.now i 0), omega arith)

pub loop-piece-preserved : goal.loop-piece-preserved
loop-piece-preserved c =
    let a = c.args in
    let l = c.loop-piece in
    let f = λ (i : ℕ). get_or a.d.now i 0 in
    let s : 256 * l.piece + 256 ≡ 256 * (l.piece + 1) = omega arith in
    (part_piece f (256 * l.piece) (256 * l.piece + 256) l.n c.from-n.result (omega arith) l.invariant.0 (c.from-n.ensures ∙ c.short_sum.ensures.0) ∙ ap (sum f) s, omega (arith, l.invariant.1, c.short_sum.ensures.1, c.from-n.ensures))

pub returns : goal.returns
returns c =
    let a = c.args in
    let l = c.loop-piece in
    let f = λ (i : ℕ). get_or a.d.now i 0 in
    let whole = 256 * (a.end / 256) in
    let s : 256 * l.piece ≡ whole = omega arith in
    (part_piece f whole a.end l.n c.from.result (omega arith) (l.invariant.0 ∙ ap (sum f) s) (c.from.ensures ∙ c.short_sum-2.ensures.0), omega (arith, l.invariant.1, c.short_sum-2.ensures.1, c.from.ensures))
