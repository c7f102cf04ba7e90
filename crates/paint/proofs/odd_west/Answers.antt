-- `paint::odd_west` meets its contract: each word in the span is one more. Assumes nothing.
use Rattle.std.proofs.Common.{◌≡◌, ◌<◌, length, arith}
use Rattle.paint.proofs.West.{west_none, west_le, west_more, west_end}
use Rattle.paint.proofs.odd_west.Goals as goal

pub loop-u-init : goal.loop-u-init
loop-u-init c = west_none c.args.size.width c.args.x c.args.y c.args.ws.now

pub overflow_add-n : goal.overflow_add-n
overflow_add-n c =
    let a = c.args in
    omega (arith, west_le a.size.width a.x a.y a.ws.now c.loop-u.u-index _ _ c.in_span.result c.loop-u.invariant c.from-n.ensures)

pub loop-u-preserved : goal.loop-u-preserved
loop-u-preserved c =
    let a = c.args in
    let h : c.loop-u.u-index < length a.ws.now = omega arith in
    west_more a.size.width a.x a.y a.ws.now (omega arith) c.loop-u.u-index _ _ _ _ h c.loop-u.invariant c.code_of.ensures.0 c.in_span.ensures c.from-n.ensures

pub returns : goal.returns
returns c =
    let a = c.args in
    let e : c.loop-u.u-index ≡ length a.ws.now = omega arith in
    west_end a.size.width a.x a.y a.ws.now c.loop-u.u-index _ e c.loop-u.invariant
