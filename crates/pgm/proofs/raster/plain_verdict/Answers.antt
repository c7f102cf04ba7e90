-- `raster::plain_verdict` meets its contract, one sample a turn. Assumes nothing.
use Rattle.std.proofs.Common.{ℕ, ◌≡◌, ◌-◌, ◌+◌, true, sym, ap, ◌∙◌, arith}
use Rattle.pgm.specs.Reader.{raster_from}
use Rattle.pgm.proofs.Plain.{plain_24, plain_23, plain_more}
use Rattle.pgm.proofs.Rows.{raster_none}
use Rattle.pgm.proofs.raster.plain_verdict.Goals as goal

pub returns-in-Err : goal.returns-in-Err
returns-in-Err c = sym (c.loop-done.invariant.1 ∙ plain_24 _ _ _ _ (c.args.r.count - c.loop-done._done - 1) (omega arith) _ c.in-Err.ensures.0)

pub returns-then-from-sample : goal.returns-then-from-sample
returns-then-from-sample c =
    sym (c.loop-done.invariant.1 ∙ plain_23 _ _ _ _ (c.args.r.count - c.loop-done._done - 1) (omega arith) _ c.in-Ok.ensures.0 (omega arith) (omega (arith, c.from.ensures, c.if-from-sample.true)))

pub loop-done-preserved : goal.loop-done-preserved
loop-done-preserved c = (
  c.in-Ok.ensures.1,
  c.loop-done.invariant.1 ∙ plain_more _ _ _ _ (c.args.r.count - (c.loop-done._done + 1)) (omega arith) _ c.in-Ok.ensures.0 (omega arith) (omega (arith, c.from.ensures, c.if-from-sample.false)),
)

pub returns : goal.returns
returns c =
    let e : c.args.r.count - c.loop-done._done ≡ 0 = omega arith in
    sym (c.loop-done.invariant.1 ∙ ap (λ (z : ℕ). raster_from c.args.r.from.bytes.now true c.args.r.maximum z c.loop-done.at) e ∙ raster_none _ _ _ _)
