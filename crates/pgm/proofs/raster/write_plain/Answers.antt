-- `raster::write_plain` meets its contract, one sample a turn. Assumes nothing.
use Rattle.std.proofs.Common.{List, ℕ, ◌++◌, drop, sym, ap, ◌∙◌, arith}
use lib.Seq.{length-take-le}
use Rattle.pgm.proofs.Steps.{next_inside}
use Rattle.pgm.proofs.Plain.{writing_begin, writing_there, writing_value, writing_more, writing_end}
use Rattle.pgm.proofs.raster.write_plain.Goals as goal

pub loop-place-init : goal.loop-place-init
loop-place-init c = writing_begin _ _ _ _ _ c.args.r.from.inside c.requires.0

pub unwrap-sample-requires : goal.unwrap-sample-requires
unwrap-sample-requires c = writing_there _ _ _ _ _ _ _ _ c.loop-place.invariant (omega (arith, length-take-le _ _ c.requires.1)) _ c.plain_at.ensures.0

pub overflow_cast-place : goal.overflow_cast-place
overflow_cast-place c =
    omega (arith, writing_value _ _ _ _ _ _ _ _ c.loop-place.invariant (omega (arith, length-take-le _ _ c.requires.1)) (omega arith) _ (sym c.unwrap-sample.ensures ∙ c.plain_at.ensures.0))

pub loop-place-preserved : goal.loop-place-preserved
loop-place-preserved c =
    let e = sym c.unwrap-sample.ensures ∙ c.plain_at.ensures.0 in
    writing_more _ _ _ _ _ _ _ _ c.loop-place.invariant (omega (arith, length-take-le _ _ c.requires.1)) (omega arith) _ e (next_inside c.plain_at.ensures.1 c.unwrap-sample.ensures) (omega arith)

pub returns : goal.returns
returns c =
    let e = length-take-le c.args.r.count c.args.room.now c.requires.1 in
    ap (λ (z : List ℕ). z ++ drop c.args.r.count c.args.room.now) (writing_end _ _ _ _ _ _ _ _ c.loop-place.invariant (omega arith) e)
