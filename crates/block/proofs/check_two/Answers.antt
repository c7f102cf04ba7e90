-- The turns and the end of the loop of `block::check_two`. Assumes nothing.
use Rattle.std.proofs.Common.{length, ap, arith, rules}
use Rattle.std.proofs.lemmas.Iterator.{empty_from_Zip}
use Rattle.std.proofs.lemmas.Slice.Zip.{Zip-more}
use Rattle.block.specs.Block.{check}
use Rattle.block.proofs.Check.{stirred_next, stirred_end}
use Rattle.block.proofs.check_two.Goals as goal

pub loop-x-init : goal.loop-x-init
unfolding check
loop-x-init c = search rules

pub loop-x-preserved : goal.loop-x-preserved
loop-x-preserved c =
    let more = Zip-more c.loop-x.x-iterator c.next.new.self _ _ c.in-Some.is c.next.ensures.steps in
    let so_far = c.loop-x.invariant in (
      stirred_next _ _ _ so_far.0 _ _ _ more.0 c.stir-first.ensures,
      stirred_next _ _ _ so_far.1 _ _ _ more.1 c.stir-second.ensures,
      omega (arith, so_far.2, ap length more.0, ap length more.1),
    )

pub returns : goal.returns
returns c =
    let so_far = c.loop-x.invariant in
    let ends = empty_from_Zip c.loop-x.x-iterator c.next.new.self _ c.in-None.is c.next.ensures.steps so_far.2 in
    (stirred_end _ _ _ so_far.0 ends.0, stirred_end _ _ _ so_far.1 ends.1)
