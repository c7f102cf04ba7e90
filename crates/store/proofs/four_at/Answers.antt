-- `four_at` reads within the buffer, since it has four bytes for each word. Assumes nothing.
use Rattle.std.proofs.Common.{◌∙◌, sym, arith}
use Rattle.store.proofs.Chunks.{fours_length, fours_at}
use Rattle.store.proofs.four_at.Goals as goal

pub overflow_mul-i : goal.overflow_mul-i
overflow_mul-i c = omega (arith, fours_length c.args.s.now)

pub num4_at-requires : goal.num4_at-requires
num4_at-requires c = omega (arith, fours_length c.args.s.now)

pub returns : goal.returns
returns c = c.num4_at.ensures ∙ sym (fours_at c.args.s.now c.args.i c.requires)
