-- `pair_at` reads within the buffer, since it has two bytes for each sample. Assumes nothing.
use Rattle.std.proofs.Common.{◌∙◌, sym, arith}
use Rattle.store.proofs.Chunks.{pairs_length, pairs_at}
use Rattle.store.proofs.pair_at.Goals as goal

pub overflow_mul-i : goal.overflow_mul-i
overflow_mul-i c = omega (arith, pairs_length c.args.s.now)

pub num2_at-requires : goal.num2_at-requires
num2_at-requires c = omega (arith, pairs_length c.args.s.now)

pub returns : goal.returns
returns c = c.num2_at.ensures.0 ∙ sym (pairs_at c.args.s.now c.args.i c.requires)
