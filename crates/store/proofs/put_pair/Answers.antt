-- `put_pair` stores within the buffer: one number changes, and the spare bytes are left. Assumes nothing.
use Rattle.std.proofs.Common.{◌∙◌, ap, rules, arith}
use Rattle.store.specs.Store.{pairs, spare_of}
use Rattle.store.proofs.Chunks.{pairs_length, pairs_put}
use Rattle.store.proofs.put_pair.Goals as goal

pub overflow_mul-i : goal.overflow_mul-i
overflow_mul-i c = omega (arith, pairs_length c.args.s.now)

pub put2-requires : goal.put2-requires
put2-requires c = omega (arith, pairs_length c.args.s.now)

pub returns : goal.returns
returns c = let a = c.args in let e = pairs_put a.s.now a.i a.v (search rules) c.requires in (ap pairs c.put2.ensures ∙ e.0, ap (spare_of 2) c.put2.ensures ∙ e.1)
