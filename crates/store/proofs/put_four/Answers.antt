-- `put_four` stores within the buffer: one number changes, and the spare bytes are left. Assumes nothing.
use Rattle.std.proofs.Common.{◌∙◌, ap, rules, arith}
use Rattle.store.specs.Store.{fours, spare_of}
use Rattle.store.proofs.Chunks.{fours_length, fours_put}
use Rattle.store.proofs.put_four.Goals as goal

pub overflow_mul-i : goal.overflow_mul-i
overflow_mul-i c = omega (arith, fours_length c.args.s.now)

pub put4-requires : goal.put4-requires
put4-requires c = omega (arith, fours_length c.args.s.now)

pub returns : goal.returns
returns c = let a = c.args in let e = fours_put a.s.now a.i a.u (search rules) c.requires in (ap fours c.put4.ensures ∙ e.0, ap (spare_of 4) c.put4.ensures ∙ e.1)
