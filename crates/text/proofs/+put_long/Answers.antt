-- `text::put_long` meets its contract: the digits of the tenth, then the last one. Assumes nothing.
use Rattle.std.proofs.Common.{arith, ap, length}
use Rattle.form.proofs.Decimal.{decimal_small}
use Rattle.text.proofs.Puts.{digit_last, digit_room, digit_more}
use Rattle.text.proofs.+put_long.Goals as goal

pub put_byte-requires : goal.put_byte-requires
put_byte-requires t c = omega (arith, ap length (decimal_small c.args.n c.if-n-lt10.true), c.requires)

pub returns-then-n-lt10 : goal.returns-then-n-lt10
returns-then-n-lt10 t c = digit_last _ _ _ c.if-n-lt10.true _ _ c.put_byte.ensures

pub put_long-a-requires : goal.put_long-a-requires
put_long-a-requires t c = (omega (arith, c.decreases), omega (arith, digit_room c.args.n c.args.out.now c.args.at c.if-n-lt10.false c.requires))

pub put_byte-requires-2 : goal.put_byte-requires-2
put_byte-requires-2 t c = omega (arith, digit_room c.args.n c.args.out.now c.args.at c.if-n-lt10.false c.requires, c.put_long-a.ensures.next, c.put_long-a.auto.out)

pub returns : goal.returns
returns t c = digit_more _ _ _ c.if-n-lt10.false _ _ c.put_long-a.ensures _ _ c.put_byte-2.ensures
