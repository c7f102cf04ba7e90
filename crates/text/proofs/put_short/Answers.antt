-- `text::put_short` meets its contract: one digit, two or three. Assumes nothing.
use Rattle.std.proofs.Common.{ap, arith, length}
use Rattle.form.proofs.Decimal.{decimal_small}
use Rattle.text.proofs.Puts.{digit_last, pair_room, pair_last, triple_room, triple_last}
use Rattle.text.proofs.put_short.Goals as goal

pub put_byte-requires : goal.put_byte-requires
put_byte-requires c = omega (arith, ap length (decimal_small c.args.n c.if-n-lt10.true), c.requires.1)

pub put_two-requires : goal.put_two-requires
put_two-requires c = (omega arith, omega (arith, pair_room c.args.n c.args.out.now c.args.at c.if-n-lt10.false c.if-n-lt100.true c.requires.1))

pub put_byte-a-requires : goal.put_byte-a-requires
put_byte-a-requires c = omega (arith, triple_room c.args.n c.args.out.now c.args.at c.if-n-lt100.false c.requires.0 c.requires.1)

pub put_two-requires-else-n-lt100 : goal.put_two-requires-else-n-lt100
put_two-requires-else-n-lt100 c =
    (omega arith, omega (arith, triple_room c.args.n c.args.out.now c.args.at c.if-n-lt100.false c.requires.0 c.requires.1, c.put_byte-a.ensures.next, c.put_byte-a.auto.out))

pub returns-then-n-lt10 : goal.returns-then-n-lt10
returns-then-n-lt10 c = digit_last _ _ _ c.if-n-lt10.true _ _ c.put_byte.ensures

pub returns-then-n-lt100 : goal.returns-then-n-lt100
returns-then-n-lt100 c = pair_last _ _ _ c.if-n-lt10.false c.if-n-lt100.true _ _ c.put_two.ensures

pub returns-else-n-lt100 : goal.returns-else-n-lt100
returns-else-n-lt100 c = triple_last _ _ _ c.if-n-lt100.false c.requires.0 _ _ c.put_byte-a.ensures _ _ c.put_two-else-n-lt100.ensures
