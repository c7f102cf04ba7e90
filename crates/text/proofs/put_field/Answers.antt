-- `text::put_field` meets its contract. Assumes nothing.
use Rattle.std.proofs.Common.{[], ◌∷◌, arith, length-append}
use Rattle.form.specs.Decimal.{decimal}
use Rattle.text.specs.Listing.{field}
use Rattle.text.proofs.Puts.{then}
use Rattle.text.proofs.put_field.Goals as goal

pub put_number-a-requires : goal.put_number-a-requires
unfolding field
put_number-a-requires c = omega (arith, c.requires, length-append (decimal c.args.n) (c.args.b ∷ []))

pub put_byte-requires : goal.put_byte-requires
unfolding field
put_byte-requires c = omega (arith, c.requires, length-append (decimal c.args.n) (c.args.b ∷ []), c.put_number-a.ensures.next, c.put_number-a.auto.out)

pub returns : goal.returns
unfolding field
returns c = then c.put_number-a.ensures c.put_byte.ensures
