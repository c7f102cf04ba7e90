-- `text::put_refused` meets its contract. Assumes nothing.
use Rattle.std.proofs.Common.{[], ◌∷◌, arith, length-append}
use Rattle.form.specs.Decimal.{decimal}
use Rattle.form.proofs.Decimal.{decimal_length}
use Rattle.text.specs.Listing.{field, refused_text}
use Rattle.text.proofs.Puts.{then}
use Rattle.text.proofs.put_refused.Goals as goal

pub put_field-requires : goal.put_field-requires
unfolding field
put_field-requires c =
    omega (arith, c.requires, c.put_bytes-at.ensures.next, c.put_bytes-at.auto.out, length-append (decimal c.args.number) (10 ∷ []), decimal_length 9 c.args.number (omega arith))

pub returns : goal.returns
unfolding refused_text
returns c = then c.put_bytes-at.ensures c.put_field.ensures
