-- `text::put_row` meets its contract: field after field. Assumes nothing.
use Rattle.std.proofs.Common.{arith, length-append}
use Rattle.text.specs.Listing.{row_text}
use Rattle.text.proofs.Puts.{then}
use Rattle.text.proofs.put_row.Goals as goal

pub put_field-a-requires : goal.put_field-a-requires
unfolding row_text
put_field-a-requires c = omega (arith, simp length-append at c.requires)

pub put_field-b-requires : goal.put_field-b-requires
unfolding row_text
put_field-b-requires c = omega (arith, simp length-append at c.requires)

pub put_letter-c-requires : goal.put_letter-c-requires
unfolding row_text
put_letter-c-requires c = omega (arith, simp length-append at c.requires)

pub put_field-d-requires : goal.put_field-d-requires
unfolding row_text
put_field-d-requires c = omega (arith, simp length-append at c.requires)

pub put_field-requires : goal.put_field-requires
unfolding row_text
put_field-requires c = omega (arith, simp length-append at c.requires)

pub returns : goal.returns
unfolding row_text
returns c = then c.put_field-a.ensures (then c.put_field-b.ensures (then c.put_letter-c.ensures (then c.put_field-d.ensures c.put_field.ensures)))
