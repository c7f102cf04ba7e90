-- `text::put_first` meets its contract: field after field. Assumes nothing.
use Rattle.std.proofs.Common.{arith, length-append}
use Rattle.text.specs.Listing.{first_text}
use Rattle.text.proofs.Puts.{then}
use Rattle.text.proofs.put_first.Goals as goal

pub put_field-a-requires : goal.put_field-a-requires
unfolding first_text
put_field-a-requires c = omega (arith, simp length-append at c.requires)

pub put_field-b-requires : goal.put_field-b-requires
unfolding first_text
put_field-b-requires c = omega (arith, simp length-append at c.requires)

pub put_field-c-requires : goal.put_field-c-requires
unfolding first_text
put_field-c-requires c = omega (arith, simp length-append at c.requires)

pub put_field-d-requires : goal.put_field-d-requires
unfolding first_text
put_field-d-requires c = omega (arith, simp length-append at c.requires)

pub put_field-e-requires : goal.put_field-e-requires
unfolding first_text
put_field-e-requires c = omega (arith, simp length-append at c.requires)

pub put_field-requires : goal.put_field-requires
unfolding first_text
put_field-requires c = omega (arith, simp length-append at c.requires)

pub returns : goal.returns
unfolding first_text
returns c = then c.put_field-a.ensures (then c.put_field-b.ensures (then c.put_field-c.ensures (then c.put_field-d.ensures (then c.put_field-e.ensures c.put_field.ensures))))
