-- `text::put_line` meets its contract: field after field. Assumes nothing.
use Rattle.std.proofs.Common.{ℕ, [], ◌∷◌, ap, arith, length-append}
use Rattle.text.specs.Listing.{line_text}
use Rattle.text.proofs.Puts.{then, put_as}
use Rattle.text.proofs.put_line.Goals as goal

pub put_field-a-requires : goal.put_field-a-requires
unfolding line_text
put_field-a-requires c = omega (arith, simp length-append at c.requires)

pub put_field-b-requires : goal.put_field-b-requires
unfolding line_text
put_field-b-requires c = omega (arith, simp length-append at c.requires)

pub put_field-c-requires : goal.put_field-c-requires
unfolding line_text
put_field-c-requires c = omega (arith, simp length-append at c.requires)

pub put_letter-d-requires : goal.put_letter-d-requires
unfolding line_text
put_letter-d-requires c = omega (arith, simp length-append at c.requires)

pub put_field-requires : goal.put_field-requires
unfolding line_text
put_field-requires c = omega (arith, simp length-append at c.requires)

pub returns : goal.returns
unfolding line_text
returns c = then c.put_field-a.ensures (then c.put_field-b.ensures (then c.put_field-c.ensures (then (put_as (ap (λ (g : ℕ). g ∷ 32 ∷ []) c.kind_letter.ensures) c.put_letter-d.ensures) c.put_field.ensures)))
