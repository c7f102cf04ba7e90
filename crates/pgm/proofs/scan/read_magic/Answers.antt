-- `scan::read_magic` meets its contract, byte by byte. Assumes nothing.
use Rattle.std.proofs.Common.{false, sym, ap, ◌∙◌}
use Rattle.pgm.specs.Grammar.{in_gap}
use Rattle.pgm.specs.Reader.{is_form}
use Rattle.pgm.proofs.Header.{magic_0, magic_1, magic_2, magic_done}
use Rattle.pgm.proofs.scan.read_magic.Goals as goal

pub returns-then-byte_at-ne80 : goal.returns-then-byte_at-ne80
returns-then-byte_at-ne80 c = magic_0 _ (λ e. c.if-byte_at-ne80.true (c.byte_at.ensures ∙ e))

pub returns-then-not-is_form : goal.returns-then-not-is_form
returns-then-not-is_form c =
    magic_1 _ (sym c.byte_at.ensures ∙ c.if-byte_at-ne80.false) (ap is_form (sym c.byte_at-form.ensures) ∙ sym c.is_form.ensures ∙ c.if-not-is_form.true)

pub returns-then-not-in_gap : goal.returns-then-not-in_gap
returns-then-not-in_gap c =
    magic_2 _ (sym c.byte_at.ensures ∙ c.if-byte_at-ne80.false) (ap is_form (sym c.byte_at-form.ensures) ∙ sym c.is_form.ensures ∙ c.if-not-is_form.false)
    (ap (in_gap false) (sym c.byte_at-2.ensures) ∙ sym c.in_gap.ensures ∙ c.if-not-in_gap.true)

pub returns : goal.returns
returns c =
    magic_done _ (sym c.byte_at.ensures ∙ c.if-byte_at-ne80.false) (ap is_form (sym c.byte_at-form.ensures) ∙ sym c.is_form.ensures ∙ c.if-not-is_form.false)
    (ap (in_gap false) (sym c.byte_at-2.ensures) ∙ sym c.in_gap.ensures ∙ c.if-not-in_gap.false) _ c.byte_at-form.ensures
