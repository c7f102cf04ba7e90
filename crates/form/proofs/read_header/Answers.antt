-- `form::read_header` meets its contract: each return by the parts read up to it. Assumes nothing.
use Rattle.std.proofs.Common.{sym, ◌∙◌}
use Rattle.form.specs.Text.{magic, maximum}
use Rattle.form.proofs.Prefix.{prefix_told}
use Rattle.form.proofs.Head.{head_plain, head_width, head_space, head_height, head_end, head_done}
use Rattle.form.proofs.read_header.Goals as goal

pub returns-then-not-starts_with : goal.returns-then-not-starts_with
returns-then-not-starts_with c =
    head_plain _ (prefix_told magic _ c.starts_with.ensures.value c.if-not-starts_with.true)

pub returns-in_err-width : goal.returns-in_err-width
returns-in_err-width c =
    rw c.from_residual.ensures
    (head_width _ (prefix_told magic _ c.starts_with.ensures.value c.if-not-starts_with.false) c.in_err-width.ensures.0)

pub returns-then-byte_at-ne32 : goal.returns-then-byte_at-ne32
returns-then-byte_at-ne32 c =
    head_space _ (prefix_told magic _ c.starts_with.ensures.value c.if-not-starts_with.false) _ c.in_ok-width.ensures.0 (λ e. c.if-byte_at-ne32.true (c.byte_at.ensures ∙ e))

pub returns-in_err-height : goal.returns-in_err-height
returns-in_err-height c =
    rw c.from_residual-in_err-height.ensures
    (head_height _ (prefix_told magic _ c.starts_with.ensures.value c.if-not-starts_with.false) _ c.in_ok-width.ensures.0 (sym c.byte_at.ensures ∙ c.if-byte_at-ne32.false)
    c.in_err-height.ensures.0)

pub returns-then-not-starts_with-2 : goal.returns-then-not-starts_with-2
returns-then-not-starts_with-2 c =
    head_end _ (prefix_told magic _ c.starts_with.ensures.value c.if-not-starts_with.false) _ c.in_ok-width.ensures.0 (sym c.byte_at.ensures ∙ c.if-byte_at-ne32.false)
    _ c.in_ok-height.ensures.0 (prefix_told maximum _ c.starts_with-2.ensures.value c.if-not-starts_with-2.true)

pub returns : goal.returns
returns c =
    head_done _ (prefix_told magic _ c.starts_with.ensures.value c.if-not-starts_with.false) _ c.in_ok-width.ensures.0 (sym c.byte_at.ensures ∙ c.if-byte_at-ne32.false)
    _ c.in_ok-height.ensures.0 (prefix_told maximum _ c.starts_with-2.ensures.value c.if-not-starts_with-2.false) c.in_ok-width.ensures.1.1 c.in_ok-height.ensures.1.1
