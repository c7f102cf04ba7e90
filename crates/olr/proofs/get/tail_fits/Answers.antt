-- `olr::get::tail_fits` meets its contract. Assumes nothing.
use Rattle.std.proofs.Common.{ℕ, ◌-◌, ◌*◌, ◌%◌, eq-eqb, refl, ap, ◌∙◌}
use Rattle.olr.specs.Read.{zeros, blocks}
use Rattle.olr.proofs.Laid.{after_none, after_some}
use Rattle.olr.proofs.get.tail_fits.Goals as goal

pub returns-then-r-eq0 : goal.returns-then-r-eq0
returns-then-r-eq0 c =
    let r = c.word_count-r.result % 127 in
    eq-eqb r 0 c.if-r-eq0.true ∙ after_none c.args.file.bytes.now r (ap (λ (n : ℕ). n % 127) c.word_count-r.ensures) c.if-r-eq0.true

pub returns-else-r-eq0 : goal.returns-else-r-eq0
returns-else-r-eq0 c =
    let f = c.args.file.bytes.now in
    let r = c.word_count-r.result % 127 in
    c.all_zero.ensures ∙ ap zeros (after_some f r (ap (λ (n : ℕ). n % 127) c.word_count-r.ensures) (512 * (blocks f - 1)) refl c.if-r-eq0.false)
