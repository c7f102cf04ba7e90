-- `pgm::read_pgm` meets its contract: refused as the rows say, else every sample written. Assumes nothing.
use Rattle.std.proofs.Common.{refl, length, ◌∙◌, arith}
use Rattle.pgm.proofs.Verdicts.{passed_by, head_given, code_sides, kept_area, code_fine}
use Rattle.pgm.proofs.read_pgm.Goals as goal

pub write_samples-requires : goal.write_samples-requires
write_samples-requires c =
    let file = c.args.file.now in
    let places = length c.args.room.now in
    let p = passed_by _ _ _ c.in-Ok-pgm_verdict.ensures.refused refl in
    let q = head_given _ _ c.in-Ok.ensures.0 in
    let s = code_sides _ _ q p.sides in
    let r = c.in-Ok-pgm_verdict.ensures.samples in (
      rw (r.0, r.1, r.3, r.4) (code_fine file places _ q s _ r.2 ∙ p.fine),
      omega (arith, kept_area file places _ q s _ r.2, p.room),
    )
