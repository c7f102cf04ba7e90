-- `raster::raw_verdict` meets its contract. Assumes nothing.
use Rattle.std.proofs.Common.{ℕ, Bool, ◌+◌, ◌-◌, ◌≤◌, length, get_or, take, drop, sym, ap, ◌∙◌, arith}
use lib.Dec.{leb}
use Rattle.tally.specs.Tally.{every}
use Rattle.tally.proofs.Every.{every_at}
use Rattle.pgm.proofs.Rows.{raw_fit, part_length, part_fits}
use Rattle.pgm.proofs.raster.raw_verdict.Goals as goal

pub returns : goal.returns
returns c =
    let r = c.args.r in
    let s = r.from.bytes.now in
    let p = r.from.at in
    let h : p + r.count ≤ length s = omega arith in
    let fits : ℕ → Bool = λ j. leb (get_or (take (p + r.count - p) (drop p s)) j 0) r.maximum in
    let all = sym (part_fits s r.maximum p r.count) ∙ ap (every fits) (sym (part_length s p r.count h)) ∙ sym c.all_fit.ensures ∙ c.if-not-all_fit.false in
    sym (raw_fit s r.maximum r.count p h (every_at _ _ all))
