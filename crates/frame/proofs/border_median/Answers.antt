-- `frame::border_median` meets its contract: the two searches find the median. Assumes nothing.
use Rattle.std.proofs.Common.{ℕ, true, false, ap, ◌∙◌, arith}
use Rattle.matte.specs.Picture.{picture}
use Rattle.frame.specs.Frame.{border_samples}
use Rattle.frame.specs.Counts.{half_from}
use Rattle.frame.proofs.Halves.{under_none}
use Rattle.frame.proofs.Digits.{upper_under, half_le, median_halves}
use Rattle.frame.proofs.border_median.Goals as goal

pub half_from-u-requires : goal.half_from-u-requires
half_from-u-requires c =
    (c.requires, under_none false (border_samples (picture c.args.size.width c.args.size.height c.args.px.now)))

pub invariant_of-all : goal.invariant_of-all
invariant_of-all c =
    let u = c.half_from-u in
    record { top_fits = omega (arith, u.ensures.0, half_le false 0 (border_samples (picture c.args.size.width c.args.size.height c.args.px.now))) }

pub half_from-v-requires : goal.half_from-v-requires
half_from-v-requires c =
    let l = border_samples (picture c.args.size.width c.args.size.height c.args.px.now) in
    let u = c.half_from-u in
    (c.requires, u.ensures.1 ∙ upper_under l u.result.value)

pub returns : goal.returns
returns c =
    let l = border_samples (picture c.args.size.width c.args.size.height c.args.px.now) in
    c.half_from-v.ensures.0 ∙ ap (λ (z : ℕ). half_from true z l) c.half_from-u.ensures.0 ∙ median_halves l
