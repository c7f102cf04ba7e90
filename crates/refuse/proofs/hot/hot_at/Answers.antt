-- `refuse::hot::hot_at` meets its contract: the three parts of the border, each looked at where those before it are all one value. Assumes nothing.
use Rattle.std.proofs.Common.{arith, ap, ◌∙◌, ℕ, ◌-◌, get_or}
use Rattle.tally.specs.Tally.{first_from}
use Rattle.refuse.specs.Ends.{other_at}
use Rattle.refuse.proofs.Border.{found_top, found_end, found_bottom}
use Rattle.refuse.proofs.hot.hot_at.Goals as goal

pub returns-then-i-w : goal.returns-then-i-w
returns-then-i-w c = found_top _ _ c.args.size.fits c.args.px.now _ c.next_other-i.ensures c.if-i-w.true

pub returns-then-j-n : goal.returns-then-j-n
returns-then-j-n c =
    found_end _ _ c.args.size.fits c.args.px.now _ c.next_other-i.ensures c.if-i-w.false _ c.end_other-j.ensures (omega (arith, c.if-j-n.true, c.area-n.ensures.0))

pub returns : goal.returns
returns c =
    let a = c.args in
    found_bottom _ _ c.args.size.fits a.px.now _ c.next_other-i.ensures c.if-i-w.false _ c.end_other-j.ensures (omega (arith, c.if-j-n.false, c.area-n.ensures.0)) _
    (c.next_other.ensures ∙ ap (λ (n : ℕ). first_from (other_at a.px.now (get_or a.px.now 0 0)) (n - a.size.width) (n - (n - a.size.width))) c.area-n.ensures.0)
