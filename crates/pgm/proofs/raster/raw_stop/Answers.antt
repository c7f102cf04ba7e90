-- `raster::raw_stop` meets its contract, one sample a turn. Assumes nothing.
use Rattle.std.proofs.Common.{ℕ, ◌≡◌, ◌-◌, ◌+◌, false, length, sym, ap, ◌∙◌, arith}
use Rattle.pgm.specs.Reader.{raster_from}
use Rattle.pgm.proofs.Rows.{raw_24, raw_23, raw_more, raster_none}
use Rattle.pgm.proofs.raster.raw_stop.Goals as goal

pub returns-then-r-bytes : goal.returns-then-r-bytes
returns-then-r-bytes c = sym (c.loop-i.invariant ∙ raw_23 _ _ _ (c.args.r.count - (c.loop-i.i - c.args.r.from.at) - 1) _ (omega arith) (omega arith) c.if-r-bytes.true)

pub loop-i-preserved : goal.loop-i-preserved
loop-i-preserved c = c.loop-i.invariant ∙ raw_more _ _ _ (c.args.r.count - (c.loop-i.i + 1 - c.args.r.from.at)) _ (omega arith) (omega arith) (omega arith)

pub returns-then-there-r : goal.returns-then-there-r
returns-then-there-r c =
    let e : c.loop-i.i ≡ length c.args.r.from.bytes.now = omega arith in
    sym (c.loop-i.invariant ∙ raw_24 _ _ _ (c.args.r.count - (c.loop-i.i - c.args.r.from.at) - 1) _ (omega arith) (omega arith) ∙ ap (λ (z : ℕ). record { number = 24; place = z }) e)

pub returns : goal.returns
returns c =
    let e : c.args.r.count - (c.loop-i.i - c.args.r.from.at) ≡ 0 = omega arith in
    sym (c.loop-i.invariant ∙ ap (λ (z : ℕ). raster_from c.args.r.from.bytes.now false c.args.r.maximum z c.loop-i.i) e ∙ raster_none _ _ _ _)
