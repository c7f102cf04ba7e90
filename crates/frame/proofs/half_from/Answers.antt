-- `frame::half_from` meets its contract: the half of the counts is the first value that half of the heads do not exceed. Assumes nothing.
use Rattle.std.proofs.Common.{◌≡◌, ◌+◌, ◌-◌, ◌*◌, ◌≤◌, length, sym, arith}
use Rattle.matte.specs.Picture.{picture}
use Rattle.frame.specs.Frame.{border_samples}
use Rattle.frame.proofs.Many.{border_many}
use Rattle.frame.proofs.Halves.{halfway_le, counts_sum, found_half, found_under}
use Rattle.frame.proofs.half_from.Goals as goal

pub middle-f-requires : goal.middle-f-requires
middle-f-requires c =
    let a = c.args in
    let S = c.args.size.fits in
    let l = border_samples (picture a.size.width a.size.height a.px.now) in
    let e : length l ≡ 2 * (a.size.width + a.size.height) - 4 = border_many _ _ S _ in
    rw c.border_counts-t.ensures (omega (arith, counts_sum a.heads.whole a.heads.top l, c.requires.1, S.w_most, S.h_most))

pub overflow_add-result : goal.overflow_add-result
overflow_add-result c = omega (arith, c.args.heads.top_fits, c.middle-f.ensures.0, halfway_le c.border_counts-t.result c.args.below (2 * (c.args.size.width + c.args.size.height) - 4))

pub returns : goal.returns
returns c =
    let a = c.args in
    let l = border_samples (picture a.size.width a.size.height a.px.now) in
    let m = c.middle-f in
    let t = c.border_counts-t in
    let d : m.result.value ≤ 16 = omega (arith, m.ensures.0, halfway_le t.result a.below (2 * (a.size.width + a.size.height) - 4)) in (
      found_half a.heads.whole a.heads.top l _ _ _ _ 0 t.ensures c.requires.1 (sym (border_many _ _ c.args.size.fits a.px.now)) m.ensures.0,
      found_under a.heads.whole a.heads.top l _ _ 0 _ _ t.ensures c.requires.1 d m.ensures.1,
    )
