-- `frame::border_counts` meets its contract, run by run. Assumes nothing.
use Rattle.std.proofs.Common.{◌≡◌, ℕ, ap, ◌+◌, ◌-◌, ◌*◌, ◌≤◌, ◌<◌, [], length, take, drop, sym, refl, arith}
use lib.ListN.{replicate}
use Rattle.std.proofs.lemmas.List.Edits.{length-between}
use Rattle.matte.specs.Picture.{picture}
use Rattle.frame.specs.Frame.{border_samples}
use Rattle.frame.proofs.Seen.{seen, seen_long}
use Rattle.frame.proofs.Rounds.{rows_le, first_seen, ends_seen, last_seen}
use Rattle.frame.proofs.Adds.{held_none, held_more, held_room, held_all}
use Rattle.frame.proofs.border_counts.Goals as goal

pub loop-y-init : goal.loop-y-init
loop-y-init c =
    let a = c.args in
    let z = a.size in
    let f = a.heads in
    rw (first_seen z.width z.height z.fits a.px.now c.requires)
    (held_more f.whole f.top [] (take (z.width + 1) a.px.now) (replicate 16 0) _ (held_none f.whole f.top) c.count_row.ensures)

pub count_run-requires : goal.count_run-requires
count_run-requires c =
    let a = c.args in
    let z = a.size in
    let y = c.loop-y.y in
    let i = y * z.width + z.width - 1 in
    let l = seen (picture z.width z.height a.px.now) (y * z.width + 1) in
    let m : y + 1 + 1 ≤ z.height = omega (arith, c.loop-y-test.true) in
    let n : i + 2 ≤ length a.px.now = omega (arith, c.requires, rows_le z.width z.height z.fits (y + 1) m, z.fits.w_least) in
    held_room a.heads.whole a.heads.top l _ _ c.loop-y.invariant
    (omega (arith, seen_long (picture z.width z.height a.px.now) (y * z.width + 1), length-between a.px.now i (i + 2) n, n, c.requires, c.area-n.ensures.0, c.area-n.ensures.1, z.fits.w_least))

pub loop-y-preserved : goal.loop-y-preserved
loop-y-preserved c =
    let a = c.args in
    let z = a.size in
    let f = a.heads in
    let y = c.loop-y.y in
    let i = y * z.width + z.width - 1 in
    let two : 2 ≡ i + 2 - i = omega arith in
    let t : y + 1 < z.height = omega (arith, c.loop-y-test.true) in
    rw (ends_seen z.width z.height z.fits a.px.now c.requires y i c.loop-y.auto.y t refl, two)
    (held_more f.whole f.top (seen (picture z.width z.height a.px.now) (y * z.width + 1)) (take (i + 2 - i) (drop i a.px.now)) _ _ c.loop-y.invariant c.count_run.ensures)

pub count_row-requires-2 : goal.count_row-requires-2
count_row-requires-2 c =
    let a = c.args in
    let z = a.size in
    let P = picture z.width z.height a.px.now in
    let y = z.height - 1 in
    let s : c.loop-y.y ≡ y = omega (arith, c.loop-y.auto.y-end, c.loop-y-test.false, z.fits.h_least) in
    let e : y + 1 ≡ z.height = omega (arith, z.fits.h_least) in
    let t : z.width * z.height ≡ z.width * (y + 1) = ap (λ (k : ℕ). z.width * k) (sym e) in
    let i = c.area-n.result - z.width + 1 in
    let l : i ≡ y * z.width + 1 = omega (arith, c.area-n.ensures.0) in
    held_room a.heads.whole a.heads.top (seen P (y * z.width + 1)) _ _ (rw s at c.loop-y.invariant)
    (omega (arith, l, seen_long P (y * z.width + 1), length-between a.px.now i (length a.px.now) (omega arith), c.requires, c.area-n.ensures.0, c.area-n.ensures.1, z.fits.w_least))

pub returns : goal.returns
returns c =
    let a = c.args in
    let z = a.size in
    let f = a.heads in
    let P = picture z.width z.height a.px.now in
    let y = z.height - 1 in
    let s : c.loop-y.y ≡ y = omega (arith, c.loop-y.auto.y-end, c.loop-y-test.false, z.fits.h_least) in
    let e : y + 1 ≡ z.height = omega (arith, z.fits.h_least) in
    let t : z.width * z.height ≡ z.width * (y + 1) = ap (λ (k : ℕ). z.width * k) (sym e) in
    let i = c.area-n.result - z.width + 1 in
    let l : i ≡ y * z.width + 1 = omega (arith, c.area-n.ensures.0) in
    held_all f.whole f.top (border_samples P) _ c.count_row-2.array_long
    (rw (last_seen z.width z.height z.fits a.px.now c.requires y i e l)
    (held_more f.whole f.top (seen P (y * z.width + 1)) (take (length a.px.now - i) (drop i a.px.now)) _ _ (rw s at c.loop-y.invariant) c.count_row-2.ensures))
