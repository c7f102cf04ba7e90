-- `count_level`: 64 places more at each step, then one more, and all of them above the last row. Assumes nothing.
use Rattle.std.proofs.Common.{◌≡◌, ◌+◌, ◌-◌, ◌*◌, ◌∙◌, ap, sym, arith}
use Rattle.tally.specs.Tally.{sum}
use Rattle.tally.proofs.Sum.{sum_cut}
use Rattle.matte.specs.Picture.{picture}
use Rattle.store.specs.Store.{samples_of}
use Rattle.count.specs.Count.{pair_at}
use Rattle.count.proofs.Flat.{area_most}
use Rattle.count.proofs.Counting.{sum_begin, sum_more, all_most, crossings_sum}
use Rattle.count.proofs.count_level.Goals as goal

pub loop-b-init : goal.loop-b-init
loop-b-init g c =
    sum_begin _

pub overflow_add-n : goal.overflow_add-n
overflow_add-n g c =
    let S = g.T.Sample in
    let a = c.args in
    omega (arith, c.count_in.ensures.1, c.from-n.ensures, area_most c.requires.0, all_most (samples_of S.wide a.px.now) a.w (S.value a.k) (64 * c.loop-b.b))

pub loop-b-preserved : goal.loop-b-preserved
loop-b-preserved g c =
    let S = g.T.Sample in
    let a = c.args in
    let l = c.loop-b in
    let f = pair_at (samples_of S.wide a.px.now) a.w (S.value a.k) in
    let s : 64 * (l.b + 1) ≡ 64 * l.b + 64 = omega arith in
    rw (s, c.from-n.ensures, c.count_in.ensures.0, l.invariant) (sym (sum_cut f (64 * l.b) 64))

pub overflow_add-n-in-loop-i : goal.overflow_add-n-in-loop-i
overflow_add-n-in-loop-i g c =
    let S = g.T.Sample in
    let a = c.args in
    omega (arith, c.pair_of.ensures.1, area_most c.requires.0, all_most (samples_of S.wide a.px.now) a.w (S.value a.k) c.loop-i.i)

pub loop-i-preserved : goal.loop-i-preserved
loop-i-preserved g c =
    let S = g.T.Sample in
    let a = c.args in
    let l = c.loop-i in
    let f = pair_at (samples_of S.wide a.px.now) a.w (S.value a.k) in
    let e : c.from-n-in-loop-i.result ≡ f l.i = cc in
    sum_more f l.i l.n _ l.invariant e

pub returns : goal.returns
returns g c =
    let S = g.T.Sample in
    let a = c.args in
    let l = c.loop-i in
    let G = c.requires.0 in
    let X = samples_of S.wide a.px.now in
    let e : l.i ≡ a.w * a.h - a.w = omega (arith, G.whole) in
    let s : l.n ≡ sum (pair_at X a.w (S.value a.k)) (a.w * a.h - a.w) = l.invariant ∙ ap (sum (pair_at X a.w (S.value a.k))) e in
    (s ∙ sym (crossings_sum (picture a.w a.h X) G (S.value a.k)), omega (arith, area_most G, all_most X a.w (S.value a.k) l.i))
