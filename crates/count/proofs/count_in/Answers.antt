-- `count_in`: one place more at each step, two edgels at most. Assumes nothing.
use Rattle.std.proofs.Common.{◌≡◌, ℕ, ◌+◌, arith}
use Rattle.store.specs.Store.{samples_of}
use Rattle.count.specs.Count.{pair_at}
use Rattle.count.proofs.Counting.{sum_begin, sum_more, pairs_most}
use Rattle.count.proofs.count_in.Goals as goal

pub loop-i-init : goal.loop-i-init
loop-i-init g c = sum_begin _

pub overflow_add-n : goal.overflow_add-n
overflow_add-n g c =
    let S = g.T.Sample in
    let a = c.args in
    omega (arith, c.pair_of-n.ensures.1, pairs_most (samples_of S.wide a.px.now) a.w (S.value a.k) a.from c.loop-i.i)

pub loop-i-preserved : goal.loop-i-preserved
loop-i-preserved g c =
    let S = g.T.Sample in
    let a = c.args in
    let l = c.loop-i in
    let f = λ (j : ℕ). pair_at (samples_of S.wide a.px.now) a.w (S.value a.k) (a.from + j) in
    let e : c.pair_of-n.result ≡ f l.i = cc in
    sum_more f l.i l.n _ l.invariant e

pub returns : goal.returns
returns g c =
    let S = g.T.Sample in
    let a = c.args in
    let l = c.loop-i in
    let e : l.i ≡ 64 = omega arith in
    (rw e at l.invariant, omega (arith, pairs_most (samples_of S.wide a.px.now) a.w (S.value a.k) a.from l.i))
