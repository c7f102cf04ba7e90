-- `search`: no place passed was fresh, whether it was looked at or its slot was passed over. Assumes nothing.
use Rattle.std.proofs.Common.{◌+◌, ◌-◌, ◌*◌, ◌/◌, ◌∙◌, refl, ap, arith}
use Rattle.tally.proofs.First.{from_ge, from_over}
use Rattle.store.specs.Store.{samples_of}
use Rattle.seek.specs.Search.{fresh, slot, reach, live_at, Stale}
use Rattle.seek.proofs.Slots.{reach_up, slot_around, slot_next}
use Rattle.seek.proofs.Blocks.{stale_on, stale_next, or_found, or_first, or_bare}
use Rattle.seek.proofs.search.Goals as goal

pub returns-then-i-lt64 : goal.returns-then-i-lt64
returns-then-i-lt64 g c =
    let S = g.T.Sample in
    let a = c.args in
    let p = c.requires in
    let R = c.least_in-i.ensures in
    let i = c.least_in-i.result in
    let X = samples_of S.wide a.bounds.now.px.now in
    let b = 64 * (a.from / 64) in
    let s = (slot_around a.bounds.now.four (a.from / 64)).1 in
    let u = reach_up a.bounds.now.four (slot a.bounds.now.four (a.from / 64) + 1) a.bounds.now.slots (omega (arith, c.slot_of.ensures, c.if-bounds-slot_of.false)) in
    let none : Stale X a.work.now (S.value a.k) a.m b (b + i) = stale_on X a.work.now (S.value a.k) a.m b b i _ refl (λ j g h. absurd (omega arith)) R.passed in
    rw c.from.ensures
    (or_first X a.work.now (S.value a.k) a.m b (b + 64) a.end (omega arith) (b + i) (omega (arith, s, u, p.3))
    (or_found X a.work.now (S.value a.k) a.m b (b + 64) a.end (omega arith) (b + i) (omega arith) (omega (arith, c.if-i-lt64.true)) none (R.found c.if-i-lt64.true))
    (λ j g h. p.4 j g (omega arith)) a.from p.4 (omega (arith, s, u, p.3, c.if-i-lt64.true)))

pub loop-c-init : goal.loop-c-init
loop-c-init g c =
    let S = g.T.Sample in
    let a = c.args in
    let p = c.requires in
    let R = c.least_in-i.ensures in
    let X = samples_of S.wide a.bounds.now.px.now in
    let b = a.from / 64 + 1 in
    let s = (slot_around a.bounds.now.four (a.from / 64)).1 in
    let u = reach_up a.bounds.now.four (slot a.bounds.now.four (a.from / 64) + 1) a.bounds.now.slots (omega (arith, c.slot_of.ensures, c.if-bounds-slot_of.false)) in
    let none : Stale X a.work.now (S.value a.k) a.m 0 (64 * b) =
    stale_on X a.work.now (S.value a.k) a.m 0 (64 * (a.from / 64)) 64 (64 * b) (omega arith) (λ j g h. p.4 j g (omega arith)) (λ i h. R.passed i (omega (arith, c.if-i-lt64.false))) in
    let e = ap (reach a.bounds.now.four) c.slot_of-c.ensures in (
      omega (arith, c.slot_of-c.ensures),
      omega (arith, c.slot_of-c.ensures, c.slot_of.ensures, c.if-bounds-slot_of.false, slot_next a.bounds.now.four (a.from / 64)),
      omega (arith, s, u),
      none,
      λ j g h. none j g (omega (arith, e, (slot_around a.bounds.now.four b).0)),
    )

pub returns-then-bounds-c : goal.returns-then-bounds-c
returns-then-bounds-c g c =
    let S = g.T.Sample in
    let a = c.args in
    let p = c.requires in
    let l = c.loop-c in
    let X = samples_of S.wide a.bounds.now.px.now in
    let none = stale_next X a.work.now (S.value a.k) a.m (samples_of S.wide a.bounds.now.lo.now) (samples_of S.wide a.bounds.now.hi.now) a.bounds.now.four a.bounds.now.slots a.bounds.now.held l.c a.bounds.now.slots (omega arith) (omega (arith, c.if-bounds-c.true, c.next_live-c.ensures)) l.invariant.4 in
    c.tail-then-bounds-c.ensures
    ∙ from_over (fresh X a.work.now (S.value a.k) a.m) a.from c.reach_of.result a.end (omega (arith, c.reach_of.ensures, l.invariant.2)) (omega (arith, c.reach_of.ensures, p.3)) (λ j g h. none j (omega arith) (omega (arith, c.reach_of.ensures)))

pub in_slot-p-requires : goal.in_slot-p-requires
in_slot-p-requires g c =
    let S = g.T.Sample in
    let a = c.args in
    let p = c.requires in
    let l = c.loop-c in
    let r = c.next_live-c.result in
    let u = reach_up a.bounds.now.four (r + 1) a.bounds.now.slots (omega (arith, c.if-bounds-c.false)) in
    let g = from_ge (live_at (samples_of S.wide a.bounds.now.lo.now) (samples_of S.wide a.bounds.now.hi.now) (S.value a.k)) l.c (a.bounds.now.slots - l.c) in
    let v = reach_up a.bounds.now.four (slot a.bounds.now.four (a.from / 64 + 1) + 1) (r + 1) (omega (arith, l.invariant.0, c.next_live-c.ensures, g)) in
    (omega (arith, c.if-bounds-c.false), omega (arith, u, p.3, p.2), l.invariant.3, omega (arith, v, (slot_around a.bounds.now.four (a.from / 64 + 1)).1))

pub returns-then-p-end : goal.returns-then-p-end
returns-then-p-end g c =
    let S = g.T.Sample in
    let a = c.args in
    let p = c.requires in
    let l = c.loop-c in
    let r = c.next_live-c.result in
    let X = samples_of S.wide a.bounds.now.px.now in
    let none = stale_next X a.work.now (S.value a.k) a.m (samples_of S.wide a.bounds.now.lo.now) (samples_of S.wide a.bounds.now.hi.now) a.bounds.now.four a.bounds.now.slots a.bounds.now.held l.c r (omega (arith, c.if-bounds-c.false)) (omega (arith, c.next_live-c.ensures)) l.invariant.4 in
    or_first X a.work.now (S.value a.k) a.m (reach a.bounds.now.four r) (reach a.bounds.now.four (r + 1)) a.end (reach_up a.bounds.now.four r (r + 1) (omega arith)) c.in_slot-p.result (omega (arith, reach_up a.bounds.now.four (r + 1) a.bounds.now.slots (omega (arith, c.if-bounds-c.false)), p.3)) c.in_slot-p.ensures none a.from p.4 c.if-p-end.true

pub loop-c-smaller : goal.loop-c-smaller
loop-c-smaller g c =
    let S = g.T.Sample in
    let a = c.args in
    let l = c.loop-c in
    omega (arith, c.if-bounds-c.false, c.next_live-c.ensures, from_ge (live_at (samples_of S.wide a.bounds.now.lo.now) (samples_of S.wide a.bounds.now.hi.now) (S.value a.k)) l.c (a.bounds.now.slots - l.c))

pub loop-c-preserved : goal.loop-c-preserved
loop-c-preserved g c =
    let S = g.T.Sample in
    let a = c.args in
    let p = c.requires in
    let l = c.loop-c in
    let r = c.next_live-c.result in
    let X = samples_of S.wide a.bounds.now.px.now in
    let none = stale_next X a.work.now (S.value a.k) a.m (samples_of S.wide a.bounds.now.lo.now) (samples_of S.wide a.bounds.now.hi.now) a.bounds.now.four a.bounds.now.slots a.bounds.now.held l.c r (omega (arith, c.if-bounds-c.false)) (omega (arith, c.next_live-c.ensures)) l.invariant.4 in (
      omega (arith, l.invariant.0, c.next_live-c.ensures, from_ge (live_at (samples_of S.wide a.bounds.now.lo.now) (samples_of S.wide a.bounds.now.hi.now) (S.value a.k)) l.c (a.bounds.now.slots - l.c)),
      omega (arith, c.if-bounds-c.false),
      l.invariant.2,
      l.invariant.3,
      or_bare X a.work.now (S.value a.k) a.m (reach a.bounds.now.four r) (reach a.bounds.now.four (r + 1)) a.end (reach_up a.bounds.now.four r (r + 1) (omega arith)) c.in_slot-p.result (omega (arith, reach_up a.bounds.now.four (r + 1) a.bounds.now.slots (omega (arith, c.if-bounds-c.false)), p.3)) c.in_slot-p.ensures none (omega (arith, c.if-p-end.false)),
    )

pub returns : goal.returns
returns g c =
    let S = g.T.Sample in
    let a = c.args in
    let p = c.requires in
    let l = c.loop-c in
    let u = reach_up a.bounds.now.four a.bounds.now.slots l.c (omega (arith, c.loop-c-test.false)) in
    c.tail-2.ensures
    ∙ from_over (fresh (samples_of S.wide a.bounds.now.px.now) a.work.now (S.value a.k) a.m) a.from c.reach_of-2.result a.end (omega (arith, c.reach_of-2.ensures, l.invariant.2)) (omega (arith, c.reach_of-2.ensures, p.3)) (λ j g h. l.invariant.4 j (omega arith) (omega (arith, c.reach_of-2.ensures, u)))
