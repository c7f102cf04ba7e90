-- `in_slot`: the blocks of the slot that are still in question, and no place before them is fresh. Assumes nothing.
use Rattle.std.proofs.Common.{◌≡◌, ℕ, ◌+◌, ◌*◌, ◌∙◌, ap, arith}
use Rattle.store.specs.Store.{samples_of}
use Rattle.seek.specs.Search.{reach, first_or, slot_start}
use Rattle.seek.proofs.Slots.{reach_up, slot_blocks}
use Rattle.seek.proofs.Blocks.{or_skip}
use Rattle.seek.proofs.in_slot.Goals as goal

pub returns : goal.returns
returns g c =
    let S = g.T.Sample in
    let a = c.args in
    let p = c.requires in
    let X = samples_of S.wide a.bounds.now.px.now in
    let s = slot_blocks a.bounds.now.four a.c a.b p.3 in
    let e : 64 * c.slot_end.result ≡ reach a.bounds.now.four (a.c + 1) = ap (λ (z : ℕ). 64 * z) c.slot_end.ensures ∙ s.1 in
    let b : c.slot_start-first.result ≡ slot_start a.bounds.now.four a.c a.b = c.slot_start-first.ensures in
    c.in_blocks.ensures
    ∙ ap (λ (z : ℕ). first_or X a.work.now (S.value a.k) a.m (64 * c.slot_start-first.result) z a.end) e
    ∙ or_skip X a.work.now (S.value a.k) a.m (reach a.bounds.now.four a.c) (reach a.bounds.now.four (a.c + 1)) a.end (reach_up a.bounds.now.four a.c (a.c + 1) (omega arith)) (64 * c.slot_start-first.result) (omega (arith, b, s.2)) (omega (arith, b, s.0, s.1)) (λ j g h. p.2 j (omega arith) (s.3 j (omega (arith, b)) g))
