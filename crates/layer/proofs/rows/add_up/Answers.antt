-- `layer::rows::add_up` meets its contract: the sum of the bytes up to a sample is that sample. Assumes nothing.
use Rattle.std.proofs.Common.{◌≡◌, ◌<◌, ◌++◌, ◌+◌, ◌%◌, length, drop, get_or, sym, ◌∙◌, arith, length-append, length-take-le, take-append-drop}
use Rattle.std.proofs.lemmas.List.{get_or_append_left, set-append_left}
use Rattle.fill.proofs.Fills.{filled_none, filled_more}
use Rattle.layer.specs.Sums.{up_to}
use Rattle.layer.proofs.Bytes.{up_first, up_next, up_on}
use Rattle.layer.proofs.rows.add_up.Goals as goal

pub loop-x-init : goal.loop-x-init
loop-x-init c = let d = c.args.room.now in (rw (take-append-drop c.args.n d) (filled_none (up_to d) d), up_first d)

pub loop-x-preserved : goal.loop-x-preserved
loop-x-preserved c =
    let d = c.args.room.now in
    let F = c.loop-x.invariant.0 in
    let i = c.loop-x.x-index in
    let b = c.loop-x.x-items in
    let r = drop c.args.n d in
    let h : i < length b = omega (arith, c.loop-x.auto.x-items) in
    let v = (c.loop-x.s + get_or b i 0) % 256 in
    let q : v ≡ up_to d i = up_next d i _ _ c.loop-x.invariant.1 (sym (get_or_append_left b r 0 i h) ∙ F.same i (omega arith)) in
    (rw (← set-append_left b r i v h) (filled_more (up_to d) d i v (b ++ r) F (omega (arith, length-append b r)) q), up_on d i v q)

pub returns : goal.returns
returns c =
    let e : c.loop-x.x-index ≡ c.args.n = omega (arith, length-take-le c.args.n c.args.room.now c.requires) in
    rw e at c.loop-x.invariant.0
