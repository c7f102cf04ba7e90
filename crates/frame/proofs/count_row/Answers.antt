-- `frame::count_row` meets its contract, 64 samples at a time. Assumes nothing.
use Rattle.std.proofs.Common.{◌≡◌, ◌+◌, ◌-◌, ◌*◌, ◌/◌, ℕ, ◌++◌, List, length, take, drop, ap, ◌∙◌, arith}
use Rattle.std.proofs.lemmas.List.{take_rest}
use Rattle.std.proofs.lemmas.List.Edits.{length-between}
use lib.ListN.{length-take, take-append-drop}
use lib.Seq.{take-add}
use Rattle.frame.proofs.Adds.{added_none, added_join, added_room}
use Rattle.frame.proofs.count_row.Goals as goal

pub loop-k-init : goal.loop-k-init
loop-k-init c = added_none _ _ _

pub count_block-requires : goal.count_block-requires
count_block-requires c =
    let a = c.args in
    let i = 64 * c.loop-k.k in (
      length-between a.run.now i (i + 64) (omega arith) ∙ omega arith,
      added_room a.heads.whole a.heads.top (take i a.run.now) a.t.now _ 64 _ c.loop-k.invariant c.requires (omega (arith, length-take i a.run.now)),
    )

pub loop-k-preserved : goal.loop-k-preserved
loop-k-preserved c =
    let a = c.args in
    let l = a.run.now in
    let i = 64 * c.loop-k.k in
    let z : 64 * (c.loop-k.k + 1) ≡ i + (i + 64 - i) = omega arith in
    rw (z, take-add i (i + 64 - i) l) (added_join a.heads.whole a.heads.top _ _ a.t.now _ _ c.loop-k.invariant c.count_block.ensures)

pub count_run-requires : goal.count_run-requires
count_run-requires c =
    let a = c.args in
    let l = a.run.now in
    let b = length l / 64 in
    let k : c.loop-k.k ≡ b = omega (arith, c.loop-k.auto.k-end, c.loop-k-test.false) in
    added_room a.heads.whole a.heads.top (take (64 * b) l) a.t.now _ _ _ (rw k at c.loop-k.invariant) c.requires
    (omega (arith, length-take (64 * b) l, length-between l (64 * b) (length l) (omega arith)))

pub returns : goal.returns
returns c =
    let a = c.args in
    let l = a.run.now in
    let b = length l / 64 in
    let i = 64 * b in
    let k : c.loop-k.k ≡ b = omega (arith, c.loop-k.auto.k-end, c.loop-k-test.false) in
    let e : take i l ++ take (length l - i) (drop i l) ≡ l = ap (λ (x : List ℕ). take i l ++ x) (take_rest l i) ∙ take-append-drop i l in
    rw e at (added_join a.heads.whole a.heads.top (take i l) (take (length l - i) (drop i l)) a.t.now _ _ (rw k at c.loop-k.invariant) c.count_run.ensures)
