-- `frame::count_run` meets its contract: each turn counts one sample more. Assumes nothing.
use Rattle.std.proofs.Common.{◌<◌, ◌+◌, ◌/◌, ◌%◌, [], ◌∷◌, eqb, length, get_or, take, sym, ◌∙◌, add-one, arith}
use Rattle.std.proofs.Math.Nat.{mod-lt}
use lib.ListN.{length-set, length-take}
use lib.Seq.{take-suc}
use Rattle.tally.proofs.Test.{one_le}
use Rattle.frame.proofs.Seen.{one_if}
use Rattle.frame.proofs.Adds.{added_none, added_join, added_one, added_room}
use Rattle.frame.proofs.count_run.Goals as goal

pub loop-s-init : goal.loop-s-init
loop-s-init c = (c.told-t, added_none _ _ _)

pub overflow_add-t : goal.overflow_add-t
overflow_add-t c =
    let a = c.args in
    let q = c.head_of-q.result in
    let i = c.loop-s.s-index in
    rw c.from-in-loop-s.ensures
    (omega (arith, added_room a.heads.whole a.heads.top (take i a.run.now) a.t.now _ 1 _ c.loop-s.invariant.1 c.requires (omega (arith, length-take i a.run.now)) (q % 16) (mod-lt q (omega arith)), c.from.ensures, one_if (eqb (q / 16) a.heads.top), one_le (eqb (q / 16) a.heads.top)))

pub loop-s-preserved : goal.loop-s-preserved
loop-s-preserved c =
    let a = c.args in
    let i = c.loop-s.s-index in
    let s = get_or a.run.now i 0 in
    let h : i < length a.run.now = omega arith in
    let q = c.head_of-q.result in
    let n = c.from.result in
    let m = c.loop-s.invariant.0 in
    rw (c.from-in-loop-s.ensures, add-one i, take-suc a.run.now i 0 h) (
      length-set c.loop-s.t (q % 16) (get_or c.loop-s.t (q % 16) 0 + n) ∙ m,
      added_join a.heads.whole a.heads.top (take i a.run.now) (s ∷ []) a.t.now _ _ c.loop-s.invariant.1
          (added_one a.heads.whole a.heads.top s q n c.loop-s.t m (c.from.ensures ∙ one_if _) (sym c.head_of-q.ensures)),
    )
