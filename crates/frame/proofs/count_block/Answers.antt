-- `frame::count_block` meets its contract: 64 of one head at once, else one by one. Assumes nothing.
use Rattle.std.proofs.Common.{◌≡◌, ◌*◌, ◌/◌, ◌%◌, ℕ, true, eqb, length, get_or, sym, ap, ◌∙◌, arith}
use Rattle.std.proofs.Math.Nat.{mod-lt}
use borrow.Author.Tests.{eqb-true}
use Rattle.tally.specs.Tally.{one, every}
use Rattle.tally.proofs.Test.{one_le}
use Rattle.tally.proofs.Every.{every_at}
use Rattle.frame.specs.Counts.{head_of}
use Rattle.frame.proofs.Seen.{one_if}
use Rattle.frame.proofs.Adds.{added_alike}
use Rattle.frame.proofs.count_block.Goals as goal

pub overflow_add-t : goal.overflow_add-t
overflow_add-t c =
    let a = c.args in
    let q = c.head_of-q.result in
    rw c.from-then-all_same.ensures
    (omega (arith, c.requires.1 (q % 16) (mod-lt q (omega arith)), c.from.ensures, one_if (eqb (q / 16) a.heads.top), one_le (eqb (q / 16) a.heads.top)))

pub returns-then-all_same : goal.returns-then-all_same
returns-then-all_same c =
    let a = c.args in
    let q = c.head_of-q.result in
    let f = λ (j : ℕ). eqb (head_of a.heads.whole (get_or a.block.now j 0)) q in
    let e : every f (length a.block.now) ≡ true = sym c.all_same.ensures ∙ c.if-all_same.true in
    let n : c.from.result ≡ one (eqb (q / 16) a.heads.top) = c.from.ensures ∙ one_if _ in
    rw c.from-then-all_same.ensures
    (added_alike a.heads.whole a.heads.top a.block.now a.t.now q (64 * c.from.result) c.told-t (ap (λ (z : ℕ). 64 * z) n ∙ ap (λ (z : ℕ). z * one (eqb (q / 16) a.heads.top)) (sym c.requires.0))
    (λ j h. eqb-true _ q (every_at f (length a.block.now) e j h)))
