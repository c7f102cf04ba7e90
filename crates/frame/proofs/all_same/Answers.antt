-- `frame::all_same` meets its contract: each turn asks for one sample more. Assumes nothing.
use Rattle.std.proofs.Common.{ℕ, refl, eqb, get_or, sym, add-one}
use Rattle.tally.proofs.Every.{every_none, every_more}
use Rattle.frame.specs.Counts.{head_of}
use Rattle.frame.proofs.all_same.Goals as goal

pub loop-s-init : goal.loop-s-init
loop-s-init c = sym (every_none _)

pub loop-s-preserved : goal.loop-s-preserved
loop-s-preserved c =
    let a = c.args in
    let i = c.loop-s.s-index in
    let p = λ (k : ℕ). eqb (head_of a.whole (get_or a.run.now k 0)) a.q in
    sym (rw (add-one i, every_more p i, c.head_of.ensures, c.loop-s.invariant) refl)
