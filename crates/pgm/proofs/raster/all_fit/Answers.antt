-- `raster::all_fit` meets its contract. Assumes nothing.
use Rattle.std.proofs.Common.{Bool, ℕ, ◌&&◌, get_or, sym, ap, ◌∙◌, arith}
use borrow.Author.Tests.{le-leb}
use lib.Dec.{leb}
use Rattle.tally.specs.Tally.{every}
use Rattle.tally.proofs.Every.{every_from, every_none, every_more}
use Rattle.pgm.proofs.raster.all_fit.Goals as goal

pub returns-then-m-eq255 : goal.returns-then-m-eq255
returns-then-m-eq255 c = sym (every_from _ _ (λ j h. le-leb _ _ (omega (arith, c.type_inv.s j))))

pub loop-b-init : goal.loop-b-init
loop-b-init c = sym (every_none _)

pub loop-b-preserved : goal.loop-b-preserved
loop-b-preserved c =
    let p : ℕ → Bool = λ j. leb (get_or c.args.s.now j 0) c.args.m in
    ap (λ (z : Bool). z && p c.loop-b.b-index) c.loop-b.invariant ∙ sym (every_more p c.loop-b.b-index) ∙ ap (every p) (omega arith)

pub returns : goal.returns
returns c =
    let p : ℕ → Bool = λ j. leb (get_or c.args.s.now j 0) c.args.m in
    c.loop-b.invariant ∙ ap (every p) (omega arith)
