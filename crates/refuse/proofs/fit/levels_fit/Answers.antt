-- `refuse::fit::levels_fit` meets its contract. Assumes nothing.
use Rattle.std.proofs.Common.{arith, ◌≡◌, ◌∙◌, sym, length}
use Rattle.matte.specs.Layout.{eight}
use Rattle.refuse.proofs.Levels.{too_low, too_high, go_on, done}
use Rattle.refuse.proofs.fit.levels_fit.Goals as goal
use Rattle.refuse.proofs.fit.levels_fit.Goals.{then-k-low-via-then-k-low, then-k-low-via-else-k-low+then-k-ge-END}

pub returns-then-k-low : goal.returns-then-k-low
returns-then-k-low c =
    elim c.then-k-low.branch [
      | then-k-low-via-then-k-low w ↦ sym (c.loop-k.invariant ∙ too_low _ _ _ _ c.loop-k-test.true w.if-k-low.true)
      | then-k-low-via-else-k-low+then-k-ge-END w ↦ sym (c.loop-k.invariant ∙ too_high _ _ _ _ c.loop-k-test.true w.if-k-low.false w.if-k-ge-END.true)
    ]

pub loop-k-preserved : goal.loop-k-preserved
loop-k-preserved c = c.loop-k.invariant ∙ go_on _ _ _ _ c.loop-k-test.true c.if-k-low.false c.if-k-ge-END.false

pub returns : goal.returns
returns c = let e : c.loop-k.k-index ≡ length c.args.ks.now = omega arith in sym (c.loop-k.invariant ∙ done eight _ _ _ e)
