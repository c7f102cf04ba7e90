-- `refuse::fit::levels_fit`: what is left of the list is to pass with the level before. Assumes nothing.
use Rattle.std.proofs.Common.{◌≡◌, drop}
use Rattle.matte.specs.Layout.{eight}
use Rattle.matte.specs.Picture.{ascend}
use Rattle.refuse.proofs.fit.levels_fit.Given as goal

abbrev pub invariant-loop-k : goal.invariant-loop-k
invariant-loop-k l = ascend eight 0 l.ks ≡ ascend eight l.low (drop l.k-index l.ks)
