-- `tree::walk::walk`: the lines whose leads have ranks passed have their entries. Assumes nothing.
use Rattle.matte.specs.Layout.{eight}
use Rattle.matte.specs.Picture.{picture}
use Rattle.enclosure.specs.Tree.{entry}
use Rattle.enclosure.proofs.Walk.{Decided}
use Rattle.tree.proofs.walk.walk.Given as goal

abbrev pub invariant-loop-r : goal.invariant-loop-r
invariant-loop-r l = Decided eight (picture l.w l.h l.px) l.ks (entry eight (picture l.w l.h l.px) l.ks) l.fn.places l.r l.places
