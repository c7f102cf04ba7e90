-- `refuse::hot::end_other`: no end of a row passed was other than v. Assumes nothing.
use Rattle.refuse.proofs.Border.{Along}
use Rattle.refuse.proofs.hot.end_other.Given as goal

abbrev pub invariant-loop-y : goal.invariant-loop-y
invariant-loop-y l = Along l.fn.size.width l.fn.size.height l.px l.v l.left l.y
