-- `frame::border_counts`: the border samples up to row y's first have been counted. Assumes nothing.
use Rattle.std.proofs.Common.{◌+◌, ◌*◌}
use Rattle.matte.specs.Picture.{picture}
use Rattle.frame.proofs.Seen.{seen}
use Rattle.frame.proofs.Adds.{Held}
use Rattle.frame.proofs.border_counts.Given as goal

abbrev pub invariant-loop-y : goal.invariant-loop-y
invariant-loop-y l = Held l.fn.heads.whole l.fn.heads.top (seen (picture l.fn.size.width l.fn.size.height l.px) (l.y * l.fn.size.width + 1)) l.t
