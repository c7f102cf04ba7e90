-- `olr::get::take_words` meets its contract: the words so far, then what was there, and their flags. Assumes nothing.
use Rattle.std.proofs.Common.{◌+◌, ◌*◌, min}
use Rattle.olr.proofs.Taken.{Taken}
use Rattle.olr.proofs.get.take_words.Given as goal

abbrev pub invariant-loop-b : goal.invariant-loop-b
invariant-loop-b l = Taken l.file.bytes.now l.fn.words l.words l.lines (min l.n (127 * l.b))

abbrev pub invariant-loop-j : goal.invariant-loop-j
invariant-loop-j l = Taken l.file.bytes.now l.fn.words l.words l.lines (127 * l.b + l.j)
