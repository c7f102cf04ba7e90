-- `olr::put::put_bytes` meets its contract: the words so far, then what was there. Assumes nothing.
use Rattle.std.proofs.Common.{◌≡◌, ◌*◌, ◌++◌, take, drop}
use Rattle.olr.specs.File.{word_bytes}
use Rattle.olr.proofs.put.put_bytes.Given as goal

abbrev pub invariant-loop-j : goal.invariant-loop-j
invariant-loop-j l = l.s ≡ word_bytes (take l.j l.words) ++ drop (4 * l.j) l.fn.s
