-- `olr::put::put_words` meets its contract: the blocks so far, then what was there. Assumes nothing.
use Rattle.std.proofs.Common.{◌≡◌, ◌+◌, ◌*◌, ◌++◌, take, drop}
use Rattle.olr.specs.File.{word_blocks}
use Rattle.olr.proofs.put.put_words.Given as goal

abbrev pub invariant-loop-k : goal.invariant-loop-k
invariant-loop-k l = l.file ≡ (take 512 l.fn.file ++ word_blocks 1 (2 * l.k) l.words) ++ drop (512 * (1 + 2 * l.k)) l.fn.file

abbrev pub invariant-loop-i : goal.invariant-loop-i
invariant-loop-i l = l.file ≡ (take 512 l.fn.file ++ word_blocks 1 l.i l.words) ++ drop (512 * (1 + l.i)) l.fn.file
