-- The turns of the loop of `olr::put::put_bytes`. Assumes nothing.
use Rattle.std.proofs.Common.{arith}
use Rattle.olr.proofs.Words.{bytes_start, bytes_put}
use Rattle.olr.proofs.put.put_bytes.Goals as goal

pub loop-j-init : goal.loop-j-init
loop-j-init c = bytes_start c.args.words.now c.args.s.now

pub loop-j-preserved : goal.loop-j-preserved
loop-j-preserved c = bytes_put c.args.words.now c.args.s.now _ _ c.loop-j.j (omega arith) c.loop-j.invariant c.put4.ensures
