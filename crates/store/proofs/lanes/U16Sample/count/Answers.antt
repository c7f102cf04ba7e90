-- `lanes::U16Sample::count` is half of the length. Assumes nothing.
use Rattle.std.proofs.Common.{sym}
use Rattle.store.proofs.Chunks.{pairs_length}
use Rattle.store.proofs.lanes.U16Sample.count.Goals as goal

pub returns : goal.returns
returns c = sym (pairs_length c.args.s.now)
