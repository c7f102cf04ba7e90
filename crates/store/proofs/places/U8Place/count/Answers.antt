-- `places::U8Place::count` is a quarter of the length. Assumes nothing.
use Rattle.std.proofs.Common.{sym}
use Rattle.store.proofs.Chunks.{fours_length}
use Rattle.store.proofs.places.U8Place.count.Goals as goal

pub returns : goal.returns
returns c = sym (fours_length c.args.s.now)
