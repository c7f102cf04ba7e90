-- `listing::read_full`: no more bytes came than there is room for. Assumes nothing.
use Rattle.std.proofs.Common.{◌≤◌, length}
use Rattle.listing.proofs.read_full.Given as goal

abbrev pub invariant-loop : goal.invariant-loop
invariant-loop g l = l.n ≤ length l.room
