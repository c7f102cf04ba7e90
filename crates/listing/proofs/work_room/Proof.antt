-- `listing::work_room` meets its contract. Assumes nothing.
use Rattle.listing.proofs.Room.{zeros}
use Rattle.listing.proofs.work_room.Statement.{statement}
use Rattle.listing.proofs.work_room.Tie as tie

returns : tie.Need-returns
returns c = zeros 16384

pub work_room_spec : {M : Type 1} → statement M
work_room_spec = tie.close (tie.spec returns)
