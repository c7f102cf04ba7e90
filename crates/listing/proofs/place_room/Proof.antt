-- `listing::place_room` meets its contract. Assumes nothing.
use Rattle.listing.proofs.Room.{zeros}
use Rattle.listing.proofs.place_room.Statement.{statement}
use Rattle.listing.proofs.place_room.Tie as tie

returns : tie.Need-returns
returns c = zeros 8192

pub place_room_spec : {M : Type 1} → statement M
place_room_spec = tie.close (tie.spec returns)
