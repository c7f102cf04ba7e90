-- `listing::input_room` meets its contract. Assumes nothing.
use Rattle.listing.proofs.Room.{zeros}
use Rattle.listing.proofs.input_room.Statement.{statement}
use Rattle.listing.proofs.input_room.Tie as tie

returns : tie.Need-returns
returns c = zeros 17420

pub input_room_spec : {M : Type 1} → statement M
input_room_spec = tie.close (tie.spec returns)
