-- `listing::text_room` meets its contract. Assumes nothing.
use Rattle.listing.proofs.Room.{zeros}
use Rattle.listing.proofs.text_room.Statement.{statement}
use Rattle.listing.proofs.text_room.Tie as tie

returns : tie.Need-returns
returns c = zeros 1048616

pub text_room_spec : {M : Type 1} → statement M
text_room_spec = tie.close (tie.spec returns)
