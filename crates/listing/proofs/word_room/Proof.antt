-- `listing::word_room` meets its contract. Assumes nothing.
use Rattle.listing.proofs.Room.{zeros}
use Rattle.listing.proofs.word_room.Statement.{statement}
use Rattle.listing.proofs.word_room.Tie as tie

returns : tie.Need-returns
returns c = zeros 16384

pub word_room_spec : {M : Type 1} → statement M
word_room_spec = tie.close (tie.spec returns)
