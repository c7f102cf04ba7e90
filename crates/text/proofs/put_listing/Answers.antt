-- `text::put_listing` meets its contract: the first row, then all others. Assumes nothing.
use Rattle.text.proofs.Puts.{then}
use Rattle.text.proofs.put_listing.Goals as goal

pub returns : goal.returns
returns c = then (rw c.byte_at.ensures at c.put_first-at.ensures) c.put_words.ensures
