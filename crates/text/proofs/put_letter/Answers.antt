-- `text::put_letter` meets its contract. Assumes nothing.
use Rattle.text.proofs.Puts.{then}
use Rattle.text.proofs.put_letter.Goals as goal

pub returns : goal.returns
returns c = then c.put_byte-a.ensures c.put_byte.ensures
