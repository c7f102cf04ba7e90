-- `marks::ahead` meets its contract: the digits that are left of the place's number. Assumes nothing.
use Rattle.marks.proofs.Places.{ahead_all}
use Rattle.marks.proofs.ahead.Goals as goal

pub returns : goal.returns
returns c = ahead_all _ _ _ c.number_at.ensures c.number_at.type_inv
