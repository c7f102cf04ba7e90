-- `piece::quotient` meets its contract. Assumes nothing.
use native.Mathlib.Omega.{arith}
use Rattle.piece.proofs.Sign.{over_lt, over_ge}
use Rattle.piece.proofs.quotient.Goals as goal

pub returns-then-a-b : goal.returns-then-a-b
returns-then-a-b c = let a = c.args in over_lt a.a a.b a.m (omega (arith, c.if-a-b.true))

pub returns : goal.returns
returns c = let a = c.args in over_ge a.a a.b a.m (omega (arith, c.if-a-b.false))
