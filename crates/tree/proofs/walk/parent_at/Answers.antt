-- `tree::walk::parent_at` meets its contract. Assumes nothing.
use Rattle.std.proofs.Common.{sym, refl, arith}
use Rattle.tree.proofs.Bits.{bit_yes, bit_no}
use Rattle.tree.proofs.Deciding.{parent_none, parent_straight, parent_turned}
use Rattle.tree.proofs.walk.parent_at.Goals as goal

pub returns-then-r-eq0 : goal.returns-then-r-eq0
returns-then-r-eq0 c =
    let a = c.args in
    (sym (parent_none a.words.now a.r a.places.now c.if-r-eq0.true), omega arith)

pub returns-then-y-ne0 : goal.returns-then-y-ne0
returns-then-y-ne0 c =
    let a = c.args in
    (sym (parent_straight a.words.now a.r a.places.now c.if-r-eq0.false (bit_yes _ 29 _ refl c.if-y-ne0.true)), omega arith)

pub returns : goal.returns
returns c =
    let a = c.args in
    (sym (parent_turned a.words.now a.r a.places.now c.if-r-eq0.false (bit_no _ 29 _ refl c.if-y-ne0.false)), omega arith)
