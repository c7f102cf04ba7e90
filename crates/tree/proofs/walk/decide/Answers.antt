-- `tree::walk::decide` meets its contract. Assumes nothing.
use Rattle.std.proofs.Common.{ℕ, ◌+◌, ◌%◌, set, get_or, refl, sym, ap, ◌∙◌}
use Rattle.std.specs.Int.Bits.{bit_and}
use Rattle.tree.specs.Walk.{parent_at}
use Rattle.tree.proofs.Bits.{bit_yes, bit_no, bit_kept}
use Rattle.tree.proofs.Deciding.{decided_yes, decided_no}
use Rattle.tree.proofs.walk.decide.Goals as goal

pub returns-then-x-ne0 : goal.returns-then-x-ne0
returns-then-x-ne0 c =
    let a = c.args in
    let x = get_or a.words.now a.r 0 in
    ap (λ (z : ℕ). set a.places.now (x % 536870912) (z + bit_and x 2147483648)) c.parent_at-p.ensures.0
    ∙ ap (λ (z : ℕ). set a.places.now (x % 536870912) (parent_at a.words.now a.r a.places.now + z)) (bit_kept x 31 2147483648 refl)
    ∙ sym (decided_yes a.words.now a.r a.places.now (bit_yes x 30 1073741824 refl c.if-x-ne0.true))

pub returns-else-x-ne0 : goal.returns-else-x-ne0
returns-else-x-ne0 c =
    let a = c.args in
    sym (decided_no a.words.now a.r a.places.now (bit_no _ 30 1073741824 refl c.if-x-ne0.false))
