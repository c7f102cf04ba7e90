-- `block::rotate` meets its contract: the bits that move up and the bit that comes round do not overlap, so either of them is their sum. Assumes nothing.
use Rattle.std.proofs.Common.{◌≡◌, ◌*◌, ◌/◌, ◌%◌, bit_or, ap, ◌∙◌, arith}
use Rattle.std.proofs.lemmas.Nat.{or_shifted}
use Rattle.block.proofs.rotate.Goals as goal

pub returns : goal.returns
returns c =
    let s = c.args.s in
    let up : s * 2 % 4294967296 ≡ s % 2147483648 * 2 = omega arith in
    c.rotate_left.ensures
    ∙ ap (λ n. bit_or n (s / 2147483648)) up
    ∙ or_shifted (s % 2147483648) 1 (s / 2147483648) (omega arith)
    ∙ omega arith
