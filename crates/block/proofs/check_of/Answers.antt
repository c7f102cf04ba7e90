-- `block::check_of` meets its contract: the fold over the bytes is the sum. Assumes nothing.
use Rattle.std.proofs.Common.{◌≡◌, ap, ◌∙◌, rules}
use Rattle.std.specs.List.{fold}
use Rattle.std.proofs.iter.runs.Made.{chains}
use Rattle.block.specs.Block.{stir, stirred, check}
use Rattle.block.proofs.Check.{stirred_fold}
use Rattle.block.proofs.check_of.Goals as goal

pub returns : goal.returns
unfolding check
returns c =
    let bytes = c.args.payload.now in
    let all : c.fold.result ≡ fold stir c.start.result bytes = search (rules, chains) in
    all ∙ stirred_fold c.start.result bytes ∙ ap (λ n. stirred n bytes) c.start.ensures
