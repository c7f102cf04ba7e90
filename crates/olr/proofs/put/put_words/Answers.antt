-- The turns of the loops of `olr::put::put_words`. Assumes nothing.
use Rattle.std.proofs.Common.{◌+◌, ◌-◌, ◌*◌, length, drop, length-drop, take_all, ap, ◌∙◌, arith}
use Rattle.olr.specs.File.{word_blocks}
use Rattle.olr.proofs.Blocks.{one_block, blocks_start, blocks_on}
use Rattle.olr.proofs.put.put_words.Goals as goal

pub loop-k-init : goal.loop-k-init
loop-k-init c = blocks_start c.args.file.now c.args.words.now

pub loop-k-preserved : goal.loop-k-preserved
loop-k-preserved c =
    let ws = c.args.words.now in
    let i = 2 * c.loop-k.k in
    let rest = take_all (length ws - 127 * i) (drop (127 * i) ws) (omega (arith, length-drop (127 * i) ws)) in
    blocks_on c.args.file.now ws c.loop-k.file _ i 2 _ _ (omega (arith, c.requires.1)) (omega arith) (omega arith)
    (c.put_two.ensures ∙ ap (word_blocks (1 + i) 2) rest)
    c.loop-k.invariant

pub loop-i-preserved : goal.loop-i-preserved
loop-i-preserved c =
    let ws = c.args.words.now in
    let i = c.loop-i.i in
    blocks_on c.args.file.now ws c.loop-i.file _ i 1 _ _ (omega (arith, c.requires.1)) (omega arith) (omega arith)
    (one_block ws _ (1 + i) i _ (ap (λ n. 127 * i + n) c.block_words.ensures) c.put_block.ensures)
    c.loop-i.invariant
