-- `olr::put::put_two` meets its contract: the words of each block, then both checks. Assumes nothing.
use Rattle.std.proofs.Common.{take, drop, refl, length-take, length-drop, arith}
use Rattle.olr.proofs.Blocks.{two_blocks}
use Rattle.olr.proofs.put.put_two.Goals as goal

pub returns : goal.returns
returns c =
    let s = c.args.s.now in
    let ws = c.args.words.now in
    let first = take 127 ws in
    let second = take 127 (drop 127 ws) in
    two_blocks s c.put_bytes.new.s c.put_bytes-2.new.s first second _ _
    (omega (arith, c.put_bytes.auto.s, length-take 512 s))
    (omega (arith, length-take 127 ws))
    (omega (arith, length-take 127 (drop 127 ws), length-drop 127 ws))
    c.put_bytes.ensures
    c.put_bytes-2.ensures
    _ ws c.args.number refl refl c.close_two.ensures
