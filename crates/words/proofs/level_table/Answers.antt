-- `words::level_table` meets its contract: with no level the table is blank, and each level sets its entry. Assumes nothing.
use Rattle.std.proofs.Common.{arith, ◌<◌, length, add-one}
use lib.Seq.{take-suc}
use Rattle.words.proofs.Table.{table_none, table_more}
use Rattle.words.proofs.level_table.Goals as goal

pub loop-k-init : goal.loop-k-init
loop-k-init c = table_none

pub loop-k-preserved : goal.loop-k-preserved
loop-k-preserved c =
    let ks = c.args.ks.now in
    let i = c.loop-k.k-index in
    let h : i < length ks = omega arith in
    rw (c.loop-k.invariant, add-one, take-suc ks i 0 h) (table_more _ _ (omega (arith, c.type_inv.ks i)))
