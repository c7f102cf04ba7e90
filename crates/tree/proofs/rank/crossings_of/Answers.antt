-- `tree::rank::crossings_of` meets its contract. Assumes nothing.
use Rattle.std.proofs.Common.{sym, ◌∙◌, arith}
use Rattle.matte.specs.Picture.{picture}
use Rattle.count.proofs.Flat.{area_most, some}
use Rattle.tree.proofs.Sums.{gaps_none, table_of}
use Rattle.tree.proofs.Ranked.{gaps_total}
use Rattle.tree.proofs.rank.crossings_of.Goals as goal

pub sum_to-requires : goal.sum_to-requires
sum_to-requires c =
    let n = some c.requires.0 in
    (omega arith, omega arith, area_most c.requires.0, sym (gaps_none _ c.args.px.now), omega arith)

pub returns : goal.returns
returns c =
    let a = c.args in
    let n = some c.requires.0 in (
      c.sum_to.ensures.0 ∙ gaps_total (picture a.w a.h a.px.now) a.ks.now c.requires.0 c.requires.1 _ (table_of a.ks.now _ c.step_table-st.ensures) (λ i. (c.type_inv.px i).fits),
      omega (arith, c.sum_to.ensures.1, area_most c.requires.0),
    )
