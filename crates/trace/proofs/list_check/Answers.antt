-- `trace::list_check` meets its contract: 1 2 3 4 17 18 19, then 5, then 6. Assumes nothing.
use Rattle.matte.specs.Layout.{eight}
use Rattle.matte.specs.Picture.{picture}
use Rattle.refuse.proofs.Rows.{silent}
use Rattle.refuse.proofs.Sides.{grounded}
use Rattle.trace.proofs.list_check.Goals as goal

pub count_words-needed-requires : goal.count_words-needed-requires
count_words-needed-requires c =
    let a = c.args in
    let g = grounded eight (picture a.w a.h a.px.now) a.levels.now (silent c.in_ok-ground_verdict.ensures.0) in
    (g.0, g.1)
