-- `crossing::passage_at` meets its contract. Assumes nothing.
use Rattle.matte.specs.Picture.{picture}
use Rattle.crossing.proofs.Told.{passage_is}
use Rattle.crossing.proofs.passage_at.Goals as goal

pub returns : goal.returns
returns c =
    let a = c.args in
    passage_is (picture a.w a.h a.px.now) a.k a.code _ _ _ _ _ _ _ c.sample_at-a.ensures c.other_end.ensures c.sample_at-b.ensures c.gap_of.ensures.0 c.span_of.ensures c.lowest-f.ensures c.heading_of.ensures
