-- `within::seen_in`: no place is fresh where none was found. Assumes nothing.
use Rattle.std.proofs.Common.{◌∙◌, sym}
use borrow.Author.Tests.{not-false}
use Rattle.store.specs.Store.{samples_of}
use Rattle.seek.proofs.Blocks.{none_in}
use Rattle.seek.proofs.within.seen_in.Goals as goal

pub returns-else-any_in : goal.returns-else-any_in
returns-else-any_in g c =
    let S = g.T.Sample in
    let a = c.args in
    none_in (samples_of S.wide a.px.now) a.work.now (S.value a.k) a.m a.a (not-false _ (sym c.any_in.ensures ∙ c.if-any_in.false))
