-- `trace::scan::all_levels`: the levels passed are listed. Assumes nothing.
use Rattle.matte.specs.Layout.{layout_of}
use Rattle.matte.specs.Picture.{picture}
use Rattle.store.specs.Store.{samples_of}
use Rattle.trace.specs.Level.{AllReady}
use Rattle.trace.proofs.All.{Listing}
use Rattle.trace.proofs.scan.all_levels.Given as goal

abbrev pub invariant-loop-j : goal.invariant-loop-j
invariant-loop-j g l =
    let S = g.T.Sample in
    let W = g.P.Place.words in
    (R : AllReady (layout_of S.wide) (picture l.w l.h (samples_of S.wide l.bounds.px.now)) (samples_of S.wide l.ks) l.fn.work (W l.fn.words))
    → Listing (layout_of S.wide) (picture l.w l.h (samples_of S.wide l.bounds.px.now)) (samples_of S.wide l.ks) l.fn.work (W l.fn.words) R l.j l.s l.work (W l.words)
