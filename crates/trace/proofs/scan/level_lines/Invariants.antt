-- The loop of `scan::level_lines`: where the scan stands, and no more lines than words. Assumes nothing.
use Rattle.std.proofs.Common.{◌≡◌, ◌-◌, ◌≤◌, length}
use Rattle.matte.specs.Layout.{layout_of}
use Rattle.matte.specs.Picture.{picture}
use Rattle.store.specs.Store.{samples_of}
use Rattle.trace.specs.Level.{LevelReady}
use Rattle.trace.proofs.Level.{Scanning}
use Rattle.trace.proofs.scan.level_lines.Given as goal

abbrev pub invariant-loop-p : goal.invariant-loop-p
invariant-loop-p g l =
    let S = g.T.Sample in
    let W = g.P.Place.words in
    let X = picture l.w l.h (samples_of S.wide l.bounds.px.now) in
    (length (W l.words) ≡ length (W l.fn.words))
    × (l.s.lines ≤ l.s.words)
    × ((Q : LevelReady (layout_of S.wide) X (S.value l.k) l.m l.fn.work (W l.fn.words) l.fn.st) → Scanning X Q.ground (S.value l.k) (layout_of S.wide) l.m l.fn.st.words l.fn.st.lines l.fn.work (W l.fn.words) Q.wide Q.room l.p l.s l.work (W l.words))

abbrev pub decreases-loop-p : goal.decreases-loop-p
decreases-loop-p g l = l.end - l.p
