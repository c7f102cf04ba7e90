-- The loops of `follow`: outside, the walk stands at a crossing of the line; in a run to the east or the west, it has arrived at the next one. Assumes nothing.
use Rattle.std.proofs.Common.{◌≡◌, true, ◌*◌, ◌-◌, ◌≤◌, length}
use Rattle.matte.specs.Layout.{layout_of}
use Rattle.matte.specs.Picture.{picture}
use Rattle.outline.specs.Line.{cut_at}
use Rattle.refuse.specs.Shape.{Ground}
use Rattle.store.specs.Store.{samples_of}
use Rattle.follow.proofs.Tracing.{Tracing}
use Rattle.follow.proofs.Arriving.{Arrived}
use Rattle.follow.proofs.follow.Given as goal

abbrev pub invariant-loop-k : goal.invariant-loop-k
invariant-loop-k g l =
    let S = g.T.Sample in
    let W = g.P.Place.words in
    let X = picture l.w l.h (samples_of S.wide l.px) in
    (l.initial.n ≤ l.n) × (length (W l.words) ≡ length (W l.fn.words)) × ((G : Ground X) (o : cut_at X (S.value l.k) (2 * l.e) ≡ true) → Arrived X G (S.value l.k) (layout_of S.wide) l.m l.e o l.from l.fn.work (W l.fn.words) l.n l.s l.work (W l.words))

abbrev pub decreases-loop-k : goal.decreases-loop-k
decreases-loop-k g l = l.limit - l.n

abbrev pub invariant-loop-k-2 : goal.invariant-loop-k-2
invariant-loop-k-2 g l =
    let S = g.T.Sample in
    let W = g.P.Place.words in
    let X = picture l.w l.h (samples_of S.wide l.px) in
    (l.initial.n ≤ l.n) × (length (W l.words) ≡ length (W l.fn.words)) × ((G : Ground X) (o : cut_at X (S.value l.k) (2 * l.e) ≡ true) → Arrived X G (S.value l.k) (layout_of S.wide) l.m l.e o l.from l.fn.work (W l.fn.words) l.n l.s l.work (W l.words))

abbrev pub decreases-loop-k-2 : goal.decreases-loop-k-2
decreases-loop-k-2 g l = l.limit - l.n

abbrev pub invariant-loop-n : goal.invariant-loop-n
invariant-loop-n g l =
    let S = g.T.Sample in
    let W = g.P.Place.words in
    let X = picture l.w l.h (samples_of S.wide l.px) in
    (length (W l.words) ≡ length (W l.fn.words)) × ((G : Ground X) (o : cut_at X (S.value l.k) (2 * l.e) ≡ true) → Tracing X G (S.value l.k) (layout_of S.wide) l.m l.e o l.from l.fn.work (W l.fn.words) l.n l.s l.work (W l.words))

abbrev pub decreases-loop-n : goal.decreases-loop-n
decreases-loop-n g l = l.limit - l.n
