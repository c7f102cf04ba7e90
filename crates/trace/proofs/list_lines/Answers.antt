-- `list_lines`: the bounds have room, all levels are listed, and the work bytes are cleared after them. Assumes nothing.
use Rattle.std.proofs.Common.{List, ◌++◌, ℕ, ◌-◌, ◌*◌, ◌/◌, ◌≤◌, length, drop, replicate, sym, ap, ◌∙◌, arith}
use borrow.Rule.Slice.PartMut.{put_mid}
use Rattle.tally.specs.Tally.{tally}
use Rattle.matte.specs.Layout.{layout_of}
use Rattle.matte.specs.Picture.{picture}
use Rattle.edgel.specs.Word.{flagged}
use Rattle.refuse.proofs.Rows.{done_answer, done_after}
use Rattle.outline.specs.List.{listed, list_verdict}
use Rattle.store.specs.Store.{samples_of}
use Rattle.store.proofs.Chunks.{count_same}
use Rattle.count.proofs.Flat.{area_most}
use Rattle.count.proofs.Counting.{row_fits}
use Rattle.follow.specs.Words.{upper}
use Rattle.seek.specs.Search.{reach}
use Rattle.seek.proofs.Slots.{slots_within, reach_back}
use Rattle.trace.proofs.All.{layout_fits}
use Rattle.trace.proofs.Refusals.{sound}
use Rattle.trace.proofs.Zeros.{part_length, part_back}
use Rattle.trace.proofs.list_lines.Goals as goal

pub overflow_sub-n : goal.overflow_sub-n
overflow_sub-n g c =
    let S = g.T.Sample in
    let W = g.P.Place.words in
    let a = c.args in
    let L = layout_of S.wide in
    let X = picture a.w a.h (samples_of S.wide a.px.now) in
    let K = samples_of S.wide a.levels.now in
    let U = W a.words.now in
    let F = sound L X K a.work.now U c.requires.0 in
    let G = F.ground in
    omega (arith, row_fits G, c.count-n.ensures)

pub bound_all-requires : goal.bound_all-requires
bound_all-requires g c =
    let S = g.T.Sample in
    let W = g.P.Place.words in
    let a = c.args in
    let L = layout_of S.wide in
    let X = picture a.w a.h (samples_of S.wide a.px.now) in
    let K = samples_of S.wide a.levels.now in
    let U = W a.words.now in
    let F = sound L X K a.work.now U c.requires.0 in
    let G = F.ground in
    let within : reach a.four c.slot_of-slots.result ≤ length X.px - a.w = omega (arith, c.count-n.ensures, slots_within a.four (c.count-n.result - a.w) c.slot_of-slots.result c.slot_of-slots.ensures) in
    let lows : c.slot_of-slots.result ≤ length (samples_of S.wide a.lo.now) = reach_back a.four _ _ (omega (arith, within, c.requires.1, c.requires.2)) in
    let highs : c.slot_of-slots.result ≤ length (samples_of S.wide a.hi.now) = reach_back a.four _ _ (omega (arith, within, c.requires.1, c.requires.3)) in
    (omega (arith, within, row_fits G, G.sides.w_least), area_most G, lows, highs)

pub invariant_of-bounds : goal.invariant_of-bounds
invariant_of-bounds g c =
    let S = g.T.Sample in
    let W = g.P.Place.words in
    let a = c.args in
    let L = layout_of S.wide in
    let X = picture a.w a.h (samples_of S.wide a.px.now) in
    let K = samples_of S.wide a.levels.now in
    let U = W a.words.now in
    let F = sound L X K a.work.now U c.requires.0 in
    let G = F.ground in
    let within : reach a.four c.slot_of-slots.result ≤ length X.px - a.w = omega (arith, c.count-n.ensures, slots_within a.four (c.count-n.result - a.w) c.slot_of-slots.result c.slot_of-slots.ensures) in
    let lows : c.slot_of-slots.result ≤ length (samples_of S.wide a.lo.now) = reach_back a.four _ _ (omega (arith, within, c.requires.1, c.requires.2)) in
    let highs : c.slot_of-slots.result ≤ length (samples_of S.wide a.hi.now) = reach_back a.four _ _ (omega (arith, within, c.requires.1, c.requires.3)) in
    record {
      held = record {
        inside = omega (arith, within, row_fits G, G.sides.w_least);
        few = area_most G;
        lo_held = omega (arith, lows, count_same S.wide c.bound_all.new.lo a.lo.now c.bound_all.auto.lo);
        hi_held = omega (arith, highs, count_same S.wide c.bound_all.new.hi a.hi.now c.bound_all.auto.hi);
        lows = c.bound_all.ensures.0;
        highs = c.bound_all.ensures.1;
      };
    }

pub slice_bounds-all_levels-count : goal.slice_bounds-all_levels-count
slice_bounds-all_levels-count g c =
    let S = g.T.Sample in
    let W = g.P.Place.words in
    let a = c.args in
    let L = layout_of S.wide in
    let X = picture a.w a.h (samples_of S.wide a.px.now) in
    let K = samples_of S.wide a.levels.now in
    let U = W a.words.now in
    let F = sound L X K a.work.now U c.requires.0 in
    let G = F.ground in
    let half : a.w / 2 ≤ length a.work.now = omega (arith, F.wide, G.whole, row_fits G) in
    omega (arith, half)

pub slice_bounds-all_levels-start : goal.slice_bounds-all_levels-start
slice_bounds-all_levels-start g c =
    let S = g.T.Sample in
    let W = g.P.Place.words in
    let a = c.args in
    let L = layout_of S.wide in
    let X = picture a.w a.h (samples_of S.wide a.px.now) in
    let K = samples_of S.wide a.levels.now in
    let U = W a.words.now in
    let F = sound L X K a.work.now U c.requires.0 in
    let G = F.ground in
    let half : a.w / 2 ≤ length a.work.now = omega (arith, F.wide, G.whole, row_fits G) in
    omega (arith, half)

pub all_levels-s-requires : goal.all_levels-s-requires
all_levels-s-requires g c =
    let S = g.T.Sample in
    let W = g.P.Place.words in
    let a = c.args in
    let L = layout_of S.wide in
    let X = picture a.w a.h (samples_of S.wide a.px.now) in
    let K = samples_of S.wide a.levels.now in
    let U = W a.words.now in
    let F = sound L X K a.work.now U c.requires.0 in
    let G = F.ground in
    let half : a.w / 2 ≤ length a.work.now = omega (arith, F.wide, G.whole, row_fits G) in
    let within : reach a.four c.slot_of-slots.result ≤ length X.px - a.w = omega (arith, c.count-n.ensures, slots_within a.four (c.count-n.result - a.w) c.slot_of-slots.result c.slot_of-slots.ensures) in (
      record {
        ground = G;
        levels = F.levels;
        fits = layout_fits S.wide X (omega (arith, G.whole, c.requires.1));
        wide = omega (arith, part_length (a.w / 2) a.work.now half, F.wide);
        room = F.room;
      },
      within,
    )

pub returns : goal.returns
returns g c =
    let S = g.T.Sample in
    let W = g.P.Place.words in
    let a = c.args in
    let L = layout_of S.wide in
    let X = picture a.w a.h (samples_of S.wide a.px.now) in
    let K = samples_of S.wide a.levels.now in
    let U = W a.words.now in
    let F = sound L X K a.work.now U c.requires.0 in
    let G = F.ground in
    let half : a.w / 2 ≤ length a.work.now = omega (arith, F.wide, G.whole, row_fits G) in
    let e = c.requires.0 in
    let v = list_verdict L X K a.work.now U in
    let D = c.all_levels-s.ensures in
    let m = a.w * a.h in
    let work = a.work.now in
    let l = listed L X K in (
      c.done.ensures
          ∙ ap (λ (y : ℕ). record { number = 0; place = 0; words = y; lines = c.all_levels-s.result.lines }) D.words_are
          ∙ ap (λ (y : ℕ). record { number = 0; place = 0; words = length l; lines = y }) D.lines_are
          ∙ sym (done_answer v (length l) (tally (flagged L) l) e),
      c.clear.ensures
          ∙ ap (λ (y : ℕ). replicate y 0 ++ drop y (put_mid (a.w / 2) (length work - a.w / 2) work c.all_levels-s.new.work)) (c.count-n.ensures ∙ G.whole)
          ∙ ap (λ (y : List ℕ). replicate m 0 ++ y) (part_back (a.w / 2) work half (upper X) m _ D.long (omega (arith, part_length (a.w / 2) work half, F.wide)) (omega (arith, G.whole, row_fits G)) D.rest)
          ∙ sym (done_after v work (replicate m 0 ++ drop m work) e),
      D.all ∙ sym (done_after v U (l ++ drop (length l) U) e),
    )
