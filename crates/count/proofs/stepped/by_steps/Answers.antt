-- `stepped::by_steps`: two rows more at each step, and the last one where one is left. Assumes nothing.
use Rattle.std.proofs.Common.{◌+◌, refl, arith}
use Rattle.matte.specs.Picture.{picture}
use Rattle.count.proofs.Flat.{area_most}
use Rattle.count.proofs.Rows.{room_at, begin, below, go, end}
use Rattle.count.proofs.stepped.by_steps.Goals as goal

pub loop-y-init : goal.loop-y-init
loop-y-init c =
    let a = c.args in
    let t = c.step_table-t in
    (refl, begin (picture a.w a.h a.px.now) c.requires.0 a.ks.now t.result _ t.ensures c.row_of.ensures)

pub row_of-requires-in-loop-y : goal.row_of-requires-in-loop-y
row_of-requires-in-loop-y c =
    let a = c.args in
    let G = c.requires.0 in
    let l = c.loop-y in
    let b = below (picture a.w a.h a.px.now) G a.ks.now c.step_table-t.result l.p l.y l.from l.n l.invariant.1 1 (omega arith) in
    (l.invariant.1.table, room_at G (l.from + a.w) _ (omega arith) l.invariant.0)

pub loop-y-preserved : goal.loop-y-preserved
loop-y-preserved c =
    let a = c.args in
    let G = c.requires.0 in
    let P = picture a.w a.h a.px.now in
    let l = c.loop-y in
    let m = area_most G in
    let t = c.step_table-t.result in
    let r = c.row_sum-n in
    let C = go P G a.ks.now t l.p l.y l.from l.n l.invariant.1 _ (l.y + 1) (l.from + a.w) r.result (omega arith) refl refl c.row_of-in-loop-y.ensures r.ensures.0 r.ensures.1 in (
      c.row_of-in-loop-y.ensures.room,
      go P G a.ks.now t _ (l.y + 1) (l.from + a.w) (l.n + r.result) C _ (l.y + 2) (l.from + (a.w + a.w)) c.row_sum-n-in-loop-y.result (omega arith) (omega arith) (omega arith) c.row_of-in-loop-y-2.ensures c.row_sum-n-in-loop-y.ensures.0 c.row_sum-n-in-loop-y.ensures.1,
    )

pub returns-then-y-h : goal.returns-then-y-h
returns-then-y-h c =
    let a = c.args in
    let G = c.requires.0 in
    let P = picture a.w a.h a.px.now in
    let l = c.loop-y in
    let t = c.step_table-t.result in
    let r = c.row_sum in
    let C = go P G a.ks.now t l.p l.y l.from l.n l.invariant.1 _ (l.y + 1) (l.from + a.w) r.result c.if-y-h.true refl refl c.row_of-then-y-h.ensures r.ensures.0 r.ensures.1 in
    end P G a.ks.now t _ (l.y + 1) (l.from + a.w) (l.n + r.result) C (omega arith)

pub returns : goal.returns
returns c =
    let a = c.args in
    let l = c.loop-y in
    end (picture a.w a.h a.px.now) c.requires.0 a.ks.now c.step_table-t.result l.p l.y l.from l.n l.invariant.1 c.if-y-h.false
