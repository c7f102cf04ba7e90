-- `tree::make` meets its contract. Assumes nothing.
use Rattle.std.proofs.Common.{◌∙◌}
use Rattle.matte.specs.Picture.{picture}
use Rattle.tree.proofs.Making.{work_wide, collect_ready, notes_ready, walk_ready, made}
use Rattle.tree.proofs.make.Goals as goal

pub collect-requires : goal.collect-requires
collect-requires c =
    let a = c.args in
    let l = c.lean_lines-a in
    collect_ready (picture a.w a.h a.px.now) a.levels.now a.work.now a.words.now a.places.now c.requires.0 c.requires.1 _ _ _ l.ensures.0 l.ensures.1 l.ensures.2

pub note_all-requires : goal.note_all-requires
note_all-requires c =
    let a = c.args in
    let l = c.lean_lines-a in (
      notes_ready (picture a.w a.h a.px.now) a.levels.now a.work.now a.words.now a.places.now c.requires.0 c.requires.1 _ _ _ l.ensures.0 l.ensures.1 l.ensures.2 _ c.collect.ensures,
      work_wide (picture a.w a.h a.px.now) a.levels.now a.work.now a.words.now a.places.now c.requires.0 c.requires.1 _ _ _ l.ensures.0 l.ensures.1 l.ensures.2,
    )

pub walk-requires : goal.walk-requires
walk-requires c =
    let a = c.args in
    let l = c.lean_lines-a in (
      walk_ready (picture a.w a.h a.px.now) a.levels.now a.work.now a.words.now a.places.now c.requires.0 c.requires.1 _ _ _ l.ensures.0 l.ensures.1 l.ensures.2 _ c.collect.ensures _ c.note_all.ensures.1 c.note_all.auto.words,
      c.note_all.ensures.0,
    )

pub lean_lines-requires : goal.lean_lines-requires
lean_lines-requires c =
    let m = c.note_all.auto in
    let l = c.lean_lines-a.auto in
    rw ((m.work ∙ l.work), (m.words ∙ l.words)) c.requires.0

pub returns : goal.returns
returns c =
    let a = c.args in
    let l = c.lean_lines-a in
    let r = c.lean_lines in
    made (picture a.w a.h a.px.now) a.levels.now a.work.now a.words.now a.places.now c.requires.0 c.requires.1 _ _ _ l.ensures.0 l.ensures.1 l.ensures.2 _ c.collect.ensures _ c.note_all.ensures.1 c.note_all.auto.words _ c.walk.ensures _ c.note_all.ensures.2 c.note_all.auto.work _ _ _ r.ensures.0 r.ensures.1 r.ensures.2
