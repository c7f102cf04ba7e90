-- `text::put_word` meets its contract: the row's numbers are the crossing's. Assumes nothing.
use Rattle.std.proofs.Common.{sym}
use Rattle.text.proofs.Puts.{put_as}
use Rattle.text.proofs.Rows.{word_row}
use Rattle.text.proofs.put_word.Goals as goal

pub put_row-requires : goal.put_row-requires
put_row-requires c =
    rw (word_row c.args.w c.args.h c.args.px.now c.args.u _ _ _ _ c.code_of-c.ensures.0 c.level_of-k.ensures c.passage_at-t.ensures c.heading_letter.ensures) at c.requires.2

pub returns : goal.returns
returns c =
    put_as (sym (word_row c.args.w c.args.h c.args.px.now c.args.u _ _ _ _ c.code_of-c.ensures.0 c.level_of-k.ensures c.passage_at-t.ensures c.heading_letter.ensures)) c.put_row.ensures
