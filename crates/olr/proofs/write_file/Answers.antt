-- `olr::write_file` meets its contract. Assumes nothing.
use Rattle.std.proofs.Common.{arith, refl}
use lib.Seq.{length-take-le}
use borrow.Rule.Slice.PartMut.{same_len_mid}
use Rattle.olr.proofs.Ascend.{levels_length}
use Rattle.olr.proofs.Write.{accepted, write_written}
use Rattle.olr.proofs.write_file.Goals as goal

pub slice_bounds-put_head-end : goal.slice_bounds-put_head-end
slice_bounds-put_head-end c =
    let a = c.args in
    let W = accepted a.w a.h a.v a.levels.now a.words.now a.file.now _ c.in-Ok.ensures.0 refl in
    omega (arith, W.roomy)

pub put_head-requires : goal.put_head-requires
put_head-requires c =
    let a = c.args in
    let W = accepted a.w a.h a.v a.levels.now a.words.now a.file.now _ c.in-Ok.ensures.0 refl in
    (length-take-le 512 a.file.now (omega (arith, W.roomy)), levels_length a.levels.now W.levels, W.most)

pub put_words-requires : goal.put_words-requires
put_words-requires c =
    let a = c.args in
    let W = accepted a.w a.h a.v a.levels.now a.words.now a.file.now _ c.in-Ok.ensures.0 refl in
    (W.most, rw (same_len_mid 0 512 a.file.now c.put_head.new.s c.put_head.auto.s) W.roomy)

pub returns : goal.returns
returns c =
    let a = c.args in
    let s = c.in-Ok.ensures.1 in
    write_written a.w a.h a.v a.levels.now a.words.now a.file.now c.put_head.new.s c.put_words.new.file _ c.in-Ok.ensures.0 refl _ c.done.ensures
    (rw (s.0, s.1) at c.put_head.ensures)
    c.put_words.ensures
