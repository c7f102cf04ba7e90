-- `olr::read_file` meets its contract. Assumes nothing.
use Rattle.std.proofs.Common.{arith, refl, sym, ◌∙◌}
use Rattle.refuse.proofs.Rows.{refuses, silent, refused_answer}
use Rattle.olr.proofs.Laid.{laid, laid_holds}
use Rattle.olr.proofs.Read.{accepted, read_refused, read_taken}
use Rattle.olr.proofs.read_file.Goals as goal

pub returns-in-Err : goal.returns-in-Err
returns-in-Err c =
    let a = c.args in
    let n = refuses c.in-Err.r in
    read_refused a.file.now a.words.now _ c.in-Err.ensures.0 n _ (c.refused.ensures ∙ sym (refused_answer _ 0 0 n))

pub take_words-lines-requires : goal.take_words-lines-requires
take_words-lines-requires c =
    let f = c.args.file.now in
    let same = c.in-Ok.ensures.1 in
    let R = accepted f c.args.words.now _ c.in-Ok.ensures.0 refl in
    let n = rw same at c.word_count-n.ensures in
    (rw same (laid_holds f _ (laid f R.layout) n), omega (arith, R.roomy, n))

pub returns : goal.returns
returns c =
    let same = c.in-Ok.ensures.1 in
    let taken = c.take_words-lines.ensures in
    let r = read_taken c.args.file.now c.args.words.now _ _ c.take_words-lines.new.words (silent c.in-Ok.ensures.0) (rw same at c.word_count-n.ensures) (rw same at taken.0) (rw same at taken.1) in
    ((rw same at c.stored_of.ensures) ∙ r.0, r.1)
