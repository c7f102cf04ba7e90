-- `layer::mark_words` meets its contract: each word turns its mark. Assumes nothing.
use Rattle.std.proofs.Common.{◌<◌, length, sym, ap, ◌∙◌, arith}
use Rattle.tally.specs.Tally.{differ}
use Rattle.matte.specs.Layout.{eight}
use Rattle.marks.specs.Marks.{bit_at}
use Rattle.marks.proofs.Digits.{differ_none}
use Rattle.layer.proofs.Turns.{turned_none, turned_on}
use Rattle.layer.proofs.mark_words.Goals as goal

pub loop-u-init : goal.loop-u-init
loop-u-init c p =
    let b = bit_at c.args.m.now p in
    differ_none b ∙ ap (differ b) (sym (turned_none eight c.args.k c.args.words.now p))

pub loop-u-preserved : goal.loop-u-preserved
loop-u-preserved c p =
    let a = c.args in
    let i = c.loop-u.u-index in
    let h : i < length a.words.now = omega arith in
    turned_on eight a.k a.words.now p i (bit_at a.m.now p) _ _ h (c.loop-u.invariant p) (c.mark_word.ensures p)
