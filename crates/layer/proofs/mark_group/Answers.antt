-- `layer::mark_group` meets its contract: each word of the group turns its mark. Assumes nothing.
use Rattle.std.proofs.Common.{◌<◌, length, sym, ap, ◌∙◌, arith}
use Rattle.tally.specs.Tally.{differ}
use Rattle.matte.specs.Layout.{eight}
use Rattle.marks.specs.Marks.{bit_at}
use Rattle.marks.proofs.Digits.{differ_none}
use Rattle.layer.proofs.Turns.{turned_on}
use Rattle.layer.proofs.Grouping.{turned_late, group_none, group_more}
use Rattle.layer.proofs.mark_group.Goals as goal

pub loop-i-init : goal.loop-i-init
loop-i-init c =
    let b = bit_at c.args.m.now in (
      group_none eight _ _ _ c.requires.0,
      λ p. differ_none (b p) ∙ ap (differ (b p)) (sym (turned_late eight _ _ p _ c.requires.0 c.requires.1)),
    )

pub loop-i-preserved : goal.loop-i-preserved
loop-i-preserved c =
    let a = c.args in
    let i = c.loop-i.i in
    let h : i < length a.words.now = omega arith in (
      group_more eight _ _ _ _ c.loop-i.invariant.0 h (sym c.level_of.ensures ∙ c.if-level_of-k.false),
      λ p. turned_on eight a.k a.words.now p i (bit_at a.m.now p) _ _ h (c.loop-i.invariant.1 p) (c.mark_word.ensures p),
    )
