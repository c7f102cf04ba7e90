-- `paint::words_before` meets its contract: a flagged word is the start of a line. Assumes nothing.
use Rattle.std.proofs.Common.{◌≡◌, ◌<◌, length, drop, sym, ◌∙◌, arith}
use Rattle.matte.specs.Layout.{eight}
use Rattle.paint.specs.Part.{words_before}
use Rattle.paint.proofs.Lines.{before_found, before_skip, before_more, before_end}
use Rattle.paint.proofs.words_before.Goals as goal
use Rattle.paint.proofs.words_before.Goals.{then-flagged+else-left-eq0, else-flagged}

pub returns-then-left-eq0 : goal.returns-then-left-eq0
returns-then-left-eq0 c =
    let s = c.args.words.now in
    let i = c.loop-i.i in
    let h : i < length s = omega arith in
    let z : words_before eight c.loop-i.left (drop i s) ≡ 0 = rw c.if-left-eq0.true (before_found eight s i h (sym c.flagged.ensures ∙ c.if-flagged.true)) in
    (omega arith, omega (arith, c.loop-i.invariant))

pub loop-i-preserved : goal.loop-i-preserved
loop-i-preserved c =
    let s = c.args.words.now in
    let i = c.loop-i.i in
    let h : i < length s = omega arith in
    elim c.if-flagged.branch [
      | then-flagged+else-left-eq0 w ↦
          rw w.left-is (omega (arith, c.loop-i.invariant, before_skip eight s i h c.loop-i.left (sym c.flagged.ensures ∙ w.if-flagged.true) (omega (arith, w.if-left-eq0.false))))
      | else-flagged w ↦ rw w.left-is (omega (arith, c.loop-i.invariant, before_more eight s i h c.loop-i.left (sym c.flagged.ensures ∙ w.if-flagged.false)))
    ]

pub returns : goal.returns
returns c =
    let s = c.args.words.now in
    let e : c.loop-i.i ≡ length s = omega arith in
    (omega arith, omega (arith, c.loop-i.invariant, before_end eight c.loop-i.left c.loop-i.i s e))
