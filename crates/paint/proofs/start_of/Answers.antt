-- `paint::start_of` meets its contract. Assumes nothing.
use Rattle.std.proofs.Common.{sym, ◌∙◌, arith}
use Rattle.matte.specs.Layout.{eight}
use Rattle.paint.proofs.Lines.{start_here, start_none}
use Rattle.paint.proofs.start_of.Goals as goal

pub returns-then-words-a : goal.returns-then-words-a
returns-then-words-a c = sym (start_none eight c.args.n c.args.words.now (omega (arith, c.words_before-a.ensures.1)))

pub returns : goal.returns
returns c = c.words_before-a.ensures.1 ∙ sym (start_here eight c.args.n c.args.words.now (omega (arith, c.words_before-a.ensures.1)))
