-- `text::put_words` meets its contract: the rows of the words passed are put. Assumes nothing.
use Rattle.matte.specs.Picture.{picture}
use Rattle.text.proofs.Rows.{Wording}
use Rattle.text.proofs.put_words.Given as goal

abbrev pub invariant-loop-i : goal.invariant-loop-i
invariant-loop-i l = Wording (picture l.w l.h l.px) l.entries l.words l.fn.out l.from l.out l.at l.n l.i
