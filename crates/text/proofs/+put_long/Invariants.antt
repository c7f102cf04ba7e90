-- `text::put_long` ends: the number falls.
use Rattle.text.proofs.+put_long.Given as goal

abbrev pub decreases-put_long : goal.decreases-put_long
decreases-put_long l = l.n
