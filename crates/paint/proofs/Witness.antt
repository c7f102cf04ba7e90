-- Where words stand, worked out: what an edit of the address makes false shows here. Assumes nothing.
-- Main laws: `words_on` the word three on from the offset 8 has the offset 20.
use mathlib.Core.Path.{◌≡◌, refl}
use Rattle.paint.specs.Part.{word_on}

pub words_on : word_on (1, 8) 3 ≡ (1, 20)
words_on = refl
