-- What reading says of a damaged file. Assumes nothing.
-- Definitions: `refused_read` the answer of a refused reading; `RefusedAs` a file is refused with this number and place.
use Rattle.std.specs.Prelude.{◌≡◌, List, ℕ, replicate}
use Rattle.olr.specs.declared.Stored.{Stored}
use Rattle.olr.specs.Read.{read_answer, read_words}

-- number and place; words, lines and every further number 0 (01, Numbers for a refused call)
abbrev pub refused_read : ℕ → ℕ → Stored
refused_read number place =
    record {
      answer = record { number = number; place = place; words = 0; lines = 0 };
      width = 0;
      height = 0;
      border = 0;
      count = 0;
      levels = replicate 255 0;
    }

-- whatever word places are lent: the answer is that, and the places are as they were (02, R-14)
abbrev pub RefusedAs : List ℕ → ℕ → ℕ → Type 0
RefusedAs f number place = (out : List ℕ) → (read_answer f out ≡ refused_read number place) × (read_words f out ≡ out)
