-- What the reading call's parts ask of a file. Assumes nothing.
-- Definitions: `Holds` a file has room for as many words as it says; `stored` what it says beside the words.
use Rattle.std.specs.Prelude.{◌≡◌, List, ◌++◌, ℕ, ◌+◌, ◌-◌, ◌*◌, ◌≤◌, length, replicate}
use Rattle.olr.specs.declared.Stored.{Stored}
use Rattle.olr.specs.File.{limit, blocks_for}
use Rattle.olr.specs.Read.{file_width, file_height, file_border, file_count, file_word_count, file_levels}

-- n is the number of words, at most the limit, and all their blocks are there (01, Outline file)
pub record Holds (f : List ℕ) (n : ℕ) : Type 0 where
  pub count : n ≡ file_word_count f
  pub most : n ≤ limit
  pub there : 512 * (1 + blocks_for n) ≤ length f

-- done: n words with so many flags among them, and what block 0 says (01, Outline file)
abbrev pub stored : List ℕ → ℕ → ℕ → Stored
stored f n lines =
    record {
      answer = record { number = 0; place = 0; words = n; lines = lines };
      width = file_width f;
      height = file_height f;
      border = file_border f;
      count = file_count f;
      levels = file_levels f ++ replicate (255 - file_count f) 0;
    }
