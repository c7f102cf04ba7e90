-- Words that come grouped by level, as a list writes them. Assumes nothing.
-- Definitions: `Group` a run of words of one level.
use Rattle.std.specs.Prelude.{◌≡◌, ℕ, ◌<◌, ◌≤◌, List, length, slice_index}
use Rattle.matte.specs.Layout.{Layout}
use Rattle.edgel.specs.Word.{level_of}

-- the words from a up to r are of level k
pub record Group (L : Layout) (ws : List ℕ) (a k r : ℕ) : Type 0 where
  pub some : a ≤ r
  pub within : r ≤ length ws
  pub alike : (i : ℕ) → a ≤ i → i < r → level_of L (slice_index ws i) ≡ k
