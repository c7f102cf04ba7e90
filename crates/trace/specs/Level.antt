-- What listing one level, and all levels, asks and leaves. Assumes nothing.
-- Definitions: `Worn` what a level leaves of the work bytes; `LevelReady`, `LevelDone` before and after one level; `mark_of` the mark of a level by its number, `Marked` what holds where it is
--   handed out; `AllReady`, `AllDone` before and after all levels.
use Rattle.std.specs.Prelude.{◌≡◌, true, List, ◌++◌, ℕ, ◌+◌, ◌*◌, ◌%◌, ◌≤◌, ◌<◌, length, get_or, drop}
use Rattle.tally.specs.Tally.{tally}
use Rattle.matte.specs.Layout.{Layout}
use Rattle.matte.specs.Picture.{Picture, size, levels_fit}
use Rattle.edgel.specs.Word.{flagged}
use Rattle.outline.specs.Line.{lines}
use Rattle.outline.specs.List.{level_words, listed}
use Rattle.outline.proofs.Listed.{Fits}
use Rattle.trace.specs.declared.scan.Written.{Written}
use Rattle.refuse.specs.Shape.{Ground}
use Rattle.follow.specs.Words.{upper, pasted}

-- the first n bytes are at most v, the rest are as they were
pub record Worn (n v : ℕ) (was work : List ℕ) : Type 0 where
  pub long : length work ≡ length was
  pub low : (i : ℕ) → i < n → get_or work i 0 ≤ v
  pub rest : drop n work ≡ drop n was

-- every work byte above the last row is below the level's mark, and there is room for the level's words; a line has at least one word
pub record LevelReady (L : Layout) (P : Picture) (k m : ℕ) (work words : List ℕ) (st : Written) : Type 0 where
  pub ground : Ground P
  pub level : k < L.most
  pub codes : 2 * size P ≤ L.codes
  pub wide : upper P ≤ length work
  pub low : (i : ℕ) → i < upper P → get_or work i 0 < m
  pub room : st.words + length (level_words L k (lines P k)) ≤ length words
  pub fewer : st.lines ≤ st.words

-- the level's words stand behind the others, words and lines are counted on
pub record LevelDone (L : Layout) (P : Picture) (k m : ℕ) (work₀ words₀ : List ℕ) (st r : Written) (work words : List ℕ) : Type 0 where
  pub words_are : r.words ≡ st.words + length (level_words L k (lines P k))
  pub lines_are : r.lines ≡ st.lines + length (lines P k)
  pub fewer : r.lines ≤ r.words
  pub all : words ≡ pasted words₀ st.words (level_words L k (lines P k))
  pub worn : Worn (upper P) m work₀ work

-- the mark of level number j: a byte holds 255 of them, and then they begin again with cleared bytes
abbrev pub mark_of : ℕ → ℕ
mark_of j = j % 255 + 1

-- the level's mark, below which the first n bytes are; the rest are as they were
pub record Marked (n j : ℕ) (work₀ : List ℕ) (r : ℕ) (work : List ℕ) : Type 0 where
  pub is : r ≡ mark_of j
  pub long : length work ≡ length work₀
  pub low : (i : ℕ) → i < n → get_or work i 0 < r
  pub rest : drop n work ≡ drop n work₀

pub record AllReady (L : Layout) (P : Picture) (ks work words : List ℕ) : Type 0 where
  pub ground : Ground P
  pub levels : levels_fit L ks ≡ true
  pub fits : Fits L P
  pub wide : upper P ≤ length work
  pub room : length (listed L P ks) ≤ length words

pub record AllDone (L : Layout) (P : Picture) (ks work₀ words₀ : List ℕ) (r : Written) (work words : List ℕ) : Type 0 where
  pub words_are : r.words ≡ length (listed L P ks)
  pub lines_are : r.lines ≡ tally (flagged L) (listed L P ks)
  pub all : words ≡ listed L P ks ++ drop (length (listed L P ks)) words₀
  pub long : length work ≡ length work₀
  pub rest : drop (upper P) work ≡ drop (upper P) work₀
