-- What a tree call that is not refused leaves. Assumes nothing.
-- Definitions: `TreeMade` its answer, and the lent memory afterwards.
use Rattle.std.specs.Prelude.{◌≡◌, List, ◌++◌, ℕ, length, drop, replicate}
use Rattle.tally.specs.Tally.{tally}
use Rattle.refuse.specs.declared.Answer.{Answer}
use Rattle.matte.specs.Layout.{eight}
use Rattle.matte.specs.Picture.{Picture, size}
use Rattle.edgel.specs.Word.{flagged}
use Rattle.outline.specs.List.{listed}
use Rattle.enclosure.specs.Tree.{entries, line_count}

-- the words and lines handed over; the first w·h work bytes 0, the list in the first word places, an entry a line in the first tree places, the rest left (01, Numbers for a refused call)
pub record TreeMade (P : Picture) (ks work₀ words₀ places₀ : List ℕ) (r : Answer) (work words places : List ℕ) : Type 0 where
  pub answers : r ≡ record { number = 0; place = 0; words = length (listed eight P ks); lines = tally (flagged eight) (listed eight P ks) }
  pub work_is : work ≡ replicate (size P) 0 ++ drop (size P) work₀
  pub words_are : words ≡ listed eight P ks ++ drop (length (listed eight P ks)) words₀
  pub places_are : places ≡ entries eight P ks ++ drop (line_count eight P ks) places₀
