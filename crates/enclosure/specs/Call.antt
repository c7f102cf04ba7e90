-- The tree call. Assumes nothing.
-- Definitions: `heads` the horizontal crossings of a level, `half` half of those of all levels; `tree_rows`, `tree_verdict`, `tree_answer`, `tree_work`, `tree_words`, `tree_entries` the call: its refusals by their
--   order, the one given, its answer, the work bytes, the word places and the tree places afterwards; `TreeCall` all of it.
use Rattle.std.specs.Prelude.{◌≡◌, List, [], ◌∷◌, ◌++◌, ℕ, ◌+◌, ◌*◌, ◌/◌, ltb, length, drop, replicate}
use Rattle.tally.specs.Tally.{one, sum, total, tally}
use Rattle.refuse.specs.declared.Answer.{Answer}
use Rattle.refuse.specs.Refusal.{Verdict}
use Rattle.matte.specs.Layout.{Layout}
use Rattle.matte.specs.Picture.{Picture, size}
use Rattle.refuse.specs.Refusal.{Row, verdict, row_at, answer, afterwards}
use Rattle.edgel.specs.Word.{flagged}
use Rattle.outline.specs.Line.{cut_at}
use Rattle.outline.specs.List.{listed, list_rows}
use Rattle.enclosure.specs.Tree.{entries, line_count}

-- horizontal codes are the even ones (01, Numbers for a refused call, 7)
unfoldable pub heads : Picture → ℕ → ℕ
heads P k = sum (λ i. one (cut_at P k (2 * i))) (size P)

unfoldable pub half : Picture → List ℕ → ℕ
half P ks = total (heads P) ks / 2

module _ (L : Layout) (P : Picture) (ks work out tree : List ℕ) where
  -- those of the list call, then 7: fewer tree places than half the horizontal crossings of all levels (01, Numbers for a refused call)
  abbrev pub tree_rows : List Row
  tree_rows = list_rows L P ks work out ++ (row_at 7 (ltb (length tree) (half P ks)) (half P ks) ∷ [])

  abbrev pub tree_verdict : Verdict
  tree_verdict = verdict tree_rows

  abbrev pub tree_answer : Answer
  tree_answer = answer tree_verdict (length (listed L P ks)) (tally (flagged L) (listed L P ks))

  abbrev pub tree_work : List ℕ
  tree_work = afterwards tree_verdict work (replicate (size P) 0 ++ drop (size P) work)

  abbrev pub tree_words : List ℕ
  tree_words = afterwards tree_verdict out (listed L P ks ++ drop (length (listed L P ks)) out)

  -- the first places hold the entries, a line each, the rest are left (01, Numbers for a refused call)
  abbrev pub tree_entries : List ℕ
  tree_entries = afterwards tree_verdict tree (entries L P ks ++ drop (line_count L P ks) tree)

-- what the tree call answers and leaves: its answer, the work bytes, the word places and the tree places afterwards (01, Numbers for a refused call)
abbrev pub TreeCall : Layout → Picture → List ℕ → List ℕ → List ℕ → List ℕ → Answer → List ℕ → List ℕ → List ℕ → Type 0
TreeCall L P ks work out tree r work' out' tree' =
    (r ≡ tree_answer L P ks work out tree)
    × (work' ≡ tree_work L P ks work out tree)
    × (out' ≡ tree_words L P ks work out tree)
    × (tree' ≡ tree_entries L P ks work out tree)
