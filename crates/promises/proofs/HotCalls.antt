-- Request R-1, of the answers of list and tree. Assumes nothing.
-- Definitions: `now_a` the answer of a call whose rows begin with `ground_rows`; `list_own`, `tree_own` the rows behind those, 5 6 and 5 6 7.
-- Main laws: of any such call, `answer_as_old_4` one of 4, 17, 18 and 19 is answered exactly when old 4 was, `answer_says_hot` number and place say where; `list_as_old_4`, `tree_as_old_4`, `list_says_hot`,
--   `tree_says_hot` these of list and tree; `list_else_as_old`, `tree_else_as_old` all else is as it was; `lists_same`, `trees_same`, `list_tree_same` two calls on one picture say the same.
use mathlib.Core.Path.{◌≡◌, refl, sym, ap, subst, ◌∙◌}
use mathlib.Core.Bool.{true}
use mathlib.Core.List.{List, [], ◌∷◌}
use mathlib.Core.Logic.{◌≢◌, ◌↔◌}
use Prim.Native.Nat.{ℕ}
use lib.Dec.{ltb}
use lib.ListN.{length}
use Rattle.tally.specs.Tally.{tally}
use Rattle.tally.proofs.Test.{no}
use Rattle.refuse.specs.declared.Answer.{Answer}
use Rattle.refuse.specs.Refusal.{Verdict}
use Rattle.matte.specs.Layout.{Layout, eight}
use Rattle.matte.specs.Picture.{Picture}
use Rattle.refuse.specs.Refusal.{Row, row_at, verdict, answer, work_row, words_row}
use Rattle.refuse.specs.Shape.{Sides}
use Rattle.refuse.proofs.Rows.{refused_answer}
use Rattle.refuse.proofs.Sides.{levelled}
use Rattle.edgel.specs.Word.{flagged}
use Rattle.outline.specs.List.{listed, list_answer}
use Rattle.enclosure.specs.Call.{half, tree_answer}
use Rattle.promises.proofs.RefusedExactly.{same_number}
use Rattle.promises.proofs.HotSample.{edge_number, free, old_rows, HotAt, now_v, old_v, as_old_4, else_as_old, when_edge, says_hot, same_hot}

module _ (L : Layout) (P : Picture) (ks : List ℕ) (qs : List Row) (own : free qs ≡ true) (words lines : ℕ) where
  abbrev pub now_a : Answer
  now_a = answer (now_v L P ks qs) words lines

  now_number : now_a.number ≡ (now_v L P ks qs).number
  now_number = same_number (now_v L P ks qs) words lines

  pub answer_as_old_4 : (edge_number now_a.number ≡ true) ↔ ((old_v L P ks qs).number ≡ 4)
  answer_as_old_4 = subst (λ (n : ℕ). (edge_number n ≡ true) ↔ ((old_v L P ks qs).number ≡ 4)) (sym now_number) (as_old_4 L P ks qs own)

  -- a number of an edge is not 0, so the place is the verdict's; and 1 is not given, so the sides are in range
  pub answer_says_hot : edge_number now_a.number ≡ true → HotAt P now_a.number now_a.place × Sides P.w P.h
  answer_says_hot e =
      let t : edge_number (now_v L P ks qs).number ≡ true = ap edge_number (sym now_number) ∙ e in
      let r = refused_answer (now_v L P ks qs) words lines (λ z. no t (ap edge_number z)) in (
        subst (λ (a : Answer). HotAt P a.number a.place) (sym r) (says_hot L P ks qs own t),
        (levelled L P ks (when_edge L P ks qs own t).0).0.sides,
      )

module _ (P : Picture) (ks work out : List ℕ) where
  -- the rows behind: 5 6, and 7 for the tree
  abbrev pub list_own : List Row
  list_own = work_row P work ∷ words_row out (length (listed eight P ks)) ∷ []

  abbrev pub tree_own : List ℕ → List Row
  tree_own tree = work_row P work ∷ words_row out (length (listed eight P ks)) ∷ row_at 7 (ltb (length tree) (half P ks)) (half P ks) ∷ []

  pub list_as_old_4 : (edge_number (list_answer eight P ks work out).number ≡ true) ↔ ((verdict (old_rows eight P ks list_own)).number ≡ 4)
  list_as_old_4 = answer_as_old_4 eight P ks list_own refl _ _

  pub tree_as_old_4 : (tree : List ℕ) → (edge_number (tree_answer eight P ks work out tree).number ≡ true) ↔ ((verdict (old_rows eight P ks (tree_own tree))).number ≡ 4)
  tree_as_old_4 tree = answer_as_old_4 eight P ks (tree_own tree) refl _ _

  pub list_else_as_old : (verdict (old_rows eight P ks list_own)).number ≢ 4 → list_answer eight P ks work out ≡ answer (verdict (old_rows eight P ks list_own)) (length (listed eight P ks)) (tally (flagged eight) (listed eight P ks))
  list_else_as_old n = ap (λ (v : Verdict). answer v (length (listed eight P ks)) (tally (flagged eight) (listed eight P ks))) (else_as_old eight P ks list_own n)

  pub tree_else_as_old : (tree : List ℕ) → (verdict (old_rows eight P ks (tree_own tree))).number ≢ 4
      → tree_answer eight P ks work out tree ≡ answer (verdict (old_rows eight P ks (tree_own tree))) (length (listed eight P ks)) (tally (flagged eight) (listed eight P ks))
  tree_else_as_old tree n = ap (λ (v : Verdict). answer v (length (listed eight P ks)) (tally (flagged eight) (listed eight P ks))) (else_as_old eight P ks (tree_own tree) n)

  pub list_says_hot : edge_number (list_answer eight P ks work out).number ≡ true → HotAt P (list_answer eight P ks work out).number (list_answer eight P ks work out).place
  list_says_hot e = (answer_says_hot eight P ks list_own refl _ _ e).0

  list_sides : edge_number (list_answer eight P ks work out).number ≡ true → Sides P.w P.h
  list_sides e = (answer_says_hot eight P ks list_own refl _ _ e).1

  pub tree_says_hot : (tree : List ℕ) → edge_number (tree_answer eight P ks work out tree).number ≡ true
      → HotAt P (tree_answer eight P ks work out tree).number (tree_answer eight P ks work out tree).place
  tree_says_hot tree e = (answer_says_hot eight P ks (tree_own tree) refl _ _ e).0

  tree_sides : (tree : List ℕ) → edge_number (tree_answer eight P ks work out tree).number ≡ true → Sides P.w P.h
  tree_sides tree e = (answer_says_hot eight P ks (tree_own tree) refl _ _ e).1

-- two calls on one picture, whatever else they are handed
module _ (P : Picture) (ks work out js work' out' : List ℕ) where
  pub lists_same : edge_number (list_answer eight P ks work out).number ≡ true → edge_number (list_answer eight P js work' out').number ≡ true
      → ((list_answer eight P ks work out).number ≡ (list_answer eight P js work' out').number) × ((list_answer eight P ks work out).place ≡ (list_answer eight P js work' out').place)
  lists_same d e = same_hot P (list_sides P ks work out d) _ _ _ _ (list_says_hot P ks work out d) (list_says_hot P js work' out' e)

  pub trees_same : (tree tree' : List ℕ) → edge_number (tree_answer eight P ks work out tree).number ≡ true → edge_number (tree_answer eight P js work' out' tree').number ≡ true
      → ((tree_answer eight P ks work out tree).number ≡ (tree_answer eight P js work' out' tree').number) × ((tree_answer eight P ks work out tree).place ≡ (tree_answer eight P js work' out' tree').place)
  trees_same tree tree' d e = same_hot P (tree_sides P ks work out tree d) _ _ _ _ (tree_says_hot P ks work out tree d) (tree_says_hot P js work' out' tree' e)

  pub list_tree_same : (tree : List ℕ) → edge_number (list_answer eight P ks work out).number ≡ true → edge_number (tree_answer eight P js work' out' tree).number ≡ true
      → ((list_answer eight P ks work out).number ≡ (tree_answer eight P js work' out' tree).number) × ((list_answer eight P ks work out).place ≡ (tree_answer eight P js work' out' tree).place)
  list_tree_same tree d e = same_hot P (list_sides P ks work out d) _ _ _ _ (list_says_hot P ks work out d) (tree_says_hot P js work' out' tree e)
