-- The list while it grows: the lines of the places below i, and their words. Assumes nothing.
-- Definitions: `lines_to P k i` the lines whose leads stand at places below i; `words_to L P k i` their words.
-- Main laws: `lines_none`, `words_none` at the start; `words_line`, `words_skip` one place on; `lines_whole`, `words_whole` at the end.
use mathlib.Core.Path.{◌≡◌, refl, ap, ◌∙◌}
use mathlib.Core.Bool.{true, false}
use mathlib.Core.List.{List, [], ◌∷◌, ◌++◌, append-nil}
use Prim.Native.Nat.{ℕ, suc, ◌+◌, ◌*◌}
use native.Mathlib.Omega.{arith}
use Rattle.tally.specs.Tally.{pick}
use Rattle.tally.proofs.Pick.{pick_snoc}
use Rattle.matte.specs.Layout.{Layout}
use Rattle.matte.specs.Picture.{Picture, size}
use Rattle.outline.specs.Line.{line, is_lead, lines}
use Rattle.outline.specs.List.{encode, level_words}
use Rattle.outline.proofs.Words.{level_append}

module _ (P : Picture) (k : ℕ) where
  unfoldable pub lines_to : ℕ → List (List ℕ)
  lines_to i = pick (λ j. is_lead P k (2 * j)) (λ j. line P k (2 * j)) 0 i

  pub lines_none : lines_to 0 ≡ []
  unfolding lines_to pick
  lines_none = refl

  pub lines_one : (i : ℕ) → is_lead P k (2 * i) ≡ true → lines_to (suc i) ≡ lines_to i ++ (line P k (2 * i) ∷ [])
  unfolding lines_to
  lines_one i e = (pick_snoc (λ j. is_lead P k (2 * j)) (λ j. line P k (2 * j)) 0 i i (omega arith)).yes e

  pub lines_skip : (i : ℕ) → is_lead P k (2 * i) ≡ false → lines_to (suc i) ≡ lines_to i
  unfolding lines_to
  lines_skip i e = (pick_snoc (λ j. is_lead P k (2 * j)) (λ j. line P k (2 * j)) 0 i i (omega arith)).nay e

  pub lines_whole : lines_to (size P) ≡ lines P k
  unfolding lines_to lines
  lines_whole = refl

  module _ (L : Layout) where
    unfoldable pub words_to : ℕ → List ℕ
    words_to i = level_words L k (lines_to i)

    pub words_none : words_to 0 ≡ []
    unfolding words_to level_words lines_to pick
    words_none = refl

    pub words_line : (i : ℕ) → is_lead P k (2 * i) ≡ true → words_to (suc i) ≡ words_to i ++ encode L k true (line P k (2 * i))
    unfolding words_to level_words
    words_line i e =
        ap (level_words L k) (lines_one i e)
        ∙ level_append L k (lines_to i) (line P k (2 * i) ∷ [])
        ∙ ap (λ (z : List ℕ). level_words L k (lines_to i) ++ z) (append-nil (encode L k true (line P k (2 * i))))

    pub words_skip : (i : ℕ) → is_lead P k (2 * i) ≡ false → words_to (suc i) ≡ words_to i
    unfolding words_to
    words_skip i e = ap (level_words L k) (lines_skip i e)

    pub words_whole : words_to (size P) ≡ level_words L k (lines P k)
    unfolding words_to
    words_whole = ap (level_words L k) lines_whole
