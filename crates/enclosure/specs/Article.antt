-- Kinds by the article's comparison with the parent's level. The tree does not go by them; where they are its kinds is proved in proofs/Agree. Assumes nothing.
-- Definitions: `kind_in` the comparison, from the levels of a line and its parent and the parent's kind; `article_by`, `article` the kind of line n by it, from its root on.
use Rattle.std.specs.Prelude.{Bool, true, false, not, cond, List, ℕ, zero, suc, ◌-◌, eqb, ltb}
use Rattle.matte.specs.Layout.{Layout}
use Rattle.matte.specs.Picture.{Picture}
use Rattle.enclosure.specs.Position.{key}
use Rattle.enclosure.specs.Tree.{level_at, lead_at, parent}

-- a line above its parent's level is upper, one below it lower; at the same level it is what the parent is not (01, Tree and kind)
abbrev pub kind_in : ℕ → ℕ → Bool → Bool
kind_in k p u = cond (ltb p k) true (cond (ltb k p) false (not u))

module _ (L : Layout) (P : Picture) (ks : List ℕ) where
  -- a root is upper, any other line goes by its parent; f is fuel, and the lead's position is enough, since a parent's lead comes before (01, Tree and kind)
  unfoldable pub article_by : ℕ → ℕ → Bool
  article_by zero n = true
  article_by (suc f) n =
      elim (eqb (parent L P ks n) 0) [
        | true ↦ true
        | false ↦ let p = parent L P ks n - 1 in kind_in (level_at L P ks n) (level_at L P ks p) (article_by f p)
      ]

  unfoldable pub article : ℕ → Bool
  article n = article_by (suc (key P L.levels (level_at L P ks n) (lead_at L P ks n))) n
