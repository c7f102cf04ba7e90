-- The tree by the numbers of the lines: a parent's lead comes first, and the left neighbour's rule. Assumes nothing.
-- Definitions: `lead_pos L P ks n` the position of line n's lead; `straight L P ks m d` line m has on the edgel d the heading of its lead.
-- Main laws: `parent_line`, `parent_in` the parent of a number is a number of the list; `falls` a parent's lead is before its child's, by row and then exact position, so no chain of parents turns
--   back; `around_falls` the same of every line around it; `parent_last` no line around it has a later lead than the parent; `neighbour_in`, `neighbour_out`, `neighbour_none` the parent of a
--   line from the crossing next on the left of its lead.
use mathlib.Core.Path.{◌≡◌, sym, ◌∙◌, subst}
use mathlib.Core.Bool.{Bool, true, false, not}
use mathlib.Core.List.{List}
use mathlib.Core.Logic.{⊎_elim}
use Prim.Native.Nat.{ℕ, suc, ◌≤◌, ◌<◌}
use native.Mathlib.Omega.{arith}
use Rattle.tally.specs.Tally.{differ}
use Rattle.matte.specs.Layout.{Layout}
use Rattle.matte.specs.Picture.{Picture, high}
use Rattle.edgel.specs.Edgel.{first}
use Rattle.enclosure.specs.Position.{key}
use Rattle.enclosure.specs.Tree.{line_count, level_at, lead_at, around, parent}
use Rattle.enclosure.proofs.Lines.{Setting, Line, lead_key, encloses}
use Rattle.enclosure.proofs.Sides.{earlier}
use Rattle.enclosure.proofs.Nearest.{Ahead}
use Rattle.enclosure.proofs.Nest.{Parent, Root, Before, parent_latest, enters_parent, parent_leaves, parent_alike, child_alike, root_alike, root_leaves, none_root}
use Rattle.enclosure.proofs.Kind.{entering}
use Rattle.enclosure.proofs.Tree.{line_of, Number, number_of, named, around_is, Above, parent_or, is_parent, is_root}

module _ (L : Layout) (P : Picture) (ks : List ℕ) where
  abbrev pub lead_pos : ℕ → ℕ
  lead_pos n = key P L.levels (level_at L P ks n) (lead_at L P ks n)

  abbrev pub straight : ℕ → ℕ → Bool
  straight m d = not (differ (high P (level_at L P ks m) (first d)) (high P (level_at L P ks m) (first (lead_at L P ks m))))

module _ {L : Layout} {P : Picture} {ks : List ℕ} (S : Setting L P ks) where
  abbrev all : ℕ
  all = line_count L P ks

  abbrev up : ℕ → ℕ
  up = parent L P ks

  pub parent_line : (n : ℕ) (a : n < line_count L P ks) (p : ℕ) → parent L P ks n ≡ suc p → (b : p < line_count L P ks) × Parent L (line_of S p b) (line_of S n a)
  parent_line n a p e =
      ⊎_elim
      (λ (T : Above S n a).
      let s : T.p ≡ p = omega (arith, T.is) in
      subst (λ (z : ℕ). (b : z < all) × Parent L (line_of S z b) (line_of S n a)) s (T.in_list, T.parent))
      (λ (z : (up n ≡ 0) × Root L (line_of S n a)). absurd (omega (arith, z.0)))
      (parent_or S n a)

  pub parent_in : (n : ℕ) → n < line_count L P ks → (p : ℕ) → parent L P ks n ≡ suc p → p < line_count L P ks
  parent_in n a p e = (parent_line n a p e).0

  pub root_line : (n : ℕ) (a : n < line_count L P ks) → parent L P ks n ≡ 0 → Root L (line_of S n a)
  root_line n a e =
      ⊎_elim
      (λ (T : Above S n a). absurd (omega (arith, T.is)))
      (λ (z : (up n ≡ 0) × Root L (line_of S n a)). z.1)
      (parent_or S n a)

  -- ---- leads first
  pub around_falls : (m n : ℕ) → m < line_count L P ks → n < line_count L P ks → around L P ks m n ≡ true → lead_pos L P ks m < lead_pos L P ks n
  unfolding line_of
  around_falls m n a b e = earlier S (line_of S m a) (line_of S n b) (sym (around_is S m n a b) ∙ e)

  pub falls : (n : ℕ) → n < line_count L P ks → (p : ℕ) → parent L P ks n ≡ suc p → lead_pos L P ks p < lead_pos L P ks n
  unfolding line_of
  falls n a p e = let X = parent_line n a p e in earlier S (line_of S p X.0) (line_of S n a) X.1.outer

  -- the parent is the line around it with the latest lead
  pub parent_last : (n : ℕ) → n < line_count L P ks → (p : ℕ) → parent L P ks n ≡ suc p → (m : ℕ) → m < line_count L P ks → around L P ks m n ≡ true → lead_pos L P ks m ≤ lead_pos L P ks p
  unfolding line_of
  parent_last n a p e m b t =
      let X = parent_line n a p e in
      (parent_latest S (line_of S p X.0) (line_of S n a) X.1).last (line_of S m b) (sym (around_is S m n b a) ∙ t)

  -- ---- the left neighbour
  module _ (n : ℕ) (a : n < line_count L P ks) (b : Before L (line_of S n a)) where
    abbrev N : Line P ks
    N = line_of S n a

    abbrev Z : Number S b.q
    Z = number_of S b.q

    abbrev q' : Line P ks
    q' = line_of S Z.n Z.in_list

    nm : lead_key L q' ≡ lead_key L b.q
    nm = named S b.q Z

    -- the heading at the left neighbour is that of its line's lead
    abbrev pub along : Bool
    along = not (differ (high P b.q.lvl (first b.d)) (high P b.q.lvl (first b.q.lead)))

    pub neighbour_in : along ≡ true → parent L P ks n ≡ suc (number_of S b.q).n
    neighbour_in e = is_parent S n Z.n a Z.in_list (parent_alike S b.q q' N (sym nm) (enters_parent S N b (entering S N b ∙ e)))

    pub neighbour_out : along ≡ false → parent L P ks n ≡ parent L P ks (number_of S b.q).n
    neighbour_out e =
        let o : encloses L b.q N ≡ false = entering S N b ∙ e in
        ⊎_elim
        (λ (T : Above S Z.n Z.in_list).
        let R = line_of S T.p T.in_list in
        is_parent S n T.p a T.in_list (parent_leaves S N b o R (child_alike S R q' b.q nm T.parent)) ∙ sym T.is)
        (λ (z : (up Z.n ≡ 0) × Root L q'). is_root S n a (root_leaves S N b o (root_alike S q' b.q nm z.1)) ∙ sym z.0)
        (parent_or S Z.n Z.in_list)

  pub neighbour_none : (n : ℕ) (a : n < line_count L P ks) → ((M : Line P ks) (e : ℕ) → Ahead L M e (line_of S n a) → ⊥) → parent L P ks n ≡ 0
  neighbour_none n a q = is_root S n a (none_root S (line_of S n a) q)
