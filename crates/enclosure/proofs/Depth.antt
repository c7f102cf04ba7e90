-- Depth in the tree, by going up through the parents (request R-13). Assumes nothing.
-- Definitions: `depth_by L P ks f n`, `depth L P ks n` the depth of line n, a root being 0 (f is fuel, and the lead's position is enough).
-- Main laws: `depth_root`, `depth_child`; `depth_less` every depth is below the number of lines.
use mathlib.Core.Path.{◌≡◌, sym, ap, ◌∙◌}
use mathlib.Core.Bool.{true, false}
use mathlib.Core.List.{List}
use Prim.Native.Nat.{ℕ, zero, suc, ◌+◌, ◌-◌, ◌≤◌, ◌<◌}
use native.Mathlib.Omega.{arith}
use lib.Dec.{eqb, ltb}
use borrow.Author.Tests.{ltb-true, ltb-false, eqb-true, eqb-false, eq-eqb, ne_eqb}
use Rattle.tally.proofs.Test.{by_test}
use Rattle.orbit.proofs.Pigeon.{pigeon, iter}
use Rattle.matte.specs.Layout.{Layout}
use Rattle.matte.specs.Picture.{Picture}
use Rattle.enclosure.specs.Tree.{line_count, parent}
use Rattle.enclosure.proofs.Lines.{Setting}
use Rattle.enclosure.proofs.Entry.{lead_pos, parent_in, falls}

module _ (L : Layout) (P : Picture) (ks : List ℕ) where
  unfoldable pub depth_by : ℕ → ℕ → ℕ
  depth_by zero n = 0
  depth_by (suc f) n = elim (eqb (parent L P ks n) 0) [ true ↦ 0 | false ↦ suc (depth_by f (parent L P ks n - 1)) ]

  unfoldable pub depth : ℕ → ℕ
  depth n = depth_by (suc (lead_pos L P ks n)) n

module _ {L : Layout} {P : Picture} {ks : List ℕ} (S : Setting L P ks) where
  abbrev all : ℕ
  all = line_count L P ks

  abbrev up : ℕ → ℕ
  up = parent L P ks

  abbrev dp : ℕ → ℕ
  dp = depth L P ks

  depth_0 : (f n : ℕ) → parent L P ks n ≡ 0 → depth_by L P ks (suc f) n ≡ 0
  unfolding depth_by
  depth_0 f n e = rw (eq-eqb (up n) 0 e, depth_by)

  depth_s : (f n p : ℕ) → parent L P ks n ≡ suc p → depth_by L P ks (suc f) n ≡ suc (depth_by L P ks f p)
  unfolding depth_by
  depth_s f n p e =
      let s : up n - 1 ≡ p = omega arith in
      rw (ne_eqb (up n) 0 (omega arith), depth_by, s)

  depth_fuel : (f g n : ℕ) → n < line_count L P ks → lead_pos L P ks n < f → lead_pos L P ks n < g → depth_by L P ks f n ≡ depth_by L P ks g n
  depth_fuel zero g n a x y = absurd (omega arith)
  depth_fuel (suc f) zero n a x y = absurd (omega arith)
  depth_fuel (suc f) (suc g) n a x y =
      by_test (eqb (up n) 0)
      (λ e. let s : up n ≡ 0 = eqb-true (up n) 0 e in depth_0 f n s ∙ sym (depth_0 g n s))
      (λ e.
      let p = up n - 1 in
      let s : up n ≡ suc p = omega (arith, eqb-false (up n) 0 e) in
      let l = falls S n a p s in
      depth_s f n p s ∙ ap suc (depth_fuel f g p (parent_in S n a p s) (omega arith) (omega arith)) ∙ sym (depth_s g n p s))

  pub depth_root : (n : ℕ) → parent L P ks n ≡ 0 → depth L P ks n ≡ 0
  unfolding depth
  depth_root n e = depth_0 (lead_pos L P ks n) n e

  pub depth_child : (n : ℕ) → n < line_count L P ks → (p : ℕ) → parent L P ks n ≡ suc p → depth L P ks n ≡ suc (depth L P ks p)
  unfolding depth
  depth_child n a p e =
      depth_s (lead_pos L P ks n) n p e ∙ ap suc (depth_fuel (lead_pos L P ks n) (suc (lead_pos L P ks p)) p (parent_in S n a p e) (falls S n a p e) (omega arith))

  -- the line s steps up from n, as long as there is one
  climb_to : ℕ → ℕ → ℕ
  climb_to n s = iter (λ i. up i - 1) s n

  climb : (n : ℕ) → n < line_count L P ks → (s : ℕ) → s ≤ depth L P ks n → (climb_to n s < line_count L P ks) × (depth L P ks (climb_to n s) + s ≡ depth L P ks n)
  unfolding climb_to
  climb n a zero l = (a, omega arith)
  climb n a (suc s) l =
      let r = climb n a s (omega arith) in
      let i = climb_to n s in
      by_test (eqb (up i) 0)
      (λ e. absurd (omega (arith, depth_root i (eqb-true (up i) 0 e), r.1)))
      (λ e.
      let p = up i - 1 in
      let t : up i ≡ suc p = omega (arith, eqb-false (up i) 0 e) in
      (parent_in S i r.0 p t, omega (arith, depth_child i r.0 p t, r.1)))

  -- two steps up by different numbers are different lines, since their depths differ
  pub depth_less : (n : ℕ) → n < line_count L P ks → depth L P ks n < line_count L P ks
  depth_less n a =
      by_test (ltb (dp n) all)
      (λ e. ltb-true _ _ e)
      (λ e.
      let l : all ≤ dp n = ltb-false (dp n) all e in
      let T = pigeon all (climb_to n) (λ s k. (climb n a s (omega arith)).0) in
      let x = climb n a T.first (omega (arith, T.apart, T.within)) in
      let y = climb n a T.second (omega (arith, T.within)) in
      let z : dp (climb_to n T.first) ≡ dp (climb_to n T.second) = ap dp T.same in
      absurd (omega (arith, x.1, y.1, T.apart)))
