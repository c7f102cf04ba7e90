-- Where the kind by the article's comparison with the parent's level is the kind read from the lead (02, R-2). Assumes nothing.
-- Definitions: none of its own.
-- Main laws: `kind_child` for a line with a parent the comparison gives its kind, whatever the border; `kind_root` a root is upper exactly if the border is low at its level; `article_root`,
--   `article_child` what the article says of a root and of any other line; so its kind is the line's own for every line whose parent has another level (`article_other`), for one of its parent's
--   level exactly if it is the parent's own (`article_same`), for a root exactly if the border is low at its level (`article_first`), and for every line of a level at which the border is low (`article_low`).
use mathlib.Core.Path.{◌≡◌, refl, sym, ap, ◌∙◌}
use mathlib.Core.Bool.{Bool, true, false, not, cond}
use mathlib.Core.List.{List}
use mathlib.Core.Logic.{◌≢◌}
use Prim.Native.Nat.{ℕ, zero, suc, ◌-◌, ◌<◌}
use native.Mathlib.Omega.{arith}
use lib.Dec.{eqb, ltb}
use borrow.Author.Tests.{ltb-false, lt-ltb, le-ltb, eqb-true, eqb-false, eq-eqb, ne_eqb}
use Rattle.tally.specs.Tally.{differ}
use Rattle.tally.proofs.Test.{by_test, differ_self, differ_false}
use Rattle.matte.specs.Layout.{Layout}
use Rattle.matte.specs.Picture.{Picture, high}
use Rattle.enclosure.specs.Tree.{line_count, level_at, parent, kind}
use Rattle.enclosure.specs.Article.{kind_in, article_by, article}
use Rattle.enclosure.proofs.Lines.{Setting}
use Rattle.enclosure.proofs.Kind.{same_kind, root_kind}
use Rattle.enclosure.proofs.Tree.{line_of}
use Rattle.enclosure.proofs.Entry.{lead_pos, parent_line, parent_in, root_line, falls}

-- of different levels the parent's kind does not count
free : (k l : ℕ) (x y : Bool) → k ≢ l → kind_in k l x ≡ kind_in k l y
free k l x y n =
    by_test (ltb l k)
    (λ t. rw t)
    (λ t. let u : k < l = omega (arith, ltb-false l k t) in rw (t, lt-ltb k l u))

-- of the same level it is turned over
turned : (k l : ℕ) (x : Bool) → k ≡ l → kind_in k l x ≡ not x
turned k l x e =
    ap (λ (z : Bool). cond z true (cond (ltb k l) false (not x))) (le-ltb l k (omega arith)) ∙ ap (λ (z : Bool). cond z false (not x)) (le-ltb k l (omega arith))

differ_both : (x y : Bool) → differ (not x) (not y) ≡ differ x y
differ_both true y = refl
differ_both false true = refl
differ_both false false = refl

differ_upper : (b : Bool) → differ true (not b) ≡ b
differ_upper true = refl
differ_upper false = refl

module _ {L : Layout} {P : Picture} {ks : List ℕ} (S : Setting L P ks) where
  abbrev lv : ℕ → ℕ
  lv = level_at L P ks

  abbrev up : ℕ → ℕ
  up = parent L P ks

  -- ---- the comparison with the parent
  pub kind_child : (n : ℕ) → n < line_count L P ks → (p : ℕ) → parent L P ks n ≡ suc p → kind L P ks n ≡ kind_in (level_at L P ks n) (level_at L P ks p) (kind L P ks p)
  unfolding kind line_of
  kind_child n a p e = let X = parent_line S n a p e in same_kind S (line_of S n a) (line_of S p X.0) X.1

  pub kind_root : (n : ℕ) → n < line_count L P ks → parent L P ks n ≡ 0 → kind L P ks n ≡ not (high P (level_at L P ks n) 0)
  unfolding kind line_of
  kind_root n a e = root_kind S (line_of S n a) (root_line S n a e)

  -- ---- the article's kinds, from the roots on
  article_0 : (f n : ℕ) → parent L P ks n ≡ 0 → article_by L P ks (suc f) n ≡ true
  unfolding article_by
  article_0 f n e = rw (eq-eqb (up n) 0 e, article_by)

  article_s : (f n p : ℕ) → parent L P ks n ≡ suc p → article_by L P ks (suc f) n ≡ kind_in (lv n) (lv p) (article_by L P ks f p)
  unfolding article_by
  article_s f n p e =
      let s : up n - 1 ≡ p = omega arith in
      rw (ne_eqb (up n) 0 (omega arith), article_by, s)

  -- more fuel than the lead's position changes nothing
  article_fuel : (f g n : ℕ) → n < line_count L P ks → lead_pos L P ks n < f → lead_pos L P ks n < g → article_by L P ks f n ≡ article_by L P ks g n
  article_fuel zero g n a x y = absurd (omega arith)
  article_fuel (suc f) zero n a x y = absurd (omega arith)
  article_fuel (suc f) (suc g) n a x y =
      by_test (eqb (up n) 0)
      (λ e. let s : up n ≡ 0 = eqb-true (up n) 0 e in article_0 f n s ∙ sym (article_0 g n s))
      (λ e.
      let p = up n - 1 in
      let s : up n ≡ suc p = omega (arith, eqb-false (up n) 0 e) in
      let l = falls S n a p s in
      article_s f n p s ∙ ap (kind_in (lv n) (lv p)) (article_fuel f g p (parent_in S n a p s) (omega arith) (omega arith)) ∙ sym (article_s g n p s))

  pub article_root : (n : ℕ) → parent L P ks n ≡ 0 → article L P ks n ≡ true
  unfolding article
  article_root n e = article_0 (lead_pos L P ks n) n e

  pub article_child : (n : ℕ) → n < line_count L P ks → (p : ℕ) → parent L P ks n ≡ suc p → article L P ks n ≡ kind_in (level_at L P ks n) (level_at L P ks p) (article L P ks p)
  unfolding article
  article_child n a p e =
      article_s (lead_pos L P ks n) n p e
      ∙ ap (kind_in (lv n) (lv p)) (article_fuel (lead_pos L P ks n) (suc (lead_pos L P ks p)) p (parent_in S n a p e) (falls S n a p e) (omega arith))

  -- ---- where they are the kinds of the tree
  pub article_first : (n : ℕ) → n < line_count L P ks → parent L P ks n ≡ 0 → differ (article L P ks n) (kind L P ks n) ≡ high P (level_at L P ks n) 0
  article_first n a e =
      ap (λ (z : Bool). differ z (kind L P ks n)) (article_root n e) ∙ ap (differ true) (kind_root n a e) ∙ differ_upper (high P (lv n) 0)

  pub article_other : (n : ℕ) → n < line_count L P ks → (p : ℕ) → parent L P ks n ≡ suc p → level_at L P ks n ≢ level_at L P ks p → article L P ks n ≡ kind L P ks n
  article_other n a p e q = article_child n a p e ∙ free (lv n) (lv p) (article L P ks p) (kind L P ks p) q ∙ sym (kind_child n a p e)

  pub article_same : (n : ℕ) → n < line_count L P ks → (p : ℕ) → parent L P ks n ≡ suc p → level_at L P ks n ≡ level_at L P ks p
      → differ (article L P ks n) (kind L P ks n) ≡ differ (article L P ks p) (kind L P ks p)
  article_same n a p e s =
      ap (λ (z : Bool). differ z (kind L P ks n)) (article_child n a p e ∙ turned (lv n) (lv p) (article L P ks p) s)
      ∙ ap (differ (not (article L P ks p))) (kind_child n a p e ∙ turned (lv n) (lv p) (kind L P ks p) s)
      ∙ differ_both (article L P ks p) (kind L P ks p)

  low_by : (f n : ℕ) → n < line_count L P ks → lead_pos L P ks n < f → high P (lv n) 0 ≡ false → differ (article L P ks n) (kind L P ks n) ≡ false
  low_by zero n a l b = absurd (omega arith)
  low_by (suc f) n a l b =
      by_test (eqb (up n) 0)
      (λ e. article_first n a (eqb-true (up n) 0 e) ∙ b)
      (λ e.
      let p = up n - 1 in
      let s : up n ≡ suc p = omega (arith, eqb-false (up n) 0 e) in
      by_test (eqb (lv n) (lv p))
      (λ t.
      let q : lv n ≡ lv p = eqb-true (lv n) (lv p) t in
      article_same n a p s q ∙ low_by f p (parent_in S n a p s) (omega (arith, falls S n a p s)) (ap (λ (z : ℕ). high P z 0) (sym q) ∙ b))
      (λ t. ap (λ (z : Bool). differ z (kind L P ks n)) (article_other n a p s (eqb-false (lv n) (lv p) t)) ∙ differ_self (kind L P ks n)))

  pub article_low : (n : ℕ) → n < line_count L P ks → high P (level_at L P ks n) 0 ≡ false → article L P ks n ≡ kind L P ks n
  article_low n a b = differ_false (article L P ks n) (kind L P ks n) (low_by (suc (lead_pos L P ks n)) n a (omega arith) b)
