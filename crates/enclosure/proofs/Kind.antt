-- Kinds of lines: the heading of the lead against the comparison with the parent's level, by the height just outside and just inside a line. Assumes nothing.
-- Definitions: `out_of M`, `in_of M` the height just outside and just inside a line, at its lead; `upper M` the lead's left end is low: its kind, true for upper.
-- Main laws: `entering` the left neighbour's line is around a line exactly if it has its lead's heading there; `out_in` no listed level lies between a line's outside and its parent's inside;
--   `same_kind` for every line that has a parent the article's comparison gives the kind; `root_gap`, `root_kind` a root is upper exactly if the border is low at its level.
use mathlib.Core.Path.{◌≡◌, refl, sym, ap, ◌∙◌}
use mathlib.Core.Bool.{Bool, true, false, not, cond}
use mathlib.Core.List.{List}
use mathlib.Core.Logic.{⊎_elim}
use Prim.Native.Nat.{ℕ, zero, suc, ◌≤◌, ◌<◌}
use native.Mathlib.Omega.{arith}
use lib.Dec.{ltb}
use borrow.Author.Tests.{ltb-true, ltb-false, lt-ltb, le-ltb}
use Rattle.tally.specs.Tally.{one, differ, count, flat}
use Rattle.tally.proofs.Test.{by_test, no, differ_false}
use Rattle.matte.specs.Layout.{Layout}
use Rattle.matte.specs.Picture.{Picture, high}
use Rattle.edgel.specs.Edgel.{first}
use Rattle.outline.specs.Line.{line, lines}
use Rattle.enclosure.specs.Article.{kind_in}
use Rattle.enclosure.proofs.Order.{key_inj}
use Rattle.enclosure.proofs.Left.{onward_turn, left_none}
use Rattle.enclosure.proofs.Lines.{Setting, Line, lead_key, left_of, encloses, small, lead_cut, lead_pass, key_first, counts, member}
use Rattle.enclosure.proofs.Sides.{own}
use Rattle.enclosure.proofs.Nearest.{Ahead, encloses_ahead}
use Rattle.enclosure.proofs.Nest.{Parent, Root, Before, parent_once, enters_parent, leaves_parent, leaves_same}
use Rattle.enclosure.proofs.Before.{before}
use Rattle.enclosure.proofs.Gap.{left_gap, right_gap, gap_own, state, found, step_gap}

module _ {P : Picture} {ks : List ℕ} where
  abbrev pub upper : Line P ks → Bool
  upper M = not (high P M.lvl (first M.lead))

  abbrev pub out_of : Line P ks → ℕ
  out_of M = left_gap P M.lvl M.lead

  abbrev pub in_of : Line P ks → ℕ
  in_of M = right_gap P M.lvl M.lead

-- by heading here (x) and at the lead (y): the right gap is the inside, or the outside
gap_pick : (x y : Bool) (k : ℕ) → not (differ x y) ≡ true → cond x k (suc k) ≡ cond y k (suc k)
gap_pick true true k e = refl
gap_pick true false k e = no e refl
gap_pick false true k e = no e refl
gap_pick false false k e = refl

gap_turn : (x y : Bool) (k : ℕ) → not (differ x y) ≡ false → cond x k (suc k) ≡ cond y (suc k) k
gap_turn true true k e = no refl e
gap_turn true false k e = refl
gap_turn false true k e = refl
gap_turn false false k e = no refl e

kinds : (x y : Bool) (k p : ℕ) → ltb k (cond x (suc k) k) ≡ ltb k (cond y p (suc p)) → ltb p (cond x (suc k) k) ≡ ltb p (cond y p (suc p)) → not x ≡ kind_in k p (not y)
kinds false false k p a b =
    let l : p < k = omega (arith, ltb-false k (suc p) (sym a ∙ le-ltb k k (omega arith))) in
    rw (lt-ltb p k l)
kinds false true k p a b =
    let l : p ≤ k = ltb-false k p (sym a ∙ le-ltb k k (omega arith)) in
    let m : k ≤ p = ltb-false p k (b ∙ le-ltb p p (omega arith)) in
    rw (le-ltb p k m, le-ltb k p l)
kinds true false k p a b =
    let l : k < suc p = ltb-true k (suc p) (sym a ∙ lt-ltb k (suc k) (omega arith)) in
    let m : p < suc k = ltb-true p (suc k) (b ∙ lt-ltb p (suc p) (omega arith)) in
    rw (le-ltb p k (omega arith), le-ltb k p (omega arith))
kinds true true k p a b =
    let l : k < p = ltb-true k p (sym a ∙ lt-ltb k (suc k) (omega arith)) in
    rw (le-ltb p k (omega arith), lt-ltb k p l)

module _ {L : Layout} {P : Picture} {ks : List ℕ} (S : Setting L P ks) where
  abbrev W : ℕ
  W = L.levels

  -- the line at the left neighbour turns over between it and the lead
  turn_over : (N : Line P ks) (b : Before L N) → encloses L b.q N ≡ not (left_of L b.q b.q.lvl b.d)
  unfolding left_of
  turn_over N b =
      let q = b.q in
      let A = b.ahead in
      onward_turn P W q.lvl (line P q.lvl q.lead) q.lvl b.d N.lvl N.lead A.row A.less (small S q) refl A.pass.flat
      (counts S q b.d ∙ ap one A.pass.here)
      (λ c i f r t. b.next q c (record { pass = record { flat = f; here = member S q c i }; row = r; less = t }))

  -- the line at the left neighbour is around N exactly if its heading there is its lead's
  pub entering : (N : Line P ks) (b : Before L N) → encloses L b.q N ≡ not (differ (high P b.q.lvl (first b.d)) (high P b.q.lvl (first b.q.lead)))
  entering N b = turn_over N b ∙ ap not (own S b.q b.d b.ahead.pass)

  -- inside it, the right gap is its inside; else its outside
  gap_in : (N : Line P ks) (b : Before L N) → encloses L b.q N ≡ true → right_gap P b.q.lvl b.d ≡ in_of b.q
  gap_in N b a = gap_pick (high P b.q.lvl (first b.d)) (high P b.q.lvl (first b.q.lead)) b.q.lvl (sym (entering N b) ∙ a)

  gap_out : (N : Line P ks) (b : Before L N) → encloses L b.q N ≡ false → right_gap P b.q.lvl b.d ≡ out_of b.q
  gap_out N b a = gap_turn (high P b.q.lvl (first b.d)) (high P b.q.lvl (first b.q.lead)) b.q.lvl (sym (entering N b) ∙ a)

  in_alike : (M R : Line P ks) → lead_key L M ≡ lead_key L R → in_of M ≡ in_of R
  in_alike M R e =
      let s = key_inj P W M.lvl R.lvl M.lead R.lead (small S M) (small S R) e in
      ap (λ (z : ℕ). right_gap P z M.lead) s.1 ∙ ap (right_gap P R.lvl) s.0

  -- ---- a line's outside is its parent's inside
  out_in_by : (n : ℕ) (N M : Line P ks) → lead_key L N < n → Parent L M N → (m : ℕ) → m < L.levels → 0 < count m ks → ltb m (out_of N) ≡ ltb m (in_of M)
  out_in_by zero N M l X m a g = absurd (omega arith)
  out_in_by (suc n) N M l X m a g =
      ⊎_elim
      (λ (b : Before L N).
      step_gap S N b m a g
      ∙ by_test (encloses L b.q N)
      (λ e. ap (ltb m) (gap_in N b e ∙ in_alike b.q M (parent_once S b.q M N (enters_parent S N b e) X)))
      (λ e. ap (ltb m) (gap_out N b e)
      ∙ out_in_by n b.q M (omega (arith, key_first S b.q b.d b.ahead.pass, b.ahead.less)) (leaves_parent S N b e M X) m a g))
      (λ q. let x = encloses_ahead S M N X.outer in absurd (q M x.0 x.1))
      (before S N)

  pub out_in : (N M : Line P ks) → Parent L M N → (m : ℕ) → m < L.levels → 0 < count m ks → ltb m (out_of N) ≡ ltb m (in_of M)
  out_in N M X m a g = out_in_by (suc (lead_key L N)) N M (omega arith) X m a g

  pub same_kind : (N M : Line P ks) → Parent L M N → upper N ≡ kind_in N.lvl M.lvl (upper M)
  same_kind N M X =
      kinds (high P N.lvl (first N.lead)) (high P M.lvl (first M.lead)) N.lvl M.lvl (out_in N M X N.lvl (small S N) N.listed)
      (out_in N M X M.lvl (small S M) M.listed)

  -- ---- roots
  root_by : (n : ℕ) (N : Line P ks) → lead_key L N < n → Root L N → (m : ℕ) → m < L.levels → 0 < count m ks → ltb m (out_of N) ≡ high P m 0
  root_by zero N l R m a g = absurd (omega arith)
  root_by (suc n) N l R m a g =
      ⊎_elim
      (λ (b : Before L N).
      step_gap S N b m a g
      ∙ ap (ltb m) (gap_out N b (R.none b.q))
      ∙ root_by n b.q (omega (arith, key_first S b.q b.d b.ahead.pass, b.ahead.less))
      (record { none = λ M. sym (leaves_same S N b (R.none b.q) M) ∙ R.none M }) m a g)
      (λ (q : (M : Line P ks) (e : ℕ) → Ahead L M e N → ⊥).
      sym (differ_false (high P m 0) (ltb m (out_of N))
      (sym (state P S.border W m N.lvl N.lead a (small S N) (lead_pass S N).flat (lead_cut S N))
      ∙ left_none P W m N.lvl N.lead (flat (lines P m)) (λ c i f r t. let F = found S m g N c i f r t in q F.0 c F.2))))
      (before S N)

  pub root_gap : (N : Line P ks) → Root L N → (m : ℕ) → m < L.levels → 0 < count m ks → ltb m (out_of N) ≡ high P m 0
  root_gap N R m a g = root_by (suc (lead_key L N)) N (omega arith) R m a g

  pub root_kind : (N : Line P ks) → Root L N → upper N ≡ not (high P N.lvl 0)
  root_kind N R = ap not (gap_own (high P N.lvl (first N.lead)) N.lvl ∙ root_gap N R N.lvl (small S N) N.listed)
