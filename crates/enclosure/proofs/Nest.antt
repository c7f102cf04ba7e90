-- The parent of a line: the line around it that is nearest on the lead's row, which is the one with the latest lead. Assumes nothing.
-- Definitions: `Parent L M N` M is around N and no line around N has its nearest crossing further right, as the paper has it; `Latest L M N` no line around N has a later lead; `Root L N` no line is
--   around N; `Before L N` the listed crossing next to N's lead on its left (on the line q, at the code d).
-- Main laws: `nearer` of two lines around another the nearer is inside the other one, with the later lead; `parent_latest`, `latest_parent`, `parent_once`; the left neighbour decides:
--   `enters_parent`, `leaves_same`, `leaves_parent`, `parent_leaves`, `root_leaves`, `none_root`; `parent_alike`, `child_alike`, `root_alike` lines with one lead.
use mathlib.Core.Path.{◌≡◌, sym, ap, ◌∙◌}
use mathlib.Core.Bool.{true, false}
use mathlib.Core.List.{List}
use mathlib.Core.Logic.{◌≢◌}
use Prim.Native.Nat.{ℕ, ◌≤◌, ◌<◌}
use native.Mathlib.Omega.{arith}
use lib.Dec.{eqb, ltb}
use borrow.Author.Tests.{ltb-true, ltb-false, eqb-true, eqb-false}
use Rattle.tally.proofs.Test.{by_test}
use Rattle.matte.specs.Layout.{Layout}
use Rattle.matte.specs.Picture.{Picture}
use Rattle.outline.specs.Line.{line}
use Rattle.enclosure.specs.Position.{key, odd_left}
use Rattle.enclosure.proofs.Lines.{Setting, Line, lead_key, left_of, encloses}
use Rattle.enclosure.proofs.Sides.{one_line, earlier, not_self, sides}
use Rattle.enclosure.proofs.Nearest.{near_to, Ahead, alike, encloses_alike, near_alike, near_ge, near_at, encloses_ahead, between}

module _ (L : Layout) {P : Picture} {ks : List ℕ} where
  pub record Parent (M N : Line P ks) : Type 0 where
    pub outer : encloses L M N ≡ true
    pub best : (R : Line P ks) → encloses L R N ≡ true → near_to L R N ≤ near_to L M N

  pub record Latest (M N : Line P ks) : Type 0 where
    pub outer : encloses L M N ≡ true
    pub last : (R : Line P ks) → encloses L R N ≡ true → lead_key L R ≤ lead_key L M

  pub record Root (N : Line P ks) : Type 0 where
    pub none : (M : Line P ks) → encloses L M N ≡ false

  pub record Before (N : Line P ks) : Type 0 where
    pub q : Line P ks
    pub d : ℕ
    pub ahead : Ahead L q d N
    pub next : (M : Line P ks) (e : ℕ) → Ahead L M e N → key P L.levels M.lvl e ≤ key P L.levels q.lvl d

module _ {L : Layout} {P : Picture} {ks : List ℕ} (S : Setting L P ks) where
  abbrev W : ℕ
  W = L.levels

  abbrev kl : Line P ks → ℕ
  kl = lead_key L

  -- of two lines around R the nearer one is inside the other
  pub nearer : (M N R : Line P ks) → encloses L M R ≡ true → encloses L N R ≡ true → near_to L M R < near_to L N R → encloses L M N ≡ true
  nearer M N R a b l =
      let x = near_at S N R (omega arith) in
      let d = x.0 in
      let z : kl M ≢ kl N = λ s. let t : near_to L M R ≡ near_to L N R = near_alike S M N R s in omega arith in
      sym (sides S M N z d x.1.pass)
      ∙ sym (between S M N R d x.1 (λ e A. omega (arith, near_ge S M R e A, x.2)))
      ∙ a

  pub near_once : (M N R : Line P ks) → encloses L M R ≡ true → near_to L M R ≡ near_to L N R → lead_key L M ≡ lead_key L N
  near_once M N R a e =
      let y = encloses_ahead S M R a in
      let p : 0 < near_to L M R = omega (arith, near_ge S M R y.0 y.1) in
      let m = near_at S M R p in
      let n = near_at S N R (omega arith) in
      one_line S M N m.0 n.0 m.1.pass n.1.pass (omega (arith, m.2, n.2))

  pub parent_latest : (M N : Line P ks) → Parent L M N → Latest L M N
  parent_latest M N X =
      record {
        outer = X.outer;
        last = λ R a.
            by_test (ltb (near_to L R N) (near_to L M N))
            (λ e. omega (arith, earlier S R M (nearer R M N a X.outer (ltb-true _ _ e))))
            (λ e.
            let s : near_to L R N ≡ near_to L M N = omega (arith, X.best R a, ltb-false (near_to L R N) (near_to L M N) e) in
            omega (arith, near_once R M N a s));
      }

  pub latest_parent : (M N : Line P ks) → Latest L M N → Parent L M N
  latest_parent M N X =
      record {
        outer = X.outer;
        best = λ R a.
            by_test (ltb (near_to L M N) (near_to L R N))
            (λ e. absurd (omega (arith, earlier S M R (nearer M R N X.outer a (ltb-true _ _ e)), X.last R a)))
            (λ e. ltb-false _ _ e);
      }

  pub parent_once : (M R N : Line P ks) → Parent L M N → Parent L R N → lead_key L M ≡ lead_key L R
  parent_once M R N X Y = near_once M R N X.outer (let a = X.best R Y.outer in let b = Y.best M X.outer in omega arith)

  -- ---- the left neighbour
  -- its line is around N: it is the parent
  pub enters_parent : (N : Line P ks) (b : Before L N) → encloses L b.q N ≡ true → Parent L b.q N
  enters_parent N b a =
      record {
        outer = a;
        best = λ M e.
            let y = encloses_ahead S M N e in
            let m = near_at S M N (omega (arith, near_ge S M N y.0 y.1)) in
            omega (arith, near_ge S b.q N b.d b.ahead, m.2, b.next M m.0 m.1);
      }

  -- else it has the same lines around it
  pub leaves_same : (N : Line P ks) (b : Before L N) → encloses L b.q N ≡ false → (M : Line P ks) → encloses L M N ≡ encloses L M b.q
  leaves_same N b a M =
      by_test (eqb (kl M) (kl b.q))
      (λ e.
      let s : kl M ≡ kl b.q = eqb-true _ _ e in
      encloses_alike S M b.q N s ∙ a ∙ sym (not_self S M b.q s))
      (λ e.
      let s : kl M ≢ kl b.q = eqb-false _ _ e in
      between S M b.q N b.d b.ahead
      (λ c A.
      let x : key P W M.lvl c ≢ key P W b.q.lvl b.d = λ z. s (one_line S M b.q c b.d A.pass b.ahead.pass z) in
      omega (arith, b.next M c A))
      ∙ sides S M b.q s b.d b.ahead.pass)

  pub leaves_parent : (N : Line P ks) (b : Before L N) → encloses L b.q N ≡ false → (M : Line P ks) → Parent L M N → Parent L M b.q
  leaves_parent N b a M X =
      let Y = parent_latest M N X in
      latest_parent M b.q (record { outer = sym (leaves_same N b a M) ∙ Y.outer; last = λ R e. Y.last R (leaves_same N b a R ∙ e) })

  pub parent_leaves : (N : Line P ks) (b : Before L N) → encloses L b.q N ≡ false → (M : Line P ks) → Parent L M b.q → Parent L M N
  parent_leaves N b a M X =
      let Y = parent_latest M b.q X in
      latest_parent M N (record { outer = leaves_same N b a M ∙ Y.outer; last = λ R e. Y.last R (sym (leaves_same N b a R) ∙ e) })

  pub root_leaves : (N : Line P ks) (b : Before L N) → encloses L b.q N ≡ false → Root L b.q → Root L N
  root_leaves N b a X = record { none = λ R. leaves_same N b a R ∙ X.none R }

  pub none_root : (N : Line P ks) → ((M : Line P ks) (e : ℕ) → Ahead L M e N → ⊥) → Root L N
  none_root N q =
      record { none = λ M. by_test (encloses L M N) (λ e. let x = encloses_ahead S M N e in absurd (q M x.0 x.1)) (λ e. e) }

  -- ---- lines with one lead, as parent and as child
  pub parent_alike : (M R N : Line P ks) → lead_key L M ≡ lead_key L R → Parent L M N → Parent L R N
  parent_alike M R N e X =
      let s : near_to L M N ≡ near_to L R N = near_alike S M R N e in
      record { outer = sym (encloses_alike S M R N e) ∙ X.outer; best = λ Q a. omega (arith, X.best Q a) }

  pub child_encloses : (R M N : Line P ks) → lead_key L M ≡ lead_key L N → encloses L R M ≡ encloses L R N
  unfolding left_of
  child_encloses R M N e =
      let s = alike S M N e in
      let l = line P R.lvl R.lead in
      ap (λ (z : ℕ). odd_left P W R.lvl l z M.lead) s.0 ∙ ap (odd_left P W R.lvl l N.lvl) s.1

  pub child_alike : (R M N : Line P ks) → lead_key L M ≡ lead_key L N → Parent L R M → Parent L R N
  child_alike R M N e X =
      let Y = parent_latest R M X in
      latest_parent R N (record { outer = sym (child_encloses R M N e) ∙ Y.outer; last = λ Q a. Y.last Q (child_encloses Q M N e ∙ a) })

  pub root_alike : (M N : Line P ks) → lead_key L M ≡ lead_key L N → Root L M → Root L N
  root_alike M N e X = record { none = λ R. sym (child_encloses R M N e) ∙ X.none R }
