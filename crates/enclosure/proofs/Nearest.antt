-- The nearest crossing of a line left of another's lead. Assumes nothing.
-- Definitions: `near_to L M N` the nearest crossing of M left of N's lead, as `nearest` has it; `Ahead L M d N` M crosses d on the row of N's lead, left of it.
-- Main laws: `nearest_ge`, `nearest_at` what `nearest` finds in a list; `near_ge`, `near_at` in a line; `alike` lines with one lead are one in all that follows: `encloses_alike`, `near_alike`;
--   `encloses_ahead` a line around another is ahead somewhere; `between` a line without a crossing from d to the lead is left of both or of none.
use mathlib.Core.Path.{◌≡◌, refl, sym, ap, ◌∙◌}
use mathlib.Core.Bool.{Bool, true, ◌&&◌, cond}
use mathlib.Core.List.{List, [], ◌∷◌}
use mathlib.Core.Logic.{⊎_elim}
use Prim.Native.Nat.{ℕ, suc, ◌≤◌, ◌<◌, max}
use native.Mathlib.Nat.{le-max_left, le-max_right}
use native.Mathlib.Omega.{arith}
use lib.Dec.{eqb, ltb}
use borrow.Author.Tests.{ltb-true, lt-ltb, eqb-true, eq-eqb}
use Rattle.tally.specs.Tally.{count}
use Rattle.tally.proofs.Test.{by_test, and_1, and_2, both}
use Rattle.matte.specs.Layout.{Layout}
use Rattle.matte.specs.Picture.{Picture}
use Rattle.edgel.specs.Edgel.{horizontal, row}
use Rattle.outline.specs.Line.{line}
use Rattle.enclosure.specs.Position.{key, on_left, odd_left, nearest}
use Rattle.enclosure.proofs.Lists.{max_or}
use Rattle.enclosure.proofs.Order.{key_inj}
use Rattle.enclosure.proofs.Left.{onward_same}
use Rattle.enclosure.proofs.Lines.{Setting, Line, Pass, lead_key, left_of, encloses, small, counts, member}
use Rattle.enclosure.proofs.Sides.{left_some}

-- ---- in a list
module _ (P : Picture) (W j k c : ℕ) where
  abbrev at : ℕ → ℕ
  at d = cond (on_left P W j k c d) (suc (key P W j d)) 0

  pub nearest_ge : (l : List ℕ) (d : ℕ) → 0 < count d l → on_left P W j k c d ≡ true → suc (key P W j d) ≤ nearest P W j l k c
  unfolding nearest count
  nearest_ge [] d h e = absurd (omega arith)
  nearest_ge (b ∷ l) d h e =
      let y = nearest P W j l k c in
      let u : at b ≤ max (at b) y = le-max_left (at b) y in
      let v : y ≤ max (at b) y = le-max_right (at b) y in
      by_test (eqb d b)
      (λ t.
      let s : b ≡ d = sym (eqb-true d b t) in
      let z : at b ≡ suc (key P W j d) = ap at s ∙ ap (λ (x : Bool). cond x (suc (key P W j d)) 0) e in
      omega arith)
      (λ t. let i : suc (key P W j d) ≤ y = nearest_ge l d (omega (arith, rw t at h)) e in omega arith)

  pub nearest_at : (l : List ℕ) → 0 < nearest P W j l k c → (d : ℕ) × (0 < count d l) × (on_left P W j k c d ≡ true) × (suc (key P W j d) ≡ nearest P W j l k c)
  unfolding nearest count
  nearest_at [] h = absurd (omega arith)
  nearest_at (b ∷ l) h =
      let y = nearest P W j l k c in
      ⊎_elim
      (λ (t : max (at b) y ≡ at b). by_test (on_left P W j k c b)
      (λ e. (b, rw (eq-eqb b b refl) (omega arith), e, sym (t ∙ ap (λ (x : Bool). cond x (suc (key P W j b)) 0) e)))
      (λ e. let z : at b ≡ 0 = ap (λ (x : Bool). cond x (suc (key P W j b)) 0) e in absurd (omega arith)))
      (λ (t : max (at b) y ≡ y). let i = nearest_at l (omega arith) in (i.0, omega (arith, i.1), i.2, i.3 ∙ sym t))
      (max_or (at b) y)

-- ---- in a line
module _ (L : Layout) {P : Picture} {ks : List ℕ} where
  unfoldable pub near_to : Line P ks → Line P ks → ℕ
  near_to M N = nearest P L.levels M.lvl (line P M.lvl M.lead) N.lvl N.lead

  -- the crossing of M at d stands on the row of N's lead, left of it
  pub record Ahead (M : Line P ks) (d : ℕ) (N : Line P ks) : Type 0 where
    pub pass : Pass M d
    pub row : row P.w d ≡ row P.w N.lead
    pub less : key P L.levels M.lvl d < lead_key L N

module _ {L : Layout} {P : Picture} {ks : List ℕ} (S : Setting L P ks) where
  abbrev W : ℕ
  W = L.levels

  abbrev codes : Line P ks → List ℕ
  codes M = line P M.lvl M.lead

  -- lines with one lead
  pub alike : (M N : Line P ks) → lead_key L M ≡ lead_key L N → (M.lvl ≡ N.lvl) × (M.lead ≡ N.lead)
  alike M N e = let s = key_inj P W M.lvl N.lvl M.lead N.lead (small S M) (small S N) e in (s.1, s.0)

  pub encloses_alike : (M N R : Line P ks) → lead_key L M ≡ lead_key L N → encloses L M R ≡ encloses L N R
  unfolding left_of
  encloses_alike M N R e =
      let s = alike M N e in
      ap (λ (z : ℕ). odd_left P W z (line P z M.lead) R.lvl R.lead) s.0
      ∙ ap (λ (z : ℕ). odd_left P W N.lvl (line P N.lvl z) R.lvl R.lead) s.1

  pub near_alike : (M N R : Line P ks) → lead_key L M ≡ lead_key L N → near_to L M R ≡ near_to L N R
  unfolding near_to
  near_alike M N R e =
      let s = alike M N e in
      ap (λ (z : ℕ). nearest P W z (line P z M.lead) R.lvl R.lead) s.0
      ∙ ap (λ (z : ℕ). nearest P W N.lvl (line P N.lvl z) R.lvl R.lead) s.1

  pub near_ge : (M N : Line P ks) (d : ℕ) → Ahead L M d N → suc (key P L.levels M.lvl d) ≤ near_to L M N
  unfolding near_to on_left
  near_ge M N d A =
      let m : 0 < count d (codes M) = rw (counts S M d, A.pass.here) (omega arith) in
      nearest_ge P W M.lvl N.lvl N.lead (codes M) d m (both A.pass.flat (both (eq-eqb _ _ A.row) (lt-ltb _ _ A.less)))

  pub near_at : (M N : Line P ks) → 0 < near_to L M N → (d : ℕ) × Ahead L M d N × (suc (key P L.levels M.lvl d) ≡ near_to L M N)
  unfolding near_to on_left
  near_at M N p =
      let x = nearest_at P W M.lvl N.lvl N.lead (codes M) p in
      let d = x.0 in
      let b = eqb (row P.w d) (row P.w N.lead) in
      let r = and_2 (horizontal d) (b && ltb (key P W M.lvl d) (lead_key L N)) x.2 in (
        d,
        record {
          pass = record { flat = and_1 (horizontal d) _ x.2; here = member S M d x.1 };
          row = eqb-true (row P.w d) (row P.w N.lead) (and_1 b _ r);
          less = ltb-true _ _ (and_2 b (ltb (key P W M.lvl d) (lead_key L N)) r);
        },
        x.3,
      )

  pub encloses_ahead : (M N : Line P ks) → encloses L M N ≡ true → (d : ℕ) × Ahead L M d N
  encloses_ahead M N e =
      let x = left_some S M N.lvl N.lead e in (x.0, record { pass = x.1; row = x.2; less = x.3 })

  -- M has no crossing from d, on the line N, to R's lead: it is left of both or of none
  pub between : (M N R : Line P ks) (d : ℕ) → Ahead L N d R → ((e : ℕ) → Ahead L M e R → key P L.levels M.lvl e < key P L.levels N.lvl d)
      → encloses L M R ≡ left_of L M N.lvl d
  unfolding left_of
  between M N R d A q =
      onward_same P W M.lvl (codes M) N.lvl d R.lvl R.lead A.row A.less
      (λ e m f r t. q e (record { pass = record { flat = f; here = member S M e m }; row = r; less = t }))
