-- The left neighbour of a lead is found, or there is none: every listed horizontal crossing by its key. Assumes nothing.
-- Definitions: `listed_level ks k` the level is listed; `key_level P W n` the level of the crossing with key n; `crossing L P ks y n` n is the key of a listed crossing on row y; `Found L P ks y n` the line of it.
-- Main laws: `crossing_key`, `crossing_found` keys of crossings and crossings of keys; `before` the left neighbour, or none.
use mathlib.Core.Path.{◌≡◌, sym, ap, ◌∙◌}
use mathlib.Core.Bool.{Bool, true, ◌&&◌}
use mathlib.Core.List.{List}
use mathlib.Core.Logic.{◌⊎◌, ⊎_elim, inl, inr}
use Prim.Native.Nat.{ℕ, ◌+◌, ◌*◌, ◌/◌, ◌%◌, ◌<◌}
use native.Mathlib.Nat.{mod-lt, div-add-mod'}
use native.Mathlib.Omega.{arith}
use lib.Dec.{eqb, ltb}
use lib.Arith.{digits_mod, digits_div}
use borrow.Author.Tests.{ltb-true, ltb-false, lt-ltb, eqb-true, eq-eqb}
use Rattle.tally.specs.Tally.{count}
use Rattle.tally.proofs.Test.{by_test, no, and_1, and_2, both}
use Rattle.matte.specs.Layout.{Layout}
use Rattle.matte.specs.Picture.{Picture}
use Rattle.edgel.specs.Edgel.{horizontal, row}
use Rattle.outline.specs.Line.{cut_at}
use Rattle.enclosure.specs.Position.{place, rises, key}
use Rattle.enclosure.proofs.Lists.{Last, last_or}
use Rattle.enclosure.proofs.Order.{place_lt, place_back}
use Rattle.enclosure.proofs.Lines.{Setting, Line, Pass, lead_key, small, pass_cut, through, through_level, through_pass}
use Rattle.enclosure.proofs.Nearest.{Ahead}
use Rattle.enclosure.proofs.Nest.{Before}

abbrev pub listed_level : List ℕ → ℕ → Bool
listed_level ks k = ltb 0 (count k ks)

abbrev pub key_level : Picture → ℕ → ℕ → ℕ
key_level P W n = place (rises P W (n / W)) W (n % W)

-- a key taken apart
pub key_code : (P : Picture) (W k c : ℕ) → k < W → key P W k c / W ≡ c
unfolding key
key_code P W k c l = digits_div c (place_lt (rises P W c) W k l)

pub key_level_lem : (P : Picture) (W k c : ℕ) → k < W → key_level P W (key P W k c) ≡ k
unfolding key
key_level_lem P W k c l =
    let r = place (rises P W c) W k in
    let a : r < W = place_lt (rises P W c) W k l in
    ap (λ (z : ℕ). place (rises P W z) W ((c * W + r) % W)) (digits_div c a) ∙ ap (place (rises P W c) W) (digits_mod c a) ∙ place_back (rises P W c) W k l

module _ (L : Layout) (P : Picture) (ks : List ℕ) where
  unfoldable pub crossing : ℕ → ℕ → Bool
  crossing y n =
      horizontal (n / L.levels)
      && (eqb (row P.w (n / L.levels)) y && (listed_level ks (key_level P L.levels n) && cut_at P (key_level P L.levels n) (n / L.levels)))

pub record Found (L : Layout) (P : Picture) (ks : List ℕ) (y n : ℕ) : Type 0 where
  pub who : Line P ks
  pub code : ℕ
  pub pass : Pass who code
  pub row : row P.w code ≡ y
  pub same : key P L.levels who.lvl code ≡ n

module _ {L : Layout} {P : Picture} {ks : List ℕ} (S : Setting L P ks) where
  abbrev W : ℕ
  W = L.levels

  pub crossing_key : (M : Line P ks) (c : ℕ) → Pass M c → crossing L P ks (row P.w c) (key P L.levels M.lvl c) ≡ true
  unfolding crossing
  crossing_key M c A =
      let n = key P W M.lvl c in
      let d : n / W ≡ c = key_code P W M.lvl c (small S M) in
      let s : key_level P W n ≡ M.lvl = key_level_lem P W M.lvl c (small S M) in
      both (ap horizontal d ∙ A.flat)
      (both (eq-eqb _ _ (ap (row P.w) d))
      (both (ap (listed_level ks) s ∙ lt-ltb 0 (count M.lvl ks) M.listed)
      (ap (λ (z : ℕ). cut_at P z (n / W)) s ∙ ap (cut_at P M.lvl) d ∙ pass_cut S M c A)))

  pub crossing_found : 0 < L.levels → (y n : ℕ) → crossing L P ks y n ≡ true → Found L P ks y n
  unfolding crossing key
  crossing_found p y n e =
      let c = n / W in
      let k = key_level P W n in
      let f = and_1 (horizontal c) _ e in
      let e' = and_2 (horizontal c) (eqb (row P.w c) y && (listed_level ks k && cut_at P k c)) e in
      let r = and_1 (eqb (row P.w c) y) _ e' in
      let e'' = and_2 (eqb (row P.w c) y) (listed_level ks k && cut_at P k c) e' in
      let g : 0 < count k ks = ltb-true 0 (count k ks) (and_1 (listed_level ks k) _ e'') in
      let o : cut_at P k c ≡ true = and_2 (listed_level ks k) _ e'' in
      let m : n % W < W = mod-lt n p in
      record {
        who = through S k c g o;
        code = c;
        pass = through_pass S k c g o f;
        row = eqb-true (row P.w c) y r;
        same =
            ap (λ (z : ℕ). key P W z c) (through_level S k c g o)
            ∙ ap (λ (z : ℕ). c * W + z) (place_back (rises P W c) W (n % W) m)
            ∙ div-add-mod' n W;
      }

  pub before : (N : Line P ks) → Before L N ⊎ ((M : Line P ks) (e : ℕ) → Ahead L M e N → ⊥)
  before N =
      let y = row P.w N.lead in
      ⊎_elim
      (λ (l : Last (crossing L P ks y) (lead_key L N)).
      let F = crossing_found (omega (arith, small S N)) y l.it l.holds in
      inl (record {
        q = F.who;
        d = F.code;
        ahead = record { pass = F.pass; row = F.row; less = omega (arith, F.same, l.within) };
        next = λ M e A.
            by_test (ltb l.it (key P W M.lvl e))
            (λ t. no (ap (λ (z : ℕ). crossing L P ks z (key P W M.lvl e)) (sym A.row) ∙ crossing_key M e A.pass) (l.above (key P W M.lvl e) (ltb-true _ _ t) A.less))
            (λ t. omega (arith, ltb-false l.it (key P W M.lvl e) t, F.same));
      }))
      (λ q. inr (λ M e A.
      no (ap (λ (z : ℕ). crossing L P ks z (key P W M.lvl e)) (sym A.row) ∙ crossing_key M e A.pass) (q (key P W M.lvl e) A.less)))
      (last_or (crossing L P ks y) (lead_key L N))
