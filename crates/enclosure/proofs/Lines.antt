-- Listed lines as level and lead, with what is known of one line's crossings. Assumes nothing.
-- Definitions: `Setting L P ks` a picture with a constant border that the layout has room for, and levels that fit; `Line P ks` a listed line by its level and its lead; `marks M` the codes on it;
--   `Pass M c` it crosses the horizontal edgel c; `lead_key L M` its lead's position; `left_of L M k c` it has an odd number of horizontal crossings on the row of c, strictly left of the
--   crossing of level k there; `encloses L M N` the same at N's lead.
-- Main laws: `small` a line's level is below all levels of the layout; `lead_cut`, `lead_pass`, `pass_cut`; `lead_first`, `key_first` its lead comes before its other crossings; `counts`, `member` it
--   has each crossing once; `kept` following keeps it; `through` the line through a crossing.
use mathlib.Core.Path.{◌≡◌, refl, ap, ◌∙◌}
use mathlib.Core.Bool.{Bool, true}
use mathlib.Core.List.{List}
use Prim.Native.Nat.{ℕ, ◌*◌, ◌≤◌, ◌<◌}
use native.Mathlib.Omega.{arith}
use lib.Dec.{eqb}
use borrow.Author.Tests.{ltb-true, lt-ltb, eqb-true, eqb-false}
use Rattle.tally.specs.Tally.{one, count}
use Rattle.tally.proofs.Test.{by_test}
use Rattle.orbit.proofs.On.{on, on_self, on_sym}
use Rattle.orbit.proofs.Orbit.{Closed}
use Rattle.orbit.proofs.Partition.{Headed, lead, lead_ok, lead_on, lead_leads}
use Rattle.matte.specs.Layout.{Layout}
use Rattle.matte.specs.Picture.{Picture, size, high, levels_fit}
use Rattle.edgel.specs.Edgel.{horizontal}
use Rattle.cell.specs.Turn.{next}
use Rattle.outline.specs.Line.{cut_at, line, is_lead}
use Rattle.outline.proofs.Border.{Border}
use Rattle.outline.proofs.Paper.{bit, closed_at, headed_at}
use Rattle.outline.proofs.Follow.{Kept}
use Rattle.outline.proofs.Whole.{on_line, line_count_lem, line_kept}
use Rattle.outline.proofs.Places.{line_cut}
use Rattle.outline.proofs.Places as Places
use Rattle.outline.proofs.Lines.{lead_flat, lead_least}
use Rattle.outline.proofs.Levels.{level_below}
use Rattle.outline.proofs.Listed.{Fits}
use Rattle.enclosure.specs.Position.{key, odd_left}
use Rattle.enclosure.proofs.Order.{key_lt}

pub record Setting (L : Layout) (P : Picture) (ks : List ℕ) : Type 0 where
  pub fits : Fits L P
  pub border : Border P
  pub levels : levels_fit L ks ≡ true

pub record Line (P : Picture) (ks : List ℕ) : Type 0 where
  pub lvl : ℕ
  pub lead : ℕ
  pub listed : 0 < count lvl ks
  pub leads : is_lead P lvl lead ≡ true

module _ {P : Picture} {ks : List ℕ} where
  abbrev pub marks : Line P ks → ℕ → Bool
  marks M = on_line P M.lvl M.lead

  pub record Pass (M : Line P ks) (c : ℕ) : Type 0 where
    pub flat : horizontal c ≡ true
    pub here : marks M c ≡ true

  module _ (L : Layout) where
    abbrev pub lead_key : Line P ks → ℕ
    lead_key M = key P L.levels M.lvl M.lead

    unfoldable pub left_of : Line P ks → ℕ → ℕ → Bool
    left_of M k c = odd_left P L.levels M.lvl (line P M.lvl M.lead) k c

    abbrev pub encloses : Line P ks → Line P ks → Bool
    encloses M N = left_of M N.lvl N.lead

module _ {L : Layout} {P : Picture} {ks : List ℕ} (S : Setting L P ks) where
  abbrev B : Border P
  B = S.border

  K : (k : ℕ) → Closed (next P k) (cut_at P k) (2 * size P)
  K k = closed_at P B k

  X : (k : ℕ) → Headed (next P k) (cut_at P k) horizontal (2 * size P)
  X k = headed_at P B k

  pub small : (M : Line P ks) → M.lvl < L.levels
  small M = omega (arith, level_below L ks S.levels M.lvl M.listed, S.fits.tops)

  pub lead_cut : (M : Line P ks) → cut_at P M.lvl M.lead ≡ true
  lead_cut M = Places.lead_cut P B M.lvl M.lead M.leads

  pub lead_pass : (M : Line P ks) → Pass M M.lead
  unfolding line on
  lead_pass M = record { flat = lead_flat P B M.lvl M.lead M.leads; here = on_self (K M.lvl) M.lead (lead_cut M) }

  pub pass_cut : (M : Line P ks) (c : ℕ) → Pass M c → cut_at P M.lvl c ≡ true
  pass_cut M c A = line_cut P B M.lvl M.lead c (lead_cut M) (ltb-true _ _ A.here)

  pub lead_first : (M : Line P ks) (c : ℕ) → Pass M c → M.lead ≤ c
  lead_first M c A = lead_least P B M.lvl M.lead M.leads c A.flat (ltb-true _ _ A.here)

  pub key_first : (M : Line P ks) (c : ℕ) → Pass M c → lead_key L M ≤ key P L.levels M.lvl c
  key_first M c A =
      by_test (eqb M.lead c)
      (λ e. let s : lead_key L M ≡ key P L.levels M.lvl c = ap (key P L.levels M.lvl) (eqb-true _ _ e) in omega arith)
      (λ e. omega (arith, key_lt P L.levels M.lvl M.lvl M.lead c (small M) (omega (arith, lead_first M c A, eqb-false M.lead c e))))

  pub counts : (M : Line P ks) (d : ℕ) → count d (line P M.lvl M.lead) ≡ one (marks M d)
  counts M d = line_count_lem P B M.lvl M.lead (lead_cut M) d

  pub member : (M : Line P ks) (d : ℕ) → 0 < count d (line P M.lvl M.lead) → marks M d ≡ true
  member M d m = lt-ltb _ _ m

  pub kept : (M : Line P ks) → Kept (high P M.lvl) (bit P M.lvl) P.w P.h (marks M)
  kept M = line_kept P B M.lvl M.lead (lead_cut M)

  -- the line through a crossing of a listed level
  pub through : (k c : ℕ) → 0 < count k ks → cut_at P k c ≡ true → Line P ks
  unfolding is_lead
  through k c g o = record { lvl = k; lead = lead (K k) horizontal (X k) c o; listed = g; leads = lead_leads (K k) horizontal (X k) c o }

  pub through_level : (k c : ℕ) (g : 0 < count k ks) (o : cut_at P k c ≡ true) → (through k c g o).lvl ≡ k
  unfolding through
  through_level k c g o = refl

  pub through_pass : (k c : ℕ) (g : 0 < count k ks) (o : cut_at P k c ≡ true) → horizontal c ≡ true → Pass (through k c g o) c
  unfolding through line on
  through_pass k c g o f =
      record {
        flat = f;
        here = on_sym (K k) (lead (K k) horizontal (X k) c o) c (lead_ok (K k) horizontal (X k) c o) o ∙ lead_on (K k) horizontal (X k) c o;
      }
