-- The customer's second demand, of the list: all lines, in the stated order, each from its lead. Assumes nothing.
-- Main laws: `all_lines_lem` every crossing that leads has its line in the list; `levels_in_order` the list is the levels' words one after the other; `leads_in_order` leads ascend; `lead_is_flat`, `lead_is_least` a line
--   begins with the least of its horizontal crossings; `step_by_step`, `comes_back` each crossing is the next of the one before, and after the last comes the lead, so the definition's fuel never runs out;
--   `flag_first_only` the first word of a line is flagged and no other; `flags_counted` as many flags as lines.
use mathlib.Core.Path.{◌≡◌, sym, ap, ◌∙◌}
use mathlib.Core.Bool.{Bool, true, false}
use mathlib.Core.List.{List, [], ◌∷◌, ◌++◌}
use Prim.Native.Nat.{ℕ, suc, ◌-◌, ◌*◌, ◌≤◌, ◌<◌}
use native.Mathlib.Omega.{arith}
use lib.Dec.{eqb}
use lib.ListN.{length, get_or}
use Rattle.tally.specs.Tally.{count, tally, total}
use Rattle.matte.specs.Layout.{eight}
use Rattle.matte.specs.Picture.{Picture}
use Rattle.edgel.specs.Edgel.{horizontal}
use Rattle.edgel.specs.Word.{flagged}
use Rattle.cell.specs.Turn.{next}
use Rattle.outline.specs.Line.{line, is_lead, lines}
use Rattle.outline.specs.List.{encode, level_words, listed}
use Rattle.outline.proofs.Lines.{line_at_lem, line_of, leads_ascend, first_flat, first_least, line_step, line_closes, line_crossed}
use Rattle.outline.proofs.Paper.{closed_at}
use Rattle.outline.proofs.Levels.{level_below}
use Rattle.outline.proofs.Words.{Narrow, flag_first}
use Rattle.outline.proofs.Listed.{listed_more, listed_flags}
use Rattle.promises.proofs.DemandThree.{Scan, B, fits}

pub levels_in_order : (P : Picture) (ks : List ℕ) (k : ℕ) → listed eight P (ks ++ (k ∷ [])) ≡ listed eight P ks ++ level_words eight k (lines P k)
levels_in_order P ks k = listed_more eight P ks k

module _ (P : Picture) (ks : List ℕ) (S : Scan P ks) (k : ℕ) where
  pub all_lines_lem : (c : ℕ) → is_lead P k c ≡ true → (n : ℕ) × (n < length (lines P k)) × (get_or (lines P k) n [] ≡ line P k c)
  all_lines_lem c e = line_of P (B P ks S) k c e

  pub leads_in_order : (n : ℕ) → suc n < length (lines P k) → get_or (get_or (lines P k) n []) 0 0 < get_or (get_or (lines P k) (suc n) []) 0 0
  leads_in_order n m = leads_ascend P (B P ks S) k n m

  module _ (n : ℕ) (m : n < length (lines P k)) where
    abbrev pub l : List ℕ
    l = get_or (lines P k) n []

    pub lead_is_flat : horizontal (get_or l 0 0) ≡ true
    lead_is_flat = first_flat P (B P ks S) k l (line_at_lem P k n m)

    pub lead_is_least : (d : ℕ) → horizontal d ≡ true → 0 < count d l → get_or l 0 0 ≤ d
    lead_is_least d h e = first_least P (B P ks S) k l (line_at_lem P k n m) d h e

    pub step_by_step : (i : ℕ) → suc i < length l → get_or l (suc i) 0 ≡ next P k (get_or l i 0)
    step_by_step i h = line_step P (B P ks S) k l (line_at_lem P k n m) i h

    pub comes_back : next P k (get_or l (length l - 1) 0) ≡ get_or l 0 0
    comes_back = line_closes P (B P ks S) k l (line_at_lem P k n m)

    -- the words of the line, for a listed level
    pub flag_first_only : 0 < count k ks → (i : ℕ) → i < length l → flagged eight (get_or (encode eight k true l) i 0) ≡ eqb i 0
    flag_first_only h i t =
        flag_first eight k l
        (record {
          level = omega (arith, level_below eight ks S.levels k h);
          codes = λ c e. omega (arith, (fits P ks S).room, (closed_at P (B P ks S) k).bound c (line_crossed P (B P ks S) k l (line_at_lem P k n m) c e));
        })
        i t

pub flags_counted : (P : Picture) (ks : List ℕ) (S : Scan P ks) → tally (flagged eight) (listed eight P ks) ≡ total (λ k. length (lines P k)) ks
flags_counted P ks S = listed_flags eight P (fits P ks S) (B P ks S) ks S.levels
