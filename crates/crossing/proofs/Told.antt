-- The crossing call's refusals and its answer, from plain facts. Assumes nothing.
-- Definitions: `Fine` what a call that is not refused may rely on.
-- Main laws: `fine` what verdict 0 says; `last_row` the verdict where none of 1 2 3 8 is given; `crossed_is`, `passage_is` what the code reads is what the definitions say; `refused_is`, `done_is` the answer.
use mathlib.Core.Path.{◌≡◌, refl, sym, ap, ◌∙◌}
use mathlib.Core.Bool.{Bool, true, false, not, cond}
use mathlib.Core.List.{List, [], ◌∷◌}
use Prim.Native.Nat.{ℕ, ◌+◌, ◌*◌}
use native.Mathlib.Omega.{arith}
use lib.Dec.{eqb, ltb}
use lib.Ieee.{Float}
use lib.ListN.{length}
use borrow.Author.Tests.{eq-eqb, ne_eqb}
use Rattle.tally.specs.Tally.{apart, differ}
use Rattle.refuse.specs.declared.Answer.{Answer}
use Rattle.refuse.specs.Refusal.{Verdict}
use Rattle.matte.specs.Layout.{eight}
use Rattle.matte.specs.Picture.{Picture, at, high}
use Rattle.refuse.specs.Refusal.{Row, row, verdict, answer}
use Rattle.refuse.proofs.Rows.{clean_fit, gone_on, parted}
use Rattle.ratio.specs.declared.Fraction.{Fraction}
use Rattle.ratio.specs.Lowest.{lowest}
use Rattle.edgel.specs.declared.Heading.{Heading}
use Rattle.edgel.specs.Heading.{number}
use Rattle.edgel.specs.Edgel.{horizontal, first, second, column, edgel, crossed, heading_of, heading_at}
use Rattle.edgel.specs.Edgel as Edgel
use Rattle.words.specs.Fit.{code_row}
use Rattle.refuse.specs.Shape.{Sides, level_rows}
use Rattle.refuse.proofs.Sides.{levelled}
use Rattle.crossing.specs.declared.Crossing.{Crossing}
use Rattle.crossing.specs.declared.Passage.{Passage}
use Rattle.crossing.specs.Crossing.{whole, along, gap, span, num, den, passage, point_x, point_y, crossing_verdict, crossing_answer}

pub record Fine (P : Picture) (k c : ℕ) : Type 0 where
  pub sides : Sides P.w P.h
  pub samples : length P.px ≡ P.w * P.h
  pub code : edgel P.w P.h c ≡ true
  pub cut : crossed (high P k) P.w c ≡ true

module _ (P : Picture) (k c : ℕ) where
  abbrev rest : List Row
  rest = code_row P.w P.h c ∷ row 10 (not (crossed (high P k) P.w c)) ∷ []

  pub fine : (v : Verdict) → v ≡ crossing_verdict eight P k c → v.number ≡ 0 → Fine P k c
  fine v q zero =
      let a = parted (level_rows eight P (k ∷ [])) rest refl (ap (λ (u : Verdict). u.number) (sym q) ∙ zero) in
      let l = (levelled eight P (k ∷ []) a.0).0 in
      let e = clean_fit 8 (edgel P.w P.h c) (row 10 (not (crossed (high P k) P.w c)) ∷ []) (λ z. omega arith) a.1 in
      record { sides = l.sides; samples = l.whole; code = e.0; cut = (clean_fit 10 (crossed (high P k) P.w c) [] (λ z. omega arith) e.1).0 }

  -- ---- what the code reads is what the definitions say
  module _ (j : ℕ) (s : j ≡ second P.w c) where
    pub crossed_is : differ (high P k (first c)) (high P k j) ≡ crossed (high P k) P.w c
    unfolding crossed
    crossed_is = ap (λ (i : ℕ). differ (high P k (first c)) (high P k i)) s

  pub last_row : (w h : ℕ) → w ≡ P.w → h ≡ P.h
      → (f : Bool) → f ≡ edgel w h c
      → (j : ℕ) → j ≡ second w c
      → (m : Bool) → m ≡ differ (high P k (first c)) (high P k j)
      → (z : Verdict) → z.number ≡ 0 → z ≡ verdict (level_rows eight P (k ∷ [])) → z ≡ verdict (row 8 (not f) ∷ [])
      → (u : Verdict) → u ≡ verdict (row 10 (not m) ∷ []) → u ≡ crossing_verdict eight P k c
  last_row w h x y f e j s m d z n l r u t =
      let last = row 10 (not (crossed (high P k) P.w c)) ∷ [] in
      let fits = e ∙ ap (λ (o : ℕ). edgel o h c) x ∙ ap (λ (o : ℕ). edgel P.w o c) y in
      let cut = d ∙ crossed_is j (s ∙ ap (λ (o : ℕ). second o c) x) in
      gone_on (level_rows eight P (k ∷ [])) (code_row P.w P.h c ∷ last) z u refl l n
      (gone_on (code_row P.w P.h c ∷ []) last z u refl (rw fits at r) n (rw cut at t))

  pub passage_is : (a j b m n : ℕ) (f : Fraction) (g : Heading) → a ≡ at P (first c) → j ≡ second P.w c → b ≡ at P j → m ≡ apart (2 * k + 1) (2 * a) → n ≡ 2 * apart a b → f ≡ lowest m n
      → g ≡ heading_of (horizontal c) (ltb k a) → ◌≡◌ {A = Passage} (record { heading = g; num = f.num; den = f.den }) (passage P k c)
  unfolding gap span num den heading_at
  passage_is a j b m n f g ea ej eb em en ef eg = rw (eg, ef, em, en, eb, ej, ea)

  other_way : (b : Bool) (f g : Float) → cond (not b) f g ≡ cond b g f
  other_way true f g = refl
  other_way false f g = refl

  -- ---- the answer
  abbrev made : Bool → Verdict → Crossing
  made b v =
      record {
        answer = answer v 0 0;
        heading = cond b (number (heading_at (high P k) c)) 0;
        num = cond b (num P k c) 0;
        den = cond b (den P k c) 0;
        x = cond b (point_x P k c) (whole 0);
        y = cond b (point_y P k c) (whole 0);
      }

  module _ (v : Verdict) (e : v ≡ crossing_verdict eight P k c) (r : Answer) (w : r ≡ answer v 0 0) where
    pub refused_is : (v.number ≡ 0 → ⊥) → (f g : Float) → f ≡ whole 0 → g ≡ whole 0
        → ◌≡◌ {A = Crossing} (record { answer = r; heading = 0; num = 0; den = 0; x = f; y = g }) (crossing_answer eight P k c)
    refused_is z f g p q =
        rw (p, q, w) (ap (λ (b : Bool). made b v) (sym (ne_eqb v.number 0 z)) ∙ ap (λ (u : Verdict). made (eqb u.number 0) u) e)

    pub done_is : v.number ≡ 0 → (t : Passage) (o : ℕ) (f g : Float) → t ≡ passage P k c → o ≡ number t.heading
        → f ≡ cond (horizontal c) (along (column P.w c) t.num t.den) (whole (column P.w c))
        → g ≡ cond (not (horizontal c)) (along (Edgel.row P.w c) t.num t.den) (whole (Edgel.row P.w c))
        → ◌≡◌ {A = Crossing} (record { answer = r; heading = o; num = t.num; den = t.den; x = f; y = g }) (crossing_answer eight P k c)
    done_is z t o f g a b p q =
        rw (b, p, q, other_way (horizontal c), a, w) (ap (λ (t : Bool). made t v) (sym (eq-eqb v.number 0 z)) ∙ ap (λ (u : Verdict). made (eqb u.number 0) u) e)
