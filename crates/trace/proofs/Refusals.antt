-- What a list call that is not refused has. Assumes nothing.
-- Definitions: `needed` the words needed; `Sound` what a list call that is not refused has.
-- Main laws: `sound`, `accepted` a verdict of 0 says that; `none`, `empty_answer` a list of no words.
use mathlib.Core.Path.{◌≡◌, refl, sym, ap, ◌∙◌}
use mathlib.Core.Bool.{true}
use mathlib.Core.List.{List, [], ◌∷◌}
use Prim.Native.Nat.{ℕ, ◌≤◌}
use native.Mathlib.Omega.{arith}
use lib.ListN.{length}
use borrow.Author.Tests.{ltb-false}
use Rattle.tally.specs.Tally.{tally}
use Rattle.refuse.specs.declared.Answer.{Answer}
use Rattle.refuse.specs.Refusal.{Verdict}
use Rattle.matte.specs.Layout.{Layout}
use Rattle.matte.specs.Picture.{Picture, size, levels_fit}
use Rattle.refuse.specs.Refusal.{work_row, words_row}
use Rattle.refuse.specs.Shape.{Ground, ground_rows}
use Rattle.refuse.proofs.Rows.{clean, parted}
use Rattle.refuse.proofs.Sides.{grounded}
use Rattle.edgel.specs.Word.{flagged}
use Rattle.outline.specs.List.{listed, list_verdict}

-- a list of no words
pub none : (l : List ℕ) → length l ≡ 0 → l ≡ []
none [] e = refl
none (x ∷ l) e = absurd (omega arith)

pub empty_answer : (L : Layout) (l : List ℕ) → l ≡ [] → ◌≡◌ {A = Answer} (record { number = 0; place = 0; words = 0; lines = 0 }) (record { number = 0; place = 0; words = length l; lines = tally (flagged L) l })
unfolding tally
empty_answer L l e = rw e refl

module _ (L : Layout) (P : Picture) (ks work out : List ℕ) where
  abbrev pub needed : ℕ
  needed = length (listed L P ks)

  pub record Sound : Type 0 where
    pub ground : Ground P
    pub levels : levels_fit L ks ≡ true
    pub wide : size P ≤ length work
    pub room : needed ≤ length out

  pub sound : (list_verdict L P ks work out).number ≡ 0 → Sound
  sound e =
      let a = parted (ground_rows L P ks) (work_row P work ∷ words_row out needed ∷ []) refl e in
      let g = grounded L P ks a.0 in
      let d = clean (work_row P work) (words_row out needed ∷ []) (λ z. omega arith) a.1 in
      let f = clean (words_row out needed) [] (λ z. omega arith) d.1 in
      record {
        ground = g.0;
        levels = g.1;
        wide = ltb-false (length work) (size P) d.0;
        room = ltb-false (length out) needed f.0;
      }

  -- the same of the verdict that was found
  pub accepted : (v : Verdict) → v ≡ list_verdict L P ks work out → v.number ≡ 0 → Sound
  accepted v e z = sound (ap (λ (y : Verdict). y.number) (sym e) ∙ z)
