-- The answer of membership from its verdict. Assumes nothing.
-- Main laws: `member_refused`, `member_done` the answer where the call is refused, and where it is not.
use mathlib.Core.Path.{◌≡◌, sym, ap, ◌∙◌}
use mathlib.Core.Bool.{Bool, false, not, ◌&&◌}
use mathlib.Core.List.{List, [], ◌∷◌}
use Prim.Native.Nat.{ℕ}
use lib.Dec.{ltb}
use lib.ListN.{length}
use Rattle.refuse.specs.declared.Answer.{Answer}
use Rattle.refuse.specs.Refusal.{Verdict}
use Rattle.matte.specs.Layout.{eight}
use Rattle.refuse.specs.Refusal.{row, verdict, answer, afterwards, sides_row}
use Rattle.refuse.proofs.Rows.{done_answer, refused_answer, done_after, refused_after}
use Rattle.words.specs.Fit.{codes_row}
use Rattle.paint.specs.declared.Membership.{Membership}
use Rattle.paint.specs.Part.{part}
use Rattle.paint.specs.Member.{inside, member_verdict, member_answer}

abbrev made : Answer → Bool → Membership
made a b = record { answer = a; inside = b }

module _ (w h n x y : ℕ) (ws p : List ℕ) (e : p ≡ part eight n ws) (v : Verdict)
    (q : v ≡ verdict (sides_row w h ∷ codes_row eight w h ws ∷ row 11 (not (ltb 0 (length p) && (ltb x w && ltb y h))) ∷ [])) where
  abbrev I : Bool
  I = inside eight w (part eight n ws) x y

  told : v ≡ member_verdict eight w h ws n x y
  told = q ∙ ap (λ (l : List ℕ). verdict (sides_row w h ∷ codes_row eight w h ws ∷ row 11 (not (ltb 0 (length l) && (ltb x w && ltb y h))) ∷ [])) e

  by_verdict : made (answer v 0 0) (afterwards v false I) ≡ member_answer eight w h ws n x y
  by_verdict = ap (λ (z : Verdict). made (answer z 0 0) (afterwards z false I)) told

  pub member_refused : (v.number ≡ 0 → ⊥) → record { answer = record { number = v.number; place = v.place; words = 0; lines = 0 }; inside = false } ≡ member_answer eight w h ws n x y
  member_refused t =
      ap (λ (a : Answer). made a false) (sym (refused_answer v 0 0 t))
      ∙ ap (λ (b : Bool). made (answer v 0 0) b) (sym (refused_after v false I t))
      ∙ by_verdict

  pub member_done : (b : Bool) → v.number ≡ 0 → b ≡ inside eight w p x y → record { answer = record { number = 0; place = 0; words = 0; lines = 0 }; inside = b } ≡ member_answer eight w h ws n x y
  member_done b t s =
      ap (λ (a : Answer). made a b) (sym (done_answer v 0 0 t))
      ∙ ap (λ (c : Bool). made (answer v 0 0) c) (s ∙ ap (λ (l : List ℕ). inside eight w l x y) e ∙ sym (done_after v false I t))
      ∙ by_verdict
