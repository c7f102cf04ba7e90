-- Going through the rows of a call's refusals. Assumes nothing.
-- Main laws: `given` a row that is given decides the verdict; `passed` one that is not is passed over; `unfit`, `fit` the same for a row that asks for a test to hold; `silent` no refusal is the verdict 0, `refuses` a refusal is not, `handed_on` the verdict of one that `?` hands on; `clean`, `clean_fit` where the verdict is 0 no row is given;
--   `numbered` no row bears the number 0; `stopped`, `gone_on` the verdict of rows put behind others, `parted` what a verdict of 0 says of both; `done_answer`, `refused_answer`, `done_after`, `refused_after` what a verdict makes of the answer and of lent memory.
use mathlib.Core.Path.{◌≡◌, refl, sym, ap, ◌∙◌}
use mathlib.Core.Bool.{Bool, true, false, not, ◌&&◌, cond}
use mathlib.Core.List.{List, [], ◌∷◌, ◌++◌}
use Prim.Native.Nat.{ℕ}
use lib.Dec.{eqb}
use native.Mathlib.Omega.{arith}
use borrow.Author.Tests.{eq-eqb, ne_eqb, eqb-false, not-true, not-false}
use Rattle.tally.proofs.Test.{by_test, and_1, and_2}
use Rattle.refuse.specs.declared.Answer.{Answer}
use Rattle.refuse.specs.declared.reason.Reason.{Reason}
use Rattle.refuse.specs.declared.reason.Reason.TheVariants.{Sides, Samples, Levels, TopBorder, WorkBytes, WordPlaces, TreePlaces, UnfitWord, Room, NotCrossed, NotThere, FileLength, BlockCheck, FileLayout, FileRoom, ManyWords, BottomBorder, LeftBorder, RightBorder, PgmHeader, AboveMaximum, NoSample}
use Rattle.refuse.specs.declared.reason.Refusal.{Refusal}
use Rattle.std.specs.Prelude.{Result, Ok, Err, IsErrAnd}
use Rattle.refuse.specs.Told.{number_of, verdict_of}
use Rattle.refuse.specs.Refusal.{Verdict}
use Rattle.refuse.specs.Refusal.{Row, row, verdict, answer, afterwards}

pub given : (r : Row) (rs : List Row) → r.given ≡ true → verdict (r ∷ rs) ≡ record { number = r.number; place = r.place }
given r rs e = ap (λ (b : Bool). cond b (record { number = r.number; place = r.place }) (verdict rs)) e

pub passed : (r : Row) (rs : List Row) → r.given ≡ false → verdict (r ∷ rs) ≡ verdict rs
passed r rs e = ap (λ (b : Bool). cond b (record { number = r.number; place = r.place }) (verdict rs)) e

pub unfit : (n : ℕ) (b : Bool) (rs : List Row) → b ≡ false → verdict (row n (not b) ∷ rs) ≡ record { number = n; place = 0 }
unfit n b rs e = given (row n (not b)) rs (ap not e)

pub fit : (n : ℕ) (b : Bool) (rs : List Row) → b ≡ true → verdict (row n (not b) ∷ rs) ≡ verdict rs
fit n b rs e = passed (row n (not b)) rs (ap not e)

-- what a Result without a refusal says of its rows
pub silent : {v : Verdict} → record { number = 0; place = 0 } ≡ v → v.number ≡ 0
silent e = ap (λ (u : Verdict). u.number) (sym e)

-- and one with a refusal
not_nought : (r : Reason) → number_of r ≡ 0 → ⊥
not_nought Sides e = absurd (omega arith)
not_nought Samples e = absurd (omega arith)
not_nought Levels e = absurd (omega arith)
not_nought TopBorder e = absurd (omega arith)
not_nought WorkBytes e = absurd (omega arith)
not_nought WordPlaces e = absurd (omega arith)
not_nought TreePlaces e = absurd (omega arith)
not_nought UnfitWord e = absurd (omega arith)
not_nought Room e = absurd (omega arith)
not_nought NotCrossed e = absurd (omega arith)
not_nought NotThere e = absurd (omega arith)
not_nought FileLength e = absurd (omega arith)
not_nought BlockCheck e = absurd (omega arith)
not_nought FileLayout e = absurd (omega arith)
not_nought FileRoom e = absurd (omega arith)
not_nought ManyWords e = absurd (omega arith)
not_nought BottomBorder e = absurd (omega arith)
not_nought LeftBorder e = absurd (omega arith)
not_nought RightBorder e = absurd (omega arith)
not_nought PgmHeader e = absurd (omega arith)
not_nought AboveMaximum e = absurd (omega arith)
not_nought NoSample e = absurd (omega arith)

pub refuses : (r : Refusal) → number_of r.reason ≡ 0 → ⊥
refuses r e = not_nought r.reason e

-- what `?` hands on
pub handed_on : {A : Type 0} (r : Result A Refusal) (e : Refusal) → IsErrAnd r (λ x. x ≡ e) → verdict_of r ≡ record { number = number_of e.reason; place = e.place }
handed_on (Ok x) e n = absurd n
handed_on (Err x) e n = ap (λ (y : Refusal). record { number = number_of y.reason; place = y.place }) n

-- no row of a call that is done is given
pub clean : (r : Row) (rs : List Row) → (r.number ≡ 0 → ⊥) → (verdict (r ∷ rs)).number ≡ 0 → (r.given ≡ false) × ((verdict rs).number ≡ 0)
clean r rs n e = go r.given e
  where
    go : (b : Bool) → (cond b (record { number = r.number; place = r.place }) (verdict rs)).number ≡ 0 → (b ≡ false) × ((verdict rs).number ≡ 0)
    go true t = absurd (n t)
    go false t = (refl, t)

pub clean_fit : (n : ℕ) (b : Bool) (rs : List Row) → (n ≡ 0 → ⊥) → (verdict (row n (not b) ∷ rs)).number ≡ 0 → (b ≡ true) × ((verdict rs).number ≡ 0)
clean_fit n b rs z e = let r = clean (row n (not b)) rs z e in (not-false b r.0, r.1)

-- ---- rows put behind others
abbrev pub numbered : List Row → Bool
numbered [] = true
numbered (r ∷ rs) = not (eqb r.number 0) && numbered rs

not_0 : (r : Row) (rs : List Row) → numbered (r ∷ rs) ≡ true → r.number ≡ 0 → ⊥
not_0 r rs e = eqb-false r.number 0 (not-true _ (and_1 (not (eqb r.number 0)) (numbered rs) e))

stop : (rs qs : List Row) → ((verdict rs).number ≡ 0 → ⊥) → verdict (rs ++ qs) ≡ verdict rs
stop [] qs n = absurd (n refl)
stop (r ∷ rs) qs n =
    by_test r.given
    (λ e. given r (rs ++ qs) e ∙ sym (given r rs e))
    (λ e. passed r (rs ++ qs) e ∙ stop rs qs (λ z. n (ap (λ (v : Verdict). v.number) (passed r rs e) ∙ z)) ∙ sym (passed r rs e))

pass : (rs qs : List Row) → numbered rs ≡ true → (verdict rs).number ≡ 0 → verdict (rs ++ qs) ≡ verdict qs
pass [] qs m e = refl
pass (r ∷ rs) qs m e =
    let a = clean r rs (not_0 r rs m) e in
    passed r (rs ++ qs) a.0 ∙ pass rs qs (and_2 (not (eqb r.number 0)) (numbered rs) m) a.1

-- the first rows refuse, so all do
pub stopped : (rs qs : List Row) (v : Verdict) → v ≡ verdict rs → (v.number ≡ 0 → ⊥) → v ≡ verdict (rs ++ qs)
stopped rs qs v e n = e ∙ sym (stop rs qs (λ z. n (ap (λ (y : Verdict). y.number) e ∙ z)))

-- the first rows do not, so the others decide
pub gone_on : (rs qs : List Row) (v u : Verdict) → numbered rs ≡ true → v ≡ verdict rs → v.number ≡ 0 → u ≡ verdict qs → u ≡ verdict (rs ++ qs)
gone_on rs qs v u m e z q = q ∙ sym (pass rs qs m (ap (λ (y : Verdict). y.number) (sym e) ∙ z))

pub parted : (rs qs : List Row) → numbered rs ≡ true → (verdict (rs ++ qs)).number ≡ 0 → ((verdict rs).number ≡ 0) × ((verdict qs).number ≡ 0)
parted [] qs m e = (refl, e)
parted (r ∷ rs) qs m e =
    let a = clean r (rs ++ qs) (not_0 r rs m) e in
    let b = parted rs qs (and_2 (not (eqb r.number 0)) (numbered rs) m) a.1 in
    (ap (λ (v : Verdict). v.number) (passed r rs a.0) ∙ b.0, b.1)

module _ (v : Verdict) (words lines : ℕ) where
  pub done_answer : v.number ≡ 0 → answer v words lines ≡ record { number = 0; place = 0; words = words; lines = lines }
  done_answer e =
      ap (λ (b : Bool). cond b (record { number = 0; place = 0; words = words; lines = lines }) (record { number = v.number; place = v.place; words = 0; lines = 0 }))
      (eq-eqb v.number 0 e)

  pub refused_answer : (v.number ≡ 0 → ⊥) → answer v words lines ≡ record { number = v.number; place = v.place; words = 0; lines = 0 }
  refused_answer e =
      ap (λ (b : Bool). cond b (record { number = 0; place = 0; words = words; lines = lines }) (record { number = v.number; place = v.place; words = 0; lines = 0 }))
      (ne_eqb v.number 0 e)

module _ {A : Type 0} (v : Verdict) (was done : A) where
  pub done_after : v.number ≡ 0 → afterwards v was done ≡ done
  done_after e = ap (λ (b : Bool). cond b done was) (eq-eqb v.number 0 e)

  pub refused_after : (v.number ≡ 0 → ⊥) → afterwards v was done ≡ was
  refused_after e = ap (λ (b : Bool). cond b done was) (ne_eqb v.number 0 e)
