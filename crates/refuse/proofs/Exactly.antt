-- A refusal is given exactly when its row applies and no earlier one does: for the rows of any call. Assumes nothing.
-- Definitions: `nth` row i of a list, one that is never given past the end; `First i` row i is given and none before it is.
-- Main laws: `first_decides` the first row that is given decides number and place; `decided_first` a number other than 0 comes from such a row; `none_zero` where no row is given the number is 0; `zero_none` and back,
--   where no row bears the number 0.
use mathlib.Core.Path.{◌≡◌, refl, sym, ap, ◌∙◌}
use mathlib.Core.Bool.{Bool, true, false, cond}
use mathlib.Core.List.{List, [], ◌∷◌}
use mathlib.Core.Logic.{◌≢◌}
use Prim.Native.Nat.{ℕ, zero, suc, ◌<◌}
use native.Mathlib.Omega.{arith}
use Rattle.tally.proofs.Test.{by_test, no}
use Rattle.refuse.specs.Refusal.{Verdict}
use Rattle.refuse.specs.Refusal.{Row, row, verdict}
use Rattle.refuse.proofs.Rows.{given, passed}

abbrev pub nth : List Row → ℕ → Row
nth [] i = row 0 false
nth (r ∷ rs) zero = r
nth (r ∷ rs) (suc i) = nth rs i

pub record First (rs : List Row) (i : ℕ) : Type 0 where
  pub here : (nth rs i).given ≡ true
  pub before : (j : ℕ) → j < i → (nth rs j).given ≡ false

abbrev pub told : Row → Verdict
told r = record { number = r.number; place = r.place }

pub first_decides : (rs : List Row) (i : ℕ) → First rs i → verdict rs ≡ told (nth rs i)
first_decides [] i F = no F.here refl
first_decides (r ∷ rs) zero F = given r rs F.here
first_decides (r ∷ rs) (suc i) F =
    passed r rs (F.before 0 (omega arith)) ∙ first_decides rs i (record { here = F.here; before = λ j h. F.before (suc j) (omega arith) })

pub decided_first : (rs : List Row) → (verdict rs).number ≢ 0 → (i : ℕ) × First rs i
decided_first [] n = absurd (n refl)
decided_first (r ∷ rs) n =
    by_test r.given
    (λ e. (0, record { here = e; before = λ j h. absurd (omega arith) }))
    (λ e.
    let d = decided_first rs (λ z. n (ap (λ (v : Verdict). v.number) (passed r rs e) ∙ z)) in
    (suc d.0, record { here = d.1.here; before = λ j h. earlier r rs d.0 e d.1.before j h }))
  where
    earlier : (r : Row) (rs : List Row) (i : ℕ) → r.given ≡ false → ((j : ℕ) → j < i → (nth rs j).given ≡ false) → (j : ℕ) → j < suc i → (nth (r ∷ rs) j).given ≡ false
    earlier r rs i e q zero h = e
    earlier r rs i e q (suc j) h = q j (omega arith)

pub none_zero : (rs : List Row) → ((i : ℕ) → (nth rs i).given ≡ false) → verdict rs ≡ record { number = 0; place = 0 }
none_zero [] q = refl
none_zero (r ∷ rs) q = passed r rs (q 0) ∙ none_zero rs (λ i. q (suc i))

pub zero_none : (rs : List Row) → ((i : ℕ) → (nth rs i).given ≡ true → (nth rs i).number ≢ 0) → (verdict rs).number ≡ 0 → (i : ℕ) → (nth rs i).given ≡ false
zero_none [] q e i = refl
zero_none (r ∷ rs) q e i =
    by_test r.given
    (λ t. absurd (q 0 t (sym (ap (λ (v : Verdict). v.number) (given r rs t)) ∙ e)))
    (λ t. at_each r rs t (zero_none rs (λ j. q (suc j)) (sym (ap (λ (v : Verdict). v.number) (passed r rs t)) ∙ e)) i)
  where
    at_each : (r : Row) (rs : List Row) → r.given ≡ false → ((j : ℕ) → (nth rs j).given ≡ false) → (i : ℕ) → (nth (r ∷ rs) i).given ≡ false
    at_each r rs t f zero = t
    at_each r rs t f (suc i) = f i
