-- A search through a list, from the front. Assumes nothing.
-- Main laws: `stop` where the first that passes was met; `end` where none was; `first_found` what a search answers, or the length, is where the first stands.
use mathlib.Core.Path.{◌≡◌, refl, sym, ◌∙◌}
use mathlib.Core.Bool.{Bool, true, false, cond}
use mathlib.Core.List.{List, [], ◌∷◌}
use Prim.Native.Nat.{ℕ, ◌+◌, ◌<◌, ◌≤◌}
use native.Mathlib.Omega.{arith}
use lib.Dec.{ltb}
use lib.ListN.{length, get_or}
use borrow.Author.Tests.{ltb-false}
use Rattle.std.specs.Prelude.{Option, Some, None}
use Rattle.std.specs.Option.{unwrap_or}
use Rattle.std.specs.List.{position, position_or_len}
use Rattle.std.proofs.lemmas.List.Recursion.{is_position_or_len}
use Rattle.tally.specs.Tally.{first_at}
use Rattle.tally.proofs.Test.{by_test}
use Rattle.tally.proofs.First.{first_is, first_yes, first_no, first_le}

module _ (p : ℕ → Bool) (l : List ℕ) (i : ℕ) (passed : (j : ℕ) → j < i → p (get_or l j 0) ≡ false) where
  pub stop : i < length l → p (get_or l i 0) ≡ true → i ≡ first_at p l
  stop h e = sym (first_is p l i (omega arith) passed (λ t. e))

  pub end : i ≤ length l → length l ≤ i → i ≡ first_at p l
  end a b = sym (first_is p l i a passed (λ t. absurd (omega arith)))

module _ (p : ℕ → Bool) where
  first_step : (x : ℕ) (l : List ℕ) → first_at p (x ∷ l) ≡ cond (p x) 0 (1 + first_at p l)
  first_step x l = by_test (p x) (λ e. rw e (first_yes p x l e)) (λ e. rw e (first_no p x l e ∙ omega arith))

  first_none : first_at p [] ≡ 0
  unfolding first_at
  first_none = refl

  found_at : (l : List ℕ) (b : Bool) (i : ℕ) → i ≤ length l → ltb i (length l) ≡ b → unwrap_or (cond b (Some i) None) (length l) ≡ i
  found_at l true i m t = refl
  found_at l false i m t = omega (arith, ltb-false i (length l) t)

  pub first_found : (l : List ℕ) (r : Option ℕ) → r ≡ position p l → unwrap_or r (length l) ≡ first_at p l
  first_found l r e =
      let s : first_at p l ≡ position_or_len p l = is_position_or_len (first_at p) p first_none first_step l in
      rw (e, ← s) (found_at l _ (first_at p l) (first_le p l) refl)
