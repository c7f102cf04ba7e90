-- A list that begins with another. Assumes nothing.
-- Main laws: `prefix_sound` what it means; `prefix_complete` when it holds; `prefix_inside` the one is no longer than the other; `prefix_told` it is what `starts_with` says.
use mathlib.Core.Path.{◌≡◌, refl, sym, ap, ◌∙◌}
use mathlib.Core.Bool.{Bool, true}
use mathlib.Core.List.{List, [], ◌∷◌, ◌++◌}
use Prim.Native.Nat.{ℕ, ◌≤◌}
use native.Mathlib.Omega.{arith}
use borrow.Author.Tests.{eqb-true, eq-eqb}
use lib.Dec.{eqb}
use lib.ListN.{length, drop, length-append}
use Rattle.std.specs.List.{starts_with}
use Rattle.std.proofs.lemmas.Slice.Eq.{starts_is}
use Rattle.tally.proofs.Test.{by_test, no, iff}
use Rattle.form.specs.Reader.{begins}

pub prefix_sound : (t s : List ℕ) → begins t s ≡ true → s ≡ t ++ drop (length t) s
unfolding begins
prefix_sound [] s e = refl
prefix_sound (b ∷ t) [] e = no e refl
prefix_sound (b ∷ t) (c ∷ s) e =
    by_test (eqb c b)
    (λ q. rw (eqb-true c b q) (ap (λ (l : List ℕ). b ∷ l) (prefix_sound t s (rw (q, begins) at e))))
    (λ q. no (rw (q, begins) at e) refl)

pub prefix_complete : (t l : List ℕ) → begins t (t ++ l) ≡ true
unfolding begins
prefix_complete [] l = refl
prefix_complete (b ∷ t) l = rw (eq-eqb b b refl, begins) (prefix_complete t l)

pub prefix_inside : (t s : List ℕ) → begins t s ≡ true → length t ≤ length s
prefix_inside t s e = omega (arith, ap length (prefix_sound t s e), length-append t (drop (length t) s))

prefix_is : (t s : List ℕ) → starts_with eqb s t ≡ begins t s
prefix_is t s =
    let k = starts_is {E = eqb} (λ a b. (eqb-true a b, eq-eqb a b)) s t (starts_with eqb s t) refl in
    iff (λ e. rw (k.0 e) (prefix_complete t (drop (length t) s))) (λ e. k.1 (drop (length t) s) (prefix_sound t s e))

pub prefix_told : (t s : List ℕ) {r b : Bool} → r ≡ starts_with eqb s t → r ≡ b → begins t s ≡ b
prefix_told t s e f = sym (e ∙ prefix_is t s) ∙ f
