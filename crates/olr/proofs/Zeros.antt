-- Bytes due to be zero. Assumes nothing.
-- Main laws: `zeros_all` the test is that every byte is 0; `zeros_are` bytes that pass are zeros, `are_zeros` and back.
use mathlib.Core.Path.{◌≡◌, refl, sym, ap, ◌∙◌}
use mathlib.Core.Bool.{Bool, true, false, not, ◌&&◌}
use mathlib.Core.List.{List, [], ◌∷◌}
use Prim.Native.Nat.{ℕ, zero, suc, ◌+◌}
use native.Mathlib.Omega.{arith}
use lib.Dec.{eqb}
use lib.ListN.{length, replicate}
use borrow.Author.Tests.{eq-eqb, ne_eqb, eqb-true, eqb-false}
use Rattle.std.specs.List.{list_all}
use Rattle.tally.specs.Tally.{one, tally}
use Rattle.tally.proofs.Test.{by_test, no}
use Rattle.olr.specs.Read.{zeros}

abbrev some : ℕ → Bool
some b = not (eqb b 0)

-- how many bytes are not zero, with one byte in front
first_no : (x : ℕ) (l : List ℕ) → (x ≡ 0 → ⊥) → zeros (x ∷ l) ≡ false
unfolding tally
first_no x l h =
    let o : one (some x) ≡ 1 = ap (λ (b : Bool). one (not b)) (ne_eqb x 0 h) in
    ne_eqb (one (some x) + tally some l) 0 (λ e. omega arith)

first_zero : (x : ℕ) (l : List ℕ) → x ≡ 0 → zeros (x ∷ l) ≡ zeros l
unfolding tally
first_zero x l h =
    let o : one (some x) ≡ 0 = ap (λ (b : Bool). one (not b)) (eq-eqb x 0 h) in
    let s : one (some x) + tally some l ≡ tally some l = omega arith in
    ap (λ (n : ℕ). eqb n 0) s

none : zeros [] ≡ true
unfolding tally
none = refl

pub zeros_all : (l : List ℕ) → list_all (λ b. eqb b 0) l ≡ zeros l
zeros_all [] = sym none
zeros_all (x ∷ l) =
    by_test (eqb x 0)
    (λ t. ap (λ (b : Bool). b && list_all (λ b. eqb b 0) l) t ∙ zeros_all l ∙ sym (first_zero x l (eqb-true x 0 t)))
    (λ t. ap (λ (b : Bool). b && list_all (λ b. eqb b 0) l) t ∙ sym (first_no x l (eqb-false x 0 t)))

pub zeros_are : (l : List ℕ) → zeros l ≡ true → l ≡ replicate (length l) 0
zeros_are [] e = refl
zeros_are (x ∷ l) e =
    by_test (eqb x 0)
    (λ t.
    let z : x ≡ 0 = eqb-true x 0 t in
    ap (λ (y : ℕ). y ∷ l) z ∙ ap (λ (m : List ℕ). 0 ∷ m) (zeros_are l (sym (first_zero x l z) ∙ e)))
    (λ t. no e (first_no x l (eqb-false x 0 t)))

pub are_zeros : (n : ℕ) → zeros (replicate n 0) ≡ true
are_zeros zero = none
are_zeros (suc n) = first_zero 0 (replicate n 0) refl ∙ are_zeros n
