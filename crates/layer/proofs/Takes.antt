-- Counting through a list from the front. Assumes nothing.
-- Main laws: `take_all` a whole list; `take_none`; `take_more` one element more; `take_le` no more than were passed; `take_end` all of them; `take_same` two tests that agree on them.
use Rattle.std.proofs.Common.{◌≡◌, ℕ, zero, suc, ◌+◌, ◌<◌, ◌≤◌, Bool, List, [], ◌∷◌, ◌++◌, length, get_or, take, sym, refl, ap, ◌∙◌, add-zero, add-one, arith, length-take, take-suc}
use lib.Seq.{take-length}
use Rattle.tally.specs.Tally.{one, tally}
use Rattle.tally.proofs.Count.{tally_append, tally_length}

pub take_all : (l : List ℕ) (i : ℕ) → i ≡ length l → take i l ≡ l
take_all l i e = ap (λ (z : ℕ). take z l) e ∙ take-length l

module _ (p : ℕ → Bool) (l : List ℕ) where
  pub take_none : 0 ≡ tally p (take 0 l)
  unfolding tally
  take_none = refl

  last_one : (m : List ℕ) (x : ℕ) → tally p (m ++ (x ∷ [])) ≡ tally p m + one (p x)
  unfolding tally
  last_one m x = tally_append p m (x ∷ []) ∙ ap (λ (z : ℕ). tally p m + z) (add-zero (one (p x)))

  pub take_more : (i : ℕ) → i < length l → tally p (take (i + 1) l) ≡ tally p (take i l) + one (p (get_or l i 0))
  take_more i h = rw (add-one i, take-suc l i 0 h) (last_one (take i l) (get_or l i 0))

  pub take_le : (i : ℕ) → tally p (take i l) ≤ i
  take_le i = omega (arith, tally_length p (take i l), length-take i l)

  pub take_end : (i : ℕ) → i ≡ length l → tally p (take i l) ≡ tally p l
  take_end i e = ap (tally p) (take_all l i e)

pub take_same : (p q : ℕ → Bool) (l : List ℕ) (i : ℕ) → i ≤ length l → ((t : ℕ) → t < i → p (get_or l t 0) ≡ q (get_or l t 0)) → tally p (take i l) ≡ tally q (take i l)
take_same p q l zero h e = sym (take_none p l) ∙ take_none q l
take_same p q l (suc i) h e =
    let s : suc i ≡ i + 1 = omega arith in
    rw s (take_more p l i (omega arith) ∙ rw (take_same p q l i (omega arith) (λ t u. e t (omega arith)), e i (omega arith)) (sym (take_more q l i (omega arith))))
