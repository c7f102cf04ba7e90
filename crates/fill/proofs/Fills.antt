-- A list written from the front with the values of a function. Assumes nothing.
-- Main laws: `filled_none` nothing written; `filled_more` one value more; `filled_list` all of them, as a list.
use mathlib.Core.Path.{◌≡◌, refl, sym, ap, ◌∙◌}
use mathlib.Core.List.{List, ◌++◌}
use Prim.Native.Nat.{ℕ, ◌+◌, ◌-◌, ◌≤◌, ◌<◌}
use native.Mathlib.Nat.{zero-add}
use native.Mathlib.Omega.{arith}
use lib.Dec.{eqb, ltb}
use lib.ListN.{length, get_or, set, drop, length-set, length-append, length-drop, get_or-append}
use lib.Seq.{ext_get_or, get_or-set_same, get_or-set_other, get_or-drop, get_or-append-add}
use borrow.Author.Tests.{eqb-true, eqb-false, ltb-true, ltb-false}
use Rattle.tally.specs.Tally.{build}
use Rattle.tally.proofs.Test.{by_test}
use Rattle.tally.proofs.Build.{build_length, build_at}
use Rattle.fill.specs.Filled.{Filled}

module _ (f : ℕ → ℕ) (d : List ℕ) where
  pub filled_none : Filled f d 0 d
  filled_none = record { long = refl; done = λ j h. absurd (omega arith); same = λ j h. refl }

  pub filled_more : (i v : ℕ) (e : List ℕ) → Filled f d i e → i < length e → v ≡ f i → Filled f d (i + 1) (set e i v)
  filled_more i v e F h q = record {
    long = length-set e i v ∙ F.long;
    done =
        λ j k.
        by_test (eqb j i)
        (λ t. let s : j ≡ i = eqb-true j i t in rw s (get_or-set_same e i v 0 h ∙ q))
        (λ t. get_or-set_other e i j v 0 (eqb-false j i t) ∙ F.done j (omega (arith, eqb-false j i t)));
    same = λ j k. get_or-set_other e i j v 0 (λ t. absurd (omega arith)) ∙ F.same j (omega arith);
  }

  pub filled_list : (n : ℕ) (e : List ℕ) → Filled f d n e → n ≤ length d → e ≡ build f 0 n ++ drop n d
  filled_list n e F h =
      let b : length (build f 0 n) ≡ n = build_length f 0 n in
      ext_get_or 0 e (build f 0 n ++ drop n d)
      (F.long ∙ sym (length-append (build f 0 n) (drop n d) ∙ omega (arith, length-drop n d)))
      (λ j k.
      by_test (ltb j n)
      (λ t.
      let l : j < n = ltb-true j n t in
      F.done j l
      ∙ sym (get_or-append (build f 0 n) (drop n d) 0 j (omega arith) ∙ build_at f 0 n j l ∙ ap f (zero-add j)))
      (λ t.
      let l : n ≤ j = ltb-false j n t in
      let s : j ≡ length (build f 0 n) + (j - n) = omega arith in
      F.same j l
      ∙ sym
      (ap (λ (z : ℕ). get_or (build f 0 n ++ drop n d) z 0) s
      ∙ get_or-append-add (build f 0 n) (drop n d) (j - n) 0
      ∙ get_or-drop n d (j - n) 0
      ∙ ap (λ (z : ℕ). get_or d z 0) (omega arith))))
