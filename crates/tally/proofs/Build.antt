-- The list f i, f (i + 1), .. of a function's values. Assumes nothing.
-- Main laws: `build_length`; `build_at` its element j is f (i + j); `build_more` one more at the end; `build_cut` in two parts; `build_same`; `build_tally` how many pass, as a sum; `is_build` a
--   list by its elements.
use mathlib.Core.Path.{◌≡◌, refl, sym, ap, ◌∙◌}
use mathlib.Core.Bool.{Bool}
use mathlib.Core.List.{List, [], ◌∷◌, ◌++◌}
use Prim.Native.Nat.{ℕ, zero, suc, ◌+◌, ◌≤◌, ◌<◌}
use native.Mathlib.Nat.{zero-add, add-zero, suc-add}
use native.Mathlib.Omega.{arith}
use lib.ListN.{length, get_or}
use lib.Seq.{ext_get_or}
use Rattle.tally.specs.Tally.{one, sum, build, tally}
use Rattle.tally.proofs.Count.{tally_append}

pub build_length : (f : ℕ → ℕ) (i n : ℕ) → length (build f i n) ≡ n
unfolding build
build_length f i zero = refl
build_length f i (suc n) = ap suc (build_length f (suc i) n)

pub build_at : (f : ℕ → ℕ) (i n j : ℕ) → j < n → get_or (build f i n) j 0 ≡ f (i + j)
unfolding build
build_at f i zero j h = absurd (omega arith)
build_at f i (suc n) zero h = ap f (omega arith)
build_at f i (suc n) (suc j) h = build_at f (suc i) n j (omega arith) ∙ ap f (omega arith)

pub build_cut : (f : ℕ → ℕ) (i m n : ℕ) → build f i (m + n) ≡ build f i m ++ build f (i + m) n
unfolding build
build_cut f i zero n = rw (zero-add n, add-zero i)
build_cut f i (suc m) n =
    let s : suc i + m ≡ i + suc m = omega arith in
    rw (suc-add m n) (ap (λ (l : List ℕ). f i ∷ l) (build_cut f (suc i) m n ∙ ap (λ (z : ℕ). build f (suc i) m ++ build f z n) s))

pub build_more : (f : ℕ → ℕ) (i n : ℕ) → build f i (suc n) ≡ build f i n ++ (f (i + n) ∷ [])
unfolding build
build_more f i n = let s : suc n ≡ n + 1 = omega arith in ap (build f i) s ∙ build_cut f i n 1

pub build_same : (f g : ℕ → ℕ) (i n : ℕ) → ((j : ℕ) → i ≤ j → j < i + n → f j ≡ g j) → build f i n ≡ build g i n
unfolding build
build_same f g i zero q = refl
build_same f g i (suc n) q = rw (q i (omega arith) (omega arith), build_same f g (suc i) n (λ j a b. q j (omega arith) (omega arith)))

pub is_build : (f : ℕ → ℕ) (l : List ℕ) (n : ℕ) → length l ≡ n → ((j : ℕ) → j < n → get_or l j 0 ≡ f j) → l ≡ build f 0 n
is_build f l n e q =
    ext_get_or 0 l (build f 0 n) (e ∙ sym (build_length f 0 n))
    (λ j h. q j (omega arith) ∙ sym (build_at f 0 n j (omega arith) ∙ ap f (zero-add j)))

pub build_tally : (p : ℕ → Bool) (f : ℕ → ℕ) (n : ℕ) → tally p (build f 0 n) ≡ sum (λ i. one (p (f i))) n
unfolding sum tally build
build_tally p f zero = refl
build_tally p f (suc n) =
    let s : 0 + n ≡ n = zero-add n in
    ap (tally p) (build_more f 0 n)
    ∙ tally_append p (build f 0 n) (f (0 + n) ∷ [])
    ∙ rw (s, build_tally p f n) (omega arith)
