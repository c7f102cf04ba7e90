-- The border samples before a place, one place at a time, and the counts of their heads. Assumes nothing.
-- Definitions: `seen` the border samples before a place.
-- Main laws: `one_if` a test as a number; `seen_none`; `seen_on` a border place adds its sample; `seen_off` other places add nothing; `seen_run` a run of border places; `seen_long` there are at most as many as places;
--   `counts_at` an entry of the counts.
use mathlib.Core.Path.{◌≡◌, refl, sym, ap, ◌∙◌}
use mathlib.Core.Bool.{Bool, true, false}
use mathlib.Core.List.{List, [], ◌∷◌, ◌++◌}
use Prim.Native.Nat.{ℕ, zero, suc, ◌+◌, ◌*◌, ◌≤◌, ◌<◌}
use native.Mathlib.Nat.{add-zero, add-suc}
use native.Mathlib.Omega.{arith}
use lib.Dec.{eqb}
use lib.ListN.{take, drop, length-drop, length, get_or, length-append}
use lib.Seq.{take-suc}
use Rattle.std.proofs.Common.{append-nil, append_assoc, get_or-drop}
use Rattle.std.specs.Int.{from_bool}
use Rattle.tally.specs.Tally.{one, count, flat, pick}
use Rattle.tally.proofs.Test.{by_test, one_le}
use Rattle.tally.proofs.Pick.{pick_more, pick_still}
use Rattle.tally.proofs.Build.{build_length, build_at}
use Rattle.matte.specs.Picture.{Picture, at, on_border}
use Rattle.frame.specs.Counts.{heads, counts}

-- the border samples at places below i, row by row (01, Framing)
unfoldable pub seen : Picture → ℕ → List ℕ
seen P i = flat (pick (on_border P.w P.h) (λ j. at P j ∷ []) 0 i)

-- 1 for true, else 0
pub one_if : (b : Bool) → from_bool b ≡ one b
one_if true = refl
one_if false = refl

-- ---- the samples
module _ (P : Picture) where
  pub seen_none : seen P 0 ≡ []
  unfolding seen flat pick
  seen_none = refl

  pub seen_on : (i : ℕ) → on_border P.w P.h i ≡ true → seen P (suc i) ≡ seen P i ++ (at P i ∷ [])
  unfolding seen
  seen_on i e = pick_more (on_border P.w P.h) (λ j. at P j ∷ []) i e

  pub seen_still : (i : ℕ) → on_border P.w P.h i ≡ false → seen P (suc i) ≡ seen P i
  unfolding seen
  seen_still i e = pick_still (on_border P.w P.h) (λ j. at P j ∷ []) i e

  pub seen_off : (i m : ℕ) → ((j : ℕ) → i ≤ j → j < i + m → on_border P.w P.h j ≡ false) → seen P (i + m) ≡ seen P i
  seen_off i zero q = ap (seen P) (add-zero i)
  seen_off i (suc m) q =
      ap (seen P) (add-suc i m)
      ∙ seen_still (i + m) (q (i + m) (omega arith) (omega arith))
      ∙ seen_off i m (λ j a b. q j a (omega arith))

  pub seen_one : (i : ℕ) → on_border P.w P.h i ≡ true → length (seen P (suc i)) ≡ suc (length (seen P i))
  seen_one i e = ap length (seen_on i e) ∙ length-append (seen P i) (at P i ∷ []) ∙ omega arith

  pub seen_long : (i : ℕ) → length (seen P i) ≤ i
  seen_long zero = rw seen_none (omega arith)
  seen_long (suc i) =
      by_test (on_border P.w P.h i)
      (λ e. omega (arith, seen_one i e, seen_long i))
      (λ e. omega (arith, ap length (seen_still i e), seen_long i))

  -- a run of border places adds its samples
  pub seen_run : (i k : ℕ) → i + k ≤ length P.px → ((j : ℕ) → i ≤ j → j < i + k → on_border P.w P.h j ≡ true) → seen P (i + k) ≡ seen P i ++ take k (drop i P.px)
  seen_run i zero h q = ap (seen P) (add-zero i) ∙ sym (append-nil (seen P i))
  seen_run i (suc k) h q =
      let l : k < length (drop i P.px) = omega (arith, length-drop i P.px) in
      ap (seen P) (add-suc i k)
      ∙ seen_on (i + k) (q (i + k) (omega arith) (omega arith))
      ∙ ap (λ (m : List ℕ). m ++ (at P (i + k) ∷ [])) (seen_run i k (omega arith) (λ j a b. q j a (omega arith)))
      ∙ append_assoc (seen P i) (take k (drop i P.px)) (at P (i + k) ∷ [])
      ∙ ap (λ (x : ℕ). seen P i ++ (take k (drop i P.px) ++ (x ∷ []))) (sym (get_or-drop i P.px k 0))
      ∙ ap (λ (m : List ℕ). seen P i ++ m) (sym (take-suc (drop i P.px) k 0 l))

-- ---- the heads
pub heads_whole : (l : List ℕ) → heads true l ≡ l
unfolding heads
heads_whole [] = refl
heads_whole (s ∷ l) = ap (λ (m : List ℕ). s ∷ m) (heads_whole l)

pub heads_long : (whole : Bool) (l : List ℕ) → length (heads whole l) ≡ length l
unfolding heads
heads_long whole [] = refl
heads_long whole (s ∷ l) = ap suc (heads_long whole l)

-- ---- the counts
count_long : (v : ℕ) (l : List ℕ) → count v l ≤ length l
unfolding count
count_long v [] = omega arith
count_long v (x ∷ l) = omega (arith, count_long v l, one_le (eqb v x))

module _ (whole : Bool) (top : ℕ) where
  pub counts_length : (l : List ℕ) → length (counts whole top l) ≡ 16
  unfolding counts
  counts_length l = build_length (λ v. count v (heads whole l)) (16 * top) 16

  pub counts_at : (l : List ℕ) (d : ℕ) → d < 16 → get_or (counts whole top l) d 0 ≡ count (16 * top + d) (heads whole l)
  unfolding counts
  counts_at l d h = build_at (λ v. count v (heads whole l)) (16 * top) 16 d h
