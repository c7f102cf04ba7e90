-- How many border samples there are. Assumes nothing.
-- Main laws: `border_many` 2·(w + h) − 4 of them.
use mathlib.Core.Path.{◌≡◌, refl, sym, ap, ◌∙◌}
use mathlib.Core.Bool.{true}
use mathlib.Core.List.{List}
use Prim.Native.Nat.{ℕ, zero, suc, ◌+◌, ◌-◌, ◌*◌, ◌≤◌, ◌<◌}
use native.Mathlib.Nat.{add-zero, add-suc}
use native.Mathlib.Omega.{arith}
use lib.ListN.{length}
use Rattle.matte.specs.Picture.{Picture, picture, on_border}
use Rattle.refuse.specs.Shape.{Sides}
use Rattle.frame.specs.Frame.{border_samples}
use Rattle.frame.proofs.Seen.{seen, seen_none, seen_one, seen_off}
use Rattle.frame.proofs.Edge.{off_middle}
use Rattle.frame.proofs.Rounds.{rows_le, first_on, ends_on, last_on}

-- a run on the border adds as many as it has places
run_many : (P : Picture) (i m : ℕ) → ((j : ℕ) → i ≤ j → j < i + m → on_border P.w P.h j ≡ true) → length (seen P (i + m)) ≡ length (seen P i) + m
run_many P i zero q = ap (λ (z : ℕ). length (seen P z)) (add-zero i) ∙ omega arith
run_many P i (suc m) q =
    let r : length (seen P (i + m)) ≡ length (seen P i) + m = run_many P i m (λ j a b. q j a (omega arith)) in
    ap (λ (z : ℕ). length (seen P z)) (add-suc i m) ∙ seen_one P (i + m) (q (i + m) (omega arith) (omega arith)) ∙ omega arith

module _ (w h : ℕ) (S : Sides w h) (px : List ℕ) where
  abbrev P : Picture
  P = picture w h px

  -- up to the first sample of row y, counted from 1
  row_many : (y : ℕ) → y + 2 ≤ h → length (seen P (suc y * w + 1)) ≡ w + 2 * y + 1
  row_many zero l =
      let e : suc zero * w + 1 ≡ 0 + (w + 1) = omega arith in
      ap (λ (z : ℕ). length (seen P z)) e
      ∙ run_many P 0 (w + 1) (λ j a b. first_on w h S j a (omega arith))
      ∙ ap (λ (z : List ℕ). length z + (w + 1)) (seen_none P)
      ∙ omega arith
  row_many (suc y) l =
      let W : 2 ≤ w = S.w_least in
      let i = suc y * w + 1 in
      let a = i + (w - 2) in
      let e : suc (suc y) * w + 1 ≡ a + 2 = omega arith in
      let r : length (seen P i) ≡ w + 2 * y + 1 = row_many y (omega arith) in
      let o : length (seen P a) ≡ length (seen P i) =
      ap length (seen_off P i (w - 2) (λ j p q. off_middle w h (suc y) j (omega arith) (omega arith) (omega arith) (omega arith))) in
      ap (λ (z : ℕ). length (seen P z)) e
      ∙ run_many P a 2 (λ j p q. ends_on w h S (suc y) a j (omega arith) p q)
      ∙ omega arith

  pub border_many : length (border_samples P) ≡ 2 * (w + h) - 4
  unfolding border_samples seen
  border_many =
      let H : 2 ≤ h = S.h_least in
      let W : 2 ≤ w = S.w_least in
      let y = h - 2 in
      let i = suc y * w + 1 in
      let k : suc y + 1 ≡ h = omega arith in
      let b : i ≤ w * h = omega (arith, rows_le w h S (suc y) (omega arith)) in
      let t : w * h ≡ w * (suc y + 1) = ap (λ (z : ℕ). w * z) (sym k) in
      let e : w * h ≡ i + (w * h - i) = omega arith in
      let r : length (seen P i) ≡ w + 2 * y + 1 = row_many y (omega arith) in
      ap (λ (z : ℕ). length (seen P z)) e
      ∙ run_many P i (w * h - i) (λ j p q. last_on w h S (suc y) i (w * h) j k refl refl p (omega arith))
      ∙ omega arith
