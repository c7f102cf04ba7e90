-- Marks that following keeps, counted along a row or along a column: the odd or even of both is the same. Assumes nothing.
-- Definitions: `by_row`, `by_col` the parity of the marks left of a sample on its row, and above it in its column.
-- Main laws: `in_row`, `cell_at` places and cells by column and row; `off_top`, `off_left` nothing is marked along the border; `step_east`, `step_south` neighbours differ exactly if a mark stands
--   between them; `row_col` the row's parity is the column's; `row_cut` of all crossed codes it says whether a sample is high, against the border.
use mathlib.Core.Path.{◌≡◌, refl, sym, ap, ◌∙◌}
use mathlib.Core.Bool.{Bool, true, false, not, ◌&&◌}
use Prim.Native.Nat.{ℕ, zero, suc, ◌+◌, ◌*◌, ◌%◌, ◌<◌}
use native.Mathlib.Nat.{zero-mul, add-mod_right}
use native.Mathlib.Omega.{arith}
use lib.Dec.{ltb}
use lib.Arith.{digits_mod, digits_lt}
use borrow.Author.Tests.{ltb-true, lt-ltb}
use Rattle.tally.specs.Tally.{differ}
use Rattle.tally.proofs.Test.{by_test, no, and_1, and_2, implies, mp, equal, chain, differ_self}
use Rattle.tally.proofs.Parity.{flips, flips_none}
use Rattle.edgel.specs.Edgel.{across, down, cut}
use Rattle.cell.proofs.Five.{each_f}
use Rattle.outline.proofs.Codes.{Cell, Frame, cut_flat, cut_tall}
use Rattle.outline.proofs.Follow.{Kept, cell_even}

unfoldable pub by_row : ℕ → (ℕ → Bool) → ℕ → ℕ → Bool
by_row w M x y = flips (λ i. M (across w i y)) x

unfoldable pub by_col : ℕ → (ℕ → Bool) → ℕ → ℕ → Bool
by_col w M x y = flips (λ j. M (down w x j)) y

-- r with two sides of the cell turned over, either way round
round : (n v s e r : Bool) → differ (differ n v) (differ s e) ≡ false → differ (differ r v) s ≡ differ (differ r n) e
round n v s e r h =
    equal _ _
    (mp (each_f (λ q. implies (not (differ (differ q.a q.b) (differ q.c q.d))) (not (differ (differ (differ q.s q.b) q.c) (differ (differ q.s q.a) q.d))))
    refl (record { a = n; b = v; c = s; d = e; s = r }))
    (ap not h))

pub in_row : (w h x y : ℕ) → x < w → y < h → y * w + x < w * h
in_row w h x y a b = omega (arith, digits_lt b a)

pub cell_at : (w h x y : ℕ) → suc x < w → suc y < h → Cell w h (y * w + x)
cell_at w h x y a b =
    let c : x < w = omega arith in
    let e : (y * w + x) % w ≡ x = digits_mod y c in
    record { col = rw e (omega arith); row = omega (arith, in_row w h x (suc y) c b) }

module _ (H S : ℕ → Bool) (w h : ℕ) (v : Bool) (F : Frame H w h v) where
  -- a mark of crossed codes is off along the top row and the left column
  off_top : (M : ℕ → Bool) → Kept H S w h M → (x : ℕ) → suc x < w → M (across w x 0) ≡ false
  off_top M k x a =
      by_test (M (across w x 0))
      (λ e.
      let s : 0 * w + x ≡ x = omega (arith, zero-mul w) in
      let z = sym (cut_flat H w h (0 * w + x)) ∙ k.only (across w x 0) e in
      let d : differ (H (0 * w + x)) (H (0 * w + x + 1)) ≡ true = and_2 (ltb ((0 * w + x) % w + 1) w && ltb (0 * w + x) (w * h)) _ z in
      let l : H (0 * w + x) ≡ v = F.top (0 * w + x) (omega arith) in
      let m : H (0 * w + x + 1) ≡ v = F.top (0 * w + x + 1) (omega arith) in
      no d (ap (λ (b : Bool). differ b (H (0 * w + x + 1))) l ∙ ap (λ (b : Bool). differ v b) m ∙ differ_self v))
      (λ e. e)

  off_left : (M : ℕ → Bool) → Kept H S w h M → (y : ℕ) → 0 < w → suc y < h → M (down w 0 y) ≡ false
  off_left M k y p b =
      by_test (M (down w 0 y))
      (λ e.
      let c : (y * w + 0) % w ≡ 0 = digits_mod y p in
      let z = sym (cut_tall H w h (y * w + 0)) ∙ k.only (down w 0 y) e in
      let d : differ (H (y * w + 0)) (H (y * w + 0 + w)) ≡ true = and_2 (ltb (y * w + 0 + w) (w * h)) _ z in
      let r : y * w + 0 + w < w * h = ltb-true _ _ (and_1 _ _ z) in
      let l : H (y * w + 0) ≡ v = F.lefts (y * w + 0) (omega arith) c in
      let m : H (y * w + 0 + w) ≡ v = F.lefts (y * w + 0 + w) r (add-mod_right (y * w + 0) w ∙ c) in
      no d (ap (λ (b : Bool). differ b (H (y * w + 0 + w))) l ∙ ap (λ (b : Bool). differ v b) m ∙ differ_self v))
      (λ e. e)

  -- neighbours differ exactly if the line passes between them
  pub step_east : (M : ℕ → Bool) (x y : ℕ) → by_row w M (suc x) y ≡ differ (by_row w M x y) (M (across w x y))
  unfolding by_row flips
  step_east M x y = refl

  pub step_south : (M : ℕ → Bool) → Kept H S w h M → (x y : ℕ) → x < w → suc y < h → by_row w M x (suc y) ≡ differ (by_row w M x y) (M (down w x y))
  unfolding by_row flips
  step_south M k zero y a b = sym (off_left M k y a b)
  step_south M k (suc x) y a b =
      let t = y * w + x in
      let c = cell_even H S w h M k t (cell_at w h x y a b) in
      let p : 2 * (t + w) ≡ across w x (suc y) = omega arith in
      let q : 2 * (t + 1) + 1 ≡ down w (suc x) y = omega arith in
      let r : differ (differ (M (across w x y)) (M (down w x y))) (differ (M (across w x (suc y))) (M (down w (suc x) y))) ≡ false =
      ap (λ (z : ℕ). differ (differ (M (across w x y)) (M (down w x y))) (differ (M z) (M (down w (suc x) y)))) (sym p)
      ∙ ap (λ (z : ℕ). differ (differ (M (across w x y)) (M (down w x y))) (differ (M (2 * (t + w))) (M z))) (sym q)
      ∙ c in
      ap (λ (z : Bool). differ z (M (across w x (suc y)))) (step_south M k x y (omega arith) b)
      ∙ round (M (across w x y)) (M (down w x y)) (M (across w x (suc y))) (M (down w (suc x) y)) (flips (λ i. M (across w i y)) x) r

  pub row_col : (M : ℕ → Bool) → Kept H S w h M → (x y : ℕ) → x < w → y < h → by_row w M x y ≡ by_col w M x y
  unfolding by_row by_col flips
  row_col M k x zero a b = flips_none (λ i. M (across w i 0)) x (λ i l. off_top M k i (omega arith))
  row_col M k x (suc y) a b =
      step_south M k x y a b ∙ ap (λ (z : Bool). differ z (M (down w x y))) (row_col M k x y a (omega arith))

  -- the marks of all lines together are the crossed codes
  pub row_cut : (x y : ℕ) → x < w → y < h → by_row w (cut H w h) x y ≡ differ v (H (y * w + x))
  unfolding by_row flips
  row_cut zero y a b =
      let l : H (y * w + 0) ≡ v = F.lefts (y * w + 0) (in_row w h 0 y a b) (digits_mod y a) in
      sym (differ_self v) ∙ ap (λ (z : Bool). differ v z) (sym l)
  row_cut (suc x) y a b =
      let c : x < w = omega arith in
      let e : (y * w + x) % w ≡ x = digits_mod y c in
      let m : (y * w + x) % w + 1 < w = rw e (omega arith) in
      let s : y * w + x + 1 ≡ y * w + suc x = omega arith in
      let o : cut H w h (across w x y) ≡ differ (H (y * w + x)) (H (y * w + suc x)) =
      cut_flat H w h (y * w + x) ∙ rw (lt-ltb _ _ m, lt-ltb _ _ (in_row w h x y c b), s) in
      ap (λ (z : Bool). differ z (cut H w h (across w x y))) (row_cut x y c b)
      ∙ ap (λ (z : Bool). differ (differ v (H (y * w + x))) z) o
      ∙ chain v (H (y * w + x)) (H (y * w + suc x))
