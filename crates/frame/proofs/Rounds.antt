-- The border counted in runs: the first row with the start of the next, the end of a row with the start of the next, the rest of the last row. Assumes nothing.
-- Main laws: `rows_le` where a row ends; `first_on`, `ends_on`, `last_on` the runs lie on the border; `skip` between the ends of a row no place does; `first_seen`, `ends_seen`, `last_seen` the border samples up to the end of each run.
use mathlib.Core.Path.{◌≡◌, refl, sym, ap, ◌∙◌}
use mathlib.Core.Bool.{true}
use mathlib.Core.List.{List, [], ◌++◌}
use Prim.Native.Nat.{ℕ, ◌+◌, ◌-◌, ◌*◌, ◌≤◌, ◌<◌}
use native.Mathlib.Nat.{mul-le-mul_right}
use native.Mathlib.Omega.{arith}
use lib.Dec.{eqb, ltb}
use lib.ListN.{length, take, drop}
use borrow.Author.Tests.{eqb-true, eqb-false, ltb-true, ltb-false}
use Rattle.tally.proofs.Test.{by_test}
use Rattle.matte.specs.Picture.{picture, on_border}
use Rattle.refuse.specs.Shape.{Sides}
use Rattle.frame.specs.Frame.{border_samples}
use Rattle.frame.proofs.Seen.{seen, seen_none, seen_off, seen_run}
use Rattle.frame.proofs.Edge.{on_top, on_bottom, on_left_lem, on_right, off_middle}

module _ (w h : ℕ) (S : Sides w h) where
  pub rows_le : (y : ℕ) → y + 1 ≤ h → y * w + w ≤ w * h
  rows_le y l = omega (arith, mul-le-mul_right w l)

  pub first_on : (j : ℕ) → 0 ≤ j → j < w + 1 → on_border w h j ≡ true
  first_on j a b =
      by_test (ltb j w)
      (λ e. on_top w h j (ltb-true j w e))
      (λ e. on_left_lem w h 1 j (omega (arith, S.w_least)) (omega (arith, ltb-false j w e)))

  pub ends_on : (y a j : ℕ) → a ≡ y * w + (w - 1) → a ≤ j → j < a + 2 → on_border w h j ≡ true
  ends_on y a j s p q =
      let W : 2 ≤ w = S.w_least in
      by_test (eqb j a)
      (λ e. on_right w h y j (omega arith) (omega (arith, eqb-true j a e)))
      (λ e. on_left_lem w h (y + 1) j (omega arith) (omega (arith, eqb-false j a e)))

  pub last_on : (y i n j : ℕ) → y + 1 ≡ h → i ≡ y * w + 1 → n ≡ w * h → i ≤ j → j < n → on_border w h j ≡ true
  last_on y i n j e s t p q = on_bottom w h y j e (omega arith) (let r : w * h ≡ w * (y + 1) = ap (λ (z : ℕ). w * z) (sym e) in omega arith)

  module _ (px : List ℕ) (long : length px ≡ w * h) where
    -- the samples between the ends of row y are not on the border
    pub skip : (y : ℕ) → 0 < y → y + 1 < h → seen (picture w h px) (y * w + w - 1) ≡ seen (picture w h px) (y * w + 1)
    skip y k l =
        let W : 2 ≤ w = S.w_least in
        let i = y * w + 1 in
        let r : y * w + w - 1 ≡ i + (w - 2) = omega arith in
        ap (seen (picture w h px)) r
        ∙ seen_off (picture w h px) i (w - 2) (λ j p q. off_middle w h y j k l (omega arith) (omega arith))

    pub first_seen : seen (picture w h px) (1 * w + 1) ≡ [] ++ take (w + 1) px
    first_seen =
        let z : 1 * w + 1 ≡ 0 + (w + 1) = omega arith in
        ap (seen (picture w h px)) z
        ∙ seen_run (picture w h px) 0 (w + 1) (omega (arith, long, rows_le 1 S.h_least, S.w_least)) (λ j p q. first_on j p (omega arith))
        ∙ ap (λ (m : List ℕ). m ++ take (w + 1) px) (seen_none (picture w h px))

    pub ends_seen : (y a : ℕ) → 0 < y → y + 1 < h → a ≡ y * w + w - 1 → seen (picture w h px) ((y + 1) * w + 1) ≡ seen (picture w h px) (y * w + 1) ++ take 2 (drop a px)
    ends_seen y a k l e =
        let z : (y + 1) * w + 1 ≡ a + 2 = omega (arith, S.w_least) in
        let m : y + 1 + 1 ≤ h = omega arith in
        ap (seen (picture w h px)) z
        ∙ seen_run (picture w h px) a 2 (omega (arith, long, rows_le (y + 1) m, S.w_least)) (λ j p q. ends_on y a j (omega (arith, e, S.w_least)) p q)
        ∙ ap (λ (x : List ℕ). x ++ take 2 (drop a px)) (ap (seen (picture w h px)) e ∙ skip y k l)

    all_seen : seen (picture w h px) (w * h) ≡ border_samples (picture w h px)
    unfolding seen border_samples
    all_seen = refl

    pub last_seen : (y a : ℕ) → y + 1 ≡ h → a ≡ y * w + 1 → border_samples (picture w h px) ≡ seen (picture w h px) (y * w + 1) ++ take (length px - a) (drop a px)
    last_seen y a e s =
        let t : w * h ≡ w * (y + 1) = ap (λ (z : ℕ). w * z) (sym e) in
        let k = length px - a in
        let z : w * h ≡ a + k = omega (arith, long, S.w_least) in
        sym all_seen
        ∙ ap (seen (picture w h px)) z
        ∙ seen_run (picture w h px) a k (omega (arith, long)) (λ j p q. last_on y a (w * h) j e s refl p (omega arith))
        ∙ ap (λ (x : List ℕ). x ++ take k (drop a px)) (ap (seen (picture w h px)) s)
