-- What stays when the level falls: high samples stay high, and a right turn at a saddle stays a right turn. Assumes nothing.
-- Definitions: none of its own.
-- Main laws: `high_fall` a sample high at a level is high at lower ones; `saddle_fall` the saddle's test, where the facing high corners are the higher pair; `cell_fall` the whole cell.
use mathlib.Core.Path.{◌≡◌, refl, ap}
use mathlib.Core.Bool.{Bool, true, false, ◌&&◌}
use Prim.Native.Nat.{ℕ, ◌+◌, ◌-◌, ◌*◌, ◌≤◌, ◌<◌}
use native.Mathlib.Nat.{mul-le-mul_right}
use native.Mathlib.Omega.{arith}
use borrow.Author.Tests.{ltb-true, ltb-false, lt-ltb, not-true}
use Rattle.tally.specs.Tally.{differ}
use Rattle.tally.proofs.Test.{by_test, no, and_1, and_2, both, implies, differ_low, differ_high}
use Rattle.matte.specs.Picture.{Picture, at, high}
use Rattle.edgel.specs.declared.Heading.TheVariants.{South, East}
use Rattle.cell.specs.Turn.{Corners, saddle, corners}
use Rattle.outline.proofs.Entered.{five}
use Rattle.outline.proofs.Paper.{bit}
use Rattle.enclosure.proofs.Corner.{knot, mono}

imp : (x y : Bool) → (x ≡ true → y ≡ true) → implies x y ≡ true
imp true y f = f refl
imp false y f = refl

differ_back : (x y : Bool) → y ≡ true → differ x y ≡ true → x ≡ false
differ_back true y e d = no e (not-true y d)
differ_back false y e d = refl

pub saddle_fall : (j k : ℕ) (q : Corners) → j ≤ k → q.p0 + q.p2 ≤ q.p1 + q.p3 → saddle k q ≡ true → saddle j q ≡ true
unfolding saddle
saddle_fall j k q l m e =
    let D = q.p1 + q.p3 - (q.p0 + q.p2) in
    let d : q.p1 + q.p3 ≡ q.p0 + q.p2 + D = omega arith in
    let x : 2 * (q.p0 * q.p2) + (2 * k + 1) * (q.p1 + q.p3) < 2 * (q.p1 * q.p3) + (2 * k + 1) * (q.p0 + q.p2) = ltb-true _ _ e in
    let a : (2 * k + 1) * (q.p1 + q.p3) ≡ (2 * k + 1) * (q.p0 + q.p2 + D) = ap (λ (z : ℕ). (2 * k + 1) * z) d in
    let b : (2 * j + 1) * (q.p1 + q.p3) ≡ (2 * j + 1) * (q.p0 + q.p2 + D) = ap (λ (z : ℕ). (2 * j + 1) * z) d in
    let c : (2 * j + 1) * D ≤ (2 * k + 1) * D = mul-le-mul_right D (omega arith) in
    let y : 2 * (q.p0 * q.p2) + (2 * j + 1) * (q.p1 + q.p3) < 2 * (q.p1 * q.p3) + (2 * j + 1) * (q.p0 + q.p2) = omega arith in
    lt-ltb _ _ y

module _ (P : Picture) where
  pub high_fall : (j k i : ℕ) → j ≤ k → high P k i ≡ true → high P j i ≡ true
  high_fall j k i l e = lt-ltb j (at P i) (omega (arith, ltb-true k (at P i) e))

  bit_fall : (j k t : ℕ) → j ≤ k → knot (five (high P k) (bit P k) P.w t) ≡ true → knot (five (high P j) (bit P j) P.w t) ≡ true → bit P k t ≡ true → bit P j t ≡ true
  unfolding bit
  bit_fall j k t l x y e =
      let w = P.w in
      let ab = and_1 (differ (high P k t) (high P k (t + w))) _ x in
      let r = and_2 (differ (high P k t) (high P k (t + w))) _ x in
      let bc = and_1 (differ (high P k (t + w)) (high P k (t + w + 1))) _ r in
      let cd = and_2 (differ (high P k (t + w)) (high P k (t + w + 1))) _ r in
      let ab' = and_1 (differ (high P j t) (high P j (t + w))) _ y in
      by_test (high P k t)
      (λ u.
      let b : high P k (t + w) ≡ false = differ_high _ _ u ab in
      let c : high P k (t + w + 1) ≡ true = differ_low _ _ b bc in
      let d : high P k (t + 1) ≡ false = differ_high _ _ c cd in
      let m : at P (t + w) + at P (t + 1) ≤ at P (t + w + 1) + at P t =
      omega (arith, ltb-true k (at P t) u, ltb-false k (at P (t + w)) b, ltb-true k (at P (t + w + 1)) c, ltb-false k (at P (t + 1)) d) in
      rw (high_fall j k t l u) (saddle_fall j k (corners P East t) l m (rw u at e)))
      (λ u.
      let b : high P k (t + w) ≡ true = differ_low _ _ u ab in
      let c : high P k (t + w + 1) ≡ false = differ_high _ _ b bc in
      let d : high P k (t + 1) ≡ true = differ_low _ _ c cd in
      let m : at P t + at P (t + w + 1) ≤ at P (t + w) + at P (t + 1) =
      omega (arith, ltb-false k (at P t) u, ltb-true k (at P (t + w)) b, ltb-false k (at P (t + w + 1)) c, ltb-true k (at P (t + 1)) d) in
      rw (differ_back (high P j t) (high P j (t + w)) (high_fall j k (t + w) l b) ab') (saddle_fall j k (corners P South t) l m (rw u at e)))

  pub cell_fall : (j k t : ℕ) → j ≤ k → mono (five (high P k) (bit P k) P.w t) (five (high P j) (bit P j) P.w t) ≡ true
  cell_fall j k t l =
      let w = P.w in
      both (imp _ _ (high_fall j k t l))
      (both (imp _ _ (high_fall j k (t + w) l))
      (both (imp _ _ (high_fall j k (t + w + 1) l))
      (both (imp _ _ (high_fall j k (t + 1) l))
      (imp _ _ (λ e.
      let kn = knot (five (high P k) (bit P k) w t) in
      let kj = knot (five (high P j) (bit P j) w t) in
      let r = and_2 kn (kj && bit P k t) e in
      bit_fall j k t l (and_1 kn (kj && bit P k t) e) (and_1 kj (bit P k t) r) (and_2 kj (bit P k t) r))))))
