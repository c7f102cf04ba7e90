-- The float of a negative whole number is that of its size with the sign set. Assumes nothing.
-- Main laws: `neg_of_int` for one number; `over_lt`, `over_ge` a quotient of a difference, below 0 and not.
use mathlib.Core.Path.{◌≡◌, refl, sym, ap, ◌∙◌}
use mathlib.Core.Bool.{Bool, true, false, cond, not}
use Prim.Native.Nat.{ℕ, zero, suc, ◌+◌, ◌-◌, ◌*◌, ◌^◌, ◌≤◌, ◌<◌}
use native.Mathlib.Omega.{arith}
use lib.Dec.{ltb}
use lib.IntN.{ℤ, pos, negsuc, ◌-ℤ◌}
use lib.Ieee.{Float, inf, Format, binary64, prec, emax, low, round, div, neg, odd, units, of_int}
use Rattle.piece.specs.Curve.{over}
use Rattle.piece.proofs.Minus.{minus_lt, minus_ge}

neg_odd : (d : ℕ) (s : Bool) (q k l : ℕ) → neg (odd d s q k l) ≡ odd d (not s) q k l
unfolding neg odd
neg_odd d s zero k l = refl
neg_odd d s (suc q) k l = refl

neg_units : (f : Format) (s : Bool) (q k : ℕ) → neg (units f s q k) ≡ units f (not s) q k
unfolding neg units
neg_units f s q k = either (ltb (q * 2 ^ k) (2 ^ (low f + suc (emax f))))
  where
    either : (b : Bool) → neg (cond b (odd (suc (prec f)) s q k (low f)) (inf s)) ≡ cond b (odd (suc (prec f)) (not s) q k (low f)) (inf (not s))
    either true = neg_odd (suc (prec f)) s q k (low f)
    either false = refl

neg_round : (f : Format) (s : Bool) (a b : ℕ) → neg (round f s a b) ≡ round f (not s) a b
unfolding round
neg_round f s a b = neg_units f s _ _

pub neg_of_int : (n : ℕ) → neg (of_int binary64 (pos (suc n))) ≡ of_int binary64 (negsuc n)
unfolding of_int
neg_of_int n = neg_round binary64 false (suc n) 1

pub over_lt : (a b m : ℕ) → a < b → div binary64 (neg (of_int binary64 (pos (b - a)))) (of_int binary64 (pos m)) ≡ over (pos a -ℤ pos b) m
unfolding over
over_lt a b m l =
    let e : b - a ≡ suc (b - suc a) = omega arith in
    ap (λ (f : Float). div binary64 f (of_int binary64 (pos m)))
    (ap (λ (n : ℕ). neg (of_int binary64 (pos n))) e ∙ neg_of_int (b - suc a) ∙ ap (of_int binary64) (sym (minus_lt a b l)))

pub over_ge : (a b m : ℕ) → b ≤ a → div binary64 (of_int binary64 (pos (a - b))) (of_int binary64 (pos m)) ≡ over (pos a -ℤ pos b) m
unfolding over
over_ge a b m l = ap (λ (z : ℤ). div binary64 (of_int binary64 z) (of_int binary64 (pos m))) (sym (minus_ge a b l))
