-- The crossing call answers the floats that it answered before fractions were reduced, bit for bit, for every picture of bytes, level and code. Assumes nothing.
-- Main laws: `x_as_before`, `y_as_before` the answer's coordinates are those by the unreduced fraction, and +0 where the call is refused.
use mathlib.Core.Path.{◌≡◌, refl}
use Prim.Native.Nat.{ℕ}
use lib.Dec.{eqb}
use borrow.Author.Tests.{eqb-true}
use Rattle.tally.proofs.Test.{by_test}
use Rattle.matte.specs.Layout.{eight}
use Rattle.matte.specs.Picture.{Picture}
use Rattle.refuse.specs.Refusal.{afterwards}
use Rattle.crossing.specs.Crossing.{whole, crossing_verdict, crossing_answer}
use Rattle.crossing.proofs.Told.{fine}
use Rattle.crossing.proofs.Floats.{unreduced_x, unreduced_y, x_same, y_same}
use Rattle.promises.proofs.EachFloat.{Bytes, span_few}

module _ (P : Picture) (bytes : Bytes P) (k c : ℕ) where
  pub x_as_before : (crossing_answer eight P k c).x ≡ afterwards (crossing_verdict eight P k c) (whole 0) (unreduced_x P k c)
  x_as_before =
      let v = crossing_verdict eight P k c in
      by_test (eqb v.number 0)
      (λ e. rw e (x_same P k c (fine P k c v refl (eqb-true v.number 0 e)).cut (span_few P bytes k c)))
      (λ e. rw e)

  pub y_as_before : (crossing_answer eight P k c).y ≡ afterwards (crossing_verdict eight P k c) (whole 0) (unreduced_y P k c)
  y_as_before =
      let v = crossing_verdict eight P k c in
      by_test (eqb v.number 0)
      (λ e. rw e (y_same P k c (fine P k c v refl (eqb-true v.number 0 e)).cut (span_few P bytes k c)))
      (λ e. rw e)
