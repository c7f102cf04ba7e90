-- What levels that fit say of the list. Assumes nothing.
-- Main laws: `ascend_length`, `levels_length` there are not more than values; `ascend_below`, `levels_below` each is below the largest sample.
use mathlib.Core.Path.{◌≡◌}
use mathlib.Core.Bool.{true, ◌&&◌}
use mathlib.Core.List.{List, [], ◌∷◌}
use Prim.Native.Nat.{ℕ, zero, suc, ◌+◌, ◌≤◌, ◌<◌}
use native.Mathlib.Omega.{arith}
use lib.Dec.{ltb, leb}
use lib.ListN.{length, get_or}
use borrow.Author.Tests.{ltb-true, leb-true}
use Rattle.tally.proofs.Test.{and_1, and_2}
use Rattle.matte.specs.Layout.{Layout, eight}
use Rattle.matte.specs.Picture.{ascend, levels_fit}

module _ (L : Layout) where
  pub ascend_length : (low : ℕ) (ks : List ℕ) → low ≤ L.most → ascend L low ks ≡ true → low + length ks ≤ L.most
  unfolding ascend
  ascend_length low [] h e = omega arith
  ascend_length low (k ∷ ks) h e =
      let t = and_2 (leb low k) (ltb k L.most && ascend L (k + 1) ks) e in
      let a : low ≤ k = leb-true low k (and_1 (leb low k) (ltb k L.most && ascend L (k + 1) ks) e) in
      let b : k < L.most = ltb-true k L.most (and_1 (ltb k L.most) (ascend L (k + 1) ks) t) in
      omega (arith, ascend_length (k + 1) ks (omega arith) (and_2 (ltb k L.most) (ascend L (k + 1) ks) t))

  pub ascend_below : (low : ℕ) (ks : List ℕ) → ascend L low ks ≡ true → (i : ℕ) → i < length ks → get_or ks i 0 < L.most
  unfolding ascend
  ascend_below low [] e i h = absurd (omega arith)
  ascend_below low (k ∷ ks) e zero h =
      let t = and_2 (leb low k) (ltb k L.most && ascend L (k + 1) ks) e in
      ltb-true k L.most (and_1 (ltb k L.most) (ascend L (k + 1) ks) t)
  ascend_below low (k ∷ ks) e (suc i) h =
      let t = and_2 (leb low k) (ltb k L.most && ascend L (k + 1) ks) e in
      ascend_below (k + 1) ks (and_2 (ltb k L.most) (ascend L (k + 1) ks) t) i (omega arith)

pub levels_length : (ks : List ℕ) → levels_fit eight ks ≡ true → length ks ≤ 255
levels_length ks e = omega (arith, ascend_length eight 0 ks (omega arith) e)

pub levels_below : (ks : List ℕ) → levels_fit eight ks ≡ true → (i : ℕ) → i < length ks → get_or ks i 0 < 255
levels_below ks e = ascend_below eight 0 ks e
