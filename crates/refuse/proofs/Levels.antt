-- The test of the levels, one level at a time. Assumes nothing.
-- Main laws: `too_low`, `too_high` a level that refutes it; `go_on` one that does not; `done` nothing is left.
use mathlib.Core.Path.{◌≡◌, refl, sym, ap, ◌∙◌}
use mathlib.Core.Bool.{Bool, true, false, ◌&&◌}
use mathlib.Core.List.{List, [], ◌∷◌}
use Prim.Native.Nat.{ℕ, zero, suc, ◌+◌, ◌≤◌, ◌<◌}
use native.Mathlib.Numerals.{add-one}
use native.Mathlib.Omega.{arith}
use lib.Dec.{ltb, leb}
use lib.ListN.{length, get_or, drop}
use lib.Seq.{drop-cons, drop-length}
use borrow.Author.Tests.{lt-ltb, le-ltb, le-leb, lt-leb}
use Rattle.matte.specs.Layout.{Layout}
use Rattle.matte.specs.Picture.{ascend}

module _ (L : Layout) (s : List ℕ) (i low : ℕ) (h : i < length s) where
  pub too_low : get_or s i 0 < low → ascend L low (drop i s) ≡ false
  unfolding ascend
  too_low e = rw (drop-cons s i 0 h) (simp (lt-leb low (get_or s i 0) e))

  pub too_high : low ≤ get_or s i 0 → L.most ≤ get_or s i 0 → ascend L low (drop i s) ≡ false
  unfolding ascend
  too_high e f = rw (drop-cons s i 0 h) (simp (le-leb low (get_or s i 0) e, le-ltb (get_or s i 0) L.most f))

  pub go_on : low ≤ get_or s i 0 → get_or s i 0 < L.most → ascend L low (drop i s) ≡ ascend L (get_or s i 0 + 1) (drop (i + 1) s)
  unfolding ascend
  go_on e f = rw (add-one i, drop-cons s i 0 h) (simp (le-leb low (get_or s i 0) e, lt-ltb (get_or s i 0) L.most f))

pub done : (L : Layout) (s : List ℕ) (i low : ℕ) → i ≡ length s → ascend L low (drop i s) ≡ true
unfolding ascend
done L s i low e = rw (e, drop-length s)
