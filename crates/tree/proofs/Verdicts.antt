-- What a tree call that is not refused has. Assumes nothing.
-- Main laws: `passed_both` a verdict of 0 is the list call's, and there are tree places enough; `same_verdict` a verdict goes by the lengths of the lent memory; `half_is` half the horizontal crossings.
use mathlib.Core.Path.{◌≡◌, refl, ap}
use mathlib.Core.List.{List, [], ◌∷◌}
use Prim.Native.Nat.{ℕ, ◌/◌, ◌≤◌}
use native.Mathlib.Omega.{arith}
use lib.Dec.{ltb}
use lib.ListN.{length}
use borrow.Author.Tests.{ltb-false}
use Rattle.tally.specs.Tally.{total}
use Rattle.matte.specs.Layout.{Layout, eight}
use Rattle.matte.specs.Picture.{Picture}
use Rattle.refuse.specs.Refusal.{row_at}
use Rattle.refuse.proofs.Rows.{parted, clean}
use Rattle.outline.specs.List.{list_rows, list_verdict}
use Rattle.enclosure.specs.Call.{heads, half, tree_verdict}

pub passed_both : (L : Layout) (P : Picture) (ks work out places : List ℕ) → (tree_verdict L P ks work out places).number ≡ 0
    → ((list_verdict L P ks work out).number ≡ 0) × (half P ks ≤ length places)
passed_both L P ks work out places z =
    let r = row_at 7 (ltb (length places) (half P ks)) (half P ks) in
    let a = parted (list_rows L P ks work out) (r ∷ []) refl z in
    (a.0, ltb-false (length places) (half P ks) (clean r [] (λ y. omega arith) a.1).0)

pub same_verdict : (P : Picture) (ks work out work' out' : List ℕ) → length work' ≡ length work → length out' ≡ length out → list_verdict eight P ks work' out' ≡ list_verdict eight P ks work out
same_verdict P ks work out work' out' a b = rw (a, b)

-- half the horizontal crossings
pub half_is : (P : Picture) (ks : List ℕ) (x : ℕ) → x ≡ total (heads P) ks → x / 2 ≡ half P ks
unfolding half
half_is P ks x e = ap (λ (z : ℕ). z / 2) e
