-- The test of a code on a grid. Assumes nothing.
-- Main laws: `on_size` what is tested on the grid of a size is of its sides; `grid_test` the test of a code, by its place and by the product that tells the last column.
use mathlib.Core.Path.{◌≡◌, sym, ap, ◌∙◌}
use mathlib.Core.Bool.{Bool, not, ◌&&◌, ◌||◌, and-true, and-false}
use Prim.Native.Nat.{ℕ, ◌+◌, ◌*◌, ◌/◌, ◌%◌}
use native.Mathlib.Nat.{zero-mul, one-mul, add-zero}
use native.Mathlib.Omega.{arith}
use lib.Dec.{eqb, leb, ltb}
use borrow.Author.Tests.{ltb-true, eqb-true, eqb-false}
use Rattle.tally.proofs.Test.{by_test}
use Rattle.edgel.specs.Edgel.{edgel}
use Rattle.refuse.specs.Shape.{Sides}
use Rattle.refuse.specs.declared.size.Size.{Size}
use Rattle.words.specs.declared.Grid.{Grid}
use Rattle.words.proofs.Divides.{last_column}

module _ (size : Size) (g : Grid) (e : g.size ≡ size) where
  pub on_size : (f : ℕ → ℕ → Bool) (b : Bool) → b ≡ f g.size.width g.size.height → b ≡ f size.width size.height
  on_size f b t = t ∙ ap (λ (z : Size). f z.width z.height) e

-- no place from w·h on has an edgel, and before it the remainder tells the last column
across_test : (w h p : ℕ) → Sides w h
    → (ltb p (w * h) && leb (8589934592 / w + 1) ((p + 1) * (8589934592 / w + 1) % 8589934592)) ≡ (ltb (p % w + 1) w && ltb p (w * h))
across_test w h p S =
    by_test (ltb p (w * h))
    (λ t. rw (t, last_column w h p S (omega (arith, ltb-true p (w * h) t))) (sym (and-true (ltb (p % w + 1) w))))
    (λ t. rw t (sym (and-false (ltb (p % w + 1) w))))

pub grid_test : (g : Grid) (c : ℕ)
    → (ltb (c / 2 + c % 2 * g.size.width) g.samples && (not (eqb (c % 2) 0) || leb g.factor ((c / 2 + 1) * g.factor % 8589934592))) ≡ edgel g.size.width g.size.height c
unfolding edgel
grid_test g c =
    by_test (eqb (c % 2) 0)
    (λ t. rw (g.samples_are, g.factor_is, eqb-true (c % 2) 0 t, zero-mul g.size.width, add-zero (c / 2)) (across_test g.size.width g.size.height (c / 2) g.size.fits))
    (λ t.
    let n : c % 2 ≡ 0 → ⊥ = eqb-false (c % 2) 0 t in
    let o : c % 2 ≡ 1 = omega arith in
    rw (g.samples_are, o, one-mul g.size.width) (and-true (ltb (c / 2 + g.size.width) (g.size.width * g.size.height))))
