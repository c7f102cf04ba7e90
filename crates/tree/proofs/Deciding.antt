-- The definitions of the walk, case by case as the code takes them. Assumes nothing.
-- Main laws: `parent_none` no rank before; `parent_told` from the note before, `parent_straight`, `parent_turned` its two cases; `decided_yes`, `decided_no` one rank.
use mathlib.Core.Path.{◌≡◌, ap, ◌∙◌}
use mathlib.Core.Bool.{Bool, true, false, cond}
use mathlib.Core.List.{List}
use mathlib.Core.Logic.{◌≢◌}
use Prim.Native.Nat.{ℕ, ◌+◌, ◌-◌, ◌*◌, ◌/◌, ◌%◌}
use lib.ListN.{get_or, set}
use borrow.Author.Tests.{eq-eqb, ne_eqb}
use Rattle.tally.specs.Tally.{one, odd}
use Rattle.tree.specs.Walk.{parent_at, decided}

module _ (u : List ℕ) (r : ℕ) (t : List ℕ) where
  abbrev y : ℕ
  y = get_or u (r - 1) 0

  abbrev m : ℕ
  m = y % 536870912

  abbrev q : ℕ
  q = get_or t m 0 % 2147483648

  pub parent_none : r ≡ 0 → parent_at u r t ≡ 0
  unfolding parent_at
  parent_none e = ap (λ (z : Bool). cond z 0 (cond (odd (y / 536870912)) (m + 1) q)) (eq-eqb r 0 e)

  pub parent_told : r ≢ 0
      → parent_at u r t ≡ cond (odd (get_or u (r - 1) 0 / 536870912)) (get_or u (r - 1) 0 % 536870912 + 1) (get_or t (get_or u (r - 1) 0 % 536870912) 0 % 2147483648)
  unfolding parent_at
  parent_told e = ap (λ (z : Bool). cond z 0 (cond (odd (y / 536870912)) (m + 1) q)) (ne_eqb r 0 e)

  pub parent_straight : r ≢ 0 → odd (get_or u (r - 1) 0 / 536870912) ≡ true → parent_at u r t ≡ get_or u (r - 1) 0 % 536870912 + 1
  parent_straight n e = parent_told n ∙ ap (λ (z : Bool). cond z (m + 1) q) e

  pub parent_turned : r ≢ 0 → odd (get_or u (r - 1) 0 / 536870912) ≡ false → parent_at u r t ≡ get_or t (get_or u (r - 1) 0 % 536870912) 0 % 2147483648
  parent_turned n e = parent_told n ∙ ap (λ (z : Bool). cond z (m + 1) q) e

  abbrev x : ℕ
  x = get_or u r 0

  abbrev put : ℕ
  put = parent_at u r t + one (odd (x / 2147483648)) * 2147483648

  pub decided_yes : odd (get_or u r 0 / 1073741824) ≡ true → decided u r t ≡ set t (get_or u r 0 % 536870912) (parent_at u r t + one (odd (get_or u r 0 / 2147483648)) * 2147483648)
  unfolding decided
  decided_yes e = ap (λ (z : Bool). cond z (set t (x % 536870912) put) t) e

  pub decided_no : odd (get_or u r 0 / 1073741824) ≡ false → decided u r t ≡ t
  unfolding decided
  decided_no e = ap (λ (z : Bool). cond z (set t (x % 536870912) put) t) e
