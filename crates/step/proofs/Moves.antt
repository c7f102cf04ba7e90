-- The table of moves, and the place one move on. Assumes nothing.
-- Definitions: `table` the moves as the code has them, `entry_of` one of them; `whole` a signed number as the machine reads it back; `Moved` what a place plus a move is.
-- Main laws: `moves` each entry of the table is the paper's move; `moved` the place plus the move is the place ahead, and no sum or product leaves its type.
use mathlib.Core.Path.{◌≡◌, refl, ap, sym, subst, ◌∙◌}
use mathlib.Core.Bool.{Bool, cond}
use mathlib.Core.List.{List, [], ◌∷◌}
use Prim.Native.Nat.{ℕ, zero, suc, ◌+◌, ◌*◌, ◌-◌, ◌≤◌, ◌<◌}
use native.Mathlib.Omega.{arith}
use lib.Dec.{T}
use lib.IntN.{ℤ, pos, negsuc, neg_ℤ, nat_abs, ◌+ℤ◌, ◌*ℤ◌}
use lib.ListN.{get_or}
use lib.Signed.{non_neg}
use borrow.Author.Tests.{le-ltb}
use mir.Syntax.{w64}
use mir.Val.{Fits, SFits, to_z, of_z}
use mir.ValLaws.{to_z-of_z, to_z_pos}
use Rattle.edgel.specs.declared.Heading.{Heading}
use Rattle.edgel.specs.declared.Heading.TheVariants.{South, East, North, West}
use Rattle.matte.specs.Picture.{most_places}
use Rattle.edgel.specs.Heading.{left, number, dx, dy, ahead}
use Rattle.step.specs.declared.Move.{Move}

abbrev pub table : List Move
table = record { dx = pos 0; dy = pos 1 } ∷ record { dx = pos 1; dy = pos 0 } ∷ record { dx = pos 0; dy = negsuc 0 } ∷ record { dx = negsuc 0; dy = pos 0 } ∷ []

abbrev pub entry_of : ℕ → Move
entry_of n = get_or table n (record { dx = pos 0; dy = pos 0 })

-- the table is the paper's (01, Following a line)
pub moves : (g : Heading) → ((entry_of (number g)).dx ≡ dx g) × ((entry_of (number g)).dy ≡ dy g)
moves South = (refl, refl)
moves East = (refl, refl)
moves North = (refl, refl)
moves West = (refl, refl)

abbrev pub whole : ℤ → ℤ
whole z = to_z w64 (of_z w64 z)

whole_dx : (g : Heading) → whole (dx g) ≡ dx g
whole_dx South = refl
whole_dx East = refl
whole_dx North = refl
whole_dx West = refl

whole_dy : (g : Heading) → whole (dy g) ≡ dy g
whole_dy South = refl
whole_dy East = refl
whole_dy North = refl
whole_dy West = refl

-- i, x, y and v are the place, the move and the width as the machine reads them
pub record Moved (n : ℕ) (i x y v : ℤ) : Type 0 where
  pub across : SFits w64 (i +ℤ x)
  pub down : SFits w64 (y *ℤ v)
  pub sum : SFits w64 (whole (i +ℤ x) +ℤ whole (y *ℤ v))
  pub kept : T (non_neg (whole (whole (i +ℤ x) +ℤ whole (y *ℤ v)))) × Fits w64 (nat_abs (whole (whole (i +ℤ x) +ℤ whole (y *ℤ v))))
  pub place : nat_abs (whole (whole (i +ℤ x) +ℤ whole (y *ℤ v))) ≡ n

summed : (n : ℕ) (a b : ℤ) → SFits w64 a → SFits w64 b → SFits w64 (pos n) → a +ℤ b ≡ pos n → whole (whole a +ℤ whole b) ≡ pos n
summed n a b fa fb fn s = ap (λ (z : ℤ). whole (z +ℤ whole b)) (to_z-of_z w64 a fa) ∙ ap (λ (z : ℤ). whole (a +ℤ z)) (to_z-of_z w64 b fb) ∙ ap whole s ∙ to_z-of_z w64 (pos n) fn

steps : (n : ℕ) (i x y v a b : ℤ) → SFits w64 a → SFits w64 b → SFits w64 (pos n) → i +ℤ x ≡ a → y *ℤ v ≡ b → a +ℤ b ≡ pos n → Moved n i x y v
steps n i x y v a b fa fb fn p q s =
    let fp = subst (SFits w64) (sym p) fa in
    let fq = subst (SFits w64) (sym q) fb in
    let e : (i +ℤ x) +ℤ (y *ℤ v) ≡ pos n = ap (λ (z : ℤ). z +ℤ (y *ℤ v)) p ∙ ap (λ (z : ℤ). a +ℤ z) q ∙ s in
    let t = summed n (i +ℤ x) (y *ℤ v) fp fq fn e in
    record {
      across = fp;
      down = fq;
      sum = subst (SFits w64) (sym (ap (λ (z : ℤ). z +ℤ whole (y *ℤ v)) (to_z-of_z w64 (i +ℤ x) fp) ∙ ap (λ (z : ℤ). (i +ℤ x) +ℤ z) (to_z-of_z w64 (y *ℤ v) fq) ∙ e)) fn;
      kept = (subst (λ (z : ℤ). T (non_neg z)) (sym t) tt, subst (λ (z : ℤ). Fits w64 (nat_abs z)) (sym t) (record { fits = omega (arith, fn.sfits) }));
      place = ap nat_abs t;
    }

small : (n : ℕ) → n < 9223372036854775808 → SFits w64 (pos n)
small n h = record { sfits = h }

taken : (a n : ℕ) → suc n ≤ a → pos a +ℤ negsuc n ≡ pos (a - suc n)
taken a n h = ap (λ (t : Bool). cond t (negsuc (suc n - suc a)) (pos (a - suc n))) (le-ltb a (suc n) h)

minus_one : (n : ℕ) → negsuc 0 *ℤ pos (suc n) ≡ negsuc n
minus_one n = ap (λ (m : ℕ). neg_ℤ (pos m)) (let e : 1 * suc n ≡ suc n = omega arith in e)

-- the move must be one that can be taken back
plainly : (w : ℕ) (g : Heading) (i : ℕ) → w ≤ 2048 → i < most_places → ahead w (left (left g)) (ahead w g i) ≡ i → Moved (ahead w g i) (pos i) (dx g) (dy g) (pos w)
plainly w South i hw hi e = steps (i + w) (pos i) (pos 0) (pos 1) (pos w) (pos i) (pos w) (small i (omega arith)) (small w (omega arith)) (small (i + w) (omega arith)) (ap pos (omega arith)) (ap pos (omega arith)) refl
plainly w East i hw hi e = steps (i + 1) (pos i) (pos 1) (pos 0) (pos w) (pos (i + 1)) (pos 0) (small (i + 1) (omega arith)) (small 0 (omega arith)) (small (i + 1) (omega arith)) refl (ap pos (omega arith)) (ap pos (omega arith))
plainly zero North i hw hi e = steps (i - 0) (pos i) (pos 0) (negsuc 0) (pos 0) (pos i) (pos 0) (small i (omega arith)) (small 0 (omega arith)) (small (i - 0) (omega arith)) (ap pos (omega arith)) refl (ap pos (omega arith))
plainly (suc w) North i hw hi e = steps (i - suc w) (pos i) (pos 0) (negsuc 0) (pos (suc w)) (pos i) (negsuc w) (small i (omega arith)) (record { sfits = omega arith }) (small (i - suc w) (omega arith)) (ap pos (omega arith)) (minus_one w) (taken i w (omega arith))
plainly w West i hw hi e = steps (i - 1) (pos i) (negsuc 0) (pos 0) (pos w) (pos (i - 1)) (pos 0) (small (i - 1) (omega arith)) (small 0 (omega arith)) (small (i - 1) (omega arith)) (taken i 0 (omega arith)) (ap pos (omega arith)) (ap pos (omega arith))

-- from the move as the table gives it, and the place and the width as the code casts them
pub moved : (w : ℕ) (g : Heading) (i : ℕ) (x y : ℤ) → x ≡ dx g → y ≡ dy g → w ≤ 2048 → i < most_places → ahead w (left (left g)) (ahead w g i) ≡ i
    → Moved (ahead w g i) (to_z w64 i) (whole x) (whole y) (to_z w64 w)
moved w g i x y p q hw hi e =
    let ex : whole x ≡ dx g = ap whole p ∙ whole_dx g in
    let ey : whole y ≡ dy g = ap whole q ∙ whole_dy g in
    subst (λ (z : ℤ). Moved (ahead w g i) z (whole x) (whole y) (to_z w64 w)) (sym (to_z_pos w64 i (omega arith)))
    (subst (λ (z : ℤ). Moved (ahead w g i) (pos i) z (whole y) (to_z w64 w)) (sym ex)
    (subst (λ (z : ℤ). Moved (ahead w g i) (pos i) (dx g) z (to_z w64 w)) (sym ey)
    (subst (λ (z : ℤ). Moved (ahead w g i) (pos i) (dx g) (dy g) z) (sym (to_z_pos w64 w (omega arith))) (plainly w g i hw hi e))))
