-- Which piece it is, by the paper's conditions over whole numbers, and when it is refused. Assumes nothing.
-- Main laws: `straight_flat`, `straight_outside`, `corner_met`, `branch_else` the four cases, which exclude each other and leave none out; `met_cases` so every piece is one of them;
--   `never_refused`, `refused_if`, `refused_only` the piece is the refused case exactly if the number is not 0; `corner_told` what a corner says of the cell; `excess_zero`, `zero_excess` the excess
--   is 0 exactly if (2k+1)·d is 2s.
use mathlib.Core.Path.{◌≡◌, refl, sym, ap, ◌∙◌}
use mathlib.Core.Bool.{true, false}
use Prim.Native.Nat.{ℕ, ◌+◌, ◌*◌}
use native.Mathlib.Omega.{arith}
use lib.Dec.{eqb}
use lib.IntN.{ℤ, pos, negsuc, ◌+ℤ◌, ◌-ℤ◌, ◌*ℤ◌, +ℤ_idl, +ℤ_invr, -ℤ-+ℤ_cancel}
use borrow.Author.Tests.{eqb-true, eqb-false}
use Rattle.tally.proofs.Test.{by_test, no}
use Rattle.refuse.specs.declared.Answer.{Answer}
use Rattle.refuse.specs.Refusal.{Verdict}
use Rattle.matte.specs.Layout.{eight}
use Rattle.matte.specs.Picture.{Picture, at}
use Rattle.refuse.specs.Refusal.{answer}
use Rattle.refuse.proofs.Rows.{done_answer, refused_answer, done_after, refused_after}
use Rattle.piece.specs.declared.Piece.TheVariants.{Refused, Straight, Corner, Branch}
use Rattle.piece.specs.Piece.{is_zero, d, s, inside, centre, excess, delta, Case, case_of, piece_of, piece_verdict, piece_answer, cell_at}

-- ---- whole numbers
zero_is : (z : ℤ) → is_zero z ≡ true → z ≡ pos 0
zero_is (pos n) e = ap pos (eqb-true n 0 e)
zero_is (negsuc n) e = no e refl

is_zero_lem : (z : ℤ) → z ≡ pos 0 → is_zero z ≡ true
is_zero_lem z e = ap is_zero e

not_zero : (z : ℤ) → (z ≡ pos 0 → ⊥) → is_zero z ≡ false
not_zero z q = by_test (is_zero z) (λ t. absurd (q (zero_is z t))) (λ t. t)

equal : (a b : ℤ) → a -ℤ b ≡ pos 0 → a ≡ b
equal a b e = sym (-ℤ-+ℤ_cancel a b) ∙ ap (λ (z : ℤ). z +ℤ b) e ∙ +ℤ_idl b

module _ (p0 p1 p2 p3 k : ℕ) where
  -- the level meets the saddle (01, The piece in one cell)
  abbrev pub Meets : Type 0
  Meets = pos (2 * k + 1) *ℤ d p0 p1 p2 p3 ≡ pos 2 *ℤ s p0 p1 p2 p3

  pub excess_zero : Meets → excess p0 p1 p2 p3 k ≡ pos 0
  excess_zero e = ap (λ (z : ℤ). z -ℤ (pos 2 *ℤ s p0 p1 p2 p3)) e ∙ +ℤ_invr (pos 2 *ℤ s p0 p1 p2 p3)

  pub zero_excess : excess p0 p1 p2 p3 k ≡ pos 0 → Meets
  zero_excess e = equal (pos (2 * k + 1) *ℤ d p0 p1 p2 p3) (pos 2 *ℤ s p0 p1 p2 p3) e

  -- straight, if d = 0
  pub straight_flat : d p0 p1 p2 p3 ≡ pos 0 → piece_of p0 p1 p2 p3 k ≡ case_of Straight
  unfolding piece_of
  straight_flat e = rw (is_zero_lem (d p0 p1 p2 p3) e)

  module _ (f : d p0 p1 p2 p3 ≡ pos 0 → ⊥) where
    -- or if the saddle is met and the centre is outside
    pub straight_outside : Meets → inside p0 p1 p2 p3 ≡ false → piece_of p0 p1 p2 p3 k ≡ case_of Straight
    unfolding piece_of
    straight_outside m i = rw (not_zero (d p0 p1 p2 p3) f, is_zero_lem (excess p0 p1 p2 p3 k) (excess_zero m), i)

    -- a corner, if it is met and the centre is inside
    pub corner_met : Meets → inside p0 p1 p2 p3 ≡ true → piece_of p0 p1 p2 p3 k ≡ case_of (Corner (centre p0 p1 p2 p3))
    unfolding piece_of
    corner_met m i = rw (not_zero (d p0 p1 p2 p3) f, is_zero_lem (excess p0 p1 p2 p3 k) (excess_zero m), i)

    -- else a branch
    pub branch_else : (Meets → ⊥) → piece_of p0 p1 p2 p3 k ≡ case_of (Branch (centre p0 p1 p2 p3) (delta p0 p1 p2 p3 k))
    unfolding piece_of
    branch_else m = rw (not_zero (d p0 p1 p2 p3) f, not_zero (excess p0 p1 p2 p3 k) (λ e. m (zero_excess e)))

  -- what holds in each of the four cases holds
  pub met_cases : {Q : Type 0} → (d p0 p1 p2 p3 ≡ pos 0 → Q) → ((d p0 p1 p2 p3 ≡ pos 0 → ⊥) → Meets → inside p0 p1 p2 p3 ≡ false → Q)
      → ((d p0 p1 p2 p3 ≡ pos 0 → ⊥) → Meets → inside p0 p1 p2 p3 ≡ true → Q) → ((d p0 p1 p2 p3 ≡ pos 0 → ⊥) → (Meets → ⊥) → Q) → Q
  met_cases a b c e =
      by_test (is_zero (d p0 p1 p2 p3)) (λ t. a (zero_is (d p0 p1 p2 p3) t))
      (λ t.
      let f : d p0 p1 p2 p3 ≡ pos 0 → ⊥ = λ z. no (is_zero_lem (d p0 p1 p2 p3) z) t in
      by_test (is_zero (excess p0 p1 p2 p3 k))
      (λ u.
      let m : Meets = zero_excess (zero_is (excess p0 p1 p2 p3 k) u) in
      by_test (inside p0 p1 p2 p3) (λ i. c f m i) (λ i. b f m i))
      (λ u. e f (λ m. no (is_zero_lem (excess p0 p1 p2 p3 k) (excess_zero m)) u)))

  pub never_refused : (piece_of p0 p1 p2 p3 k).number ≡ 0 → ⊥
  never_refused z =
      met_cases
      (λ a. omega (arith, sym (ap (λ (v : Case). v.number) (straight_flat a)) ∙ z))
      (λ a m i. omega (arith, sym (ap (λ (v : Case). v.number) (straight_outside a m i)) ∙ z))
      (λ a m i. omega (arith, sym (ap (λ (v : Case). v.number) (corner_met a m i)) ∙ z))
      (λ a m. omega (arith, sym (ap (λ (v : Case). v.number) (branch_else a m)) ∙ z))

  pub record CornerTold : Type 0 where
    pub bent : d p0 p1 p2 p3 ≡ pos 0 → ⊥
    pub meets : Meets
    pub within : inside p0 p1 p2 p3 ≡ true

  pub corner_told : (piece_of p0 p1 p2 p3 k).number ≡ 2 → CornerTold
  corner_told z =
      met_cases
      (λ a. absurd (omega (arith, sym (ap (λ (v : Case). v.number) (straight_flat a)) ∙ z)))
      (λ a m i. absurd (omega (arith, sym (ap (λ (v : Case). v.number) (straight_outside a m i)) ∙ z)))
      (λ a m i. record { bent = a; meets = m; within = i })
      (λ a m. absurd (omega (arith, sym (ap (λ (v : Case). v.number) (branch_else a m)) ∙ z)))

-- ---- the call
number_is : (v : Verdict) → (answer v 0 0).number ≡ v.number
number_is v = by_test (eqb v.number 0) (λ t. done_number v (eqb-true _ _ t)) (λ t. refused_number v (eqb-false _ _ t))
  where
    done_number : (v : Verdict) → v.number ≡ 0 → (answer v 0 0).number ≡ v.number
    done_number v z = ap (λ (a : Answer). a.number) (done_answer v 0 0 z) ∙ sym z

    refused_number : (v : Verdict) → (v.number ≡ 0 → ⊥) → (answer v 0 0).number ≡ v.number
    refused_number v z = ap (λ (a : Answer). a.number) (refused_answer v 0 0 z)

module _ (P : Picture) (k x y : ℕ) where
  abbrev found : Case
  found =
      let t = cell_at P k x y in
      piece_of (at P t) (at P (t + P.w)) (at P (t + P.w + 1)) (at P (t + 1)) k

  -- the answer's number is not 0: the refused case (01, Numbers for a refused call)
  pub refused_if : ((piece_answer eight P k x y).answer.number ≡ 0 → ⊥) → (piece_answer eight P k x y).piece ≡ case_of Refused
  refused_if z = refused_after (piece_verdict eight P k x y) (case_of Refused) found (λ e. z (number_is (piece_verdict eight P k x y) ∙ e))

  -- and only then
  pub refused_only : (piece_answer eight P k x y).piece ≡ case_of Refused → (piece_answer eight P k x y).answer.number ≡ 0 → ⊥
  refused_only e z =
      let t = cell_at P k x y in
      let n : (piece_verdict eight P k x y).number ≡ 0 = sym (number_is (piece_verdict eight P k x y)) ∙ z in
      never_refused (at P t) (at P (t + P.w)) (at P (t + P.w + 1)) (at P (t + 1)) k
      (ap (λ (v : Case). v.number) (sym (done_after (piece_verdict eight P k x y) (case_of Refused) found n) ∙ e))
