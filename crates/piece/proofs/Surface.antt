-- The surface of a cell: its corners, its centre and its level lines, with denominators cleared. The point is (u/m, v/m) from the top left corner, and `height` is m² times the surface there. Assumes nothing.
-- Definitions: `height_e` the surface as an expression, for laws that are decided by working both sides out.
-- Main laws: `at_corners` at the corners it is the samples; `height_form` it is p0 + b·x + c·y + d·x·y; `product_form` d times it is s + (d·x + c)·(d·y + b), so it is s/d + d·(x − xs)·(y − ys); `centre_height` at the centre it
--   is s/d, and `centre_level` above or below the level by the sign of (2k+1)·d − 2s, turned over where d is positive; `level_form`, `on_branch` it has the height k + 1/2 exactly where (x − xs)·(y − ys) = δ; `on_corner` where the level meets the saddle, exactly where x = xs or y = ys; `on_straight` where d = 0 it is a plane;
--   `height_turned`, `centre_turned` the corners named from another side are those of the same surface, with the same height at the centre.
use mathlib.Core.Path.{◌≡◌, refl, sym, ap, ◌∙◌}
use mathlib.Core.List.{List, [], ◌∷◌}
use mathlib.Core.Logic.{◌↔◌}
use Prim.Native.Nat.{ℕ, ◌+◌, ◌*◌}
use native.Mathlib.Omega.{arith}
use lib.IntN.{ℤ, pos, neg_ℤ, ◌+ℤ◌, ◌-ℤ◌, ◌*ℤ◌, +ℤ_idr, zero-*ℤ, *ℤ-zero}
use Rattle.piece.specs.Piece.{b, c, d, s, excess}
use Rattle.piece.specs.Surface.{height}
use Rattle.piece.proofs.Ring.{Expr, con, var, plus, times, neg, minus, equal, solve, no_difference, own_difference, no_product}

-- ---- as expressions: variables 0 to 3 are the corners, 4 to 6 are m, u and v, 7 is 2k + 1
abbrev q : ℕ → Expr
q i = var i

-- the surface
abbrev pub height_e : Expr → Expr → Expr → Expr → Expr → Expr → Expr → Expr
height_e p0 p1 p2 p3 m u v =
    plus (plus (plus (times p0 (times (minus m u) (minus m v))) (times p3 (times u (minus m v)))) (times p1 (times (minus m u) v))) (times p2 (times u v))

abbrev b_e : Expr
b_e = minus (q 3) (q 0)

abbrev c_e : Expr
c_e = minus (q 1) (q 0)

abbrev d_e : Expr
d_e = minus (plus (q 0) (q 2)) (plus (q 1) (q 3))

abbrev s_e : Expr
s_e = minus (times (q 0) (q 2)) (times (q 1) (q 3))

abbrev m_e : Expr
m_e = q 4

abbrev u_e : Expr
u_e = q 5

abbrev v_e : Expr
v_e = q 6

abbrev at_e : Expr → Expr → Expr → Expr
at_e = height_e (q 0) (q 1) (q 2) (q 3)

-- (d·u + c·m)·(d·v + b·m), which is d²·m²·(x − xs)·(y − ys)
abbrev spread_e : Expr
spread_e = times (plus (times d_e u_e) (times c_e m_e)) (plus (times d_e v_e) (times b_e m_e))

module _ (p0 p1 p2 p3 : ℕ) (m : ℤ) where
  pub at_corners : (height p0 p1 p2 p3 m (pos 0) (pos 0) ≡ pos p0 *ℤ (m *ℤ m)) × (height p0 p1 p2 p3 m (pos 0) m ≡ pos p1 *ℤ (m *ℤ m))
      × (height p0 p1 p2 p3 m m m ≡ pos p2 *ℤ (m *ℤ m)) × (height p0 p1 p2 p3 m m (pos 0) ≡ pos p3 *ℤ (m *ℤ m))
  unfolding equal
  at_corners =
      let xs = pos p0 ∷ pos p1 ∷ pos p2 ∷ pos p3 ∷ m ∷ [] in
      let o = con (pos 0) in (
        solve xs (at_e m_e o o) (times (q 0) (times m_e m_e)) refl,
        solve xs (at_e m_e o m_e) (times (q 1) (times m_e m_e)) refl,
        solve xs (at_e m_e m_e m_e) (times (q 2) (times m_e m_e)) refl,
        solve xs (at_e m_e m_e o) (times (q 3) (times m_e m_e)) refl,
      )

  module _ (u v : ℤ) where
    abbrev given : List ℤ
    given = pos p0 ∷ pos p1 ∷ pos p2 ∷ pos p3 ∷ m ∷ u ∷ v ∷ []

    pub height_form : height p0 p1 p2 p3 m u v ≡ pos p0 *ℤ (m *ℤ m) +ℤ b p0 p1 p2 p3 *ℤ (u *ℤ m) +ℤ c p0 p1 p2 p3 *ℤ (v *ℤ m) +ℤ d p0 p1 p2 p3 *ℤ (u *ℤ v)
    unfolding equal
    height_form =
        solve given (at_e m_e u_e v_e) (plus (plus (plus (times (q 0) (times m_e m_e)) (times b_e (times u_e m_e))) (times c_e (times v_e m_e))) (times d_e (times u_e v_e))) refl

    pub product_form : d p0 p1 p2 p3 *ℤ height p0 p1 p2 p3 m u v
        ≡ s p0 p1 p2 p3 *ℤ (m *ℤ m) +ℤ (d p0 p1 p2 p3 *ℤ u +ℤ c p0 p1 p2 p3 *ℤ m) *ℤ (d p0 p1 p2 p3 *ℤ v +ℤ b p0 p1 p2 p3 *ℤ m)
    unfolding equal
    product_form = solve given (times d_e (at_e m_e u_e v_e)) (plus (times s_e (times m_e m_e)) spread_e) refl

    pub on_straight : d p0 p1 p2 p3 ≡ pos 0 → height p0 p1 p2 p3 m u v ≡ pos p0 *ℤ (m *ℤ m) +ℤ b p0 p1 p2 p3 *ℤ (u *ℤ m) +ℤ c p0 p1 p2 p3 *ℤ (v *ℤ m)
    on_straight e =
        let plane = pos p0 *ℤ (m *ℤ m) +ℤ b p0 p1 p2 p3 *ℤ (u *ℤ m) +ℤ c p0 p1 p2 p3 *ℤ (v *ℤ m) in
        height_form ∙ ap (λ (z : ℤ). plane +ℤ z *ℤ (u *ℤ v)) e ∙ ap (λ (z : ℤ). plane +ℤ z) (zero-*ℤ (u *ℤ v)) ∙ +ℤ_idr plane

    -- the corners named from the left side, and the point as it lies from there
    pub height_turned : height p1 p2 p3 p0 m (m -ℤ v) u ≡ height p0 p1 p2 p3 m u v
    unfolding equal
    height_turned = solve given (height_e (q 1) (q 2) (q 3) (q 0) m_e (minus m_e v_e) u_e) (at_e m_e u_e v_e) refl

    module _ (k : ℕ) where
      -- twice the height against the level, times d
      pub level_form : d p0 p1 p2 p3 *ℤ (pos 2 *ℤ height p0 p1 p2 p3 m u v -ℤ pos (2 * k + 1) *ℤ (m *ℤ m))
          ≡ pos 2 *ℤ ((d p0 p1 p2 p3 *ℤ u +ℤ c p0 p1 p2 p3 *ℤ m) *ℤ (d p0 p1 p2 p3 *ℤ v +ℤ b p0 p1 p2 p3 *ℤ m)) -ℤ excess p0 p1 p2 p3 k *ℤ (m *ℤ m)
      unfolding equal
      level_form =
          solve (pos p0 ∷ pos p1 ∷ pos p2 ∷ pos p3 ∷ m ∷ u ∷ v ∷ pos (2 * k + 1) ∷ [])
          (times d_e (minus (times (con (pos 2)) (at_e m_e u_e v_e)) (times (q 7) (times m_e m_e))))
          (minus (times (con (pos 2)) spread_e) (times (minus (times (q 7) d_e) (times (con (pos 2)) s_e)) (times m_e m_e))) refl

      -- the surface has the height k + 1/2 at the point exactly if the point is on the branch
      pub on_branch : (d p0 p1 p2 p3 ≡ pos 0 → ⊥)
          → (pos 2 *ℤ height p0 p1 p2 p3 m u v ≡ pos (2 * k + 1) *ℤ (m *ℤ m))
          ↔ (pos 2 *ℤ ((d p0 p1 p2 p3 *ℤ u +ℤ c p0 p1 p2 p3 *ℤ m) *ℤ (d p0 p1 p2 p3 *ℤ v +ℤ b p0 p1 p2 p3 *ℤ m)) ≡ excess p0 p1 p2 p3 k *ℤ (m *ℤ m))
      on_branch n =
          let D = d p0 p1 p2 p3 in
          let x = pos 2 *ℤ height p0 p1 p2 p3 m u v in
          let y = pos (2 * k + 1) *ℤ (m *ℤ m) in
          let z = pos 2 *ℤ ((D *ℤ u +ℤ c p0 p1 p2 p3 *ℤ m) *ℤ (D *ℤ v +ℤ b p0 p1 p2 p3 *ℤ m)) in
          let w = excess p0 p1 p2 p3 k *ℤ (m *ℤ m) in (
            λ e. no_difference z w (sym level_form ∙ ap (λ (i : ℤ). D *ℤ i) (own_difference x y e) ∙ *ℤ-zero D),
            λ e. no_difference x y (no_product D (x -ℤ y) n (level_form ∙ own_difference z w e)),
          )

      -- where the level meets the saddle, exactly if the point is above or below, or beside, the centre
      pub on_corner : (d p0 p1 p2 p3 ≡ pos 0 → ⊥) → excess p0 p1 p2 p3 k ≡ pos 0
          → (pos 2 *ℤ height p0 p1 p2 p3 m u v ≡ pos (2 * k + 1) *ℤ (m *ℤ m))
          ↔ ((d p0 p1 p2 p3 *ℤ u +ℤ c p0 p1 p2 p3 *ℤ m) *ℤ (d p0 p1 p2 p3 *ℤ v +ℤ b p0 p1 p2 p3 *ℤ m) ≡ pos 0)
      on_corner n e =
          let p = (d p0 p1 p2 p3 *ℤ u +ℤ c p0 p1 p2 p3 *ℤ m) *ℤ (d p0 p1 p2 p3 *ℤ v +ℤ b p0 p1 p2 p3 *ℤ m) in
          let t : excess p0 p1 p2 p3 k *ℤ (m *ℤ m) ≡ pos 0 = ap (λ (i : ℤ). i *ℤ (m *ℤ m)) e ∙ zero-*ℤ (m *ℤ m) in (
            λ h. no_product (pos 2) p two ((on_branch n).0 h ∙ t),
            λ h. (on_branch n).1 (ap (λ (i : ℤ). pos 2 *ℤ i) h ∙ *ℤ-zero (pos 2) ∙ sym t),
          )
        where
          two : pos 2 ≡ pos 0 → ⊥
          two r = let z : ◌≡◌ {A = ℕ} 2 0 = cc in omega arith

-- at the centre, which is (−c/d, −b/d)
pub centre_height : (p0 p1 p2 p3 : ℕ) → height p0 p1 p2 p3 (d p0 p1 p2 p3) (neg_ℤ (c p0 p1 p2 p3)) (neg_ℤ (b p0 p1 p2 p3)) ≡ s p0 p1 p2 p3 *ℤ d p0 p1 p2 p3
unfolding equal
centre_height p0 p1 p2 p3 = solve (pos p0 ∷ pos p1 ∷ pos p2 ∷ pos p3 ∷ []) (at_e d_e (neg c_e) (neg b_e)) (times s_e d_e) refl

-- and against the level
pub centre_level : (p0 p1 p2 p3 k : ℕ)
    → pos 2 *ℤ height p0 p1 p2 p3 (d p0 p1 p2 p3) (neg_ℤ (c p0 p1 p2 p3)) (neg_ℤ (b p0 p1 p2 p3)) -ℤ pos (2 * k + 1) *ℤ (d p0 p1 p2 p3 *ℤ d p0 p1 p2 p3)
    ≡ neg_ℤ (d p0 p1 p2 p3) *ℤ excess p0 p1 p2 p3 k
unfolding equal
centre_level p0 p1 p2 p3 k =
    let x = con (pos 2) in
    solve (pos p0 ∷ pos p1 ∷ pos p2 ∷ pos p3 ∷ pos (2 * k + 1) ∷ []) (minus (times x (at_e d_e (neg c_e) (neg b_e))) (times (q 4) (times d_e d_e))) (times (neg d_e) (minus (times (q 4) d_e) (times x s_e))) refl

-- the same from every side: d and s both change sign with a quarter turn
pub centre_turned : (p0 p1 p2 p3 k : ℕ)
    → pos 2 *ℤ height p1 p2 p3 p0 (d p1 p2 p3 p0) (neg_ℤ (c p1 p2 p3 p0)) (neg_ℤ (b p1 p2 p3 p0)) -ℤ pos (2 * k + 1) *ℤ (d p1 p2 p3 p0 *ℤ d p1 p2 p3 p0)
    ≡ pos 2 *ℤ height p0 p1 p2 p3 (d p0 p1 p2 p3) (neg_ℤ (c p0 p1 p2 p3)) (neg_ℤ (b p0 p1 p2 p3)) -ℤ pos (2 * k + 1) *ℤ (d p0 p1 p2 p3 *ℤ d p0 p1 p2 p3)
unfolding equal
centre_turned p0 p1 p2 p3 k =
    let x = con (pos 2) in
    let y = minus (plus (q 1) (q 3)) (plus (q 2) (q 0)) in
    solve (pos p0 ∷ pos p1 ∷ pos p2 ∷ pos p3 ∷ pos (2 * k + 1) ∷ [])
    (minus (times x (height_e (q 1) (q 2) (q 3) (q 0) y (neg (minus (q 2) (q 1))) (neg (minus (q 0) (q 1))))) (times (q 4) (times y y)))
    (minus (times x (at_e d_e (neg c_e) (neg b_e))) (times (q 4) (times d_e d_e))) refl
