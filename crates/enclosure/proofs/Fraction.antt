-- The order of positions as whole numbers is that of the exact fractions, column + gap/span. Assumes nothing.
-- Definitions: `gap`, `span` the crossing's fraction of the way from the left end of its edgel, not reduced; `over P k c` the numerator of column + gap/span over span. The order of two fractions is
--   decided by cross-multiplication.
-- Main laws: `gap_inside` a crossing is strictly between the ends; `gap_order` on one edgel, where span is the same, the order is that of gap; `by_column` a crossing in a lower column is left of
--   one in a higher column; `key_order` on a row the keys are ordered as the fractions; `key_once` no two crossings of a row have equal fractions.
use mathlib.Core.Path.{◌≡◌, sym, ap, ◌∙◌}
use mathlib.Core.Bool.{true, false, not}
use Prim.Native.Nat.{ℕ, suc, ◌+◌, ◌*◌, ◌/◌, ◌≤◌, ◌<◌}
use native.Mathlib.Nat.{mul-le-mul_right, mul-lt-mul_of_pos_right, mul_right_comm}
use native.Mathlib.Omega.{arith}
use lib.Dec.{ltb}
use borrow.Author.Tests.{ltb-true, ltb-false, lt-ltb, le-ltb}
use Rattle.tally.specs.Tally.{apart}
use Rattle.tally.proofs.Test.{by_test, no, differ_low, differ_high}
use Rattle.matte.specs.Picture.{Picture, at, high}
use Rattle.edgel.specs.Edgel.{horizontal, first, second, column, row}
use Rattle.outline.specs.Line.{cut_at}
use Rattle.enclosure.specs.Position.{rises, key}
use Rattle.enclosure.proofs.Order.{key_lt, key_inj, key_rise, key_fall, rises_is, flat_differ, apart_row}

module _ (P : Picture) where
  -- gap = |2k + 1 − 2·the left sample|, span = 2·|difference of the ends|
  abbrev pub gap : ℕ → ℕ → ℕ
  gap k c = apart (2 * k + 1) (2 * at P (first c))

  abbrev pub span : ℕ → ℕ
  span c = 2 * apart (at P (first c)) (at P (second P.w c))

  -- column + gap/span = over/span
  abbrev pub over : ℕ → ℕ → ℕ
  over k c = column P.w c * span c + gap k c

  span_flat : (c : ℕ) → horizontal c ≡ true → span c ≡ 2 * apart (at P (c / 2)) (at P (c / 2 + 1))
  span_flat c f = rw f

  pub gap_inside : (k c : ℕ) → horizontal c ≡ true → cut_at P k c ≡ true → (0 < gap k c) × (gap k c < span c)
  gap_inside k c f o =
      let e = flat_differ P 0 k c f o in
      let z : span c ≡ 2 * apart (at P (c / 2)) (at P (c / 2 + 1)) = span_flat c f in
      by_test (high P k (c / 2))
      (λ y.
      let a : k < at P (c / 2) = ltb-true k (at P (c / 2)) y in
      let b : at P (c / 2 + 1) ≤ k = ltb-false k (at P (c / 2 + 1)) (differ_high _ _ y e) in
      (omega arith, omega arith))
      (λ y.
      let a : at P (c / 2) ≤ k = ltb-false k (at P (c / 2)) y in
      let b : k < at P (c / 2 + 1) = ltb-true k (at P (c / 2 + 1)) (differ_low _ _ y e) in
      (omega arith, omega arith))

  module _ (W : ℕ) where
    -- one edgel
    pub gap_order : (j k c : ℕ) → j < W → k < W → horizontal c ≡ true → cut_at P j c ≡ true → cut_at P k c ≡ true → ltb (key P W j c) (key P W k c) ≡ ltb (gap j c) (gap k c)
    gap_order j k c a b f o p =
        by_test (high P k (c / 2))
        (λ e.
        let r : rises P W c ≡ false = rises_is P W k c f p ∙ ap not e in
        let s : high P j (c / 2) ≡ true = by_test (high P j (c / 2)) (λ y. y) (λ y. no (rises_is P W j c f o ∙ ap not y) r) in
        let x : j < at P (c / 2) = ltb-true j _ s in
        let y : k < at P (c / 2) = ltb-true k _ e in
        key_fall P W j k c a b r
        ∙ by_test (ltb k j)
        (λ t. t ∙ sym (lt-ltb (gap j c) (gap k c) (omega (arith, ltb-true k j t))))
        (λ t. t ∙ sym (le-ltb (gap j c) (gap k c) (omega (arith, ltb-false k j t)))))
        (λ e.
        let r : rises P W c ≡ true = rises_is P W k c f p ∙ ap not e in
        let s : high P j (c / 2) ≡ false = by_test (high P j (c / 2)) (λ y. no r (rises_is P W j c f o ∙ ap not y)) (λ y. y) in
        let x : at P (c / 2) ≤ j = ltb-false j _ s in
        let y : at P (c / 2) ≤ k = ltb-false k _ e in
        key_rise P W j k c r
        ∙ by_test (ltb j k)
        (λ t. t ∙ sym (lt-ltb (gap j c) (gap k c) (omega (arith, ltb-true j k t))))
        (λ t. t ∙ sym (le-ltb (gap j c) (gap k c) (omega (arith, ltb-false j k t)))))

  -- different columns: x·D + n < (x + 1)·D for n < D
  steeper : (x y n m D E : ℕ) → x < y → n < D → 0 < E → (x * D + n) * E < (y * E + m) * D
  steeper x y n m D E l a b =
      let c : suc x * D ≤ y * D = mul-le-mul_right D l in
      let d : (x * D + n) * E < y * D * E = mul-lt-mul_of_pos_right (omega arith) b in
      let e : y * D * E ≡ y * E * D = mul_right_comm y D E in
      let g : y * E * D ≤ (y * E + m) * D = mul-le-mul_right D (omega arith) in
      omega arith

  pub by_column : (j k d c : ℕ) → horizontal d ≡ true → cut_at P j d ≡ true → horizontal c ≡ true → cut_at P k c ≡ true → column P.w d < column P.w c
      → over j d * span c < over k c * span d
  by_column j k d c g p f o l =
      let x = gap_inside j d g p in
      let y = gap_inside k c f o in
      steeper (column P.w d) (column P.w c) (gap j d) (gap k c) (span d) (span c) l x.1 (omega (arith, y.1))

  -- one edgel: the same span
  same_span : (j k c : ℕ) → horizontal c ≡ true → cut_at P k c ≡ true → ltb (over j c * span c) (over k c * span c) ≡ ltb (gap j c) (gap k c)
  same_span j k c f o =
      let D = span c in
      let x = column P.w c * D in
      let p : 0 < D = omega (arith, (gap_inside k c f o).1) in
      by_test (ltb (gap j c) (gap k c))
      (λ t.
      let l : gap j c < gap k c = ltb-true _ _ t in
      let m : (x + gap j c) * D < (x + gap k c) * D = mul-lt-mul_of_pos_right (omega arith) p in
      lt-ltb ((x + gap j c) * D) ((x + gap k c) * D) m ∙ sym t)
      (λ t.
      let l : gap k c ≤ gap j c = ltb-false _ _ t in
      let m : (x + gap k c) * D ≤ (x + gap j c) * D = mul-le-mul_right D (omega arith) in
      le-ltb ((x + gap j c) * D) ((x + gap k c) * D) m ∙ sym t)

  module _ (W j k d c : ℕ) (a : j < W) (b : k < W) (g : horizontal d ≡ true) (p : cut_at P j d ≡ true) (f : horizontal c ≡ true) (o : cut_at P k c ≡ true) (r : row P.w d ≡ row P.w c) where
    -- LAW: the crossing of level j on d is left of that of level k on c exactly if its fraction is less
    pub key_order : ltb (key P W j d) (key P W k c) ≡ ltb (over j d * span c) (over k c * span d)
    key_order =
        let s = apart_row P.w d c g f r in
        by_test (ltb (column P.w d) (column P.w c))
        (λ t.
        let l : column P.w d < column P.w c = ltb-true _ _ t in
        lt-ltb (key P W j d) (key P W k c) (key_lt P W j k d c a (omega arith)) ∙ sym (lt-ltb (over j d * span c) (over k c * span d) (by_column j k d c g p f o l)))
        (λ t. by_test (ltb (column P.w c) (column P.w d))
        (λ u.
        let l : column P.w c < column P.w d = ltb-true _ _ u in
        let x : key P W k c < key P W j d = key_lt P W k j c d b (omega arith) in
        let y : over k c * span d < over j d * span c = by_column k j c d f o g p l in
        le-ltb (key P W j d) (key P W k c) (omega arith) ∙ sym (le-ltb (over j d * span c) (over k c * span d) (omega arith)))
        (λ u.
        let z : d ≡ c = omega (arith, ltb-false (column P.w d) (column P.w c) t, ltb-false (column P.w c) (column P.w d) u) in
        let q : cut_at P j c ≡ true = ap (cut_at P j) (sym z) ∙ p in
        ap (λ (i : ℕ). ltb (key P W j i) (key P W k c)) z
        ∙ gap_order W j k c a b f q o
        ∙ sym (same_span j k c f o)
        ∙ ap (λ (i : ℕ). ltb (over j i * span c) (over k c * span i)) (sym z)))

module _ (P : Picture) (W j k d c : ℕ) (a : j < W) (b : k < W) (g : horizontal d ≡ true) (p : cut_at P j d ≡ true) (f : horizontal c ≡ true) (o : cut_at P k c ≡ true)
    (r : row P.w d ≡ row P.w c) where
  -- LAW: no two crossings of a row have equal fractions
  pub key_once : over P j d * span P c ≡ over P k c * span P d → (d ≡ c) × (j ≡ k)
  key_once e =
      let x : ltb (key P W j d) (key P W k c) ≡ false = key_order P W j k d c a b g p f o r ∙ le-ltb (over P j d * span P c) (over P k c * span P d) (omega arith) in
      let y : ltb (key P W k c) (key P W j d) ≡ false = key_order P W k j c d b a f o g p (sym r) ∙ le-ltb (over P k c * span P d) (over P j d * span P c) (omega arith) in
      key_inj P W j k d c a b (omega (arith, ltb-false (key P W j d) (key P W k c) x, ltb-false (key P W k c) (key P W j d) y))
