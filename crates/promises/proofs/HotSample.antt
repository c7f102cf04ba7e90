-- Request R-1: a border that is not all one value is told by the first sample that differs from sample 0 and by its edge. Of any rows that begin with `ground_rows`; HotCalls says it of the answers. Assumes nothing.
-- Definitions: `edge_number` a number is one of 4, 17, 18 and 19; `free` no row bears one of them; `old_row`, `old_rows` row 4 of paper 01, and a call's rows with it, kept for comparing alone; `now_v`, `old_v`, `head` the
--   verdict of a call's rows, of those of paper 01, and of 1 2 3; `HotAt` what number n and place p say: p is the first border sample that differs from sample 0, and it is on the edge that n names.
-- Main laws: `one_edge` exactly one of the four rows is given exactly if the border is not all one value; `as_old_4` one of the four numbers is given exactly when old 4 was, `else_as_old` and all else is as it was;
--   `when_edge` it is given behind 1 2 3, for a hot sample; `says_hot` number and place say where, `hot_says` and back; `same_hot` of one picture they always say the same.
use mathlib.Core.Path.{◌≡◌, refl, sym, ap, ap₂, subst, ◌∙◌}
use mathlib.Core.Bool.{Bool, true, false, not, ◌&&◌, ◌||◌, cond}
use mathlib.Core.List.{List, [], ◌∷◌, ◌++◌}
use mathlib.Core.Logic.{◌≢◌, ◌↔◌}
use Prim.Native.Nat.{ℕ, ◌+◌, ◌/◌, ◌%◌, ◌<◌}
use native.Mathlib.Omega.{arith}
use lib.Dec.{eqb, ltb}
use borrow.Author.Tests.{eqb-true, eqb-false, eq-eqb, ne_eqb, ltb-true, ltb-false, lt-ltb, not-true, not-false}
use Rattle.tally.proofs.Test.{by_test, no, and_1, and_2, both}
use Rattle.tally.proofs.First.{from_is}
use Rattle.refuse.specs.Refusal.{Verdict}
use Rattle.matte.specs.Layout.{Layout}
use Rattle.matte.specs.Picture.{Picture, size, at, on_border, border_fits}
use Rattle.refuse.specs.Refusal.{Row, row, verdict}
use Rattle.refuse.specs.Hot.{edge, is_hot, hot, edge_row, border_rows}
use Rattle.refuse.specs.Shape.{Sides, level_rows, ground_rows}
use Rattle.refuse.proofs.Rows.{given, passed, stopped, gone_on}
use Rattle.refuse.proofs.Edges.{hot_before, hot_here, hot_unfit, edge_cases, rows_hot, rows_cold}
use Rattle.refuse.proofs.Sides.{levelled}

-- 4 top row, 17 bottom row, 18 left column, 19 right column (02, R-1)
abbrev pub edge_number : ℕ → Bool
edge_number n = eqb n 4 || (eqb n 17 || (eqb n 18 || eqb n 19))

abbrev pub free : List Row → Bool
free [] = true
free (r ∷ rs) = not (edge_number r.number) && free rs

-- 4 as paper 01 has it: the border is not all one value
abbrev pub old_row : Picture → Row
old_row P = row 4 (not (border_fits P))

-- 1 2 3 4, then the call's own rows, as paper 01 has them
abbrev pub old_rows : Layout → Picture → List ℕ → List Row → List Row
old_rows L P ks qs = level_rows L P ks ++ (old_row P ∷ qs)

pub record HotAt (P : Picture) (n p : ℕ) : Type 0 where
  pub inside : p < size P
  pub border : on_border P.w P.h p ≡ true
  pub differs : at P p ≢ at P 0
  pub first : (i : ℕ) → i < p → on_border P.w P.h i ≡ true → at P i ≡ at P 0
  pub number : edge_number n ≡ true
  pub top : n ≡ 4 → p / P.w ≡ 0
  pub bottom : n ≡ 17 → p / P.w + 1 ≡ P.h
  pub left : n ≡ 18 → (p % P.w ≡ 0) × (p / P.w ≢ 0) × (p / P.w + 1 ≢ P.h)
  pub right : n ≡ 19 → (p % P.w + 1 ≡ P.w) × (p / P.w ≢ 0) × (p / P.w + 1 ≢ P.h)

-- ---- the four numbers
edge_named : (w h i : ℕ) → edge_number (edge w h i) ≡ true
edge_named w h i = edge_cases (λ e. edge_number e ≡ true) w h i refl refl refl refl

number_cases : {Q : Type 0} (n : ℕ) → edge_number n ≡ true → (n ≡ 4 → Q) → (n ≡ 17 → Q) → (n ≡ 18 → Q) → (n ≡ 19 → Q) → Q
number_cases n e a b c d =
    by_test (eqb n 4) (λ t. a (eqb-true n 4 t))
    (λ t. by_test (eqb n 17) (λ s. b (eqb-true n 17 s))
    (λ s. by_test (eqb n 18) (λ u. c (eqb-true n 18 u))
    (λ u. d (eqb-true n 19 (sym (ap₂ (λ (x y : Bool). x || (y || (eqb n 18 || eqb n 19))) t s ∙ ap (λ (x : Bool). x || eqb n 19) u) ∙ e)))))

module _ (x y z : Bool) where
  abbrev named : ℕ
  named = cond x 4 (cond y 17 (cond z 18 19))

is_4 : (x y z : Bool) → named x y z ≡ 4 → x ≡ true
is_4 true y z e = refl
is_4 false true z e = absurd (omega arith)
is_4 false false true e = absurd (omega arith)
is_4 false false false e = absurd (omega arith)

is_17 : (x y z : Bool) → named x y z ≡ 17 → y ≡ true
is_17 true y z e = absurd (omega arith)
is_17 false true z e = refl
is_17 false false true e = absurd (omega arith)
is_17 false false false e = absurd (omega arith)

is_18 : (x y z : Bool) → named x y z ≡ 18 → (z ≡ true) × (x ≡ false) × (y ≡ false)
is_18 true y z e = absurd (omega arith)
is_18 false true z e = absurd (omega arith)
is_18 false false true e = (refl, refl, refl)
is_18 false false false e = absurd (omega arith)

is_19 : (x y z u : Bool) → (x || (y || (z || u))) ≡ true → named x y z ≡ 19 → (u ≡ true) × (x ≡ false) × (y ≡ false)
is_19 true y z u b e = absurd (omega arith)
is_19 false true z u b e = absurd (omega arith)
is_19 false false true u b e = absurd (omega arith)
is_19 false false false u b e = (b, refl, refl)

free_verdict : (rs : List Row) → free rs ≡ true → edge_number (verdict rs).number ≡ false
free_verdict [] e = refl
free_verdict (r ∷ rs) e =
    let f = not (edge_number r.number) in
    by_test r.given
    (λ t. ap (λ (v : Verdict). edge_number v.number) (given r rs t) ∙ not-true (edge_number r.number) (and_1 f (free rs) e))
    (λ t. ap (λ (v : Verdict). edge_number v.number) (passed r rs t) ∙ free_verdict rs (and_2 f (free rs) e))

-- ---- the hot sample
hot_and : (b e : Bool) → (b && not e) ≡ false → b ≡ true → e ≡ true
hot_and true e h t = not-false e h
hot_and false e h t = no t refl

module _ (P : Picture) where
  pub told_hot : hot P < size P → HotAt P (edge P.w P.h (hot P)) (hot P)
  told_hot l =
      let p = hot P in
      let b = on_border P.w P.h p in
      let d = not (eqb (at P p) (at P 0)) in
      let x = eqb (p / P.w) 0 in
      let y = eqb (p / P.w + 1) P.h in
      let z = eqb (p % P.w) 0 in
      let u = eqb (p % P.w + 1) P.w in
      let o : b ≡ true = and_1 b d (hot_here P l) in
      record {
        inside = l;
        border = o;
        differs = eqb-false (at P p) (at P 0) (not-true (eqb (at P p) (at P 0)) (and_2 b d (hot_here P l)));
        first = λ i h t. eqb-true (at P i) (at P 0) (hot_and (on_border P.w P.h i) _ (hot_before P i h) t);
        number = edge_named P.w P.h p;
        top = λ e. eqb-true _ _ (is_4 x y z e);
        bottom = λ e. eqb-true _ _ (is_17 x y z e);
        left = λ e. let r = is_18 x y z e in (eqb-true _ _ r.0, eqb-false _ _ r.1, eqb-false _ _ r.2);
        right = λ e. let r = is_19 x y z u o e in (eqb-true _ _ r.0, eqb-false _ _ r.1, eqb-false _ _ r.2);
      }

  module _ (n p : ℕ) (H : HotAt P n p) where
    is_hot_lem : hot P ≡ p
    unfolding hot
    is_hot_lem =
        from_is (is_hot P) 0 (size P) p (omega arith) (omega (arith, H.inside))
        (λ i a l. cold i l)
        (λ t. both H.border (ap not (ne_eqb (at P p) (at P 0) H.differs)))
      where
        cold : (i : ℕ) → i < p → is_hot P i ≡ false
        cold i l =
            by_test (on_border P.w P.h i)
            (λ t. ap₂ (λ (x y : Bool). x && not y) t (eq-eqb (at P i) (at P 0) (H.first i l t)))
            (λ t. ap (λ (x : Bool). x && not (eqb (at P i) (at P 0))) t)

    is_edge : Sides P.w P.h → edge P.w P.h p ≡ n
    is_edge S =
        number_cases n H.number
        (λ e. rw (eq-eqb (p / P.w) 0 (H.top e)) (sym e))
        (λ e.
        let b : p / P.w + 1 ≡ P.h = H.bottom e in
        rw (ne_eqb (p / P.w) 0 (λ z. omega (arith, S.h_least)), eq-eqb (p / P.w + 1) P.h b) (sym e))
        (λ e. let l = H.left e in rw (ne_eqb _ _ l.1, ne_eqb _ _ l.2, eq-eqb _ _ l.0) (sym e))
        (λ e.
        let r = H.right e in
        let c : p % P.w + 1 ≡ P.w = r.0 in
        rw (ne_eqb _ _ r.1, ne_eqb _ _ r.2, ne_eqb (p % P.w) 0 (λ z. omega (arith, S.w_least))) (sym e))

  -- exactly one of the four rows is given exactly if the border is not all one value
  pub one_edge : (border_fits P ≡ false) ↔ ((n : ℕ) × ((edge_number n ≡ true) × ((edge_row P n).given ≡ true) × ((m : ℕ) → (edge_row P m).given ≡ true → m ≡ n)))
  one_edge =
      let e = edge P.w P.h (hot P) in
      let t = ltb (hot P) (size P) in (
        λ f. (e, (edge_named P.w P.h (hot P), both (hot_unfit P ∙ ap not f) (eq-eqb e e refl), λ m g. sym (eqb-true e m (and_2 t (eqb e m) g)))),
        λ g. not-true (border_fits P) (sym (hot_unfit P) ∙ and_1 t (eqb e g.0) g.1.1),
      )

abbrev says : ℕ → ℕ → Verdict
says n p = record { number = n; place = p }

-- ---- rows that begin with groundRows
module _ (L : Layout) (P : Picture) (ks : List ℕ) (qs : List Row) where
  abbrev pub now_v : Verdict
  now_v = verdict (ground_rows L P ks ++ qs)

  abbrev pub old_v : Verdict
  old_v = verdict (old_rows L P ks qs)

  abbrev pub head : Verdict
  head = verdict (level_rows L P ks)

  -- refused by 1 2 3, or by none of them
  now_stops : head.number ≢ 0 → now_v ≡ head
  now_stops n = sym (stopped (level_rows L P ks) (border_rows P ++ qs) head refl n)

  old_stops : head.number ≢ 0 → old_v ≡ head
  old_stops n = sym (stopped (level_rows L P ks) (old_row P ∷ qs) head refl n)

  now_goes : head.number ≡ 0 → now_v ≡ verdict (border_rows P ++ qs)
  now_goes z = sym (gone_on (level_rows L P ks) (border_rows P ++ qs) head (verdict (border_rows P ++ qs)) refl refl z refl)

  old_goes : head.number ≡ 0 → old_v ≡ verdict (old_row P ∷ qs)
  old_goes z = sym (gone_on (level_rows L P ks) (old_row P ∷ qs) head (verdict (old_row P ∷ qs)) refl refl z refl)

  now_hot : head.number ≡ 0 → hot P < size P → now_v ≡ record { number = edge P.w P.h (hot P); place = hot P }
  now_hot z l = now_goes z ∙ rows_hot P qs l

  old_hot : head.number ≡ 0 → hot P < size P → old_v ≡ record { number = 4; place = 0 }
  old_hot z l = old_goes z ∙ given (old_row P) qs (sym (hot_unfit P) ∙ lt-ltb (hot P) (size P) l)

  -- with a border of one value both go on to the call's own rows
  both_cold : head.number ≡ 0 → ltb (hot P) (size P) ≡ false → (now_v ≡ verdict qs) × (old_v ≡ verdict qs)
  both_cold z l = (now_goes z ∙ rows_cold P qs (ltb-false _ _ l), old_goes z ∙ passed (old_row P) qs (sym (hot_unfit P) ∙ l))

  pub else_as_old : old_v.number ≢ 4 → now_v ≡ old_v
  else_as_old n =
      by_test (eqb head.number 0)
      (λ t.
      let z : head.number ≡ 0 = eqb-true _ _ t in
      by_test (ltb (hot P) (size P))
      (λ l. absurd (n (ap (λ (v : Verdict). v.number) (old_hot z (ltb-true _ _ l)))))
      (λ l. (both_cold z l).0 ∙ sym (both_cold z l).1))
      (λ t. let z : head.number ≢ 0 = eqb-false _ _ t in now_stops z ∙ sym (old_stops z))

  module _ (own : free qs ≡ true) where
    no_edge : (v : Verdict) (rs : List Row) → free rs ≡ true → v ≡ verdict rs → edge_number v.number ≡ false
    no_edge v rs f e = ap (λ (u : Verdict). edge_number u.number) e ∙ free_verdict rs f

    -- one of the four is given only behind 1 2 3, for a hot sample
    pub when_edge : edge_number now_v.number ≡ true → (head.number ≡ 0) × (hot P < size P)
    when_edge e =
        by_test (eqb head.number 0)
        (λ t.
        let z : head.number ≡ 0 = eqb-true _ _ t in
        by_test (ltb (hot P) (size P))
        (λ l. (z, ltb-true _ _ l))
        (λ l. no e (no_edge now_v qs own (both_cold z l).0)))
        (λ t. no e (no_edge now_v (level_rows L P ks) refl (now_stops (eqb-false _ _ t))))

    when_old : old_v.number ≡ 4 → (head.number ≡ 0) × (hot P < size P)
    when_old e =
        let f : edge_number old_v.number ≡ true = ap edge_number e in
        by_test (eqb head.number 0)
        (λ t.
        let z : head.number ≡ 0 = eqb-true _ _ t in
        by_test (ltb (hot P) (size P))
        (λ l. (z, ltb-true _ _ l))
        (λ l. no f (no_edge old_v qs own (both_cold z l).1)))
        (λ t. no f (no_edge old_v (level_rows L P ks) refl (old_stops (eqb-false _ _ t))))

    pub as_old_4 : (edge_number now_v.number ≡ true) ↔ (old_v.number ≡ 4)
    as_old_4 = (
      λ e. let a = when_edge e in ap (λ (v : Verdict). v.number) (old_hot a.0 a.1),
      λ e. let a = when_old e in ap (λ (v : Verdict). edge_number v.number) (now_hot a.0 a.1) ∙ edge_named P.w P.h (hot P),
    )

    pub says_hot : edge_number now_v.number ≡ true → HotAt P now_v.number now_v.place
    says_hot e =
        let a = when_edge e in
        subst (λ (v : Verdict). HotAt P v.number v.place) (sym (now_hot a.0 a.1)) (told_hot P a.1)

  pub hot_says : head.number ≡ 0 → (n p : ℕ) → HotAt P n p → now_v ≡ record { number = n; place = p }
  hot_says z n p H =
      let h : hot P ≡ p = is_hot_lem P n p H in
      let e : edge P.w P.h (hot P) ≡ n = ap (edge P.w P.h) h ∙ is_edge P n p H (levelled L P ks z).0.sides in
      now_hot z (omega (arith, h, H.inside)) ∙ ap₂ says e h

-- number and place are settled by the picture, so two calls on it say the same
pub same_hot : (P : Picture) → Sides P.w P.h → (n p m q : ℕ) → HotAt P n p → HotAt P m q → (n ≡ m) × (p ≡ q)
same_hot P S n p m q H J =
    let e : p ≡ q = sym (is_hot_lem P n p H) ∙ is_hot_lem P m q J in
    (sym (is_edge P n p H S) ∙ ap (edge P.w P.h) e ∙ is_edge P m q J S, e)
