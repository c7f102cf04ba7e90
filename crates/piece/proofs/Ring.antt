-- Identities of whole numbers with sums, products and signs, decided by working both sides out. Assumes nothing.
-- Definitions: `Expr` an expression in variables; `value` what it is for given values; `equal` the test: the difference of two expressions, worked out, has no term left.
-- Main laws: `times_assoc`, `times_plus`, `one_times`, `no_product` products of whole numbers; `no_difference`, `own_difference` differences of equals; `solve` expressions that pass the test have the same value, whatever the variables are.
use mathlib.Core.Path.{◌≡◌, refl, sym, ap, ap₂, subst, ◌∙◌}
use mathlib.Core.Bool.{Bool, true, false, ◌&&◌}
use mathlib.Core.List.{List, [], ◌∷◌}
use Prim.Native.Nat.{ℕ, zero, suc, ◌+◌, ◌*◌}
use native.Mathlib.Nat.{one-mul}
use native.Mathlib.Omega.{arith}
use lib.Dec.{eqb, ltb}
use lib.IntN.{ℤ, pos, negsuc, neg_ℤ, neg_ℤ-neg_ℤ, ◌+ℤ◌, ◌-ℤ◌, ◌*ℤ◌, +ℤ_assoc, +ℤ_comm, +ℤ_idl, +ℤ_idr, +ℤ_invr, *ℤ_comm, *ℤ-zero, zero-*ℤ, -ℤ-+ℤ_cancel}
use borrow.Author.Tests.{eqb-true}
use Rattle.tally.proofs.Test.{by_test, no, and_1, and_2}
use Rattle.cell.proofs.Signed.{Is, is_add, is_mul, is_neg}

-- ---- products of whole numbers
pub same_is : (x y : ℤ) (a b c d : ℕ) → Is x a b → Is y c d → a + d ≡ c + b → x ≡ y
same_is (pos m) (pos n) a b c d p q e = ap pos (omega arith)
same_is (pos m) (negsuc n) a b c d p q e = absurd (omega arith)
same_is (negsuc m) (pos n) a b c d p q e = absurd (omega arith)
same_is (negsuc m) (negsuc n) a b c d p q e = ap negsuc (omega arith)

-- a whole number as a difference
unfoldable pub up : ℤ → ℕ
up (pos n) = n
up (negsuc n) = 0

unfoldable pub dn : ℤ → ℕ
dn (pos n) = 0
dn (negsuc n) = suc n

pub is_own : (x : ℤ) → Is x (up x) (dn x)
unfolding up dn
is_own (pos n) = omega arith
is_own (negsuc n) = omega arith

is_as : (z : ℤ) (a b c d : ℕ) → a + d ≡ c + b → Is z a b → Is z c d
is_as (pos n) a b c d s e = omega arith
is_as (negsuc n) a b c d s e = omega arith

neg_times : (m : ℕ) (y : ℤ) → negsuc m *ℤ y ≡ neg_ℤ (pos (suc m) *ℤ y)
neg_times m (pos n) = refl
neg_times m (negsuc n) = sym (neg_ℤ-neg_ℤ (pos (suc m * suc n)))

pub is_times : (x y : ℤ) (a b c d : ℕ) → Is x a b → Is y c d → Is (x *ℤ y) (a * c + b * d) (a * d + b * c)
is_times (pos m) y a b c d p q =
    let e : a ≡ m + b = omega arith in
    is_as (pos m *ℤ y) (m * c) (m * d) (a * c + b * d) (a * d + b * c) (rw e (omega arith)) (is_mul m y c d q)
is_times (negsuc m) y a b c d p q =
    let e : b ≡ a + suc m = omega arith in
    rw (neg_times m y)
    (is_as (neg_ℤ (pos (suc m) *ℤ y)) (suc m * d) (suc m * c) (a * c + b * d) (a * d + b * c) (rw e (omega arith))
    (is_neg (pos (suc m) *ℤ y) (suc m * c) (suc m * d) (is_mul (suc m) y c d q)))

module _ (x y z : ℤ) where
  abbrev X : Is x (up x) (dn x)
  X = is_own x

  abbrev Y : Is y (up y) (dn y)
  Y = is_own y

  abbrev Z : Is z (up z) (dn z)
  Z = is_own z

  pub times_assoc : (x *ℤ y) *ℤ z ≡ x *ℤ (y *ℤ z)
  times_assoc =
      same_is ((x *ℤ y) *ℤ z) (x *ℤ (y *ℤ z)) _ _ _ _ (is_times (x *ℤ y) z _ _ _ _ (is_times x y _ _ _ _ X Y) Z) (is_times x (y *ℤ z) _ _ _ _ X (is_times y z _ _ _ _ Y Z)) (omega arith)

  pub times_plus : x *ℤ (y +ℤ z) ≡ x *ℤ y +ℤ x *ℤ z
  times_plus =
      same_is (x *ℤ (y +ℤ z)) (x *ℤ y +ℤ x *ℤ z) _ _ _ _ (is_times x (y +ℤ z) _ _ _ _ X (is_add y z _ _ _ _ Y Z))
      (is_add (x *ℤ y) (x *ℤ z) _ _ _ _ (is_times x y _ _ _ _ X Y) (is_times x z _ _ _ _ X Z)) (omega arith)

pub one_times : (x : ℤ) → pos 1 *ℤ x ≡ x
one_times (pos n) = ap pos (omega arith)
one_times (negsuc n) = ap (λ (m : ℕ). neg_ℤ (pos m)) (one-mul (suc n))

plus_times : (x y z : ℤ) → (x +ℤ y) *ℤ z ≡ x *ℤ z +ℤ y *ℤ z
plus_times x y z = *ℤ_comm (x +ℤ y) z ∙ times_plus z x y ∙ ap₂ (λ (a b : ℤ). a +ℤ b) (*ℤ_comm z x) (*ℤ_comm z y)

plus_swap : (x y z : ℤ) → x +ℤ (y +ℤ z) ≡ y +ℤ (x +ℤ z)
plus_swap x y z = sym (+ℤ_assoc x y z) ∙ ap (λ (a : ℤ). a +ℤ z) (+ℤ_comm x y) ∙ +ℤ_assoc y x z

times_swap : (x y z : ℤ) → x *ℤ (y *ℤ z) ≡ y *ℤ (x *ℤ z)
times_swap x y z = sym (times_assoc x y z) ∙ ap (λ (a : ℤ). a *ℤ z) (*ℤ_comm x y) ∙ times_assoc y x z

times_four : (x y z w : ℤ) → (x *ℤ y) *ℤ (z *ℤ w) ≡ (x *ℤ z) *ℤ (y *ℤ w)
times_four x y z w = times_assoc x y (z *ℤ w) ∙ ap (λ (a : ℤ). x *ℤ a) (times_swap y z w) ∙ sym (times_assoc x z (y *ℤ w))

lone : (m : ℕ) (y : ℤ) → pos (suc m) *ℤ y ≡ pos 0 → y ≡ pos 0
lone m (pos zero) e = refl
lone m (pos (suc n)) e = let z : suc m * suc n ≡ 0 = cc in absurd (omega arith)
lone m (negsuc n) e =
    let t : Is (pos 0) (suc m * 0) (suc m * suc n) = subst (λ (z : ℤ). Is z (suc m * 0) (suc m * suc n)) e (is_mul (suc m) (negsuc n) 0 (suc n) (omega arith)) in
    absurd (omega arith)

pub no_difference : (x y : ℤ) → x -ℤ y ≡ pos 0 → x ≡ y
no_difference x y e = sym (-ℤ-+ℤ_cancel x y) ∙ ap (λ (z : ℤ). z +ℤ y) e ∙ +ℤ_idl y

pub own_difference : (x y : ℤ) → x ≡ y → x -ℤ y ≡ pos 0
own_difference x y e = ap (λ (z : ℤ). z -ℤ y) e ∙ +ℤ_invr y

-- a product is 0 only where a factor is
pub no_product : (x y : ℤ) → (x ≡ pos 0 → ⊥) → x *ℤ y ≡ pos 0 → y ≡ pos 0
no_product (pos zero) y n e = absurd (n refl)
no_product (pos (suc m)) y n e = lone m y e
no_product (negsuc m) y n e = lone m y (sym (neg_ℤ-neg_ℤ (pos (suc m) *ℤ y)) ∙ ap neg_ℤ (sym (neg_times m y) ∙ e))

-- ---- expressions
pub data Expr : Type 0 where
  con : ℤ → Expr
  var : ℕ → Expr
  plus : Expr → Expr → Expr
  times : Expr → Expr → Expr
  neg : Expr → Expr

abbrev pub minus : Expr → Expr → Expr
minus e f = plus e (neg f)

-- variable i is number i of the list
abbrev pub look_up : List ℤ → ℕ → ℤ
look_up [] i = pos 0
look_up (x ∷ xs) zero = x
look_up (x ∷ xs) (suc i) = look_up xs i

abbrev pub value : List ℤ → Expr → ℤ
value xs (con z) = z
value xs (var i) = look_up xs i
value xs (plus e f) = value xs e +ℤ value xs f
value xs (times e f) = value xs e *ℤ value xs f
value xs (neg e) = neg_ℤ (value xs e)

-- ---- worked out: a sum of terms, each a number times a product of variables, in ascending order
pub record Term : Type 0 where
  pub many : ℤ
  pub of : List ℕ

abbrev term : ℤ → List ℕ → Term
term k m = record { many = k; of = m }

unfoldable alike : List ℕ → List ℕ → Bool
alike [] [] = true
alike [] (j ∷ n) = false
alike (i ∷ m) [] = false
alike (i ∷ m) (j ∷ n) = eqb i j && alike m n

unfoldable put_var : ℕ → List ℕ → List ℕ
put_var i [] = i ∷ []
put_var i (j ∷ m) = elim (ltb j i) [ true ↦ j ∷ put_var i m | false ↦ i ∷ (j ∷ m) ]

unfoldable join_vars : List ℕ → List ℕ → List ℕ
join_vars [] n = n
join_vars (i ∷ m) n = put_var i (join_vars m n)

-- a term added: to the one with the same variables, if there is one
unfoldable put_term : ℤ → List ℕ → List Term → List Term
put_term k m [] = term k m ∷ []
put_term k m (t ∷ ts) = elim (alike m t.of) [ true ↦ term (k +ℤ t.many) t.of ∷ ts | false ↦ t ∷ put_term k m ts ]

unfoldable add_terms : List Term → List Term → List Term
add_terms [] us = us
add_terms (t ∷ ts) us = put_term t.many t.of (add_terms ts us)

unfoldable each_times : Term → List Term → List Term
each_times t [] = []
each_times t (u ∷ us) = put_term (t.many *ℤ u.many) (join_vars t.of u.of) (each_times t us)

unfoldable mul_terms : List Term → List Term → List Term
mul_terms [] us = []
mul_terms (t ∷ ts) us = add_terms (each_times t us) (mul_terms ts us)

unfoldable worked : Expr → List Term
worked (con z) = term z [] ∷ []
worked (var i) = term (pos 1) (i ∷ []) ∷ []
worked (plus e f) = add_terms (worked e) (worked f)
worked (times e f) = mul_terms (worked e) (worked f)
worked (neg e) = each_times (term (negsuc 0) []) (worked e)

abbrev is_nought : ℤ → Bool
is_nought (pos n) = eqb n 0
is_nought (negsuc n) = false

unfoldable nought : List Term → Bool
nought [] = true
nought (t ∷ ts) = is_nought t.many && nought ts

unfoldable pub equal : Expr → Expr → Bool
unfolding alike put_var join_vars put_term add_terms each_times mul_terms worked nought
equal e f = nought (worked (minus e f))

alike_is : (m n : List ℕ) → alike m n ≡ true → m ≡ n
unfolding alike
alike_is [] [] e = refl
alike_is [] (j ∷ n) e = no e refl
alike_is (i ∷ m) [] e = no e refl
alike_is (i ∷ m) (j ∷ n) e = ap₂ (λ (k : ℕ) (l : List ℕ). k ∷ l) (eqb-true i j (and_1 (eqb i j) (alike m n) e)) (alike_is m n (and_2 (eqb i j) (alike m n) e))

zero_is : (z : ℤ) → is_nought z ≡ true → z ≡ pos 0
zero_is (pos n) e = ap pos (eqb-true n 0 e)
zero_is (negsuc n) e = no e refl

-- ---- what it is worth
module _ (xs : List ℤ) where
  unfoldable product : List ℕ → ℤ
  product [] = pos 1
  product (i ∷ m) = look_up xs i *ℤ product m

  unfoldable sum_of : List Term → ℤ
  sum_of [] = pos 0
  sum_of (t ∷ ts) = t.many *ℤ product t.of +ℤ sum_of ts

  put_var_is : (i : ℕ) (m : List ℕ) → product (put_var i m) ≡ look_up xs i *ℤ product m
  unfolding product put_var
  put_var_is i [] = refl
  put_var_is i (j ∷ m) =
      by_test (ltb j i)
      (λ e. rw (e, put_var) (ap (λ (z : ℤ). look_up xs j *ℤ z) (put_var_is i m) ∙ times_swap (look_up xs j) (look_up xs i) (product m)))
      (λ e. rw (e, put_var) refl)

  join_vars_is : (m n : List ℕ) → product (join_vars m n) ≡ product m *ℤ product n
  unfolding product join_vars
  join_vars_is [] n = sym (one_times (product n))
  join_vars_is (i ∷ m) n =
      put_var_is i (join_vars m n) ∙ ap (λ (z : ℤ). look_up xs i *ℤ z) (join_vars_is m n) ∙ sym (times_assoc (look_up xs i) (product m) (product n))

  put_term_is : (k : ℤ) (m : List ℕ) (ts : List Term) → sum_of (put_term k m ts) ≡ k *ℤ product m +ℤ sum_of ts
  unfolding sum_of put_term
  put_term_is k m [] = refl
  put_term_is k m (t ∷ ts) =
      by_test (alike m t.of)
      (λ e.
      let q : m ≡ t.of = alike_is m t.of e in
      rw (e, put_term)
      (ap (λ (z : ℤ). z +ℤ sum_of ts) (plus_times k t.many (product t.of))
      ∙ +ℤ_assoc (k *ℤ product t.of) (t.many *ℤ product t.of) (sum_of ts)
      ∙ ap (λ (n : List ℕ). k *ℤ product n +ℤ (t.many *ℤ product t.of +ℤ sum_of ts)) (sym q)))
      (λ e.
      rw (e, put_term)
      (ap (λ (z : ℤ). t.many *ℤ product t.of +ℤ z) (put_term_is k m ts) ∙ plus_swap (t.many *ℤ product t.of) (k *ℤ product m) (sum_of ts)))

  add_terms_is : (ts us : List Term) → sum_of (add_terms ts us) ≡ sum_of ts +ℤ sum_of us
  unfolding sum_of add_terms
  add_terms_is [] us = sym (+ℤ_idl (sum_of us))
  add_terms_is (t ∷ ts) us =
      put_term_is t.many t.of (add_terms ts us)
      ∙ ap (λ (z : ℤ). t.many *ℤ product t.of +ℤ z) (add_terms_is ts us)
      ∙ sym (+ℤ_assoc (t.many *ℤ product t.of) (sum_of ts) (sum_of us))

  each_times_is : (t : Term) (us : List Term) → sum_of (each_times t us) ≡ (t.many *ℤ product t.of) *ℤ sum_of us
  unfolding sum_of each_times
  each_times_is t [] = sym (*ℤ-zero (t.many *ℤ product t.of))
  each_times_is t (u ∷ us) =
      let a = t.many *ℤ product t.of in
      put_term_is (t.many *ℤ u.many) (join_vars t.of u.of) (each_times t us)
      ∙ ap₂ (λ (y z : ℤ). (t.many *ℤ u.many) *ℤ y +ℤ z) (join_vars_is t.of u.of) (each_times_is t us)
      ∙ ap (λ (y : ℤ). y +ℤ a *ℤ sum_of us) (sym (times_four t.many (product t.of) u.many (product u.of)))
      ∙ sym (times_plus a (u.many *ℤ product u.of) (sum_of us))

  mul_terms_is : (ts us : List Term) → sum_of (mul_terms ts us) ≡ sum_of ts *ℤ sum_of us
  unfolding sum_of mul_terms
  mul_terms_is [] us = sym (zero-*ℤ (sum_of us))
  mul_terms_is (t ∷ ts) us =
      add_terms_is (each_times t us) (mul_terms ts us)
      ∙ ap₂ (λ (y z : ℤ). y +ℤ z) (each_times_is t us) (mul_terms_is ts us)
      ∙ sym (plus_times (t.many *ℤ product t.of) (sum_of ts) (sum_of us))

  worked_is : (e : Expr) → sum_of (worked e) ≡ value xs e
  unfolding sum_of product worked
  worked_is (con z) = +ℤ_idr (z *ℤ pos 1) ∙ *ℤ_comm z (pos 1) ∙ one_times z
  worked_is (var i) =
      let x = look_up xs i in
      +ℤ_idr (pos 1 *ℤ (x *ℤ pos 1)) ∙ one_times (x *ℤ pos 1) ∙ *ℤ_comm x (pos 1) ∙ one_times x
  worked_is (plus e f) = add_terms_is (worked e) (worked f) ∙ ap₂ (λ (y z : ℤ). y +ℤ z) (worked_is e) (worked_is f)
  worked_is (times e f) = mul_terms_is (worked e) (worked f) ∙ ap₂ (λ (y z : ℤ). y *ℤ z) (worked_is e) (worked_is f)
  worked_is (neg e) = each_times_is (term (negsuc 0) []) (worked e) ∙ neg_times 0 (sum_of (worked e)) ∙ ap neg_ℤ (one_times (sum_of (worked e)) ∙ worked_is e)

  nought_is : (ts : List Term) → nought ts ≡ true → sum_of ts ≡ pos 0
  unfolding sum_of nought
  nought_is [] e = refl
  nought_is (t ∷ ts) e =
      ap₂ (λ (y z : ℤ). y *ℤ product t.of +ℤ z) (zero_is t.many (and_1 (is_nought t.many) (nought ts) e)) (nought_is ts (and_2 (is_nought t.many) (nought ts) e))
      ∙ +ℤ_idr (pos 0 *ℤ product t.of)
      ∙ zero-*ℤ (product t.of)

  -- LAW: an identity holds if the difference of its sides works out to nothing
  pub solve : (e f : Expr) → equal e f ≡ true → value xs e ≡ value xs f
  unfolding equal
  solve e f h =
      let y = value xs f in
      let z : value xs e -ℤ y ≡ pos 0 = sym (worked_is (minus e f)) ∙ nought_is (worked (minus e f)) h in
      no_difference (value xs e) y z
