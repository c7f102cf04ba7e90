-- Reading a number: step by step, and that it reads exactly the numbers in decimal. Assumes nothing.
-- Definitions: `Reading` some digits of a number are read; `Read` a list begins with a number.
-- Main laws: `read_begin`, `read_stop`, `read_over`, `read_more` the steps; `number_sound` what is read is a number in decimal; `number_complete` every number in decimal is read; `number_given`,
--   `number_missing` what a number that is told says of the one read, and none; `missing` the same of any value.
use mathlib.Core.Path.{◌≡◌, refl, sym, ap, ◌∙◌}
use mathlib.Core.Bool.{Bool, true, false, cond}
use mathlib.Core.List.{List, [], ◌∷◌, ◌++◌}
use Prim.Native.Nat.{ℕ, zero, suc, ◌+◌, ◌-◌, ◌*◌, ◌/◌, ◌%◌, ◌≤◌, ◌<◌}
use native.Mathlib.Nat.{add-zero}
use native.Mathlib.Numerals.{add-one}
use native.Mathlib.Omega.{arith}
use borrow.Author.Tests.{le-leb, lt-leb, leb-true, leb-false, eqb-true, eqb-false, eq-eqb, ne_eqb}
use lib.Dec.{eqb, leb}
use lib.ListN.{length, get_or, drop, length-append, get_or-eq_default}
use lib.Seq.{drop-cons, get_or-drop, append_snoc}
use Rattle.tally.proofs.Test.{by_test, no, and_1, and_2, both}
use Rattle.std.specs.Prelude.{Option, Some, None, IfSome}
use Rattle.std.proofs.lemmas.Option.{cond_some}
use Rattle.form.specs.declared.Number.{Number}
use Rattle.form.specs.Reader.{NumberRead, number_told}
use Rattle.form.specs.Decimal.{decimal}
use Rattle.form.specs.Reader.{is_digit, stop, no_number, number, read_on, number_of}
use Rattle.form.proofs.Decimal.{by_digits, decimal_small, decimal_more, decimal_next, decimal_head, decimal_some}

-- no value is told
pub missing : {A : Type 0} (b : Bool) (x : A) → None ≡ cond b (Some x) None → b ≡ false
missing true x e = cc
missing false x e = refl

-- ---- digits
pub is_digit_lem : (b : ℕ) → 48 ≤ b → b ≤ 57 → is_digit b ≡ true
is_digit_lem b h k = both (le-leb 48 b h) (le-leb b 57 k)

digit_least : (b : ℕ) → is_digit b ≡ true → 48 ≤ b
digit_least b e = leb-true 48 b (and_1 (leb 48 b) (leb b 57) e)

digit_most : (b : ℕ) → is_digit b ≡ true → b ≤ 57
digit_most b e = leb-true b 57 (and_2 (leb 48 b) (leb b 57) e)

-- ---- the reader's cases
on_stop : (m v c : ℕ) (s : List ℕ) → is_digit (get_or s 0 0) ≡ false → read_on m v c s ≡ stop v c
unfolding read_on
on_stop m v c [] e = refl
on_stop m v c (b ∷ l) e = rw (e, read_on)

module _ (m v c b : ℕ) (l : List ℕ) (d : is_digit b ≡ true) where
  on_over : m < v * 10 + (b - 48) → read_on m v c (b ∷ l) ≡ no_number
  unfolding read_on
  on_over h = rw (d, read_on, lt-leb (v * 10 + (b - 48)) m h)

  on_more : v * 10 + (b - 48) ≤ m → read_on m v c (b ∷ l) ≡ read_on m (v * 10 + (b - 48)) (suc c) l
  unfolding read_on
  on_more h = rw (d, read_on, le-leb (v * 10 + (b - 48)) m h)

-- ---- step by step: the first i bytes are digits that make v
pub record Reading (m : ℕ) (s : List ℕ) (v i : ℕ) : Type 0 where
  pub inside : i ≤ length s
  pub most : v ≤ m
  pub left : number_of m s ≡ read_on m v i (drop i s)

-- what a call has to show of the number read
abbrev pub Answers : ℕ → List ℕ → Option Number → Type 0
Answers m s r = (r ≡ number_told (number_of m s)) × IfSome r (λ n. (n.count ≤ length s) × (n.value ≤ m))

-- a number that is told, and none
pub number_given : (n : Number) (r : NumberRead) → Some n ≡ number_told r → r ≡ number n.value n.count
number_given n r e =
    let q = cond_some r.ok (record { value = r.value; count = r.count }) n (sym e) in
    λ i. record { ok = q.0 i; value = (q.1 i).value; count = (q.1 i).count }

pub number_missing : (r : NumberRead) → None ≡ number_told r → r.ok ≡ false
number_missing r e = missing r.ok _ e

stop_inside : (m n v c : ℕ) → v ≤ m → c ≤ n → IfSome (number_told (stop v c)) (λ r. (r.count ≤ n) × (r.value ≤ m))
stop_inside m n v c h k = by_test (eqb c 0) (λ e. rw e tt) (λ e. rw e (k, h))

module _ (m : ℕ) (s : List ℕ) where
  pub read_zero : get_or s 0 0 ≡ 48 → Answers m s (Some (record { value = 0; count = 1 }))
  unfolding number_of
  read_zero e = (rw (eq-eqb (get_or s 0 0) 48 e), (some s e, omega arith))
    where
      some : (s : List ℕ) → get_or s 0 0 ≡ 48 → 1 ≤ length s
      some [] e = absurd (omega arith)
      some (b ∷ l) e = omega arith

  pub read_begin : (get_or s 0 0 ≡ 48 → ⊥) → Reading m s 0 0
  unfolding number_of
  read_begin n = record { inside = omega arith; most = omega arith; left = rw (ne_eqb (get_or s 0 0) 48 n) }

  module _ (v i : ℕ) (t : Reading m s v i) where
    pub read_stop : (r : Option Number) → is_digit (get_or s i 0) ≡ false → r ≡ number_told (stop v i) → Answers m s r
    read_stop r d e =
        let g : get_or (drop i s) 0 0 ≡ get_or s i 0 = get_or-drop i s 0 0 ∙ rw add-zero in
        let q = t.left ∙ on_stop m v i (drop i s) (ap is_digit g ∙ d) in
        (e ∙ ap number_told (sym q), rw e (stop_inside m (length s) v i t.most t.inside))

    pub read_end : (r : Option Number) → length s ≤ i → r ≡ number_told (stop v (length s)) → Answers m s r
    read_end r h e =
        let z : length s ≡ i = omega (arith, t.inside) in
        read_stop r (ap is_digit (get_or-eq_default s 0 h)) (e ∙ ap (λ (j : ℕ). number_told (stop v j)) z)

    module _ (h : i < length s) (d : is_digit (get_or s i 0) ≡ true) (n : ℕ) (z : n ≡ get_or s i 0 - 48) where
      pub read_over : m < v * 10 + n → Answers m s None
      read_over k =
          let j : m < v * 10 + (get_or s i 0 - 48) = rw (← z) k in
          let q = t.left ∙ ap (read_on m v i) (drop-cons s i 0 h) ∙ on_over m v i (get_or s i 0) (drop (suc i) s) d j in
          (ap number_told (sym q), tt)

      pub read_more : v * 10 + n ≤ m → Reading m s (v * 10 + n) (i + 1)
      read_more k =
          rw z
          (record {
            inside = omega arith;
            most = rw z at k;
            left = t.left ∙ ap (read_on m v i) (drop-cons s i 0 h) ∙ on_more m v i (get_or s i 0) (drop (suc i) s) d (rw z at k) ∙ rw (← add-one i);
          })

-- ---- what is read is a number in decimal
pub record Read (m : ℕ) (s : List ℕ) (r : NumberRead) : Type 0 where
  pub value : ℕ
  pub rest : List ℕ
  pub is : s ≡ decimal value ++ rest
  pub most : value ≤ m
  pub reads : r ≡ number value (length (decimal value))

told : {r q : NumberRead} → q ≡ r → q.ok ≡ true → r.ok ≡ true
told e o = ap (λ (i : NumberRead). i.ok) (sym e) ∙ o

again : {m : ℕ} {s t : List ℕ} {r q : NumberRead} → t ≡ s → q ≡ r → Read m s r → Read m t q
again e f d = record { value = d.value; rest = d.rest; is = e ∙ d.is; most = d.most; reads = f ∙ d.reads }

sound_stop : (m v c : ℕ) (s : List ℕ) → v ≤ m → c ≡ length (decimal v) → is_digit (get_or s 0 0) ≡ false → Read m (decimal v ++ s) (read_on m v c s)
sound_stop m v c s k e d =
    let p : (c ≡ 0 → ⊥) = λ z. absurd (omega (arith, decimal_some v)) in
    record { value = v; rest = s; is = refl; most = k; reads = on_stop m v c s d ∙ rw (ne_eqb c 0 p, e) }

on_sound : (m v c : ℕ) (s : List ℕ) → 1 ≤ v → v ≤ m → c ≡ length (decimal v) → (read_on m v c s).ok ≡ true → Read m (decimal v ++ s) (read_on m v c s)
on_sound m v c [] h k e o = sound_stop m v c [] k e refl
on_sound m v c (b ∷ l) h k e o =
    by_test (is_digit b)
    (λ d.
    let n = v * 10 + (b - 48) in
    let lo = digit_least b d in
    let hi = digit_most b d in
    by_test (leb n m)
    (λ t.
    let q = on_more m v c b l d (leb-true n m t) in
    let z : 48 + (b - 48) ≡ b = omega arith in
    let x : decimal n ≡ decimal v ++ (b ∷ []) = decimal_next v (b - 48) h (omega arith) ∙ rw z in
    let y : suc c ≡ length (decimal n) = sym (ap length x ∙ length-append (decimal v) (b ∷ []) ∙ omega arith) in
    again (sym (ap (λ (i : List ℕ). i ++ l) x ∙ append_snoc (decimal v) b l)) q (on_sound m n (suc c) l (omega arith) (leb-true n m t) y (told q o)))
    (λ t. no o (ap (λ (i : NumberRead). i.ok) (on_over m v c b l d (leb-false n m t)))))
    (λ d. sound_stop m v c (b ∷ l) k e d)

pub number_sound : (m : ℕ) (s : List ℕ) → (number_of m s).ok ≡ true → Read m s (number_of m s)
unfolding number_of
number_sound m [] o = no o (ap (λ (i : NumberRead). i.ok) (on_stop m 0 0 [] refl))
number_sound m (b ∷ l) o =
    by_test (eqb b 48)
    (λ t.
    let z = decimal_small 0 (omega arith) in
    record { value = 0; rest = l; is = rw (eqb-true b 48 t, z); most = omega arith; reads = rw (t, z) })
    (λ t. rw t (digits t (rw t at o)))
  where
    digits : eqb b 48 ≡ false → (read_on m 0 0 (b ∷ l)).ok ≡ true → Read m (b ∷ l) (read_on m 0 0 (b ∷ l))
    digits t o =
        by_test (is_digit b)
        (λ d.
        let n = 0 * 10 + (b - 48) in
        let lo = digit_least b d in
        let hi = digit_most b d in
        let f = eqb-false b 48 t in
        let z : 48 + n ≡ b = omega arith in
        let x : decimal n ≡ b ∷ [] = decimal_small n (omega arith) ∙ rw z in
        by_test (leb n m)
        (λ t.
        let q = on_more m 0 0 b l d (leb-true n m t) in
        again (sym (ap (λ (i : List ℕ). i ++ l) x)) q (on_sound m n 1 l (omega (arith, f)) (leb-true n m t) (sym (ap length x)) (told q o)))
        (λ t. no o (ap (λ (i : NumberRead). i.ok) (on_over m 0 0 b l d (leb-false n m t)))))
        (λ d. no o (ap (λ (i : NumberRead). i.ok) (on_stop m 0 0 (b ∷ l) d)))

-- ---- every number in decimal is read, if no digit follows
on_complete : (m n : ℕ) (l : List ℕ) → 1 ≤ n → n ≤ m → read_on m 0 0 (decimal n ++ l) ≡ read_on m n (length (decimal n)) l
on_complete m n = by_digits (λ n. (l : List ℕ) → 1 ≤ n → n ≤ m → read_on m 0 0 (decimal n ++ l) ≡ read_on m n (length (decimal n)) l) small large n
  where
    small : (n : ℕ) → n < 10 → (l : List ℕ) → 1 ≤ n → n ≤ m → read_on m 0 0 (decimal n ++ l) ≡ read_on m n (length (decimal n)) l
    small n g l h k =
        let d = is_digit_lem (48 + n) (omega arith) (omega arith) in
        let z : 0 * 10 + (48 + n - 48) ≡ n = omega arith in
        rw (decimal_small n g) (on_more m 0 0 (48 + n) l d (omega arith) ∙ rw z)

    large :
        (n : ℕ) → 10 ≤ n → ((l : List ℕ) → 1 ≤ n / 10 → n / 10 ≤ m → read_on m 0 0 (decimal (n / 10) ++ l) ≡ read_on m (n / 10) (length (decimal (n / 10))) l)
        → (l : List ℕ) → 1 ≤ n → n ≤ m → read_on m 0 0 (decimal n ++ l) ≡ read_on m n (length (decimal n)) l
    large n g r l h k =
        let b = 48 + n % 10 in
        let d = is_digit_lem b (omega arith) (omega arith) in
        let x = decimal_more n g in
        let z : n / 10 * 10 + (b - 48) ≡ n = omega arith in
        let y : suc (length (decimal (n / 10))) ≡ length (decimal n) = sym (ap length x ∙ length-append (decimal (n / 10)) (b ∷ []) ∙ omega arith) in
        ap (λ (i : List ℕ). read_on m 0 0 (i ++ l)) x
        ∙ ap (read_on m 0 0) (append_snoc (decimal (n / 10)) b l)
        ∙ r (b ∷ l) (omega arith) (omega arith)
        ∙ on_more m (n / 10) (length (decimal (n / 10))) b l d (omega arith)
        ∙ rw (z, y)

pub number_complete : (m n : ℕ) (l : List ℕ) → n ≤ m → is_digit (get_or l 0 0) ≡ false → number_of m (decimal n ++ l) ≡ number n (length (decimal n))
unfolding number_of
number_complete m zero l k d = rw (decimal_small 0 (omega arith))
number_complete m (suc n) l k d =
    let r = decimal_head (suc n) in
    let z : get_or (decimal (suc n) ++ l) 0 0 ≡ r.first = ap (λ (i : List ℕ). get_or (i ++ l) 0 0) r.is in
    let f : (get_or (decimal (suc n) ++ l) 0 0 ≡ 48 → ⊥) = λ e. absurd (omega (arith, r.high (omega arith))) in
    let p : (length (decimal (suc n)) ≡ 0 → ⊥) = λ e. absurd (omega (arith, decimal_some (suc n))) in
    rw (ne_eqb (get_or (decimal (suc n) ++ l) 0 0) 48 f)
    (on_complete m (suc n) l (omega arith) k ∙ on_stop m (suc n) (length (decimal (suc n))) l d ∙ rw (ne_eqb (length (decimal (suc n))) 0 p))
