-- Texts put one after the other. Assumes nothing.
-- Main laws: `put_long` the buffer keeps its length; `then` a text and another one after it; `put_none` no text; `put_as` the same text said otherwise; `digit_last`, `digit_room`, `digit_more` a number digit by digit; `pair_room`, `pair_last`, `triple_room`, `triple_last` two or three digits at once.
use mathlib.Core.Path.{◌≡◌, sym, ap, ◌∙◌}
use mathlib.Core.List.{List, [], ◌∷◌, ◌++◌, append_assoc}
use Prim.Native.Nat.{ℕ, ◌+◌, ◌/◌, ◌%◌, ◌≤◌, ◌<◌}
use native.Mathlib.Nat.{add-zero}
use native.Mathlib.Omega.{arith}
use lib.ListN.{length, take, drop, length-append, length-drop, take-append-drop}
use lib.Seq.{length-take-le, take_at, drop-append-add, drop-drop}
use Rattle.form.specs.Decimal.{decimal}
use Rattle.form.proofs.Decimal.{decimal_small, decimal_more}
use Rattle.text.specs.Put.{written, Put}

module _ (d : List ℕ) (i : ℕ) (t : List ℕ) (h : i + length t ≤ length d) where
  written_long : length (written d i t) ≡ length d
  written_long =
      length-append (take i d) (t ++ drop (i + length t) d)
      ∙ omega (arith, length-append t (drop (i + length t) d), length-take-le i d (omega arith), length-drop (i + length t) d)

  front : length (take i d ++ t) ≡ i + length t
  front = length-append (take i d) t ∙ omega (arith, length-take-le i d (omega arith))

  -- what stands up to the next place, and from there on
  apart : written d i t ≡ (take i d ++ t) ++ drop (i + length t) d
  apart = sym (append_assoc (take i d) t (drop (i + length t) d))

  written_take : take (i + length t) (written d i t) ≡ take i d ++ t
  written_take = ap (take (i + length t)) apart ∙ take_at (take i d ++ t) (drop (i + length t) d) (i + length t) front

  written_drop : (n : ℕ) → drop (i + length t + n) (written d i t) ≡ drop (i + length t + n) d
  written_drop n =
      ap (drop (i + length t + n)) apart
      ∙ ap (λ (j : ℕ). drop (j + n) ((take i d ++ t) ++ drop (i + length t) d)) (sym front)
      ∙ drop-append-add (take i d ++ t) (drop (i + length t) d) n
      ∙ drop-drop n (i + length t) d

module _ {d : List ℕ} {i : ℕ} {t : List ℕ} {r : ℕ} {e : List ℕ} (p : Put d i t r e) where
  pub put_long : length e ≡ length d
  put_long = ap length p.is ∙ written_long d i t p.fits

  -- the text u comes next
  pub then : {u : List ℕ} {q : ℕ} {f : List ℕ} → Put e r u q f → Put d i (t ++ u) q f
  then {u} {q} {f} s =
      let n = i + length t in
      let l = length-append t u in
      let y : written e r u ≡ written (written d i t) n u = rw (p.is, p.next) in
      let z : n + length u ≡ i + length (t ++ u) = sym (ap (λ (m : ℕ). i + m) l ∙ omega arith) in
      record {
        fits = omega (arith, s.fits, put_long, p.next);
        next = s.next ∙ omega (arith, p.next);
        is =
            s.is
            ∙ y
            ∙ ap (λ (m : List ℕ). m ++ (u ++ drop (n + length u) (written d i t))) (written_take d i t p.fits)
            ∙ ap (λ (m : List ℕ). (take i d ++ t) ++ (u ++ m)) (written_drop d i t p.fits (length u))
            ∙ append_assoc (take i d) t (u ++ drop (n + length u) d)
            ∙ ap (λ (m : List ℕ). take i d ++ m) (sym (append_assoc t u (drop (n + length u) d)))
            ∙ ap (λ (m : ℕ). take i d ++ ((t ++ u) ++ drop m d)) z;
      }

pub put_none : (d : List ℕ) (i : ℕ) → i ≤ length d → Put d i [] i d
put_none d i h = record { fits = omega arith; next = omega arith; is = sym (ap (λ (n : ℕ). take i d ++ drop n d) (add-zero i) ∙ take-append-drop i d) }

pub put_as : {d : List ℕ} {i : ℕ} {t u : List ℕ} {r : ℕ} {e : List ℕ} → t ≡ u → Put d i t r e → Put d i u r e
put_as p x = rw (← p) x

-- ---- a number, digit by digit
module _ (n : ℕ) (d : List ℕ) (i : ℕ) where
  pub digit_last : n < 10 → (r : ℕ) (e : List ℕ) → Put d i ((48 + n) ∷ []) r e → Put d i (decimal n) r e
  digit_last h r e p = put_as (sym (decimal_small n h)) p

  module _ (h : 10 ≤ n) where
    pub digit_room : i + length (decimal n) ≤ length d → i + length (decimal (n / 10)) + 1 ≤ length d
    digit_room k = omega (arith, ap length (decimal_more n h), length-append (decimal (n / 10)) ((48 + n % 10) ∷ []))

    pub digit_more : (r : ℕ) (e : List ℕ) → Put d i (decimal (n / 10)) r e → (q : ℕ) (f : List ℕ) → Put e r ((48 + n % 10) ∷ []) q f → Put d i (decimal n) q f
    digit_more r e p q f s = put_as (sym (decimal_more n h)) (then p s)

-- ---- a number of two or three digits at once
pair : (n : ℕ) → 10 ≤ n → n < 100 → decimal n ≡ (48 + n / 10) ∷ (48 + n % 10) ∷ []
pair n h k = decimal_more n h ∙ ap (λ (l : List ℕ). l ++ ((48 + n % 10) ∷ [])) (decimal_small (n / 10) (omega arith))

triple : (n : ℕ) → 100 ≤ n → n < 1000 → decimal n ≡ ((48 + n / 100) ∷ []) ++ ((48 + n % 100 / 10) ∷ (48 + n % 100 % 10) ∷ [])
triple n h k =
    let q : n / 10 / 10 ≡ n / 100 = omega arith in
    let r : n / 10 % 10 ≡ n % 100 / 10 = omega arith in
    let s : n % 10 ≡ n % 100 % 10 = omega arith in
    decimal_more n (omega arith) ∙ ap (λ (l : List ℕ). l ++ ((48 + n % 10) ∷ [])) (pair (n / 10) (omega arith) (omega arith)) ∙ rw (q, r, s)

module _ (n : ℕ) (d : List ℕ) (i : ℕ) where
  module _ (h : 10 ≤ n) (k : n < 100) where
    pub pair_room : i + length (decimal n) ≤ length d → i + 2 ≤ length d
    pair_room l = omega (arith, ap length (pair n h k))

    pub pair_last : (r : ℕ) (e : List ℕ) → Put d i ((48 + n / 10) ∷ (48 + n % 10) ∷ []) r e → Put d i (decimal n) r e
    pair_last r e p = put_as (sym (pair n h k)) p

  module _ (h : 100 ≤ n) (k : n < 1000) where
    pub triple_room : i + length (decimal n) ≤ length d → i + 3 ≤ length d
    triple_room l = omega (arith, ap length (triple n h k))

    pub triple_last : (r : ℕ) (e : List ℕ) → Put d i ((48 + n / 100) ∷ []) r e → (q : ℕ) (f : List ℕ) → Put e r ((48 + n % 100 / 10) ∷ (48 + n % 100 % 10) ∷ []) q f
        → Put d i (decimal n) q f
    triple_last r e p q f s = put_as (sym (triple n h k)) (then p s)
