-- The samples one by one: what is refused of them, and their values. Assumes nothing.
-- Definitions: `Good` a sample that is not refused.
-- Main laws: `raster_none`, `raster_24`, `raster_23`, `raster_more` one sample; `raw_past`, `raw_here` a sample of P5; `raw_fit` nothing is refused where every byte fits; `raw_inside`, `raw_list` then all are there, and are the bytes; `part_length`, `part_fits`, `raw_copy` the same of the bytes as a list;
--   `kind-of`, `raster_rows` only 23 and 24 are given, as the rows of the call say.
use mathlib.Core.Path.{◌≡◌, refl, sym, ap, ◌∙◌}
use mathlib.Core.Bool.{Bool, true, false, cond}
use mathlib.Core.List.{List, [], ◌∷◌}
use Prim.Native.Nat.{ℕ, zero, suc, ◌+◌, ◌-◌, ◌≤◌, ◌<◌}
use native.Mathlib.Nat.{add-zero}
use native.Mathlib.Omega.{arith}
use lib.Dec.{eqb, ltb, leb}
use lib.ListN.{length, get_or, take, drop, length-drop}
use lib.Seq.{get_or-drop, length-take-le}
use Rattle.std.proofs.lemmas.List.{get_or-take}
use borrow.Author.Tests.{lt-ltb, le-ltb, ltb-true, ltb-false, leb-true, le-leb, lt-leb}
use Rattle.tally.specs.Tally.{build, every}
use Rattle.tally.proofs.Test.{by_test, no}
use Rattle.tally.proofs.Build.{is_build}
use Rattle.tally.proofs.Every.{every_same}
use Rattle.refuse.specs.Refusal.{Verdict}
use Rattle.refuse.specs.Refusal.{row_at, verdict}
use Rattle.pgm.specs.Reader.{NumberRead}
use Rattle.pgm.specs.Reader.{there, raw_at, sample_at, raster_from, samples_from}

abbrev pub done : Verdict
done = record { number = 0; place = 0 }

-- ---- one sample
pub raster_none : (s : List ℕ) (plain : Bool) (m p : ℕ) → raster_from s plain m 0 p ≡ done
unfolding raster_from
raster_none s plain m p = refl

module _ (s : List ℕ) (plain : Bool) (m k p : ℕ) where
  pub raster_24 : there (sample_at s plain p) ≡ false → raster_from s plain m (suc k) p ≡ record { number = 24; place = (sample_at s plain p).first }
  unfolding raster_from
  raster_24 e = rw (e, raster_from)

  pub raster_23 : there (sample_at s plain p) ≡ true → leb (sample_at s plain p).value m ≡ false → raster_from s plain m (suc k) p ≡ record { number = 23; place = (sample_at s plain p).first }
  unfolding raster_from
  raster_23 e f = rw (e, raster_from, f)

  pub raster_more : there (sample_at s plain p) ≡ true → leb (sample_at s plain p).value m ≡ true → raster_from s plain m (suc k) p ≡ raster_from s plain m k (sample_at s plain p).next
  unfolding raster_from
  raster_more e f = rw (e, raster_from, f)

-- a sample that is not refused is there, fits, and the next ones are not refused
pub record Good (s : List ℕ) (plain : Bool) (m k p : ℕ) : Type 0 where
  pub is_there : there (sample_at s plain p) ≡ true
  pub fits : leb (sample_at s plain p).value m ≡ true
  pub rest : (raster_from s plain m k (sample_at s plain p).next).number ≡ 0

pub good : (s : List ℕ) (plain : Bool) (m k p : ℕ) → (raster_from s plain m (suc k) p).number ≡ 0 → Good s plain m k p
good s plain m k p z =
    let n = sample_at s plain p in
    by_test (there n)
    (λ e.
    by_test (leb n.value m)
    (λ f. record { is_there = e; fits = f; rest = ap (λ (v : Verdict). v.number) (sym (raster_more s plain m k p e f)) ∙ z })
    (λ f. absurd (let x : 23 ≡ 0 = ap (λ (v : Verdict). v.number) (sym (raster_23 s plain m k p e f)) ∙ z in omega arith)))
    (λ e. absurd (let x : 24 ≡ 0 = ap (λ (v : Verdict). v.number) (sym (raster_24 s plain m k p e)) ∙ z in omega arith))

-- ---- P5
module _ (s : List ℕ) (p : ℕ) where
  pub raw_here : p < length s → raw_at s p ≡ record { first = p; value = get_or s p 0; next = suc p }
  raw_here h = ap (λ (b : Bool). cond b (record { first = p; value = get_or s p 0; next = suc p }) (record { first = p; value = 0; next = p })) (lt-ltb p (length s) h)

  pub raw_past : length s ≤ p → raw_at s p ≡ record { first = p; value = 0; next = p }
  raw_past h = ap (λ (b : Bool). cond b (record { first = p; value = get_or s p 0; next = suc p }) (record { first = p; value = 0; next = p })) (le-ltb p (length s) h)

module _ (s : List ℕ) (m : ℕ) where
  pub raw_24 : (k j p : ℕ) → k ≡ suc j → length s ≤ p → raster_from s false m k p ≡ record { number = 24; place = p }
  raw_24 k j p z h =
      rw z
      (raster_24 s false m j p (ap there (raw_past s p h) ∙ le-ltb p p (omega arith))
      ∙ ap (λ (n : NumberRead). record { number = 24; place = n.first }) (raw_past s p h))

  pub raw_23 : (k j p : ℕ) → k ≡ suc j → p < length s → m < get_or s p 0 → raster_from s false m k p ≡ record { number = 23; place = p }
  raw_23 k j p z h q =
      let e = raw_here s p h in
      rw z
      (raster_23 s false m j p (ap there e ∙ lt-ltb p (suc p) (omega arith)) (ap (λ (n : NumberRead). leb n.value m) e ∙ lt-leb (get_or s p 0) m q)
      ∙ ap (λ (n : NumberRead). record { number = 23; place = n.first }) e)

  pub raw_more : (k j p : ℕ) → k ≡ suc j → p < length s → get_or s p 0 ≤ m → raster_from s false m k p ≡ raster_from s false m j (p + 1)
  raw_more k j p z h q =
      let e = raw_here s p h in
      rw z
      (raster_more s false m j p (ap there e ∙ lt-ltb p (suc p) (omega arith)) (ap (λ (n : NumberRead). leb n.value m) e ∙ le-leb (get_or s p 0) m q)
      ∙ ap (λ (n : NumberRead). raster_from s false m j n.next) e
      ∙ ap (raster_from s false m j) (omega arith))

  pub raw_fit : (n p : ℕ) → p + n ≤ length s → ((j : ℕ) → j < n → leb (get_or s (p + j) 0) m ≡ true) → raster_from s false m n p ≡ done
  raw_fit zero p h q = raster_none s false m p
  raw_fit (suc n) p h q =
      raw_more (suc n) n p refl (omega arith) (leb-true (get_or s p 0) m (ap (λ (z : ℕ). leb (get_or s z 0) m) (sym (add-zero p)) ∙ q 0 (omega arith)))
      ∙ raw_fit n (p + 1) (omega arith) (λ j k. ap (λ (z : ℕ). leb (get_or s z 0) m) (omega arith) ∙ q (suc j) (omega arith))

  pub raw_inside : (n p : ℕ) → p ≤ length s → (raster_from s false m n p).number ≡ 0 → p + n ≤ length s
  raw_inside zero p h z = omega arith
  raw_inside (suc n) p h z =
      let g = good s false m n p z in
      by_test (ltb p (length s))
      (λ t.
      let l = ltb-true p (length s) t in
      let e = raw_here s p l in
      let r = raw_inside n (suc p) (omega arith) (ap (λ (x : NumberRead). (raster_from s false m n x.next).number) (sym e) ∙ g.rest) in
      omega arith)
      (λ t. no g.is_there (ap there (raw_past s p (ltb-false p (length s) t)) ∙ le-ltb p p (omega arith)))

-- ---- the values
pub samples_length : (s : List ℕ) (plain : Bool) (n p : ℕ) → length (samples_from s plain n p) ≡ n
unfolding samples_from
samples_length s plain zero p = refl
samples_length s plain (suc n) p = ap suc (samples_length s plain n (sample_at s plain p).next)

pub samples_more : (s : List ℕ) (plain : Bool) (n j p : ℕ) → n ≡ suc j → samples_from s plain n p ≡ (sample_at s plain p).value ∷ samples_from s plain j (sample_at s plain p).next
unfolding samples_from
samples_more s plain n j p z = rw z

raw_at_lem : (s : List ℕ) (n p j : ℕ) → p + n ≤ length s → j < n → get_or (samples_from s false n p) j 0 ≡ get_or s (p + j) 0
raw_at_lem s zero p j h k = absurd (omega arith)
raw_at_lem s (suc n) p zero h k = rw (samples_more s false (suc n) n p refl, raw_here s p (omega arith), add-zero p)
raw_at_lem s (suc n) p (suc j) h k =
    rw (samples_more s false (suc n) n p refl, raw_here s p (omega arith))
    (raw_at_lem s n (suc p) j (omega arith) (omega arith) ∙ ap (λ (z : ℕ). get_or s z 0) (omega arith))

pub raw_list : (s : List ℕ) (n p : ℕ) → p + n ≤ length s → samples_from s false n p ≡ build (λ j. get_or s (p + j) 0) 0 n
raw_list s n p h = is_build (λ j. get_or s (p + j) 0) (samples_from s false n p) n (samples_length s false n p) (λ j k. raw_at_lem s n p j h k)

-- ---- n bytes from p on, as a list
part_at : (s : List ℕ) (p n j : ℕ) → j < n → get_or (take (p + n - p) (drop p s)) j 0 ≡ get_or s (p + j) 0
part_at s p n j h = get_or-take (p + n - p) (drop p s) j 0 (omega arith) ∙ get_or-drop p s j 0

pub part_length : (s : List ℕ) (p n : ℕ) → p + n ≤ length s → length (take (p + n - p) (drop p s)) ≡ n
part_length s p n h = length-take-le (p + n - p) (drop p s) (omega (arith, length-drop p s)) ∙ omega arith

pub part_fits : (s : List ℕ) (m p n : ℕ) → every (λ j. leb (get_or (take (p + n - p) (drop p s)) j 0) m) n ≡ every (λ j. leb (get_or s (p + j) 0) m) n
part_fits s m p n = every_same _ _ n (λ j k. ap (λ (z : ℕ). leb z m) (part_at s p n j k))

pub raw_copy : (s : List ℕ) (n p : ℕ) → p + n ≤ length s → take (p + n - p) (drop p s) ≡ samples_from s false n p
raw_copy s n p h = is_build (λ j. get_or s (p + j) 0) (take (p + n - p) (drop p s)) n (part_length s p n h) (λ j k. part_at s p n j k) ∙ sym (raw_list s n p h)

-- ---- what is given: 23, 24 or nothing
pub raster_rows : (s : List ℕ) (plain : Bool) (m n p : ℕ)
    → raster_from s plain m n p ≡ verdict (row_at 23 (eqb (raster_from s plain m n p).number 23) (raster_from s plain m n p).place ∷ row_at 24 (eqb (raster_from s plain m n p).number 24) (raster_from s plain m n p).place ∷ [])
unfolding raster_from
raster_rows s plain m zero p = refl
raster_rows s plain m (suc n) p =
    let t = sample_at s plain p in
    by_test (there t)
    (λ e.
    by_test (leb t.value m)
    (λ f. rw (raster_more s plain m n p e f) (raster_rows s plain m n t.next))
    (λ f. rw (raster_23 s plain m n p e f)))
    (λ e. rw (raster_24 s plain m n p e))
