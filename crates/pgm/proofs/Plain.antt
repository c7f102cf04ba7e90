-- The samples of P2 as the code reads and writes them. Assumes nothing.
-- Definitions: `Writing` the first j samples are written, the others stand from byte i on.
-- Main laws: `plain_24`, `plain_23`, `plain_more` one sample; `writing_begin`, `writing_there`, `writing_value`, `writing_more`, `writing_end` writing them one by one.
use mathlib.Core.Path.{◌≡◌, refl, sym, ap, ◌∙◌}
use mathlib.Core.Bool.{true}
use mathlib.Core.List.{List, ◌∷◌, ◌++◌, append-nil}
use Prim.Native.Nat.{ℕ, suc, ◌+◌, ◌-◌, ◌≤◌, ◌<◌}
use native.Mathlib.Nat.{add-zero}
use native.Mathlib.Omega.{arith}
use lib.Dec.{leb}
use lib.ListN.{length, get_or, drop, set, drop_of_length-le}
use lib.Seq.{get_or-drop, drop-drop}
use borrow.Author.Tests.{le-ltb, leb-true, le-leb, lt-leb}
use Rattle.tally.specs.Tally.{build}
use Rattle.tally.proofs.Build.{is_build}
use Rattle.fill.specs.Filled.{Filled}
use Rattle.fill.proofs.Fills.{filled_none, filled_more, filled_list}
use Rattle.std.specs.Prelude.{Result, Ok, Err}
use Rattle.std.specs.Result.{IsOk}
use Rattle.pgm.specs.declared.Number.{Number}
use Rattle.pgm.specs.Reader.{NumberRead, number_told, there, plain_at, raster_from, samples_from, capped}
use Rattle.pgm.proofs.Cap.{cap_small, cap_fits}
use Rattle.pgm.proofs.Steps.{number_given, number_missing, told_there}
use Rattle.pgm.proofs.Rows.{raster_24, raster_23, raster_more, Good, good, samples_length, samples_more}

module _ (s : List ℕ) (m k p j : ℕ) (e : k ≡ suc j) where
  pub plain_24 : (a : ℕ) → Err a ≡ number_told (capped (plain_at s p)) → raster_from s true m k p ≡ record { number = 24; place = a }
  plain_24 a q =
      let g = number_missing (capped (plain_at s p)) a q in
      rw (e, g.1) (raster_24 s true m j p (le-ltb (plain_at s p).first (plain_at s p).next g.0))

  module _ (n : Number) (q : Ok n ≡ number_told (capped (plain_at s p))) where
    is_there : there (plain_at s p) ≡ true
    is_there = told_there (capped (plain_at s p)) n q

    same : record { first = n.first; value = n.value; next = n.next } ≡ capped (plain_at s p)
    same = (number_given (capped (plain_at s p)) n q).1

    module _ (l : m ≤ 255) where
      pub plain_23 : m < n.value → raster_from s true m k p ≡ record { number = 23; place = n.first }
      plain_23 g =
          rw (e, ap (λ (z : NumberRead). z.first) same)
          (raster_23 s true m j p is_there (sym (cap_fits (plain_at s p).value m (omega arith)) ∙ ap (λ (z : NumberRead). leb z.value m) (sym same) ∙ lt-leb n.value m g))

      pub plain_more : n.value ≤ m → raster_from s true m k p ≡ raster_from s true m j n.next
      plain_more g =
          rw (e, ap (λ (z : NumberRead). z.next) same)
          (raster_more s true m j p is_there (sym (cap_fits (plain_at s p).value m (omega arith)) ∙ ap (λ (z : NumberRead). leb z.value m) (sym same) ∙ le-leb n.value m g))

-- ---- writing
pub record Writing (s : List ℕ) (m n p : ℕ) (room₀ room : List ℕ) (i j : ℕ) : Type 0 where
  pub inside : i ≤ length s
  pub upto : j ≤ n
  pub left : drop j (samples_from s true n p) ≡ samples_from s true (n - j) i
  pub fine : (raster_from s true m (n - j) i).number ≡ 0
  pub filled : Filled (λ k. get_or (samples_from s true n p) k 0) room₀ j room

module _ (s : List ℕ) (m n p : ℕ) (room₀ : List ℕ) where
  pub writing_begin : p ≤ length s → (raster_from s true m n p).number ≡ 0 → Writing s m n p room₀ room₀ p 0
  writing_begin h z =
      let e : n ≡ n - 0 = omega arith in
      record {
        inside = h;
        upto = omega arith;
        left = ap (λ (k : ℕ). samples_from s true k p) e;
        fine = ap (λ (k : ℕ). (raster_from s true m k p).number) (sym e) ∙ z;
        filled = filled_none _ room₀;
      }

  module _ (room : List ℕ) (i j : ℕ) (t : Writing s m n p room₀ room i j) (h : j < n) where
    one_more : n - j ≡ suc (n - (j + 1))
    one_more = omega arith

    next_good : Good s true m (n - (j + 1)) i
    next_good = good s true m (n - (j + 1)) i (ap (λ (z : ℕ). (raster_from s true m z i).number) (sym one_more) ∙ t.fine)

    pub writing_there : (r : Result Number ℕ) → r ≡ number_told (capped (plain_at s i)) → IsOk r
    writing_there r q = rw (q, next_good.is_there) refl

    module _ (l : m ≤ 255) (r : Number) (q : Ok r ≡ number_told (capped (plain_at s i))) where
      fits : (plain_at s i).value ≤ m
      fits = leb-true (plain_at s i).value m next_good.fits

      same_number : record { first = r.first; value = r.value; next = r.next } ≡ capped (plain_at s i)
      same_number = (number_given (capped (plain_at s i)) r q).1

      next_is : r.next ≡ (plain_at s i).next
      next_is = ap (λ (z : NumberRead). z.next) same_number

      value_is : r.value ≡ (plain_at s i).value
      value_is = ap (λ (z : NumberRead). z.value) same_number ∙ cap_small (plain_at s i).value (omega (arith, fits))

      rest : drop j (samples_from s true n p) ≡ (plain_at s i).value ∷ samples_from s true (n - (j + 1)) (plain_at s i).next
      rest = t.left ∙ samples_more s true (n - j) (n - (j + 1)) i one_more

      here : get_or (samples_from s true n p) j 0 ≡ (plain_at s i).value
      here = ap (λ (z : ℕ). get_or (samples_from s true n p) z 0) (sym (add-zero j)) ∙ sym (get_or-drop j (samples_from s true n p) 0 0) ∙ ap (λ (z : List ℕ). get_or z 0 0) rest

      pub writing_value : r.value ≤ 255
      writing_value = omega (arith, fits, value_is)

      pub writing_more : r.next ≤ length s → j < length room → Writing s m n p room₀ (set room j r.value) r.next (j + 1)
      writing_more g k = record {
        inside = g;
        upto = omega arith;
        left = sym (drop-drop 1 j (samples_from s true n p)) ∙ ap (drop 1) rest ∙ ap (samples_from s true (n - (j + 1))) (sym next_is);
        fine =
            ap (λ (z : ℕ). (raster_from s true m (n - (j + 1)) z).number) next_is ∙ next_good.rest;
        filled = filled_more _ room₀ j r.value room t.filled k (value_is ∙ sym here);
      }

  pub writing_end : (room : List ℕ) (i j : ℕ) → Writing s m n p room₀ room i j → n ≤ j → length room₀ ≡ n → room ≡ samples_from s true n p
  writing_end room i j t h k =
      let e : j ≡ n = omega (arith, t.upto) in
      let px = samples_from s true n p in
      filled_list (λ z. get_or px z 0) room₀ n room (rw e at t.filled) (omega arith)
      ∙ ap (λ (z : List ℕ). build (λ k. get_or px k 0) 0 n ++ z) (drop_of_length-le room₀ (omega arith))
      ∙ append-nil (build (λ k. get_or px k 0) 0 n)
      ∙ sym (is_build (λ z. get_or px z 0) px n (samples_length s true n p) (λ z g. refl))
