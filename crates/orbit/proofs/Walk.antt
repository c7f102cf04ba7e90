-- A walk along an orbit, one number after the other: where it stands and where it stops. Assumes nothing.
-- Definitions: `Walk f n a i c` the i-th number of the orbit of a is c.
-- Main laws: `orbit_at` the orbit's numbers are the iterates; `orbit_head` the first is where it began; `orbit_next` each is the image of the one before; `orbit_last` after the last comes the
--   first; `walk_begin`, `walk_go`, `walk_stop` the moves of a walk: it goes on while the image is not the start, and then the whole orbit has been seen; `walk_ok`, `walk_take` what has been seen,
--   one more at the end.
use mathlib.Core.Path.{◌≡◌, refl, sym, ap, ◌∙◌}
use mathlib.Core.Bool.{Bool, true}
use mathlib.Core.List.{[], ◌∷◌, ◌++◌}
use mathlib.Core.Logic.{◌≢◌}
use Prim.Native.Nat.{ℕ, zero, suc, ◌+◌, ◌-◌, ◌<◌}
use native.Mathlib.Numerals.{add-one}
use native.Mathlib.Omega.{arith}
use lib.Dec.{eqb}
use lib.ListN.{length, get_or, take}
use lib.Seq.{take-suc}
use borrow.Author.Tests.{eqb-true, eqb-false}
use Rattle.tally.proofs.Test.{by_test}
use Rattle.orbit.specs.Orbit.{orbit}
use Rattle.orbit.proofs.Pigeon.{iter}
use Rattle.orbit.proofs.Orbit.{Closed, iter_shift, orbit_period, orbit_within, ok_iter}

pub orbit_at : (f : ℕ → ℕ) (a n c i : ℕ) → i < length (orbit f a n c) → get_or (orbit f a n c) i 0 ≡ iter f i c
unfolding orbit
orbit_at f a zero c i h = absurd (omega arith)
orbit_at f a (suc n) c zero h = refl
orbit_at f a (suc n) c (suc i) h =
    by_test (eqb (f c) a)
    (λ e. absurd (omega (arith, rw e at h)))
    (λ e. rw e (orbit_at f a n (f c) i (omega (arith, rw e at h)) ∙ iter_shift f i c))

pub record Walk (f : ℕ → ℕ) (n a i c : ℕ) : Type 0 where
  pub inside : i < length (orbit f a n a)
  pub here : get_or (orbit f a n a) i 0 ≡ c

pub walk_take : (f : ℕ → ℕ) (n a i c : ℕ) → Walk f n a i c → take (i + 1) (orbit f a n a) ≡ take i (orbit f a n a) ++ (c ∷ [])
walk_take f n a i c W =
    rw add-one (take-suc (orbit f a n a) i 0 W.inside ∙ ap (λ (z : ℕ). take i (orbit f a n a) ++ (z ∷ [])) W.here)

module _ {f : ℕ → ℕ} {ok : ℕ → Bool} {n : ℕ} (K : Closed f ok n) (a : ℕ) (o : ok a ≡ true) where
  pub orbit_long : 0 < length (orbit f a n a)
  orbit_long = (orbit_period K a o).positive

  pub orbit_head : get_or (orbit f a n a) 0 0 ≡ a
  orbit_head = orbit_at f a n a 0 orbit_long

  pub orbit_next : (i : ℕ) → suc i < length (orbit f a n a) → get_or (orbit f a n a) (suc i) 0 ≡ f (get_or (orbit f a n a) i 0)
  orbit_next i h = orbit_at f a n a (suc i) h ∙ ap f (sym (orbit_at f a n a i (omega arith)))

  pub orbit_last : f (get_or (orbit f a n a) (length (orbit f a n a) - 1) 0) ≡ a
  orbit_last =
      let p : 0 < length (orbit f a n a) = orbit_long in
      let s : suc (length (orbit f a n a) - 1) ≡ length (orbit f a n a) = omega arith in
      ap f (orbit_at f a n a (length (orbit f a n a) - 1) (omega arith)) ∙ ap (λ (z : ℕ). iter f z a) s ∙ (orbit_period K a o).back

  pub walk_begin : Walk f n a 0 a
  walk_begin = record { inside = orbit_long; here = orbit_head }

  module _ (i c : ℕ) (W : Walk f n a i c) where
    walk_is : iter f i a ≡ c
    walk_is = sym (orbit_at f a n a i W.inside) ∙ W.here

    pub walk_ok : ok c ≡ true
    walk_ok = rw (sym walk_is) (ok_iter K i a o)

    pub walk_go : f c ≢ a → Walk f n a (suc i) (f c)
    walk_go q =
        let h : suc i ≢ length (orbit f a n a) =
        λ s. q (ap f (sym walk_is) ∙ ap (λ (z : ℕ). iter f z a) s ∙ (orbit_period K a o).back) in
        let l : suc i < length (orbit f a n a) = omega (arith, W.inside) in
        record { inside = l; here = orbit_at f a n a (suc i) l ∙ ap f walk_is }

    pub walk_stop : f c ≡ a → suc i ≡ length (orbit f a n a)
    walk_stop e =
        by_test (eqb (suc i) (length (orbit f a n a)))
        (λ t. eqb-true (suc i) (length (orbit f a n a)) t)
        (λ t. absurd
        ((orbit_period K a o).first (suc i) (omega arith) (omega (arith, W.inside, eqb-false (suc i) (length (orbit f a n a)) t)) (ap f walk_is ∙ e)))

    pub walk_room : i < n
    walk_room = omega (arith, W.inside, orbit_within K a o)
