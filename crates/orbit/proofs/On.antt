-- Which numbers stand in an orbit, as a test. Assumes nothing.
-- Definitions: `on f n c d` d stands in the orbit of c.
-- Main laws: `on_reach`, `reach_on` exactly the reached ones; `count_on` each stands there once; `on_self`, `on_sym`, `on_same`, `on_next` being on one orbit is an equivalence that the map keeps; `on_ok`.
use mathlib.Core.Path.{◌≡◌, sym, ◌∙◌}
use mathlib.Core.Bool.{Bool, true}
use Prim.Native.Nat.{ℕ, zero, suc, ◌<◌}
use native.Mathlib.Nat.{zero-add}
use native.Mathlib.Omega.{arith}
use lib.Dec.{eqb, ltb}
use lib.ListN.{length}
use borrow.Author.Tests.{ltb-true, eqb-true}
use Rattle.tally.specs.Tally.{one, count}
use Rattle.tally.proofs.Test.{by_test, no, iff}
use Rattle.orbit.specs.Orbit.{orbit}
use Rattle.orbit.proofs.Orbit.{Closed, Reach, run, iter_shift, orbit_is, count_in, count_out, reach_self, reach_next, reach_trans, reach_back, ok_reach}

-- d stands in the orbit of c: a test
unfoldable pub on : (ℕ → ℕ) → ℕ → ℕ → ℕ → Bool
on f n c d = ltb 0 (count d (orbit f c n c))

run_reach : (f : ℕ → ℕ) (d m c : ℕ) → 0 < count d (run f m c) → Reach f c d
unfolding run count
run_reach f d zero c h = absurd (omega arith)
run_reach f d (suc m) c h =
    by_test (eqb d c)
    (λ e. record { steps = 0; comes = sym (eqb-true d c e) })
    (λ e.
    let r = run_reach f d m (f c) (omega (arith, rw (e, zero-add (count d (run f m (f c)))) at h)) in
    record { steps = suc r.steps; comes = sym (iter_shift f r.steps c) ∙ r.comes })

module _ {f : ℕ → ℕ} {ok : ℕ → Bool} {n : ℕ} (K : Closed f ok n) where
  pub on_reach : (c d : ℕ) → ok c ≡ true → on f n c d ≡ true → Reach f c d
  unfolding on
  on_reach c d h e = run_reach f d (length (orbit f c n c)) c (rw (sym (orbit_is K c h)) (ltb-true _ _ e))

  pub reach_on : (c d : ℕ) → ok c ≡ true → Reach f c d → on f n c d ≡ true
  unfolding on
  reach_on c d h r = rw (count_in K c d h r)

  pub count_on : (c d : ℕ) → ok c ≡ true → count d (orbit f c n c) ≡ one (on f n c d)
  count_on c d h =
      by_test (on f n c d)
      (λ e. rw e (count_in K c d h (on_reach c d h e)))
      (λ e. rw e (count_out K c d h (λ r. no (reach_on c d h r) e)))

  pub on_self : (c : ℕ) → ok c ≡ true → on f n c c ≡ true
  on_self c h = reach_on c c h (reach_self f c)

  pub on_ok : (c d : ℕ) → ok c ≡ true → on f n c d ≡ true → ok d ≡ true
  on_ok c d h e = ok_reach K c d h (on_reach c d h e)

  pub on_sym : (c d : ℕ) → ok c ≡ true → ok d ≡ true → on f n c d ≡ on f n d c
  on_sym c d h k =
      iff (λ e. reach_on d c k (reach_back K c d h (on_reach c d h e))) (λ e. reach_on c d h (reach_back K d c k (on_reach d c k e)))

  pub on_same : (c d e : ℕ) → ok c ≡ true → on f n c d ≡ true → on f n c e ≡ on f n d e
  on_same c d e h t =
      let r = on_reach c d h t in
      let k = ok_reach K c d h r in
      iff (λ u. reach_on d e k (reach_trans f d c e (reach_back K c d h r) (on_reach c e h u)))
      (λ u. reach_on c e h (reach_trans f c d e r (on_reach d e k u)))

  pub on_next : (c d : ℕ) → ok c ≡ true → ok d ≡ true → on f n c (f d) ≡ on f n c d
  on_next c d h k =
      iff (λ u. reach_on c d h (reach_trans f c (f d) d (on_reach c (f d) h u) (reach_back K d (f d) k (reach_next f d d (reach_self f d)))))
      (λ u. reach_on c (f d) h (reach_next f c d (on_reach c d h u)))
