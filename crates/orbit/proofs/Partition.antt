-- The orbits of a closed map, listed by their least heads, hold each number of the set exactly once. Assumes nothing.
-- Definitions: `Headed` every orbit has a head; `listing` the orbits of all leads.
-- Main laws: `low_le`, `le_low` what `low` says; `leads_head`, `leads_ok`, `leads_low`, `low_leads` what `leads` says; `lead` the least head of an orbit, with `lead_head`, `lead_on`, `lead_le`, `lead_ok`,
--   `lead_leads`, `lead_only`; `once` the count of d in the listing is 1 where ok, else 0; `listing_length` its length is the number of ok numbers.
use mathlib.Core.Path.{◌≡◌, refl, sym, ap, ◌∙◌, subst}
use mathlib.Core.Bool.{Bool, true, false, not, ◌&&◌}
use mathlib.Core.List.{List, [], ◌∷◌}
use Prim.Native.Nat.{ℕ, ◌≤◌, ◌<◌}
use native.Mathlib.Nat.{zero-add}
use native.Mathlib.Omega.{arith}
use lib.Dec.{eqb, ltb}
use lib.ListN.{length}
use borrow.Author.Tests.{ltb-true, ltb-false, lt-ltb, le-ltb, eqb-true, eq-eqb}
use Rattle.tally.specs.Tally.{one, count, flat, pick, sum}
use Rattle.tally.proofs.Test.{by_test, no, and_1, and_2}
use Rattle.tally.proofs.First.{Least, least}
use Rattle.tally.proofs.Sum.{sum_same}
use Rattle.tally.proofs.Count.{length_counts}
use Rattle.tally.proofs.Pick.{pick_none, pick_one}
use Rattle.orbit.specs.Orbit.{orbit, low, leads}
use Rattle.orbit.proofs.Orbit.{Closed}
use Rattle.orbit.proofs.On.{on, on_ok, on_sym, on_same, count_on}

pub low_le : (head : ℕ → Bool) (a : ℕ) (l : List ℕ) → low head a l ≡ true → (d : ℕ) → 0 < count d l → head d ≡ true → a ≤ d
unfolding low count
low_le head a [] e d h k = absurd (omega arith)
low_le head a (c ∷ l) e d h k =
    by_test (eqb d c)
    (λ t. by_test (ltb d a)
    (λ u.
    let s : d ≡ c = eqb-true d c t in
    no (and_1 (not (head d && ltb d a)) (low head a l) (subst (λ (z : ℕ). (not (head z && ltb z a) && low head a l) ≡ true) (sym s) e)) (rw (k, u)))
    (λ u. ltb-false d a u))
    (λ t. low_le head a l (and_2 (not (head c && ltb c a)) _ e) d (omega (arith, rw (t, zero-add (count d l)) at h)) k)

pub le_low : (head : ℕ → Bool) (a : ℕ) (l : List ℕ) → ((d : ℕ) → 0 < count d l → head d ≡ true → a ≤ d) → low head a l ≡ true
unfolding low count
le_low head a [] q = refl
le_low head a (c ∷ l) q =
    let r : low head a l ≡ true = le_low head a l (λ d h k. q d (omega arith) k) in
    by_test (head c)
    (λ t. rw (t, le-ltb c a (q c (rw (eq-eqb c c refl) (omega arith)) t)) r)
    (λ t. rw t r)

-- ---- the partition
unfoldable pub Headed : (ℕ → ℕ) → (ℕ → Bool) → (ℕ → Bool) → ℕ → Type 0
Headed f ok head n = (c : ℕ) → ok c ≡ true → (d : ℕ) × (head d ≡ true) × (on f n c d ≡ true)

abbrev pub listing : (ℕ → ℕ) → (ℕ → Bool) → (ℕ → Bool) → ℕ → List (List ℕ)
listing f ok head n = pick (leads f ok head n) (λ c. orbit f c n c) 0 n

module _ {f : ℕ → ℕ} {ok : ℕ → Bool} {n : ℕ} (K : Closed f ok n) (head : ℕ → Bool) (X : Headed f ok head n) where
  pub leads_head : (c : ℕ) → leads f ok head n c ≡ true → head c ≡ true
  unfolding leads
  leads_head c e = and_1 (head c) _ e

  pub leads_ok : (c : ℕ) → leads f ok head n c ≡ true → ok c ≡ true
  unfolding leads
  leads_ok c e = and_1 (ok c) _ (and_2 (head c) _ e)

  pub leads_low : (c d : ℕ) → leads f ok head n c ≡ true → head d ≡ true → on f n c d ≡ true → c ≤ d
  unfolding leads on
  leads_low c d e h k = low_le head c (orbit f c n c) (and_2 (ok c) _ (and_2 (head c) _ e)) d (ltb-true _ _ k) h

  pub low_leads : (c : ℕ) → head c ≡ true → ok c ≡ true → ((d : ℕ) → head d ≡ true → on f n c d ≡ true → c ≤ d) → leads f ok head n c ≡ true
  unfolding leads on
  low_leads c h k q = rw (h, k) (le_low head c (orbit f c n c) (λ d u v. q d v (lt-ltb _ _ u)))

  -- the least head of c's orbit
  pub lead_of : (c : ℕ) → ok c ≡ true → (m : ℕ) × Least (λ d. head d && on f n c d) m
  unfolding Headed
  lead_of c h = let x = X c h in (x.0, least (λ d. head d && on f n c d) x.0 (rw x.1 x.2))

  pub lead : (c : ℕ) → ok c ≡ true → ℕ
  lead c h = (lead_of c h).1.it

  pub lead_head : (c : ℕ) (h : ok c ≡ true) → head (lead c h) ≡ true
  unfolding lead
  lead_head c h = and_1 (head (lead c h)) _ (lead_of c h).1.holds

  pub lead_on : (c : ℕ) (h : ok c ≡ true) → on f n c (lead c h) ≡ true
  unfolding lead
  lead_on c h = and_2 (head (lead c h)) _ (lead_of c h).1.holds

  pub lead_le : (c : ℕ) (h : ok c ≡ true) (d : ℕ) → head d ≡ true → on f n c d ≡ true → lead c h ≤ d
  unfolding lead
  lead_le c h d k e =
      by_test (ltb d (lead c h))
      (λ t. no (ap (λ (z : Bool). z && on f n c d) k ∙ e) ((lead_of c h).1.below d (ltb-true _ _ t)))
      (λ t. ltb-false _ _ t)

  pub lead_ok : (c : ℕ) (h : ok c ≡ true) → ok (lead c h) ≡ true
  lead_ok c h = on_ok K c (lead c h) h (lead_on c h)

  pub lead_leads : (c : ℕ) (h : ok c ≡ true) → leads f ok head n (lead c h) ≡ true
  lead_leads c h =
      low_leads (lead c h) (lead_head c h) (lead_ok c h) (λ d k e. lead_le c h d k (on_same K c (lead c h) d h (lead_on c h) ∙ e))

  -- the lead is the only one whose orbit holds c
  pub lead_only : (c d : ℕ) (h : ok c ≡ true) → leads f ok head n d ≡ true → on f n d c ≡ true → d ≡ lead c h
  lead_only c d h k e =
      let o : ok d ≡ true = leads_ok d k in
      let s : on f n c d ≡ true = on_sym K c d h o ∙ e in
      let a : lead c h ≤ d = lead_le c h d (leads_head d k) s in
      let b : d ≤ lead c h = leads_low d (lead c h) k (lead_head c h) (on_same K d c (lead c h) o e ∙ lead_on c h) in
      omega arith

  pub once_ok : (d : ℕ) → ok d ≡ true → count d (flat (listing f ok head n)) ≡ 1
  once_ok d h =
      let l = lead d h in
      let b : l < n = K.bound l (lead_ok d h) in
      let s : on f n l d ≡ true = on_sym K l d (lead_ok d h) h ∙ lead_on d h in
      pick_one (leads f ok head n) (λ c. orbit f c n c) d 0 n l (omega arith) (omega arith) (lead_leads d h)
      (count_on K l d (lead_ok d h) ∙ ap one s)
      (λ j k q. by_test (on f n j d) (λ e. absurd (q (lead_only d j h k e))) (λ e. count_on K j d (leads_ok j k) ∙ ap one e))

  pub once_not : (d : ℕ) → ok d ≡ false → count d (flat (listing f ok head n)) ≡ 0
  once_not d h =
      pick_none (leads f ok head n) (λ c. orbit f c n c) d 0 n
      (λ j u k. by_test (on f n j d) (λ e. no (on_ok K j d (leads_ok j k) e) h) (λ e. count_on K j d (leads_ok j k) ∙ ap one e))

  pub once : (d : ℕ) → count d (flat (listing f ok head n)) ≡ one (ok d)
  once d = by_test (ok d) (λ e. rw e (once_ok d e)) (λ e. rw e (once_not d e))

  pub listing_length : length (flat (listing f ok head n)) ≡ sum (λ d. one (ok d)) n
  listing_length =
      length_counts n (flat (listing f ok head n))
      (λ d h. by_test (ok d) (λ e. K.bound d e) (λ e. absurd (omega (arith, once_not d e))))
      ∙ sum_same (λ d. count d (flat (listing f ok head n))) (λ d. one (ok d)) n (λ i h. once i)
