-- A scan upwards that traces each head which is ok and not yet marked, and marks the heads of its line, lists exactly the orbits of the leads. Assumes nothing.
-- Definitions: `Marks i m` the loop's invariant: a head that is ok is marked by m exactly if the lead of its line is below i; `scan` the scan, marks as a function.
-- Main laws: `marks_start`, `marks_tell` (not marked = leads), `marks_line` (after a line), `marks_skip` (after any other number), `marks_past` (those behind are marked), `marks_test` (the scan's test);
--   `scan_pick` from the invariant the scan is the walk over the leads; `scan_listing` the whole scan is the listing.
use mathlib.Core.Path.{◌≡◌, refl, sym, ap, ◌∙◌}
use mathlib.Core.Bool.{Bool, true, false, not, ◌&&◌, ◌||◌}
use mathlib.Core.List.{List, [], ◌∷◌}
use Prim.Native.Nat.{ℕ, zero, suc, ◌≤◌, ◌<◌}
use native.Mathlib.Omega.{arith}
use lib.Dec.{ltb}
use borrow.Author.Tests.{ltb-true, ltb-false, lt-ltb, le-ltb}
use Rattle.tally.specs.Tally.{pick}
use Rattle.tally.proofs.Test.{by_test, no, or_true, or_false}
use Rattle.tally.proofs.Pick.{pick_yes, pick_no}
use Rattle.orbit.specs.Orbit.{orbit, leads}
use Rattle.orbit.proofs.Orbit.{Closed}
use Rattle.orbit.proofs.On.{on, on_self, on_sym}
use Rattle.orbit.proofs.Partition.{listing, Headed, lead, lead_ok, lead_on, lead_le, lead_leads, lead_only}

unfoldable pub scan : (ℕ → ℕ) → (ℕ → Bool) → (ℕ → Bool) → ℕ → (ℕ → Bool) → ℕ → ℕ → List (List ℕ)
scan f ok head n marks i zero = []
scan f ok head n marks i (suc m) =
    elim (head i && (ok i && not (marks i))) [
      | true ↦ orbit f i n i ∷ scan f ok head n (λ d. marks d || on f n i d) (suc i) m
      | false ↦ scan f ok head n marks (suc i) m
    ]

scan_yes : (f : ℕ → ℕ) (ok head : ℕ → Bool) (n : ℕ) (marks : ℕ → Bool) (i m : ℕ) → (head i && (ok i && not (marks i))) ≡ true
    → scan f ok head n marks i (suc m) ≡ orbit f i n i ∷ scan f ok head n (λ d. marks d || on f n i d) (suc i) m
unfolding scan
scan_yes f ok head n marks i m e = rw (e, scan)

scan_no : (f : ℕ → ℕ) (ok head : ℕ → Bool) (n : ℕ) (marks : ℕ → Bool) (i m : ℕ) → (head i && (ok i && not (marks i))) ≡ false
    → scan f ok head n marks i (suc m) ≡ scan f ok head n marks (suc i) m
unfolding scan
scan_no f ok head n marks i m e = rw (e, scan)

module _ {f : ℕ → ℕ} {ok : ℕ → Bool} {n : ℕ} (K : Closed f ok n) (head : ℕ → Bool) (X : Headed f ok head n) where
  pub record Marks (i : ℕ) (m : ℕ → Bool) : Type 0 where
    pub tell : (d : ℕ) (h : ok d ≡ true) → head d ≡ true → m d ≡ ltb (lead K head X d h) i

  pub marks_start : (m : ℕ → Bool) → ((d : ℕ) → ok d ≡ true → head d ≡ true → m d ≡ false) → Marks 0 m
  marks_start m q = record { tell = λ d h k. q d h k ∙ sym (le-ltb (lead K head X d h) 0 (omega arith)) }

  -- a head that is ok leads exactly if it is not marked when the scan comes to it
  pub marks_tell : (i : ℕ) (m : ℕ → Bool) → Marks i m → head i ≡ true → ok i ≡ true → not (m i) ≡ leads f ok head n i
  marks_tell i m M k h =
      by_test (leads f ok head n i)
      (λ e.
      let s : i ≡ lead K head X i h = lead_only K head X i i h e (on_self K i h) in
      rw (M.tell i h k, le-ltb (lead K head X i h) i (omega arith)) (sym e))
      (λ e.
      let a : lead K head X i h ≤ i = lead_le K head X i h i k (on_self K i h) in
      let b : ¬ (lead K head X i h ≡ i) = λ z. no (ap (λ (x : ℕ). leads f ok head n x) (sym z) ∙ lead_leads K head X i h) e in
      rw (M.tell i h k, lt-ltb (lead K head X i h) i (omega arith)) (sym e))

  ltb_same : (a i : ℕ) → ¬ (a ≡ i) → ltb a i ≡ ltb a (suc i)
  ltb_same a i q =
      by_test (ltb a i)
      (λ e. e ∙ sym (lt-ltb a (suc i) (omega (arith, ltb-true a i e))))
      (λ e. e ∙ sym (le-ltb a (suc i) (omega (arith, ltb-false a i e))))

  -- once the line of the lead i has its heads marked
  pub marks_line : (i : ℕ) (m t : ℕ → Bool) → Marks i m → leads f ok head n i ≡ true → ((d : ℕ) → head d ≡ true → t d ≡ (m d || on f n i d)) → Marks (suc i) t
  marks_line i m t M e q =
      record {
        tell = λ d h k.
            q d k
            ∙ by_test (on f n i d)
            (λ o.
            let s : i ≡ lead K head X d h = lead_only K head X d i h e o in
            rw (o, or_true (m d)) (sym (lt-ltb (lead K head X d h) (suc i) (omega arith))))
            (λ o. rw (o, or_false (m d))
            (M.tell d h k
            ∙ ltb_same (lead K head X d h) i
            (λ z. no (ap (λ (x : ℕ). on f n x d) (sym z) ∙ on_sym K (lead K head X d h) d (lead_ok K head X d h) h ∙ lead_on K head X d h) o)));
      }

  -- a number that does not lead changes no mark
  pub marks_skip : (i : ℕ) (m : ℕ → Bool) → Marks i m → leads f ok head n i ≡ false → Marks (suc i) m
  marks_skip i m M e =
      record {
        tell = λ d h k.
            M.tell d h k ∙ ltb_same (lead K head X d h) i (λ z. no (ap (λ (x : ℕ). leads f ok head n x) (sym z) ∙ lead_leads K head X d h) e);
      }

  -- a head that is ok and behind the scan is marked
  pub marks_past : (i : ℕ) (m : ℕ → Bool) → Marks i m → (d : ℕ) → ok d ≡ true → head d ≡ true → d < i → m d ≡ true
  marks_past i m M d h k l = M.tell d h k ∙ lt-ltb (lead K head X d h) i (omega (arith, lead_le K head X d h d k (on_self K d h)))

  -- the scan's test is `leads`
  pub marks_test : (i : ℕ) (m : ℕ → Bool) → Marks i m → (head i && (ok i && not (m i))) ≡ leads f ok head n i
  unfolding leads
  marks_test i m M =
      by_test (head i)
      (λ k. by_test (ok i)
      (λ h. rw (k, h) (marks_tell i m M k h ∙ rw (k, h)))
      (λ h. rw (k, h)))
      (λ k. rw k)

  pub scan_pick : (i m : ℕ) (marks : ℕ → Bool) → Marks i marks → scan f ok head n marks i m ≡ pick (leads f ok head n) (λ c. orbit f c n c) i m
  unfolding scan pick
  scan_pick i zero marks M = refl
  scan_pick i (suc m) marks M =
      by_test (leads f ok head n i)
      (λ e. scan_yes f ok head n marks i m (marks_test i marks M ∙ e)
      ∙ ap (λ (l : List (List ℕ)). orbit f i n i ∷ l) (scan_pick (suc i) m (λ d. marks d || on f n i d) (marks_line i marks (λ d. marks d || on f n i d) M e (λ d k. refl)))
      ∙ sym (pick_yes (leads f ok head n) (λ c. orbit f c n c) i m e))
      (λ e. scan_no f ok head n marks i m (marks_test i marks M ∙ e)
      ∙ scan_pick (suc i) m marks (marks_skip i marks M e)
      ∙ sym (pick_no (leads f ok head n) (λ c. orbit f c n c) i m e))

  pub scan_listing : scan f ok head n (λ d. false) 0 n ≡ listing f ok head n
  scan_listing = scan_pick 0 n (λ d. false) (marks_start (λ d. false) (λ d h k. refl))
