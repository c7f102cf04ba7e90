-- The state of a sample at a level is what its words make it. Assumes nothing.
-- Main laws: `state_is` running along the turned edgels of a row counts the words left of the sample; `stacked_is` so a sample after all levels is the painted one; `painting_list` all of them are
--   the painting.
use mathlib.Core.Path.{◌≡◌, refl, sym, ap, ◌∙◌}
use mathlib.Core.Bool.{Bool, true, false, ◌&&◌}
use mathlib.Core.List.{List, [], ◌∷◌, ◌++◌}
use Prim.Native.Nat.{ℕ, zero, suc, ◌+◌, ◌*◌, ◌/◌, ◌%◌, ◌≤◌, ◌<◌}
use native.Mathlib.Nat.{add-zero, mod-lt}
use native.Mathlib.Omega.{arith}
use lib.Dec.{eqb, ltb, leb}
use lib.ListN.{length, drop}
use borrow.Author.Tests.{eqb-true, eqb-false, lt-ltb, le-ltb, le-leb, ltb-true, ltb-false, leb-true}
use Rattle.tally.specs.Tally.{one, odd, differ, tally}
use Rattle.tally.proofs.Test.{by_test, differ_assoc}
use Rattle.tally.proofs.Parity.{odd_plus}
use Rattle.fill.specs.Filled.{Filled}
use Rattle.fill.proofs.Fills.{filled_list}
use Rattle.matte.specs.Layout.{Layout}
use Rattle.edgel.specs.Edgel.{horizontal}
use Rattle.edgel.specs.Word.{code_of, level_of}
use Rattle.paint.specs.Paint.{turns, painted, painting}
use Rattle.paint.specs.Span.{in_span}
use Rattle.layer.specs.Layer.{hits, turned_at, running, stacked}
use Rattle.marks.proofs.Digits.{differ_none}
use Rattle.paint.proofs.West.{span_west}

-- ---- one place more
one_more : (h : Bool) (lo x p : ℕ) → one (h && (leb lo p && ltb p (lo + suc x))) ≡ one (h && (leb lo p && ltb p (lo + x))) + one (h && eqb (lo + x) p)
one_more false lo x p = refl
one_more true lo x p =
    by_test (eqb (lo + x) p)
    (λ e.
    let s : lo + x ≡ p = eqb-true (lo + x) p e in
    rw (e, le-leb lo p (omega arith), lt-ltb p (lo + suc x) (omega arith), le-ltb p (lo + x) (omega arith)))
    (λ e.
    by_test (ltb p (lo + x))
    (λ t. rw (e, t, lt-ltb p (lo + suc x) (omega (arith, ltb-true p (lo + x) t))) (sym (add-zero (one (leb lo p && true)))))
    (λ t. rw (e, t, le-ltb p (lo + suc x) (omega (arith, ltb-false p (lo + x) t, eqb-false (lo + x) p e))) (sym (add-zero (one (leb lo p && false))))))

span_more : (lo x c : ℕ) → one (in_span lo (suc x) c) ≡ one (in_span lo x c) + one (horizontal c && eqb (lo + x) (c / 2))
unfolding in_span
span_more lo x c = one_more (horizontal c) lo x (c / 2)

and_none : (a : Bool) → (a && false) ≡ false
and_none true = refl
and_none false = refl

span_none : (lo c : ℕ) → in_span lo 0 c ≡ false
unfolding in_span
span_none lo c =
    ap (λ (b : Bool). horizontal c && b)
    (by_test (leb lo (c / 2))
    (λ t. rw (t, le-ltb (c / 2) (lo + 0) (omega (arith, leb-true lo (c / 2) t))))
    (λ t. rw t))
    ∙ and_none (horizontal c)

module _ (L : Layout) (w v : ℕ) (ks ws : List ℕ) (y k : ℕ) where
  -- one word: it turns the sample in column x + 1 if it turns that in column x or starts there
  word_more : (x u : ℕ) → x < w → one (turns L w v ks ws (suc x) y k u) ≡ one (turns L w v ks ws x y k u) + one (hits L k (y * w + x) u)
  unfolding turns hits
  word_more x u h =
      let c = code_of L u in
      by_test (eqb (level_of L u) k)
      (λ e.
      rw e
      (ap one (sym (span_west w (suc x) y c (omega arith)))
      ∙ span_more (y * w) x c
      ∙ ap (λ (b : Bool). one b + one (horizontal c && eqb (y * w + x) (c / 2))) (span_west w x y c (omega arith))))
      (λ e. rw e)

  words_more : (x : ℕ) → x < w → (l : List ℕ) → tally (turns L w v ks ws (suc x) y k) l ≡ tally (turns L w v ks ws x y k) l + tally (hits L k (y * w + x)) l
  unfolding tally
  words_more x h [] = refl
  words_more x h (u ∷ l) =
      let r : tally (turns L w v ks ws (suc x) y k) l ≡ tally (turns L w v ks ws x y k) l + tally (hits L k (y * w + x)) l = words_more x h l in
      omega (arith, word_more x u h)

  none_left : (l : List ℕ) → tally (turns L w v ks ws 0 y k) l ≡ 0
  unfolding tally turns
  none_left [] = refl
  none_left (u ∷ l) =
      by_test (eqb (level_of L u) k)
      (λ e. rw (e, sym (span_west w 0 y (code_of L u) (omega arith)), span_none (y * w) (code_of L u), none_left l))
      (λ e. rw (e, none_left l))

  -- all words
  pub state_is : (f : Bool) (x : ℕ) → x ≤ w → running (turned_at L k ws) f (y * w) x ≡ differ f (odd (tally (turns L w v ks ws x y k) ws))
  unfolding running turned_at
  state_is f zero h = differ_none f ∙ ap (λ (z : ℕ). differ f (odd z)) (sym (none_left ws))
  state_is f (suc x) h =
      let t = tally (turns L w v ks ws x y k) ws in
      let u = tally (hits L k (y * w + x)) ws in
      ap (λ (b : Bool). differ b (odd u)) (state_is f x (omega arith))
      ∙ differ_assoc f (odd t) (odd u)
      ∙ ap (differ f) (sym (odd_plus t u) ∙ ap odd (sym (words_more x h ws)))

module _ (L : Layout) (w v : ℕ) (ks ws : List ℕ) (z : 0 < w) where
  tally_alike : (p q : ℕ → Bool) → ((k : ℕ) → p k ≡ q k) → (l : List ℕ) → tally p l ≡ tally q l
  unfolding tally
  tally_alike p q e [] = refl
  tally_alike p q e (k ∷ l) = rw (e k, tally_alike p q e l)

  pub stacked_is : (i : ℕ) → stacked L w v ks ws i ≡ painted L w v ks ws (i % w) (i / w)
  unfolding stacked painted
  stacked_is i =
      let m : i % w < w = mod-lt i z in
      tally_alike _ _ (λ k. state_is L w v ks ws (i / w) k (ltb k v) (i % w) (omega arith)) ks

  pub painting_list : (h : ℕ) (d e : List ℕ) → w * h ≤ length d → Filled (stacked L w v ks ws) d (w * h) e → e ≡ painting L w h v ks ws ++ drop (w * h) d
  unfolding painting
  painting_list h d e l E =
      filled_list (λ i. painted L w v ks ws (i % w) (i / w)) d (w * h) e
      (record { long = E.long; done = λ i p. E.done i p ∙ stacked_is i; same = E.same }) l
