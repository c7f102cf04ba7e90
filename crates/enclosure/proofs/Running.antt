-- Ranks without sorting: the rank of a crossing by running sums of the stepped samples. Assumes nothing.
-- Definitions: `run P ks i` the listed horizontal crossings at places below i.
-- Main laws: `rank_place` a place's ranks begin at its running sum; `run_next` the sum at the next place, `place_apart` which adds how far the stepped samples are apart, also from a row's end to the
--   next row's start; `rank_south`, `rank_north` the rank of a crossing from its place's running sum, the stepped left sample and the level's own number (as sums on both sides, since numbers are
--   natural); `run_total` in the end there are as many ranks as horizontal crossings; `rank_below` every rank is below that number, and so below the number of words: `heads_words`.
use mathlib.Core.Path.{◌≡◌, refl, sym, ap, ◌∙◌}
use mathlib.Core.Bool.{Bool, true, false, not, ◌&&◌, cond}
use mathlib.Core.List.{List}
use Prim.Native.Nat.{ℕ, zero, suc, ◌+◌, ◌-◌, ◌*◌, ◌/◌, ◌%◌, ◌≤◌, ◌<◌}
use native.Mathlib.Nat.{add-zero, mul-le-mul_right, div-add-mod', mod-lt}
use native.Mathlib.Omega.{arith}
use lib.Dec.{ltb}
use lib.Arith.{digits_mod, digits_div}
use lib.ListN.{length}
use borrow.Author.Tests.{ltb-true, ltb-false, lt-ltb, eq-eqb, ne_eqb}
use Rattle.tally.specs.Tally.{one, differ, apart, sum, total}
use Rattle.tally.proofs.Test.{by_test, differ_low, differ_high}
use Rattle.tally.proofs.Sum.{sum_same, sum_none, sum_cut, sum_next, sum_even, sum_le, total_sum}
use Rattle.tally.proofs.Count.{tally_total}
use Rattle.matte.specs.Layout.{Layout}
use Rattle.matte.specs.Picture.{Picture, size, at, high}
use Rattle.edgel.specs.Edgel.{horizontal, first, edgel, crossed, cut}
use Rattle.outline.specs.Line.{cut_at}
use Rattle.outline.specs.List.{listed}
use Rattle.outline.proofs.Border.{Border}
use Rattle.outline.proofs.Codes.{pos_left}
use Rattle.outline.proofs.Paper.{closed_at}
use Rattle.outline.proofs.Places.{flat_even}
use Rattle.outline.proofs.Counting.{steps, crossings, edgel_steps, not_edgel, length_places}
use Rattle.enclosure.specs.Position.{place, rises, key}
use Rattle.enclosure.specs.Tree.{level_at}
use Rattle.enclosure.specs.Call.{heads}
use Rattle.enclosure.proofs.Order.{place_lt, flat_differ, rises_is}
use Rattle.enclosure.proofs.Lines.{Setting, small, pass_cut}
use Rattle.enclosure.proofs.Before.{listed_level, key_level}
use Rattle.enclosure.proofs.Tree.{line_of}
use Rattle.enclosure.proofs.Stepped.{sum_back, hits, hits_comm, part, whole, steps_suc, steps_top}
use Rattle.enclosure.proofs.Rank.{cross, rank, rank_lt, pos_at, On, pass_on, cross_on}

abbrev pub run : Picture → List ℕ → ℕ → ℕ
run P ks i = sum (λ j. crossings P ks (2 * j)) i

-- ---- the running sum
module _ (P : Picture) (B : Border P) (ks : List ℕ) where
  pub run_next : (i : ℕ) → run P ks (i + 1) ≡ run P ks i + crossings P ks (2 * i)
  run_next i = sum_next (λ j. crossings P ks (2 * j)) i

  pub place_apart : (i : ℕ) → i + 1 < size P → crossings P ks (2 * i) ≡ apart (steps ks (at P i)) (steps ks (at P (i + 1)))
  unfolding edgel
  place_apart i l =
      let w = P.w in
      let p : 0 < w = pos_left P.w P.h (omega arith) in
      let f : horizontal (2 * i) ≡ true = flat_even i in
      let h : 2 * i / 2 ≡ i = omega arith in
      by_test (ltb (i % w + 1) w)
      (λ t. edgel_steps P ks (2 * i) (rw (f, h, t) (lt-ltb i (size P) (omega arith))) ∙ rw (f, h))
      (λ t.
      let e : i % w + 1 ≡ w = omega (arith, ltb-false (i % w + 1) w t, mod-lt i p) in
      let d : i + 1 ≡ suc (i / w) * w + 0 = omega (arith, div-add-mod' i w) in
      let m : (i + 1) % w ≡ 0 = ap (λ (z : ℕ). z % w) d ∙ digits_mod (suc (i / w)) p in
      let a : at P i ≡ at P 0 = B.rights i (omega arith) e in
      let b : at P (i + 1) ≡ at P 0 = B.lefts (i + 1) l m in
      let n : edgel w P.h (2 * i) ≡ false = rw (f, h, t) in
      not_edgel P ks (2 * i) n ∙ sym (rw (a, b) (omega arith)))

module _ {L : Layout} {P : Picture} {ks : List ℕ} (S : Setting L P ks) where
  abbrev W : ℕ
  W = L.levels

  abbrev rk : ℕ → ℕ
  rk = rank L P ks

  abbrev st : ℕ → ℕ
  st = steps ks

  more : (z : ℕ) → st (suc z) ≡ st z + one (listed_level ks z)
  more = steps_suc L ks S.levels

  top : (z : ℕ) → W ≤ z → st z ≡ st W
  top = steps_top L ks S.levels W S.fits.tops

  block : (c p : ℕ) → rk (c * W + p) ≡ rk (c * W) + sum (λ r. one (cross L P ks (c * W + r))) p
  unfolding rank
  block c p = sum_cut (λ i. one (cross L P ks i)) (c * W) p

  -- the crossings of one code
  cross_block : (c r : ℕ) → r < W
      → cross L P ks (c * W + r) ≡ (horizontal c && (listed_level ks (place (rises P W c) W r) && cut_at P (place (rises P W c) W r) c))
  unfolding cross
  cross_block c r l =
      let d : (c * W + r) / W ≡ c = digits_div c l in
      let m : (c * W + r) % W ≡ r = digits_mod c l in
      let s : key_level P W (c * W + r) ≡ place (rises P W c) W r = ap (λ (z : ℕ). place (rises P W z) W ((c * W + r) % W)) d ∙ ap (place (rises P W c) W) m in
      ap (λ (z : ℕ). horizontal z && (listed_level ks (key_level P W (c * W + r)) && cut_at P (key_level P W (c * W + r)) z)) d
      ∙ ap (λ (z : ℕ). horizontal c && (listed_level ks z && cut_at P z c)) s

  -- ---- one horizontal edgel
  module _ (c : ℕ) (f : horizontal c ≡ true) (g : edgel P.w P.h c ≡ true) where
    abbrev x : ℕ
    x = at P (first c)

    abbrev y : ℕ
    y = at P (first c + 1)

    cut_is : (k : ℕ) → cut_at P k c ≡ differ (ltb k x) (ltb k y)
    unfolding cut crossed
    cut_is k = rw (g, f)

    cross_is : (b : Bool) → rises P W c ≡ b → (r : ℕ) → r < W → one (cross L P ks (c * W + r)) ≡ hits (listed_level ks) x y (place b W r)
    cross_is b e r l =
        ap one (cross_block c r l
        ∙ ap (λ (z : Bool). z && (listed_level ks (place (rises P W c) W r) && cut_at P (place (rises P W c) W r) c)) f
        ∙ ap (λ (z : Bool). listed_level ks (place z W r) && cut_at P (place z W r) c) e
        ∙ ap (λ (z : Bool). listed_level ks (place b W r) && z) (cut_is (place b W r)))

    edge : (b : Bool) → rises P W c ≡ b → (p : ℕ) → p ≤ W → rk (c * W + p) ≡ rk (c * W) + sum (λ r. hits (listed_level ks) x y (place b W r)) p
    edge b e p l =
        block c p
        ∙ ap (λ (z : ℕ). rk (c * W) + z)
        (sum_same (λ r. one (cross L P ks (c * W + r))) (λ r. hits (listed_level ks) x y (place b W r)) p (λ r i. cross_is b e r (omega arith)))

    -- downwards, from the top: what is above k
    down : (p : ℕ) → p ≤ W → sum (λ r. hits (listed_level ks) x y (W - 1 - r)) p + sum (hits (listed_level ks) y x) (W - p) ≡ sum (hits (listed_level ks) y x) W
    down p l =
        let s : sum (λ r. hits (listed_level ks) x y (W - 1 - r)) p ≡ sum (λ r. hits (listed_level ks) y x (W - 1 - r)) p =
        sum_same (λ r. hits (listed_level ks) x y (W - 1 - r)) (λ r. hits (listed_level ks) y x (W - 1 - r)) p (λ r i. hits_comm (listed_level ks) x y (W - 1 - r)) in
        omega (arith, sum_back (hits (listed_level ks) y x) W p l)

    rise_key : (k : ℕ) → k < W → rises P W c ≡ true → x ≤ k → k ≤ y → rk (key P W k c) + st x ≡ rk (c * W) + st k
    unfolding key
    rise_key k l e a b =
        let u : rk (c * W + place (rises P W c) W k) ≡ rk (c * W + k) = ap (λ (z : Bool). rk (c * W + place z W k)) e in
        omega (arith, edge true e k (omega arith), part (listed_level ks) st more x y k (omega arith) a b)

    fall_key : (k : ℕ) → k < W → rises P W c ≡ false → y ≤ k → k < x → rk (key P W k c) + st (suc k) ≡ rk (c * W) + st x
    unfolding key
    fall_key k l e a b =
        let p = W - 1 - k in
        let s : W - p ≡ suc k = omega arith in
        let t : sum (hits (listed_level ks) y x) (W - p) ≡ sum (hits (listed_level ks) y x) (suc k) = ap (sum (hits (listed_level ks) y x)) s in
        let u : rk (c * W + place (rises P W c) W k) ≡ rk (c * W + p) = ap (λ (z : Bool). rk (c * W + place z W k)) e in
        let d = down p (omega arith) in
        let q = part (listed_level ks) st more y x (suc k) (omega arith) (omega arith) b in
        let v = whole (listed_level ks) st more W top y x (omega arith) in
        omega (arith, edge false e p (omega arith))

    all_steps : crossings P ks c ≡ apart (st x) (st y)
    all_steps = edgel_steps P ks c g ∙ rw f

    -- the next code's ranks begin after all of this one's
    edge_all : rk (c * W + W) ≡ rk (c * W) + crossings P ks c
    unfolding sum
    edge_all =
        by_test (rises P W c)
        (λ e.
        let a : x < y = ltb-true x y e in
        omega (arith, edge true e W (omega arith), whole (listed_level ks) st more W top x y (omega arith), all_steps))
        (λ e.
        let a : y ≤ x = ltb-false x y e in
        let s : W - W ≡ 0 = omega arith in
        let z : sum (hits (listed_level ks) y x) (W - W) ≡ 0 = ap (sum (hits (listed_level ks) y x)) s in
        omega (arith, edge false e W (omega arith), down W (omega arith), whole (listed_level ks) st more W top y x a, all_steps))

  -- ---- all codes
  off : (a b d : Bool) → (a && d) ≡ false → (a && (b && d)) ≡ false
  off true true d e = e
  off true false d e = refl
  off false b d e = refl

  edge_none : (c : ℕ) → ((k : ℕ) → (horizontal c && cut_at P k c) ≡ false) → rk (c * W + W) ≡ rk (c * W)
  edge_none c q =
      block c W
      ∙ ap (λ (z : ℕ). rk (c * W) + z)
      (sum_none (λ r. one (cross L P ks (c * W + r))) W
      (λ r l. ap one (cross_block c r l ∙ off (horizontal c) (listed_level ks (place (rises P W c) W r)) (cut_at P (place (rises P W c) W r) c) (q (place (rises P W c) W r)))))
      ∙ add-zero (rk (c * W))

  rank_edge : (c : ℕ) → rk (suc c * W) ≡ rk (c * W) + cond (horizontal c) (crossings P ks c) 0
  unfolding cut
  rank_edge c =
      let t : suc c * W ≡ c * W + W = omega arith in
      let s : rk (suc c * W) ≡ rk (c * W + W) = ap rk t in
      by_test (horizontal c)
      (λ f. by_test (edgel P.w P.h c)
      (λ g. rw f (s ∙ edge_all c f g))
      (λ g.
      let n : rk (c * W + W) ≡ rk (c * W) = edge_none c (λ k. rw (f, g)) in
      rw f (omega (arith, not_edgel P ks c g))))
      (λ f.
      let n : rk (c * W + W) ≡ rk (c * W) = edge_none c (λ k. rw f) in
      rw f (omega arith))

  rank_code : (c : ℕ) → rk (c * W) ≡ sum (λ d. cond (horizontal d) (crossings P ks d) 0) c
  unfolding sum rank
  rank_code zero = let s : 0 * W ≡ 0 = omega arith in ap rk s
  rank_code (suc c) = rank_edge c ∙ ap (λ (z : ℕ). z + cond (horizontal c) (crossings P ks c) 0) (rank_code c)

  pub rank_place : (i : ℕ) → rank L P ks (2 * i * L.levels) ≡ run P ks i
  rank_place i =
      rank_code (2 * i)
      ∙ sum_even (λ d. cond (horizontal d) (crossings P ks d) 0) i
      ∙ sum_same (λ j. cond (horizontal (2 * j)) (crossings P ks (2 * j)) 0 + cond (horizontal (2 * j + 1)) (crossings P ks (2 * j + 1)) 0) (λ j. crossings P ks (2 * j)) i
      (λ j h. rw (eq-eqb (2 * j % 2) 0 (omega arith), ne_eqb ((2 * j + 1) % 2) 0 (omega arith)) (omega arith))

  -- ---- one crossing
  module _ (k i : ℕ) (l : k < L.levels) (o : cut_at P k (2 * i) ≡ true) where
    h2 : 2 * i / 2 ≡ i
    h2 = omega arith

    is_edgel : edgel P.w P.h (2 * i) ≡ true
    unfolding cut
    is_edgel = first_of (edgel P.w P.h (2 * i)) _ o
      where
        first_of : (a b : Bool) → (a && b) ≡ true → a ≡ true
        first_of true b e = refl
        first_of false b e = e

    pub rank_south : high P k i ≡ false → rank L P ks (key P L.levels k (2 * i)) + steps ks (at P i) ≡ run P ks i + steps ks k
    rank_south e =
        let e' : high P k (2 * i / 2) ≡ false = ap (high P k) h2 ∙ e in
        let d = flat_differ P W k (2 * i) (flat_even i) o in
        let a : at P (2 * i / 2) ≤ k = ltb-false k (at P (2 * i / 2)) e' in
        let b : k < at P (2 * i / 2 + 1) = ltb-true k (at P (2 * i / 2 + 1)) (differ_low _ _ e' d) in
        let r : rises P W (2 * i) ≡ true = rises_is P W k (2 * i) (flat_even i) o ∙ ap not e' in
        let s : st (at P (2 * i / 2)) ≡ st (at P i) = ap (λ (z : ℕ). st (at P z)) h2 in
        omega (arith, rise_key (2 * i) (flat_even i) is_edgel k l r a (omega arith), rank_place i)

    pub rank_north : high P k i ≡ true → rank L P ks (key P L.levels k (2 * i)) + steps ks (suc k) ≡ run P ks i + steps ks (at P i)
    rank_north e =
        let e' : high P k (2 * i / 2) ≡ true = ap (high P k) h2 ∙ e in
        let d = flat_differ P W k (2 * i) (flat_even i) o in
        let a : k < at P (2 * i / 2) = ltb-true k (at P (2 * i / 2)) e' in
        let b : at P (2 * i / 2 + 1) ≤ k = ltb-false k (at P (2 * i / 2 + 1)) (differ_high _ _ e' d) in
        let r : rises P W (2 * i) ≡ false = rises_is P W k (2 * i) (flat_even i) o ∙ ap not e' in
        let s : st (at P (2 * i / 2)) ≡ st (at P i) = ap (λ (z : ℕ). st (at P z)) h2 in
        omega (arith, fall_key (2 * i) (flat_even i) is_edgel k l r b a, rank_place i)

  -- ---- all of them
  pub run_total : run P ks (size P) ≡ total (heads P) ks
  unfolding heads
  run_total =
      sum_same (λ j. crossings P ks (2 * j)) (λ j. total (λ k. one (cut_at P k (2 * j))) ks) (size P) (λ j h. sym (tally_total (λ k. cut_at P k (2 * j)) ks))
      ∙ sym (total_sum (λ k j. one (cut_at P k (2 * j))) (size P) ks)

  pub rank_below : (m d : ℕ) → On L P ks m d → rank L P ks (pos_at L P ks m d) < total (heads P) ks
  unfolding line_of key
  rank_below m d A =
      let M = line_of S m A.number in
      let b : d < 2 * size P = (closed_at P S.border M.lvl).bound d (pass_cut S M d (pass_on S m d A)) in
      let g : suc d * W ≤ 2 * size P * W = mul-le-mul_right W b in
      let t : pos_at L P ks m d < 2 * size P * W = omega (arith, place_lt (rises P W d) W (level_at L P ks m) (small S M)) in
      omega (arith, rank_lt L P ks (pos_at L P ks m d) (2 * size P * W) (cross_on S m d A) t, rank_place (size P), run_total)

  pub heads_words : total (heads P) ks ≤ length (listed L P ks)
  heads_words =
      omega (
        arith,
        run_total,
        length_places P ks L S.border,
        sum_le (λ j. crossings P ks (2 * j)) (λ j. crossings P ks (2 * j) + crossings P ks (2 * j + 1)) (size P) (λ j h. omega arith),
      )
