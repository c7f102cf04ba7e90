-- The height just beside a crossing, from the levels below it, and by counting all crossings to its left. Assumes nothing.
-- Definitions: `left_gap P k c`, `right_gap P k c` the height just left and just right of the crossing of level k on c: the levels below it are high there.
-- Main laws: `state` which levels are high just left of a crossing, by counting; `gaps_other`, `gaps_own` the two gaps differ at the crossing's own level only; `gap_own` the left gap is above
--   the level exactly if the left end is high; `step_gap` no listed level lies between the right gap of a crossing and the left gap of the next listed one.
use mathlib.Core.Path.{◌≡◌, refl, sym, ap, ◌∙◌}
use mathlib.Core.Bool.{Bool, true, false, not, cond}
use mathlib.Core.List.{List}
use mathlib.Core.Logic.{◌≢◌}
use Prim.Native.Nat.{ℕ, suc, ◌+◌, ◌/◌, ◌%◌, ◌≤◌, ◌<◌}
use native.Mathlib.Nat.{div-add-mod', mod-lt}
use native.Mathlib.Omega.{arith}
use lib.Dec.{eqb, ltb}
use borrow.Author.Tests.{ltb-true, ltb-false, lt-ltb, le-ltb, eqb-true, eqb-false}
use Rattle.tally.specs.Tally.{one, differ, count, flat}
use Rattle.tally.proofs.Test.{by_test, no, differ_low, differ_high}
use Rattle.matte.specs.Layout.{Layout}
use Rattle.matte.specs.Picture.{Picture, size, at, high}
use Rattle.edgel.specs.Edgel.{horizontal, first, row}
use Rattle.outline.specs.Line.{cut_at, lines}
use Rattle.outline.proofs.Border.{Border, frame}
use Rattle.outline.proofs.Codes.{right_in, row_in}
use Rattle.outline.proofs.Paper.{bit}
use Rattle.outline.proofs.Parity.{row_cut}
use Rattle.outline.proofs.Whole.{each_once}
use Rattle.enclosure.specs.Position.{key, odd_left}
use Rattle.enclosure.proofs.Order.{key_inj, flat_col, flat_in, flat_differ}
use Rattle.enclosure.proofs.Inside.{inside, low_end, high_end}
use Rattle.enclosure.proofs.Fall.{high_fall}
use Rattle.enclosure.proofs.Left.{ends, left_below, left_above, left_level, onward_same, onward_turn}
use Rattle.enclosure.proofs.Lines.{Setting, Line, lead_key, small, lead_cut, lead_pass, pass_cut, through, through_level, through_pass}
use Rattle.enclosure.proofs.Nearest.{Ahead}
use Rattle.enclosure.proofs.Nest.{Before}

abbrev pub left_gap : Picture → ℕ → ℕ → ℕ
left_gap P k c = cond (high P k (first c)) (suc k) k

abbrev pub right_gap : Picture → ℕ → ℕ → ℕ
right_gap P k c = cond (high P k (first c)) k (suc k)

differ_inj : (x y z : Bool) → differ x y ≡ differ x z → y ≡ z
differ_inj true true true e = refl
differ_inj true true false e = no e refl
differ_inj true false true e = no refl e
differ_inj true false false e = refl
differ_inj false y z e = e

differ_not : (x y z : Bool) → differ x y ≡ not (differ x z) → y ≡ not z
differ_not true true true e = no e refl
differ_not true true false e = refl
differ_not true false true e = refl
differ_not true false false e = no refl e
differ_not false y z e = e

pub gap_own : (u : Bool) (k : ℕ) → u ≡ ltb k (cond u (suc k) k)
gap_own true k = sym (lt-ltb k (suc k) (omega arith))
gap_own false k = sym (le-ltb k k (omega arith))

gap_range : (k : ℕ) (u : Bool) → (k ≤ cond u (suc k) k) × (cond u (suc k) k ≤ suc k)
gap_range k true = (omega arith, omega arith)
gap_range k false = (omega arith, omega arith)

-- the two gaps of a crossing differ at its own level only
pub gaps_other : (u : Bool) (m k : ℕ) → m ≢ k → ltb m (cond u (suc k) k) ≡ ltb m (cond u k (suc k))
gaps_other true m k q =
    by_test (ltb m k) (λ e. lt-ltb m (suc k) (omega (arith, ltb-true m k e)) ∙ sym e) (λ e. le-ltb m (suc k) (omega (arith, ltb-false m k e)) ∙ sym e)
gaps_other false m k q =
    by_test (ltb m k) (λ e. e ∙ sym (lt-ltb m (suc k) (omega (arith, ltb-true m k e)))) (λ e. e ∙ sym (le-ltb m (suc k) (omega (arith, ltb-false m k e))))

pub gaps_own : (u : Bool) (k : ℕ) → not (ltb k (cond u (suc k) k)) ≡ ltb k (cond u k (suc k))
gaps_own true k = rw (lt-ltb k (suc k) (omega arith), le-ltb k k (omega arith))
gaps_own false k = rw (lt-ltb k (suc k) (omega arith), le-ltb k k (omega arith))

module _ (P : Picture) (B : Border P) where
  -- counting all crossings of a level tells whether a place is high there, against the border
  inside_cut : (m i : ℕ) → i < size P → 0 < P.w → inside P.w (cut_at P m) i ≡ differ (high P m 0) (high P m i)
  inside_cut m i a p =
      row_cut (high P m) (bit P m) P.w P.h (high P m 0) (frame P B m) (i % P.w) (i / P.w) (mod-lt i p) (row_in P.w P.h i p a)
      ∙ ap (λ (z : ℕ). differ (high P m 0) (high P m z)) (div-add-mod' i P.w)

  module _ (W m k c : ℕ) (a : m < W) (b : k < W) (f : horizontal c ≡ true) (o : cut_at P k c ≡ true) where
    pos : 0 < P.w
    pos = omega (arith, flat_col P W k c f o)

    right : first c + 1 < size P
    right = right_in P.w P.h (first c) (flat_in P W k c f o) (flat_col P W k c f o)

    abbrev hi : ℕ
    hi = high_end (high P k) P.w c

    abbrev lo : ℕ
    lo = low_end (high P k) P.w c

    -- the ends of the edgel, high and low
    high_place : (hi < size P) × (high P k hi ≡ true)
    high_place =
        by_test (high P k (first c))
        (λ y. rw (ends P W k c f o true y).1 (flat_in P W k c f o, y))
        (λ y. rw (ends P W k c f o false y).1 (right, differ_low _ _ y (flat_differ P W k c f o)))

    low_place : (lo < size P) × (high P k lo ≡ false)
    low_place =
        by_test (high P k (first c))
        (λ y. rw (ends P W k c f o true y).0 (right, differ_high _ _ y (flat_differ P W k c f o)))
        (λ y. rw (ends P W k c f o false y).0 (flat_in P W k c f o, y))

    pub state : odd_left P W m (flat (lines P m)) k c ≡ differ (high P m 0) (ltb m (left_gap P k c))
    state =
        let M = cut_at P m in
        let l = flat (lines P m) in
        let e = each_once P B m in
        let G = gap_range k (high P k (first c)) in
        by_test (ltb m k)
        (λ t.
        let s : m < k = ltb-true m k t in
        left_below P B W m k c a b f o l M e s
        ∙ inside_cut m hi high_place.0 pos
        ∙ ap (differ (high P m 0)) (high_fall P m k hi (omega arith) high_place.1 ∙ sym (lt-ltb m (left_gap P k c) (omega (arith, G.0)))))
        (λ t. by_test (ltb k m)
        (λ u.
        let s : k < m = ltb-true k m u in
        let z : high P m lo ≡ false = le-ltb m (at P lo) (omega (arith, ltb-false k (at P lo) low_place.1)) in
        left_above P B W m k c a b f o l M e s
        ∙ inside_cut m lo low_place.0 pos
        ∙ ap (differ (high P m 0)) (z ∙ sym (le-ltb m (left_gap P k c) (omega (arith, G.1)))))
        (λ u.
        let s : m ≡ k = omega (arith, ltb-false m k t, ltb-false k m u) in
        left_level P B W m k c a b f o l M e s
        ∙ inside_cut m (first c) (flat_in P W k c f o) pos
        ∙ ap (λ (z : ℕ). differ (high P m 0) (high P z (first c))) s
        ∙ ap (differ (high P m 0)) (gap_own (high P k (first c)) k)
        ∙ ap (λ (z : ℕ). differ (high P m 0) (ltb z (left_gap P k c))) (sym s)))

module _ {L : Layout} {P : Picture} {ks : List ℕ} (S : Setting L P ks) where
  abbrev W : ℕ
  W = L.levels

  -- a listed crossing of level m ahead of N, as one of a line
  pub found : (m : ℕ) → 0 < count m ks → (N : Line P ks) (d : ℕ) → 0 < count d (flat (lines P m)) → horizontal d ≡ true → row P.w d ≡ row P.w N.lead
      → key P L.levels m d < lead_key L N → (M : Line P ks) × (M.lvl ≡ m) × Ahead L M d N
  found m g N d n f r t =
      let o : cut_at P m d ≡ true = by_test (cut_at P m d) (λ y. y) (λ y. absurd (omega (arith, n, each_once P S.border m d ∙ ap one y))) in
      let M = through S m d g o in
      let s : key P W M.lvl d ≡ key P W m d = ap (λ (z : ℕ). key P W z d) (through_level S m d g o) in
      (M, through_level S m d g o, record { pass = through_pass S m d g o f; row = r; less = omega arith })

  -- from the left neighbour to the lead
  pub step_gap : (N : Line P ks) (b : Before L N) (m : ℕ) → m < L.levels → 0 < count m ks → ltb m (left_gap P N.lvl N.lead) ≡ ltb m (right_gap P b.q.lvl b.d)
  step_gap N b m a g =
      let k = b.q.lvl in
      let d = b.d in
      let A = b.ahead in
      let l = flat (lines P m) in
      let o = pass_cut S b.q d A.pass in
      let x = state P S.border W m N.lvl N.lead a (small S N) (lead_pass S N).flat (lead_cut S N) in
      let y = state P S.border W m k d a (small S b.q) A.pass.flat o in
      by_test (eqb m k)
      (λ e.
      let s : m ≡ k = eqb-true m k e in
      let n : count d l ≡ 1 = each_once P S.border m d ∙ ap one (ap (λ (z : ℕ). cut_at P z d) s ∙ o) in
      let z : odd_left P W m l N.lvl N.lead ≡ not (odd_left P W m l k d) =
      onward_turn P W m l k d N.lvl N.lead A.row A.less a s A.pass.flat n
      (λ c i f r t.
      let F = found m g N c i f r t in
      let u : key P W m c ≡ key P W F.0.lvl c = ap (λ (j : ℕ). key P W j c) (sym F.1) in
      omega (arith, b.next F.0 c F.2)) in
      differ_not (high P m 0) _ _ (sym x ∙ z ∙ ap not y)
      ∙ ap (λ (j : ℕ). not (ltb j (left_gap P k d))) s
      ∙ gaps_own (high P k (first d)) k
      ∙ ap (λ (j : ℕ). ltb j (right_gap P k d)) (sym s))
      (λ e.
      let s : m ≢ k = eqb-false m k e in
      let z : odd_left P W m l N.lvl N.lead ≡ odd_left P W m l k d =
      onward_same P W m l k d N.lvl N.lead A.row A.less
      (λ c i f r t.
      let F = found m g N c i f r t in
      let u : key P W m c ≡ key P W F.0.lvl c = ap (λ (j : ℕ). key P W j c) (sym F.1) in
      let n : key P W m c ≢ key P W k d = λ q. s (key_inj P W m k c d a (small S b.q) q).1 in
      omega (arith, b.next F.0 c F.2)) in
      differ_inj (high P m 0) _ _ (sym x ∙ z ∙ y) ∙ gaps_other (high P k (first d)) m k s)
