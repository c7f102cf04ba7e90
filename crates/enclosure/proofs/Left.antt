-- What stands left of a crossing: counted along its row, it is the side of one end of the crossing's edgel. Assumes nothing.
-- Definitions: none of its own. A mark M is given by a list that holds each marked code once.
-- Main laws: `left_marks` the odd count left of a crossing by the mark's side at the edgel's left end and the mark on the edgel itself; `ends` the low and the high end of a crossed horizontal
--   edgel; `left_below`, `left_above`, `left_level` for a mark of a lower level it is the side of the high end, for a higher one that of the low end, for the same level that of the left end;
--   `east` the right end's side from the left end's, `low_falls`, `low_rises` the low end's; `onward_same`, `onward_turn` left of two crossings of a row with no word, or with one word, between them; `left_none`.
use mathlib.Core.Path.{◌≡◌, refl, sym, ap, ◌∙◌}
use mathlib.Core.Bool.{Bool, true, false, not, ◌&&◌, cond}
use mathlib.Core.List.{List}
use mathlib.Core.Logic.{◌≢◌}
use Prim.Native.Nat.{ℕ, ◌+◌, ◌/◌, ◌≤◌, ◌<◌}
use native.Mathlib.Nat.{add-zero, zero-add, mod-lt}
use native.Mathlib.Omega.{arith}
use lib.Dec.{eqb, ltb}
use borrow.Author.Tests.{ltb-true, ltb-false, lt-ltb, le-ltb, eqb-true, eqb-false, eq-eqb}
use Rattle.tally.specs.Tally.{one, differ, odd, count, tally}
use Rattle.tally.proofs.Test.{by_test, and_1, and_2}
use Rattle.tally.proofs.Count.{tally_none}
use Rattle.tally.proofs.Parity.{odd_plus}
use Rattle.matte.specs.Picture.{Picture, high}
use Rattle.edgel.specs.declared.Heading.{Heading}
use Rattle.edgel.specs.declared.Heading.TheVariants.{South, North}
use Rattle.edgel.specs.Edgel.{horizontal, first, column, row, heading_of, heading_at}
use Rattle.edgel.specs.Beside.{west_of}
use Rattle.outline.specs.Line.{cut_at}
use Rattle.outline.proofs.Codes.{flat_is}
use Rattle.outline.proofs.Border.{Border, frame}
use Rattle.outline.proofs.Paper.{bit}
use Rattle.outline.proofs.Beside.{odd_west_lem}
use Rattle.enclosure.specs.Position.{key, on_left, odd_left}
use Rattle.enclosure.proofs.Lists.{and_false, and_true, differ_none, tally_split, tally_members, tally_at}
use Rattle.enclosure.proofs.Order.{key_lt, key_inj, key_rise, key_fall, rises_is, flat_col, flat_heading, apart_row}
use Rattle.enclosure.proofs.Inside.{inside, low, top, low_end, high_end, inside_east}

-- ---- by counting along the row
module _ (P : Picture) (W j k c : ℕ) (a : j < W) (b : k < W) (f : horizontal c ≡ true) where
  abbrev w : ℕ
  w = P.w

  abbrev tie : Bool
  tie = ltb (key P W j c) (key P W k c)

  -- one code's share
  split : (d : ℕ) → one (on_left P W j k c d) ≡ one (west_of w (column w c) (row w c) d) + one (eqb c d && tie)
  unfolding on_left west_of
  split d =
      by_test (eqb c d)
      (λ e.
      let s : c ≡ d = eqb-true c d e in
      rw (e, ← s, f, eq-eqb (row w c) (row w c) refl, le-ltb (column w c) (column w c) (omega arith)) (sym (zero-add (one tie))))
      (λ e.
      let s : c ≢ d = eqb-false c d e in
      by_test (horizontal d)
      (λ g.
      by_test (eqb (row w d) (row w c))
      (λ r.
      let q = apart_row w d c g f (eqb-true _ _ r) in
      by_test (ltb (column w d) (column w c))
      (λ x.
      let y : d < c = omega (arith, ltb-true (column w d) (column w c) x) in
      rw (e, g, r, x, lt-ltb (key P W j d) (key P W k c) (key_lt P W j k d c a y)))
      (λ x.
      let y : c < d = omega (arith, ltb-false (column w d) (column w c) x) in
      rw (e, g, r, x, le-ltb (key P W j d) (key P W k c) (omega (arith, key_lt P W k j c d b y)))))
      (λ r. rw (e, g, r)))
      (λ g. rw (e, g)))

  pub left_marks : (l : List ℕ) (M : ℕ → Bool) → ((d : ℕ) → count d l ≡ one (M d)) → 0 < P.w
      → odd_left P W j l k c ≡ differ (inside P.w M (first c)) (M c && ltb (key P W j c) (key P W k c))
  left_marks l M e p =
      ap odd (tally_split (on_left P W j k c) (west_of w (column w c) (row w c)) (λ d. eqb c d && tie) l split)
      ∙ odd_plus (tally (west_of w (column w c) (row w c)) l) (tally (λ d. eqb c d && tie) l)
      ∙ ap (λ (z : Bool). differ z (odd (tally (λ d. eqb c d && tie) l)))
      (odd_west_lem w l M e (column w c) (row w c) (omega (arith, mod-lt (c / 2) p)))
      ∙ ap (λ (z : Bool). differ (inside w M (first c)) z) (ap odd (tally_at c tie l ∙ ap (λ (z : ℕ). cond tie z 0) (e c)) ∙ last (M c) tie)
    where
      last : (x y : Bool) → odd (cond y (one x) 0) ≡ (x && y)
      last true true = refl
      last true false = refl
      last false true = refl
      last false false = refl

-- ---- the ends of the edgel
module _ (P : Picture) (W k c : ℕ) (f : horizontal c ≡ true) (o : cut_at P k c ≡ true) where
  pub ends : (u : Bool) → high P k (first c) ≡ u
      → (low_end (high P k) P.w c ≡ cond u (first c + 1) (first c)) × (high_end (high P k) P.w c ≡ cond u (first c) (first c + 1))
  ends true y =
      let g : heading_at (high P k) c ≡ North = flat_heading P W k c f o ∙ ap (heading_of true) y in
      (ap (λ (z : Heading). low P.w z c) g, ap (λ (z : Heading). top P.w z c) g)
  ends false y =
      let g : heading_at (high P k) c ≡ South = flat_heading P W k c f o ∙ ap (heading_of true) y in
      (ap (λ (z : Heading). low P.w z c) g, ap (λ (z : Heading). top P.w z c) g)

module _ (P : Picture) (B : Border P) (W j k c : ℕ) (a : j < W) (b : k < W) (f : horizontal c ≡ true) (o : cut_at P k c ≡ true) (l : List ℕ) (M : ℕ → Bool)
    (e : (d : ℕ) → count d l ≡ one (M d)) where
  -- the side of the mark that a place is on
  abbrev I : ℕ → Bool
  I = inside P.w M

  marked : odd_left P W j l k c ≡ differ (I (first c)) (M c && ltb (key P W j c) (key P W k c))
  marked = left_marks P W j k c a b f l M e (omega (arith, flat_col P W k c f o))

  pub east : inside P.w M (first c + 1) ≡ differ (inside P.w M (first c)) (M c)
  east =
      inside_east (high P k) (bit P k) P.w P.h (high P k 0) (frame P B k) M (first c) (flat_col P W k c f o)
      ∙ ap (λ (z : ℕ). differ (I (first c)) (M z)) (sym (flat_is c f))

  -- without the word on the edgel itself, and with it
  short : ltb (key P W j c) (key P W k c) ≡ false → odd_left P W j l k c ≡ I (first c)
  short t = marked ∙ ap (λ (z : Bool). differ (I (first c)) (M c && z)) t ∙ ap (differ (I (first c))) (and_false (M c)) ∙ differ_none (I (first c))

  long : ltb (key P W j c) (key P W k c) ≡ true → odd_left P W j l k c ≡ I (first c + 1)
  long t = marked ∙ ap (λ (z : Bool). differ (I (first c)) (M c && z)) t ∙ ap (differ (I (first c))) (and_true (M c)) ∙ sym east

  pub left_below : j < k → odd_left P W j l k c ≡ inside P.w M (high_end (high P k) P.w c)
  left_below t =
      by_test (high P k (first c))
      (λ y. short (key_fall P W j k c a b (rises_is P W k c f o ∙ ap not y) ∙ le-ltb k j (omega arith)) ∙ ap I (sym (ends P W k c f o true y).1))
      (λ y. long (key_rise P W j k c (rises_is P W k c f o ∙ ap not y) ∙ lt-ltb j k t) ∙ ap I (sym (ends P W k c f o false y).1))

  pub left_above : k < j → odd_left P W j l k c ≡ inside P.w M (low_end (high P k) P.w c)
  left_above t =
      by_test (high P k (first c))
      (λ y. long (key_fall P W j k c a b (rises_is P W k c f o ∙ ap not y) ∙ lt-ltb k j t) ∙ ap I (sym (ends P W k c f o true y).0))
      (λ y. short (key_rise P W j k c (rises_is P W k c f o ∙ ap not y) ∙ le-ltb j k (omega arith)) ∙ ap I (sym (ends P W k c f o false y).0))

  pub left_level : j ≡ k → odd_left P W j l k c ≡ inside P.w M (first c)
  left_level t = short (ap (λ (z : ℕ). ltb (key P W z c) (key P W k c)) t ∙ le-ltb (key P W k c) (key P W k c) (omega arith))

  -- the low end, from the left end, at the level of the mark
  pub low_falls : high P k (first c) ≡ true → inside P.w M (low_end (high P k) P.w c) ≡ differ (inside P.w M (first c)) (M c)
  low_falls y = ap I (ends P W k c f o true y).0 ∙ east

  pub low_rises : high P k (first c) ≡ false → inside P.w M (low_end (high P k) P.w c) ≡ inside P.w M (first c)
  low_rises y = ap I (ends P W k c f o false y).0

-- ---- from one crossing of a row to a later one
module _ (P : Picture) (W j : ℕ) (l : List ℕ) (k c k' c' : ℕ) (r : row P.w c ≡ row P.w c') (lt : key P W k c < key P W k' c') where
  onward : (s : Bool) → ((d : ℕ) → 0 < count d l → one (on_left P W j k' c' d) ≡ one (on_left P W j k c d) + one (eqb c d && s))
      → odd_left P W j l k' c' ≡ differ (odd_left P W j l k c) (odd (cond s (count c l) 0))
  onward s e =
      ap odd (tally_members (on_left P W j k' c') (on_left P W j k c) (λ d. eqb c d && s) l e)
      ∙ odd_plus (tally (on_left P W j k c) l) (tally (λ d. eqb c d && s) l)
      ∙ ap (λ (z : ℕ). differ (odd_left P W j l k c) (odd z)) (tally_at c s l)

  -- a code off the first crossing counts at both or at none
  step : (d : ℕ) → (horizontal d ≡ true → row P.w d ≡ row P.w c' → key P W j d < key P W k' c' → key P W j d < key P W k c)
      → one (on_left P W j k' c' d) ≡ one (on_left P W j k c d)
  unfolding on_left
  step d q =
      rw r
      (by_test (horizontal d)
      (λ f. by_test (eqb (row P.w d) (row P.w c'))
      (λ y. by_test (ltb (key P W j d) (key P W k' c'))
      (λ t.
      let u : key P W j d < key P W k c = q f (eqb-true (row P.w d) (row P.w c') y) (ltb-true _ _ t) in
      rw (f, y, t, lt-ltb (key P W j d) (key P W k c) u))
      (λ t.
      let u : key P W k c ≤ key P W j d = omega (arith, ltb-false (key P W j d) (key P W k' c') t) in
      rw (f, y, t, le-ltb (key P W j d) (key P W k c) u)))
      (λ y. rw (f, y)))
      (λ f. rw f))

  -- no word between
  pub onward_same : ((d : ℕ) → 0 < count d l → horizontal d ≡ true → row P.w d ≡ row P.w c' → key P W j d < key P W k' c' → key P W j d < key P W k c)
      → odd_left P W j l k' c' ≡ odd_left P W j l k c
  onward_same q =
      onward false
      (λ d m.
      let z : one (eqb c d && false) ≡ 0 = ap one (and_false (eqb c d)) in
      rw (z, add-zero (one (on_left P W j k c d))) (step d (q d m)))
      ∙ differ_none (odd_left P W j l k c)

  -- one word more, at the first of the two
  pub onward_turn : j < W → j ≡ k → horizontal c ≡ true → count c l ≡ 1
      → ((d : ℕ) → 0 < count d l → horizontal d ≡ true → row P.w d ≡ row P.w c' → key P W j d < key P W k' c' → key P W j d ≤ key P W k c)
      → odd_left P W j l k' c' ≡ not (odd_left P W j l k c)
  unfolding on_left
  onward_turn a s f n q = onward true at_each ∙ ap (λ (z : ℕ). differ (odd_left P W j l k c) (odd z)) n ∙ turned (odd_left P W j l k c)
    where
      turned : (x : Bool) → differ x true ≡ not x
      turned true = refl
      turned false = refl

      at_each : (d : ℕ) → 0 < count d l → one (on_left P W j k' c' d) ≡ one (on_left P W j k c d) + one (eqb c d && true)
      at_each d m =
          by_test (eqb c d)
          (λ e.
          let z : d ≡ c = sym (eqb-true c d e) in
          let t : key P W j d ≡ key P W k c = ap (λ (x : ℕ). key P W x d) s ∙ ap (key P W k) z in
          let g : horizontal d ≡ true = ap horizontal z ∙ f in
          let y : row P.w d ≡ row P.w c = ap (row P.w) z in
          rw (
            e,
            g,
            eq-eqb (row P.w d) (row P.w c') (y ∙ r),
            eq-eqb (row P.w d) (row P.w c) y,
            lt-ltb (key P W j d) (key P W k' c') (omega arith),
            le-ltb (key P W j d) (key P W k c) (omega arith),
          ))
          (λ e.
          rw (e, add-zero (one (on_left P W j k c d)))
          (step d (λ g y t.
          let u : key P W j d ≤ key P W k c = q d m g y t in
          let x : key P W j d ≢ key P W k c = λ z. eqb-false c d e (sym (key_inj P W j k d c a (rw (sym s) a) z).0) in
          omega arith)))

-- nothing left of a crossing
pub left_none : (P : Picture) (W j k c : ℕ) (l : List ℕ) → ((d : ℕ) → 0 < count d l → horizontal d ≡ true → row P.w d ≡ row P.w c → key P W j d < key P W k c → ⊥)
    → odd_left P W j l k c ≡ false
unfolding on_left
left_none P W j k c l q =
    ap odd (tally_none (on_left P W j k c) l (λ d m.
    by_test (on_left P W j k c d)
    (λ e.
    let f = and_1 (horizontal d) _ e in
    let r = and_2 (horizontal d) (eqb (row P.w d) (row P.w c) && ltb (key P W j d) (key P W k c)) e in
    absurd (q d m f (eqb-true (row P.w d) (row P.w c) (and_1 (eqb (row P.w d) (row P.w c)) _ r))
    (ltb-true _ _ (and_2 (eqb (row P.w d) (row P.w c)) (ltb (key P W j d) (key P W k c)) r))))
    (λ e. e)))
