-- Lines around lines: every crossing of a line has the same lines around it as its lead has. Assumes nothing.
-- Definitions: none of its own.
-- Main laws: `one_line` lines that share a crossing have one lead; `earlier` (LEAD) a line around another has its lead before the other's, by row and then exact position, so it is not
--   that line itself: `not_self`; `left_some` a crossing that makes a line odd; `sides` a line is left of every crossing of another line or of none: as at the other's lead; `low_side`,
--   `high_side` a line's low ends are inside it exactly if its lead's left end is high, its high ends exactly if that is low; `own` a line's own odd or even at one of its crossings says whether
--   the heading there is its lead's.
use mathlib.Core.Path.{◌≡◌, refl, sym, ap, ◌∙◌, subst}
use mathlib.Core.Bool.{Bool, true, false, not, ◌&&◌}
use mathlib.Core.List.{List}
use mathlib.Core.Logic.{◌≢◌}
use Prim.Native.Nat.{ℕ, ◌+◌, ◌%◌, ◌<◌}
use native.Mathlib.Omega.{arith}
use lib.Dec.{eqb, ltb}
use borrow.Author.Tests.{ltb-true, ltb-false, eqb-true}
use Rattle.tally.specs.Tally.{differ, tally}
use Rattle.tally.proofs.Test.{by_test, and_1, and_2}
use Rattle.orbit.proofs.On.{on}
use Rattle.orbit.proofs.Partition.{lead_only}
use Rattle.matte.specs.Layout.{Layout}
use Rattle.matte.specs.Picture.{Picture, high}
use Rattle.edgel.specs.Edgel.{horizontal, first, row}
use Rattle.outline.specs.Line.{cut_at, line, is_lead}
use Rattle.outline.proofs.Border.{Border}
use Rattle.outline.proofs.Paper.{closed_at, headed_at}
use Rattle.outline.proofs.Places.{line_cut}
use Rattle.outline.proofs.Whole.{on_line}
use Rattle.enclosure.specs.Position.{key, on_left}
use Rattle.enclosure.proofs.Lists.{differ_none, tally_some}
use Rattle.enclosure.proofs.Order.{key_inj}
use Rattle.enclosure.proofs.Inside.{inside, low_end, high_end}
use Rattle.enclosure.proofs.Along.{along_low, along_high}
use Rattle.enclosure.proofs.Left.{ends, east, left_below, left_above, left_level, low_falls, low_rises}
use Rattle.enclosure.proofs.Lines.{Setting, Line, Pass, marks, lead_key, left_of, encloses, small, lead_cut, lead_pass, pass_cut, key_first, counts, member, kept}

module _ {L : Layout} {P : Picture} {ks : List ℕ} (S : Setting L P ks) where
  abbrev B : Border P
  B = S.border

  abbrev W : ℕ
  W = L.levels

  abbrev I : Line P ks → ℕ → Bool
  I M = inside P.w (marks M)

  -- a code is on one line of its level only
  meet : (M N : Line P ks) → M.lvl ≡ N.lvl → (c : ℕ) → marks M c ≡ true → marks N c ≡ true → M.lead ≡ N.lead
  unfolding is_lead line on
  meet M N e c m n =
      let k = N.lvl in
      let o : cut_at P k c ≡ true = line_cut P B k N.lead c (lead_cut S N) (ltb-true _ _ n) in
      lead_only (closed_at P B k) horizontal (headed_at P B k) c M.lead o
      (subst (λ (z : ℕ). is_lead P z M.lead ≡ true) e M.leads)
      (subst (λ (z : ℕ). on_line P z M.lead c ≡ true) e m)
      ∙ sym (lead_only (closed_at P B k) horizontal (headed_at P B k) c N.lead o N.leads n)

  pub one_line : (M N : Line P ks) (c d : ℕ) → Pass M c → Pass N d → key P L.levels M.lvl c ≡ key P L.levels N.lvl d → lead_key L M ≡ lead_key L N
  one_line M N c d A Q e =
      let s = key_inj P W M.lvl N.lvl c d (small S M) (small S N) e in
      let m : M.lead ≡ N.lead = meet M N s.1 c A.here (ap (marks N) s.0 ∙ Q.here) in
      ap (λ (z : ℕ). key P W z M.lead) s.1 ∙ ap (key P W N.lvl) m

  off : (M N : Line P ks) → lead_key L M ≢ lead_key L N → M.lvl ≡ N.lvl → (c : ℕ) → marks N c ≡ true → marks M c ≡ false
  off M N q e c n =
      by_test (marks M c)
      (λ m. absurd (q (ap (λ (z : ℕ). key P W z M.lead) e ∙ ap (key P W N.lvl) (meet M N e c m n))))
      (λ m. m)

  -- a crossing that makes M odd left of c
  pub left_some : (M : Line P ks) (k c : ℕ) → left_of L M k c ≡ true
      → (d : ℕ) × Pass M d × (row P.w d ≡ row P.w c) × (key P L.levels M.lvl d < key P L.levels k c)
  unfolding left_of on_left
  left_some M k c e =
      let p = on_left P W M.lvl k c in
      let l = line P M.lvl M.lead in
      let o : tally p l % 2 ≡ 1 = eqb-true (tally p l % 2) 1 e in
      let s = tally_some p l (omega arith) in
      let d = s.0 in
      let f : horizontal d ≡ true = and_1 (horizontal d) _ s.1 in
      let r = and_2 (horizontal d) (eqb (row P.w d) (row P.w c) && ltb (key P W M.lvl d) (key P W k c)) s.1 in (
        d,
        record { flat = f; here = member S M d s.2 },
        eqb-true (row P.w d) (row P.w c) (and_1 (eqb (row P.w d) (row P.w c)) _ r),
        ltb-true _ _ (and_2 (eqb (row P.w d) (row P.w c)) (ltb (key P W M.lvl d) (key P W k c)) r),
      )

  -- LEAD
  pub earlier : (M N : Line P ks) → encloses L M N ≡ true → lead_key L M < lead_key L N
  earlier M N e = let x = left_some M N.lvl N.lead e in omega (arith, key_first S M x.0 x.1, x.3)

  pub not_self : (M N : Line P ks) → lead_key L M ≡ lead_key L N → encloses L M N ≡ false
  not_self M N e = by_test (encloses L M N) (λ t. absurd (omega (arith, earlier M N t))) (λ t. t)

  -- ---- the same lines around every crossing
  -- at its own level a mark off the edgel is left of it as at the low end
  level_low : (M N : Line P ks) (c : ℕ) → Pass N c → marks M c ≡ false → I M (first c) ≡ I M (low_end (high P N.lvl) P.w c)
  level_low M N c A z =
      let o = pass_cut S N c A in
      let l = line P M.lvl M.lead in
      by_test (high P N.lvl (first c))
      (λ y. sym (differ_none (I M (first c))) ∙ ap (differ (I M (first c))) (sym z)
      ∙ sym (low_falls P B W M.lvl N.lvl c (small S M) (small S N) A.flat o l (marks M) (counts S M) y))
      (λ y. sym (low_rises P B W M.lvl N.lvl c (small S M) (small S N) A.flat o l (marks M) (counts S M) y))

  pub sides : (M N : Line P ks) → lead_key L M ≢ lead_key L N → (c : ℕ) → Pass N c → left_of L M N.lvl c ≡ encloses L M N
  unfolding left_of
  sides M N q c A =
      let j = M.lvl in
      let k = N.lvl in
      let m = marks M in
      let l = line P j M.lead in
      let o = pass_cut S N c A in
      let Z = lead_pass S N in
      by_test (ltb j k)
      (λ e.
      let t : j < k = ltb-true j k e in
      left_below P B W j k c (small S M) (small S N) A.flat o l m (counts S M) t
      ∙ along_high P B j k m (kept S M) (omega arith) N.lead c (lead_cut S N) A.here
      ∙ sym (left_below P B W j k N.lead (small S M) (small S N) Z.flat (lead_cut S N) l m (counts S M) t))
      (λ e. by_test (ltb k j)
      (λ d.
      let t : k < j = ltb-true k j d in
      left_above P B W j k c (small S M) (small S N) A.flat o l m (counts S M) t
      ∙ along_low P B j k m (kept S M) (omega arith) N.lead c (lead_cut S N) A.here
      ∙ sym (left_above P B W j k N.lead (small S M) (small S N) Z.flat (lead_cut S N) l m (counts S M) t))
      (λ d.
      let t : j ≡ k = omega (arith, ltb-false j k e, ltb-false k j d) in
      left_level P B W j k c (small S M) (small S N) A.flat o l m (counts S M) t
      ∙ level_low M N c A (off M N q t c A.here)
      ∙ along_low P B j k m (kept S M) (omega arith) N.lead c (lead_cut S N) A.here
      ∙ sym (level_low M N N.lead Z (off M N q t N.lead Z.here))
      ∙ sym (left_level P B W j k N.lead (small S M) (small S N) Z.flat (lead_cut S N) l m (counts S M) t)))

  -- ---- the line's own side at its crossing, from the low end
  own_low : (M : Line P ks) (c : ℕ) → Pass M c → left_of L M M.lvl c ≡ differ (high P M.lvl (first c)) (I M (low_end (high P M.lvl) P.w c))
  unfolding left_of
  own_low M c A =
      let k = M.lvl in
      let m = marks M in
      let l = line P k M.lead in
      let o = pass_cut S M c A in
      let a = I M (first c) in
      let e = I M (low_end (high P k) P.w c) in
      left_level P B W k k c (small S M) (small S M) A.flat o l m (counts S M) refl
      ∙ by_test (high P k (first c))
      (λ y. turn a (m c) A.here ∙ ap (differ true) (sym (low_falls P B W k k c (small S M) (small S M) A.flat o l m (counts S M) y)) ∙ ap (λ (z : Bool). differ z e) (sym y))
      (λ y. sym (low_rises P B W k k c (small S M) (small S M) A.flat o l m (counts S M) y) ∙ ap (λ (z : Bool). differ z e) (sym y))
    where
      turn : (x y : Bool) → y ≡ true → x ≡ differ true (differ x y)
      turn true y e = rw e
      turn false y e = rw e

  -- ---- the side of its low ends and of its high ends: the lead's left end is outside, its right end inside
  left_out : (M : Line P ks) → I M (first M.lead) ≡ false
  unfolding left_of
  left_out M =
      let Z = lead_pass S M in
      sym (left_level P B W M.lvl M.lvl M.lead (small S M) (small S M) Z.flat (lead_cut S M) (line P M.lvl M.lead) (marks M) (counts S M) refl) ∙ not_self M M refl

  right_in : (M : Line P ks) → I M (first M.lead + 1) ≡ true
  right_in M =
      let Z = lead_pass S M in
      east P B W M.lvl M.lvl M.lead (small S M) (small S M) Z.flat (lead_cut S M) (line P M.lvl M.lead) (marks M) (counts S M)
      ∙ ap (λ (z : Bool). differ z (marks M M.lead)) (left_out M)
      ∙ Z.here

  pub low_side : (M : Line P ks) (c : ℕ) → marks M c ≡ true → inside P.w (marks M) (low_end (high P M.lvl) P.w c) ≡ high P M.lvl (first M.lead)
  low_side M c m =
      let k = M.lvl in
      let Z = lead_pass S M in
      along_low P B k k (marks M) (kept S M) (omega arith) M.lead c (lead_cut S M) m
      ∙ by_test (high P k (first M.lead))
      (λ y. ap (I M) (ends P W k M.lead Z.flat (lead_cut S M) true y).0 ∙ right_in M ∙ sym y)
      (λ y. ap (I M) (ends P W k M.lead Z.flat (lead_cut S M) false y).0 ∙ left_out M ∙ sym y)

  pub high_side : (M : Line P ks) (c : ℕ) → marks M c ≡ true → inside P.w (marks M) (high_end (high P M.lvl) P.w c) ≡ not (high P M.lvl (first M.lead))
  high_side M c m =
      let k = M.lvl in
      let Z = lead_pass S M in
      along_high P B k k (marks M) (kept S M) (omega arith) M.lead c (lead_cut S M) m
      ∙ by_test (high P k (first M.lead))
      (λ y. ap (I M) (ends P W k M.lead Z.flat (lead_cut S M) true y).1 ∙ left_out M ∙ ap not (sym y))
      (λ y. ap (I M) (ends P W k M.lead Z.flat (lead_cut S M) false y).1 ∙ right_in M ∙ ap not (sym y))

  pub own : (M : Line P ks) (c : ℕ) → Pass M c → left_of L M M.lvl c ≡ differ (high P M.lvl (first c)) (high P M.lvl (first M.lead))
  own M c A = own_low M c A ∙ ap (differ (high P M.lvl (first c))) (low_side M c A.here)
