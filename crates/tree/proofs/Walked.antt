-- The walk over the ranks: what each note tells, and that a lead's line gets its entry. Assumes nothing.
-- Main laws: `line_in`, `step_ready`, `step_decided` one rank of the walk.
use mathlib.Core.Path.{◌≡◌, refl, sym, ap, subst, ◌∙◌}
use mathlib.Core.Bool.{Bool, true, false, not, cond}
use mathlib.Core.List.{List}
use mathlib.Core.Logic.{◌≢◌}
use Prim.Native.Nat.{ℕ, zero, suc, ◌+◌, ◌-◌, ◌*◌, ◌/◌, ◌%◌, ◌≤◌, ◌<◌}
use native.Mathlib.Numerals.{add-one}
use native.Mathlib.Omega.{arith}
use lib.Dec.{eqb}
use lib.ListN.{length, get_or}
use borrow.Author.Tests.{eqb-true, eqb-false}
use Rattle.tally.specs.Tally.{one, odd, total}
use Rattle.tally.proofs.Test.{by_test}
use Rattle.matte.specs.Layout.{eight}
use Rattle.matte.specs.Picture.{Picture, high}
use Rattle.edgel.specs.Edgel.{horizontal, first}
use Rattle.enclosure.specs.Tree.{line_count, level_at, lead_at, parent, kind, entry}
use Rattle.enclosure.specs.Call.{heads}
use Rattle.enclosure.proofs.Lines.{Setting}
use Rattle.enclosure.proofs.Entry.{lead_pos, straight}
use Rattle.enclosure.proofs.Value.{lines_few, entry_parent}
use Rattle.enclosure.proofs.Rank.{rank, lead_on}
use Rattle.enclosure.proofs.Notes.{Noted, Seen, Told, noted_end}
use Rattle.enclosure.proofs.Walk.{Came, Decided, parent_first, parent_next, decided_before, decided_skip, decided_lead}
use Rattle.tree.specs.Note.{note_of, note_at, note_for}
use Rattle.tree.specs.Walk.{parent_at, decided}
use Rattle.tree.proofs.Bits.{note_line, note_straight, note_lead, note_lower}
use Rattle.tree.proofs.Deciding.{parent_none, parent_told, decided_yes, decided_no}

module _ (P : Picture) (ks : List ℕ) (S : Setting eight P ks) where
  abbrev up : ℕ → ℕ
  up = parent eight P ks

  abbrev val : ℕ → ℕ
  val = entry eight P ks

  -- the left end of the lead is high
  abbrev lower : ℕ → Bool
  lower n = high P (level_at eight P ks n) (first (lead_at eight P ks n))

  entry_is : (n : ℕ) → up n + one (lower n) * 2147483648 ≡ val n
  unfolding entry kind
  entry_is n = ap (λ (z : Bool). up n + one z * 2147483648) (not_not (lower n))
    where
      not_not : (b : Bool) → b ≡ not (not b)
      not_not true = refl
      not_not false = refl

  -- ---- one rank
  module _ (u : List ℕ) (X : Noted eight P ks (note_for P ks) (line_count eight P ks) 0 u) (t₀ : List ℕ) (long : line_count eight P ks ≤ length t₀) where
    told : (r : ℕ) → r < total (heads P) ks → Told eight P ks (note_for P ks) u r
    told r l = noted_end S (note_for P ks) u X (omega arith) r l

    module _ (r : ℕ) (l : r < total (heads P) ks) where
      abbrev T : Told eight P ks (note_for P ks) u r
      T = told r l

      abbrev m : ℕ
      m = T.m

      in_list : m < line_count eight P ks
      in_list = T.seen.on.number

      small : m < 536870912
      small = omega (arith, in_list, lines_few S)

      says : get_or u r 0 ≡ note_of m (straight eight P ks m T.d) (eqb (first T.d) (first (lead_at eight P ks m))) (lower m)
      unfolding note_at
      says = T.says

      line_is : get_or u r 0 % 536870912 ≡ m
      line_is = ap (λ (z : ℕ). z % 536870912) says ∙ note_line m small (straight eight P ks m T.d) (eqb (first T.d) (first (lead_at eight P ks m))) (lower m)

      straight_is : odd (get_or u r 0 / 536870912) ≡ straight eight P ks m T.d
      straight_is = ap (λ (z : ℕ). odd (z / 536870912)) says ∙ note_straight m small (straight eight P ks m T.d) (eqb (first T.d) (first (lead_at eight P ks m))) (lower m)

      lead_is : odd (get_or u r 0 / 1073741824) ≡ eqb (first T.d) (first (lead_at eight P ks m))
      lead_is = ap (λ (z : ℕ). odd (z / 1073741824)) says ∙ note_lead m small (straight eight P ks m T.d) (eqb (first T.d) (first (lead_at eight P ks m))) (lower m)

      lower_is : odd (get_or u r 0 / 2147483648) ≡ lower m
      lower_is = ap (λ (z : ℕ). odd (z / 2147483648)) says ∙ note_lower m small (straight eight P ks m T.d) (eqb (first T.d) (first (lead_at eight P ks m))) (lower m)

      pub line_in : get_or u r 0 % 536870912 < length t₀
      line_in = omega (arith, line_is, in_list)

      came : Came eight P ks r m (straight eight P ks m T.d)
      came = record { d = T.d; seen = T.seen; heading = refl }

      twice : (c : ℕ) → horizontal c ≡ true → 2 * first c ≡ c
      twice c f = omega (arith, eqb-true (c % 2) 0 f)

      lead_twice : 2 * first (lead_at eight P ks m) ≡ lead_at eight P ks m
      lead_twice = twice (lead_at eight P ks m) (lead_on S m in_list).flat

      lead_yes : eqb (first T.d) (first (lead_at eight P ks m)) ≡ true → T.d ≡ lead_at eight P ks m
      lead_yes e = omega (arith, eqb-true (first T.d) (first (lead_at eight P ks m)) e, twice T.d T.seen.on.flat, lead_twice)

      lead_not : eqb (first T.d) (first (lead_at eight P ks m)) ≡ false → T.d ≢ lead_at eight P ks m
      lead_not e z = eqb-false (first T.d) (first (lead_at eight P ks m)) e (ap first z)

      -- a note that is no lead's: nothing is decided
      skip : (t : List ℕ) → Decided eight P ks val t₀ r t → eqb (first T.d) (first (lead_at eight P ks m)) ≡ false → Decided eight P ks val t₀ (r + 1) (decided u r t)
      skip t D e = rw (decided_no u r t (lead_is ∙ e)) (decided_skip S val t₀ r t D m T.d T.seen (lead_not e))

      -- a lead: its line gets its value
      seen_lead : eqb (first T.d) (first (lead_at eight P ks m)) ≡ true → Seen eight P ks r m (lead_at eight P ks m)
      seen_lead e = subst (λ (z : ℕ). Seen eight P ks r m z) (lead_yes e) T.seen

      put : (t : List ℕ) → Decided eight P ks val t₀ r t → eqb (first T.d) (first (lead_at eight P ks m)) ≡ true
          → parent_at u r t ≡ up m → Decided eight P ks val t₀ (r + 1) (decided u r t)
      put t D e v =
          rw (decided_yes u r t (lead_is ∙ e), line_is, lower_is, v) (decided_lead S val t₀ r t D m (up m + one (lower m) * 2147483648) (seen_lead e) long (entry_is m))

    -- the first rank, and any other from the one before
    first_decided : (l : 0 < total (heads P) ks) (t : List ℕ) → Decided eight P ks val t₀ 0 t → Decided eight P ks val t₀ (0 + 1) (decided u 0 t)
    first_decided l t D =
        let T = told 0 l in
        by_test (eqb (first T.d) (first (lead_at eight P ks T.m)))
        (λ e. put 0 l t D e (parent_none u 0 t refl ∙ sym (parent_first S T.m T.seen.on.number (seen_lead 0 l e).rank)))
        (λ e. skip 0 l t D e)

    module _ (r : ℕ) (l : r + 1 < total (heads P) ks) (t : List ℕ) (D : Decided eight P ks val t₀ (r + 1) t) where
      less : r < total (heads P) ks
      less = omega arith

      abbrev A : Told eight P ks (note_for P ks) u r
      A = told r less

      up_before : get_or t (get_or u r 0 % 536870912) 0 % 2147483648 ≡ up A.m
      up_before =
          ap (λ (z : ℕ). get_or t z 0 % 2147483648) (line_is r less)
          ∙ ap (λ (z : ℕ). z % 2147483648) (decided_before S val t₀ r t D A.m (straight eight P ks A.m A.d) (came r less))
          ∙ entry_parent S A.m A.seen.on.number

      next_parent : (n : ℕ) → n < line_count eight P ks → rank eight P ks (lead_pos eight P ks n) ≡ r + 1 → parent_at u (r + 1) t ≡ up n
      next_parent n a e =
          let s : r + 1 - 1 ≡ r = omega arith in
          let x = straight eight P ks A.m A.d in
          parent_told u (r + 1) t (λ z. omega arith)
          ∙ ap (λ (z : ℕ). cond (odd (get_or u z 0 / 536870912)) (get_or u z 0 % 536870912 + 1) (get_or t (get_or u z 0 % 536870912) 0 % 2147483648)) s
          ∙ ap (λ (z : Bool). cond z (get_or u r 0 % 536870912 + 1) (get_or t (get_or u r 0 % 536870912) 0 % 2147483648)) (straight_is r less)
          ∙ ap (λ (z : ℕ). cond x (z + 1) (get_or t (get_or u r 0 % 536870912) 0 % 2147483648)) (line_is r less)
          ∙ ap (λ (z : ℕ). cond x (A.m + 1) z) up_before
          ∙ ap (λ (z : ℕ). cond x z (up A.m)) (add-one A.m)
          ∙ sym (parent_next S n r A.m x a e (came r less))

      next_decided : Decided eight P ks val t₀ (r + 1 + 1) (decided u (r + 1) t)
      next_decided =
          let T = told (r + 1) l in
          by_test (eqb (first T.d) (first (lead_at eight P ks T.m)))
          (λ e. put (r + 1) l t D e (next_parent T.m T.seen.on.number (seen_lead (r + 1) l e).rank))
          (λ e. skip (r + 1) l t D e)

    -- the note before tells a line
    pub step_ready : (r : ℕ) → r < total (heads P) ks → 0 < r → get_or u (r - 1) 0 % 536870912 < length t₀
    step_ready r l h = line_in (r - 1) (omega arith)

    pub step_decided : (r : ℕ) → r < total (heads P) ks → (t : List ℕ) → Decided eight P ks val t₀ r t → Decided eight P ks val t₀ (r + 1) (decided u r t)
    step_decided zero l t D = first_decided l t D
    step_decided (suc r) l t D = rw (sym (add-one r)) (next_decided r (omega arith) t (rw (add-one r) D))
