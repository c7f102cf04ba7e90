-- The tree in one walk over the ranks: each line's place is set at the rank of its lead, from the rank before. Assumes nothing.
-- Definitions: `Came L P ks r m s` the crossing of rank r is one of line m, with the heading of its lead (s) or without it; `Decided L P ks val t₀ r t` the tree places t, which were t₀, hold val n for
--   every line n whose lead has a rank below r, and are as they were past the lines.
-- Main laws: `parent_first`, `parent_next` the parent of a line whose lead has rank 0, or comes after a crossing of line m; `decided_before` line m's own place has been set by then; the
--   moves of the walk: `decided_start`, `decided_skip` at a rank that is no lead, `decided_lead` at a lead, `decided_end` after all ranks: the places are the values of all lines, then what was
--   there.
use mathlib.Core.Path.{◌≡◌, refl, sym, ap, ◌∙◌}
use mathlib.Core.Bool.{Bool, cond}
use mathlib.Core.List.{List, ◌++◌}
use mathlib.Core.Logic.{◌≢◌}
use Prim.Native.Nat.{ℕ, suc, ◌+◌, ◌≤◌, ◌<◌}
use native.Mathlib.Omega.{arith}
use lib.Dec.{eqb}
use lib.ListN.{length, get_or, set, take, drop, length-set, take-append-drop}
use lib.Seq.{get_or-set_same, get_or-set_other, drop-set-lt, length-take-le, get_or-take}
use borrow.Author.Tests.{eqb-true, eqb-false}
use Rattle.tally.specs.Tally.{build, total}
use Rattle.tally.proofs.Test.{by_test}
use Rattle.tally.proofs.Build.{is_build}
use Rattle.matte.specs.Layout.{Layout}
use Rattle.matte.specs.Picture.{Picture}
use Rattle.enclosure.specs.Tree.{line_count, lead_at, parent}
use Rattle.enclosure.specs.Call.{heads}
use Rattle.enclosure.proofs.Lines.{Setting}
use Rattle.enclosure.proofs.Entry.{lead_pos, straight}
use Rattle.enclosure.proofs.Rank.{rank, pos_at, lead_on, lead_rank}
use Rattle.enclosure.proofs.Last.{next_rank, from_before, from_none}
use Rattle.enclosure.proofs.Running.{rank_below}
use Rattle.enclosure.proofs.Notes.{Seen, seen_once}

module _ (L : Layout) (P : Picture) (ks : List ℕ) where
  pub record Came (r m : ℕ) (s : Bool) : Type 0 where
    pub d : ℕ
    pub seen : Seen L P ks r m d
    pub heading : straight L P ks m d ≡ s

  pub record Decided (val : ℕ → ℕ) (t₀ : List ℕ) (r : ℕ) (t : List ℕ) : Type 0 where
    pub tells : (n : ℕ) → n < line_count L P ks → rank L P ks (lead_pos L P ks n) < r → get_or t n 0 ≡ val n
    pub long : length t ≡ length t₀
    pub rest : drop (line_count L P ks) t ≡ drop (line_count L P ks) t₀

module _ {L : Layout} {P : Picture} {ks : List ℕ} (S : Setting L P ks) where
  -- ---- what is set at a lead
  pub parent_first : (n : ℕ) → n < line_count L P ks → rank L P ks (lead_pos L P ks n) ≡ 0 → parent L P ks n ≡ 0
  parent_first n a e = from_none S n a e

  pub parent_next : (n r m : ℕ) (s : Bool) → n < line_count L P ks → rank L P ks (lead_pos L P ks n) ≡ r + 1 → Came L P ks r m s
      → parent L P ks n ≡ cond s (suc m) (parent L P ks m)
  parent_next n r m s a e C =
      let X = C.seen in
      let q : rank L P ks (lead_pos L P ks n) ≡ suc (rank L P ks (pos_at L P ks m C.d)) = omega (arith, X.rank) in
      from_before S n a m C.d X.on (next_rank S n m C.d X.on q) ∙ ap (λ (z : Bool). cond z (suc m) (parent L P ks m)) C.heading

  pub lead_seen : (n : ℕ) → n < line_count L P ks → Seen L P ks (rank L P ks (lead_pos L P ks n)) n (lead_at L P ks n)
  lead_seen n a = record { on = lead_on S n a; rank = refl }

  -- ---- the walk
  module _ (val : ℕ → ℕ) (t₀ : List ℕ) where
    pub decided_start : Decided L P ks val t₀ 0 t₀
    decided_start = record { tells = λ n a l. absurd (omega arith); long = refl; rest = refl }

    -- the line of a crossing that came has its place set
    pub decided_before : (r : ℕ) (t : List ℕ) → Decided L P ks val t₀ (r + 1) t → (m : ℕ) (s : Bool) → Came L P ks r m s → get_or t m 0 ≡ val m
    decided_before r t D m s C = D.tells m C.seen.on.number (omega (arith, lead_rank S m C.d C.seen.on, C.seen.rank))

    -- rank r is line m's and is not its lead
    pub decided_skip : (r : ℕ) (t : List ℕ) → Decided L P ks val t₀ r t → (m d : ℕ) → Seen L P ks r m d → d ≢ lead_at L P ks m → Decided L P ks val t₀ (r + 1) t
    decided_skip r t D m d X q =
        record {
          tells = λ n a l.
              by_test (eqb (rank L P ks (lead_pos L P ks n)) r)
              (λ e.
              let w = seen_once S r n (lead_at L P ks n) m d (record { on = lead_on S n a; rank = eqb-true _ _ e }) X in
              absurd (q (sym w.1 ∙ ap (lead_at L P ks) w.0)))
              (λ e. D.tells n a (omega (arith, eqb-false (rank L P ks (lead_pos L P ks n)) r e)));
          long = D.long;
          rest = D.rest;
        }

    -- rank r is the lead of line m, and its place is set
    pub decided_lead : (r : ℕ) (t : List ℕ) → Decided L P ks val t₀ r t → (m v : ℕ) → Seen L P ks r m (lead_at L P ks m) → line_count L P ks ≤ length t₀ → v ≡ val m
        → Decided L P ks val t₀ (r + 1) (set t m v)
    decided_lead r t D m v X room e =
        let a : m < line_count L P ks = X.on.number in
        let k : m < length t = omega (arith, D.long) in
        record {
          tells = λ n b l.
              by_test (eqb n m)
              (λ x. let s : n ≡ m = eqb-true n m x in ap (λ (z : ℕ). get_or (set t m v) z 0) s ∙ get_or-set_same t m v 0 k ∙ e ∙ ap val (sym s))
              (λ x.
              let q : n ≢ m = eqb-false n m x in
              get_or-set_other t m n v 0 q
              ∙ D.tells n b
              (by_test (eqb (rank L P ks (lead_pos L P ks n)) r)
              (λ z. absurd (q (seen_once S r n (lead_at L P ks n) m (lead_at L P ks m) (record { on = lead_on S n b; rank = eqb-true _ _ z }) X).0))
              (λ z. omega (arith, eqb-false (rank L P ks (lead_pos L P ks n)) r z))));
          long = simp length-set D.long;
          rest = drop-set-lt (line_count L P ks) t m v a ∙ D.rest;
        }

    -- after the last rank
    pub decided_end : (t : List ℕ) → Decided L P ks val t₀ (total (heads P) ks) t → line_count L P ks ≤ length t₀
        → t ≡ build val 0 (line_count L P ks) ++ drop (line_count L P ks) t₀
    decided_end t D room =
        let n = line_count L P ks in
        let k : n ≤ length t = omega (arith, D.long) in
        sym (take-append-drop n t)
        ∙ ap (λ (z : List ℕ). z ++ drop n t)
        (is_build val (take n t) n (length-take-le n t k)
        (λ j l. get_or-take n t j 0 l ∙ D.tells j l (rank_below S j (lead_at L P ks j) (lead_on S j l))))
        ∙ ap (λ (z : List ℕ). build val 0 n ++ z) D.rest
