-- Running sums of the steps, and the ranks that they give. Assumes nothing.
-- Definitions: `Running` the first b sums stand in the work bytes, and the bytes past the samples' number are as they were.
-- Main laws: `gaps_none`, `gaps_more` the running sum at the start and one place on; `table_of`, `rising` the table of steps, which does not fall; `running_none`, `running_more`, `running_starts` the sums at
--   every 8th place, one after the other.
use mathlib.Core.Path.{◌≡◌, refl, sym, ap, ◌∙◌}
use mathlib.Core.Bool.{Bool, true, false, not, beq}
use mathlib.Core.List.{List, [], ◌++◌}
use Prim.Native.Nat.{ℕ, ◌+◌, ◌-◌, ◌*◌, ◌≤◌, ◌<◌}
use native.Mathlib.Omega.{arith}
use lib.Dec.{eqb, ltb}
use lib.ListN.{length, take, drop, get_or, length-append, length-drop}
use lib.Seq.{length-take-le, drop_at}
use borrow.Author.Tests.{eqb-true, eqb-false, lt-ltb, le-ltb, ltb-true}
use Rattle.tally.specs.Tally.{differ, sum, tally}
use Rattle.tally.proofs.Test.{by_test}
use Rattle.tally.proofs.Sum.{sum_next}
use Rattle.tally.proofs.Count.{tally_le}
use Rattle.block.specs.Block.{le4, num4}
use Rattle.block.proofs.Bytes.{num4_le4, num4_front, num4_take, num4_after}
use Rattle.count.specs.Steps.{step_table}
use Rattle.count.proofs.Steps.{table_at}
use Rattle.tree.specs.Note.{Table, Rising, gap_at, gaps, Starts, rank_at}
use Rattle.store.proofs.Splice.{drop_later}

pub gaps_none : (st px : List ℕ) → gaps st px 0 ≡ 0
unfolding gaps sum
gaps_none st px = refl

pub gaps_more : (st px : List ℕ) (i : ℕ) → gaps st px (i + 1) ≡ gaps st px i + gap_at st px i
unfolding gaps
gaps_more st px i = sum_next (gap_at st px) i

-- ---- the table
pub table_of : (ks st : List ℕ) → st ≡ step_table ks → Table ks st
table_of ks st e = record { tells = λ v h. ap (λ (l : List ℕ). get_or l v 0) e ∙ table_at ks v h }

-- the steps do not fall
steps_le : (ks : List ℕ) (a b : ℕ) → a ≤ b → tally (λ k. ltb k a) ks ≤ tally (λ k. ltb k b) ks
steps_le ks a b h = tally_le (λ k. ltb k a) (λ k. ltb k b) ks (λ k e. lt-ltb k b (omega (arith, ltb-true k a e)))

pub rising : (ks st : List ℕ) → Table ks st → Rising st
rising ks st T = record { more = λ a b h l. omega (arith, T.tells a (omega arith), T.tells b l, steps_le ks a b h) }

-- ---- every 8th place
pub record Running (st px work₀ work : List ℕ) (b : ℕ) : Type 0 where
  pub long : length work ≡ length work₀
  pub rest : drop (length px) work ≡ drop (length px) work₀
  pub tells : (j : ℕ) → j < b → num4 work (4 * j) ≡ gaps st px (8 * j)
  pub few : (j : ℕ) → j < b → num4 work (4 * j) ≤ 255 * (8 * j)

pub running_none : (st px work : List ℕ) → Running st px work work 0
running_none st px work = record { long = refl; rest = refl; tells = λ j h. absurd (omega arith); few = λ j h. absurd (omega arith) }

-- four bytes written over: their number, the numbers before them, and what is behind
abbrev over : List ℕ → ℕ → ℕ → List ℕ
over s i n = take i s ++ le4 n ++ drop (i + 4) s

module _ (s : List ℕ) (i n : ℕ) (h : i + 4 ≤ length s) where
  front : length (take i s) ≡ i
  front = length-take-le i s (omega arith)

  both : length (take i s ++ le4 n) ≡ i + 4
  both = length-append (take i s) (le4 n) ∙ ap (λ (z : ℕ). z + 4) front

  over_there : n < 4294967296 → num4 (over s i n) i ≡ n
  over_there l =
      num4_front (take i s ++ le4 n) (drop (i + 4) s) i (omega (arith, both)) ∙ num4_after (take i s) (le4 n) 0 i (omega (arith, front)) ∙ num4_le4 n [] l

  over_before : (j : ℕ) → j + 4 ≤ i → num4 (over s i n) j ≡ num4 s j
  over_before j l =
      num4_front (take i s ++ le4 n) (drop (i + 4) s) j (omega (arith, both)) ∙ num4_front (take i s) (le4 n) j (omega (arith, front)) ∙ num4_take i s j l

  over_long : length (over s i n) ≡ length s
  over_long = length-append (take i s ++ le4 n) (drop (i + 4) s) ∙ omega (arith, both, length-drop (i + 4) s)

  over_rest : (m : ℕ) → i + 4 ≤ m → drop m (over s i n) ≡ drop m s
  over_rest m l = drop_later (over s i n) s (i + 4) m l (drop_at (take i s ++ le4 n) (drop (i + 4) s) (i + 4) both)

pub running_more : (st px work₀ work u : List ℕ) (b n : ℕ) → u ≡ take (4 * b) work ++ le4 n ++ drop (4 * b + 4) work → 4 * b + 4 ≤ length work → 4 * b + 4 ≤ length px
    → length px ≤ 4194304 → n ≡ gaps st px (8 * b) → n ≤ 255 * (8 * b) → Running st px work₀ work b → Running st px work₀ u (b + 1)
running_more st px work₀ work u b n q h g l e m R =
    let t : num4 u (4 * b) ≡ n = ap (λ (z : List ℕ). num4 z (4 * b)) q ∙ over_there work (4 * b) n h (omega arith) in
    let o : (j : ℕ) → j < b → num4 u (4 * j) ≡ num4 work (4 * j) = λ j y. ap (λ (z : List ℕ). num4 z (4 * j)) q ∙ over_before work (4 * b) n h (4 * j) (omega arith) in
    record {
      long = ap length q ∙ over_long work (4 * b) n h ∙ R.long;
      rest = ap (drop (length px)) q ∙ over_rest work (4 * b) n h (length px) g ∙ R.rest;
      tells = λ j y.
          by_test (eqb j b)
          (λ x. let s : j ≡ b = eqb-true j b x in ap (λ (z : ℕ). num4 u (4 * z)) s ∙ t ∙ e ∙ ap (λ (z : ℕ). gaps st px (8 * z)) (sym s))
          (λ x. let v : j < b = omega (arith, eqb-false j b x) in o j v ∙ R.tells j v);
      few = λ j y.
          by_test (eqb j b)
          (λ x. let s : j ≡ b = eqb-true j b x in omega (arith, ap (λ (z : ℕ). num4 u (4 * z)) s, t))
          (λ x. let v : j < b = omega (arith, eqb-false j b x) in omega (arith, o j v, R.few j v));
    }

pub running_starts : (st px work₀ work : List ℕ) (b : ℕ) → 4 ≤ length px → length px ≤ length work → length px ≤ 8 * b → Running st px work₀ work b → Starts st px work
running_starts st px work₀ work b h l g R = record { room = λ j y. omega arith; tells = λ j y. R.tells j (omega arith); few = λ j y. R.few j (omega arith) }

-- ---- ranks
module _ (st px : List ℕ) (k i n s t : ℕ) (g : n ≡ gaps st px i) (u : s ≡ get_or st (get_or px i 0) 0) where
  pub rank_high : t ≡ get_or st (k + 1) 0 → k < get_or px i 0 → n + s - t ≡ rank_at st px k i
  unfolding rank_at
  rank_high v h = rw (lt-ltb k (get_or px i 0) h) (omega arith)

  pub rank_low : t ≡ get_or st k 0 → get_or px i 0 ≤ k → n + t - s ≡ rank_at st px k i
  unfolding rank_at
  rank_low v h = rw (le-ltb k (get_or px i 0) h) (omega arith)

-- ---- equal truths
pub alike : (x y : Bool) → beq x y ≡ not (differ x y)
alike true true = refl
alike true false = refl
alike false true = refl
alike false false = refl
