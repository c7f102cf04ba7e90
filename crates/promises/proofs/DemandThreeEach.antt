-- The customer's third demand, its first sentence, of the words: every edge that a listed level crosses stands in exactly one outline of that level, once. Assumes nothing.
-- Definitions: `words_in P ks k c n` how many words of level k and code c line n has.
-- Main laws: `lines_tallied` what a test counts in the lines of the list, line by line, is what it counts in the list; `each_in_one_line` over the lines of the list the words of a listed level and a code are one
--   where the level crosses that edgel, and else none; `each_of_level` the line that has such a word is of that level.
use mathlib.Core.Path.{◌≡◌, refl, sym, ap, ◌∙◌}
use mathlib.Core.Bool.{Bool, true, false, ◌&&◌}
use mathlib.Core.List.{List, [], ◌∷◌}
use Prim.Native.Nat.{ℕ, zero, suc, ◌+◌, ◌<◌}
use native.Mathlib.Omega.{arith}
use lib.Dec.{eqb}
use lib.ListN.{drop}
use borrow.Author.Tests.{eqb-true}
use Rattle.tally.specs.Tally.{one, count, sum, tally, first_at, flat, pick}
use Rattle.tally.proofs.Test.{by_test}
use Rattle.tally.proofs.Count.{tally_append, tally_none}
use Rattle.tally.proofs.First.{first_yes}
use Rattle.tally.proofs.Pick.{pick_more}
use Rattle.matte.specs.Layout.{Layout, eight}
use Rattle.matte.specs.Picture.{Picture}
use Rattle.edgel.specs.Word.{code_of, level_of, flagged}
use Rattle.outline.specs.Line.{cut_at}
use Rattle.outline.specs.List.{listed}
use Rattle.enclosure.specs.Tree.{level_at}
use Rattle.paint.specs.Part.{rest}
use Rattle.paint.proofs.Lines.{rest_no}
use Rattle.paint.proofs.Parts.{parts_all}
use Rattle.promises.proofs.DemandThree.{Scan, each_crossing_once}
use Rattle.promises.proofs.DemandThreeWords.{line_total, line_at, starts_flagged, level_each}

-- the words of level k and code c in line n of the list
abbrev pub words_in : Picture → List ℕ → ℕ → ℕ → ℕ → ℕ
words_in P ks k c n = tally (λ u. eqb (level_of eight u) k && eqb c (code_of eight u)) (line_at P ks n)

-- ---- lists joined
tally_joined : (p : ℕ → Bool) (g : ℕ → List ℕ) (m : ℕ) → tally p (flat (pick (λ n. true) g 0 m)) ≡ sum (λ n. tally p (g n)) m
unfolding tally sum flat pick
tally_joined p g zero = refl
tally_joined p g (suc m) =
    ap (tally p) (pick_more (λ n. true) g m refl)
    ∙ tally_append p (flat (pick (λ n. true) g 0 m)) (g m)
    ∙ ap (λ (z : ℕ). z + tally p (g m)) (tally_joined p g m)

-- nothing before the first flag: all is from it on
all_from : (L : Layout) (ws : List ℕ) → rest L ws ≡ [] → drop (first_at (flagged L) ws) ws ≡ ws
unfolding first_at
all_from L [] e = refl
all_from L (u ∷ ws) e =
    by_test (flagged L u)
    (λ t. ap (λ (i : ℕ). drop i (u ∷ ws)) (first_yes (flagged L) u ws t))
    (λ t.
    let q = rest_no L u ws t in
    let z : ◌≡◌ {A = ℕ} 0 1 = cc in
    absurd (omega arith))

module _ (P : Picture) (ks : List ℕ) (S : Scan P ks) where
  pub lines_tallied : (p : ℕ → Bool) → sum (λ n. tally p (line_at P ks n)) (line_total P ks) ≡ tally p (listed eight P ks)
  lines_tallied p =
      sym (tally_joined p (line_at P ks) (line_total P ks)) ∙ ap (tally p) (parts_all eight (listed eight P ks) ∙ all_from eight (listed eight P ks) (starts_flagged P ks S))

  pub each_in_one_line : (k c : ℕ) → 0 < count k ks → sum (words_in P ks k c) (line_total P ks) ≡ one (cut_at P k c)
  each_in_one_line k c h = lines_tallied (λ u. eqb (level_of eight u) k && eqb c (code_of eight u)) ∙ each_crossing_once P ks S k c h

  -- the lines of other levels have none
  pub each_of_level : (k c n : ℕ) → n < line_total P ks → 0 < words_in P ks k c n → level_at eight P ks n ≡ k
  each_of_level k c n h a =
      by_test (eqb (level_at eight P ks n) k) (λ e. eqb-true (level_at eight P ks n) k e)
      (λ e.
      let t : ℕ → Bool = λ u. eqb (level_of eight u) k && eqb c (code_of eight u) in
      let z : tally t (line_at P ks n) ≡ 0 = tally_none t (line_at P ks n) (λ u b. ap (λ (j : ℕ). eqb j k && eqb c (code_of eight u)) (level_each P ks S n h u b) ∙ ap (λ (q : Bool). q && eqb c (code_of eight u)) e) in
      absurd (omega arith))
