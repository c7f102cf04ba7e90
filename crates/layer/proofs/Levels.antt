-- The levels painted one after the other. Assumes nothing.
-- Main laws: `marks_turned` the marks of a level are the edgels that its words turn; `levels_begin`, `levels_go` level by level; `summed_over` what lay there before plays no part; `written` the sums are the
--   samples.
use Rattle.std.proofs.Common.{◌≡◌, ℕ, ◌+◌, ◌*◌, ◌/◌, ◌%◌, ◌<◌, Bool, true, false, ltb, List, length, get_or, take, sym, ap, ◌∙◌, mod-eq_of_lt, arith}
use Rattle.tally.specs.Tally.{one, differ, tally}
use Rattle.tally.proofs.Count.{tally_length}
use Rattle.fill.specs.Filled.{Filled}
use Rattle.matte.specs.Layout.{eight}
use Rattle.matte.specs.Picture.{levels_fit}
use Rattle.layer.specs.Layer.{turned_at, running, stacked}
use Rattle.layer.specs.Sums.{up_to, Layered, Summed}
use Rattle.layer.proofs.Takes.{take_none, take_more, take_same}
use Rattle.layer.proofs.Ascent.{ascend_few}
use Rattle.layer.proofs.Bytes.{up_none}
use Rattle.layer.proofs.Walks.{running_same}

-- marks that were cleared and then turned by some words
pub marks_turned : (a b c : Bool) → a ≡ false → b ≡ differ a c → b ≡ c
marks_turned a b c e q = q ∙ ap (λ (z : Bool). differ z c) e

module _ (w v : ℕ) (ks : List ℕ) where
  abbrev state_at : List ℕ → ℕ → ℕ → Bool
  state_at ws i k = running (turned_at eight k ws) (ltb k v) (i / w * w) (i % w)

  pub levels_begin : (n : ℕ) (ws c d : List ℕ) → Filled (λ i. 0) c n d → Summed (stacked eight w v (take 0 ks) ws) n c d
  unfolding stacked
  levels_begin n ws c d F = record {
    long = F.long;
    done = λ i h. up_none n d F.done i h ∙ ap (λ (z : ℕ). z % 256) (take_none (state_at ws i) ks);
    same = F.same;
  }

  -- one level more, of which the words us have all; of the levels before, they have no more than ws
  pub levels_go : (n j k : ℕ) (ws us d e g : List ℕ) → Summed (stacked eight w v (take j ks) ws) n d e → j < length ks → k ≡ get_or ks j 0
      → ((t p : ℕ) → t < j → turned_at eight (get_or ks t 0) us p ≡ turned_at eight (get_or ks t 0) ws p) → Layered (turned_at eight k us) (ltb k v) w n e g
      → Summed (stacked eight w v (take (j + 1) ks) us) n d g
  unfolding stacked
  levels_go n j k ws us d e g A h is q B = record {
    long = B.long ∙ A.long;
    done =
        λ i l.
        let x : up_to g i ≡ (up_to e i + one (state_at us i k)) % 256 = B.done i l in
        let y : up_to e i ≡ tally (state_at ws i) (take j ks) % 256 = A.done i l in
        let z : tally (state_at us i) (take j ks) ≡ tally (state_at ws i) (take j ks) =
        take_same (state_at us i) (state_at ws i) ks j (omega arith)
        (λ t u. running_same (turned_at eight (get_or ks t 0) us) (turned_at eight (get_or ks t 0) ws) (ltb (get_or ks t 0) v) (i / w * w) (i % w) (λ p m. q t (i / w * w + p) u)) in
        let s : tally (state_at us i) (take (j + 1) ks) ≡ tally (state_at us i) (take j ks) + one (state_at us i k) =
        take_more (state_at us i) ks j h ∙ ap (λ (c : ℕ). tally (state_at us i) (take j ks) + one (state_at us i c)) (sym is) in
        omega arith;
    same = λ i l. B.same i l ∙ A.same i l;
  }

  pub written : (n : ℕ) (ws d e g : List ℕ) → levels_fit eight ks ≡ true → Summed (stacked eight w v ks ws) n d e → Filled (up_to e) e n g → Filled (stacked eight w v ks ws) d n g
  unfolding stacked
  written n ws d e g fit A F = record {
    long = F.long ∙ A.long;
    done =
        λ i l.
        F.done i l ∙ A.done i l ∙ mod-eq_of_lt (omega (arith, tally_length (state_at ws i) ks, ascend_few eight ks fit));
    same = λ i l. F.same i l ∙ A.same i l;
  }

-- the same over samples that were painted before
pub summed_over : (f : ℕ → ℕ) (n : ℕ) (c d e : List ℕ) → Summed f n c d → (q : ℕ → ℕ) → Summed q n d e → Summed q n c e
summed_over f n c d e A q B = record {
  long = B.long ∙ A.long;
  done = B.done;
  same = λ i l. B.same i l ∙ A.same i l;
}
