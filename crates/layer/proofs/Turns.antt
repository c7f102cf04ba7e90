-- The edgels that the words of a level turn. Assumes nothing.
-- Main laws: `hit_is` what one word turns; `turned_none`, `turned_more` what a list turns, word by word.
use Rattle.std.proofs.Common.{◌≡◌, ℕ, ◌+◌, ◌/◌, ◌%◌, ◌<◌, Bool, true, false, ◌&&◌, eqb, List, length, get_or, take, sym, refl, ap, ◌∙◌}
use Rattle.tally.specs.Tally.{one, odd, differ, tally}
use Rattle.tally.proofs.Test.{differ_assoc}
use Rattle.tally.proofs.Parity.{odd_plus, odd_one}
use Rattle.matte.specs.Layout.{Layout, eight}
use Rattle.edgel.specs.Word.{code_of, level_of}
use Rattle.layer.specs.Layer.{hits, turned_at}
use Rattle.layer.proofs.Takes.{take_none, take_more}

-- ---- one word
pub hit_is : (k p u l c : ℕ) → l ≡ level_of eight u → c ≡ code_of eight u → ((eqb l k && eqb (c % 2) 0) && eqb p (c / 2)) ≡ hits eight k p u
unfolding hits
hit_is k p u l c e d = rw (e, d) (and_assoc (eqb (level_of eight u) k) (eqb (code_of eight u % 2) 0) (eqb p (code_of eight u / 2)))
  where
    and_assoc : (x y z : Bool) → ((x && y) && z) ≡ (x && (y && z))
    and_assoc true y z = refl
    and_assoc false y z = refl

-- ---- a list of words
module _ (L : Layout) (k : ℕ) (ws : List ℕ) (p : ℕ) where
  pub turned_none : turned_at L k (take 0 ws) p ≡ false
  unfolding turned_at
  turned_none = ap odd (sym (take_none (hits L k p) ws))

  pub turned_more : (i : ℕ) → i < length ws → turned_at L k (take (i + 1) ws) p ≡ differ (turned_at L k (take i ws) p) (hits L k p (get_or ws i 0))
  unfolding turned_at
  turned_more i h =
      ap odd (take_more (hits L k p) ws i h)
      ∙ odd_plus (tally (hits L k p) (take i ws)) (one (hits L k p (get_or ws i 0)))
      ∙ ap (differ (turned_at L k (take i ws) p)) (odd_one (hits L k p (get_or ws i 0)))

  -- marks b that the words passed have turned to c, and one word more to d
  pub turned_on : (i : ℕ) (b c d : Bool) → i < length ws → c ≡ differ b (turned_at L k (take i ws) p) → d ≡ differ c (hits L k p (get_or ws i 0)) → d ≡ differ b (turned_at L k (take (i + 1) ws) p)
  turned_on i b c d h q e =
      e ∙ ap (λ (z : Bool). differ z (hits L k p (get_or ws i 0))) q
      ∙ differ_assoc b (turned_at L k (take i ws) p) (hits L k p (get_or ws i 0))
      ∙ ap (differ b) (sym (turned_more i h))
