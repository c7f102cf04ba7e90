-- The tree call's refusal with the program's room. Assumes nothing.
-- Main laws: `same_verdict` it goes by the lengths of lent memory alone; `ground_of` what a verdict of 0 says; `setting_for` the tree's laws hold then.
use mathlib.Core.Path.{◌≡◌}
use mathlib.Core.List.{List}
use Prim.Native.Nat.{ℕ}
use lib.ListN.{length, length-replicate}
use Rattle.matte.specs.Layout.{eight}
use Rattle.matte.specs.Picture.{Picture}
use Rattle.trace.proofs.Refusals.{Sound, sound}
use Rattle.enclosure.specs.Call.{tree_verdict}
use Rattle.enclosure.proofs.Lines.{Setting}
use Rattle.tree.proofs.Ranked.{setting_of}
use Rattle.tree.proofs.Verdicts.{passed_both}
use Rattle.listing.specs.Printed.{blank, call_verdict}

blank_length : (n : ℕ) → length (blank n) ≡ n
unfolding blank
blank_length n = length-replicate n 0

module _ (P : Picture) (ks work words places : List ℕ) where
  pub same_verdict : length work ≡ 16384 → length words ≡ 16384 → length places ≡ 8192 → tree_verdict eight P ks work words places ≡ call_verdict P ks
  unfolding call_verdict
  same_verdict x y z = rw (x, y, z, blank_length 16384, blank_length 8192)

  pub ground_of : (tree_verdict eight P ks work words places).number ≡ 0 → Sound eight P ks work words
  ground_of e = sound eight P ks work words (passed_both eight P ks work words places e).0

  pub setting_for : (tree_verdict eight P ks work words places).number ≡ 0 → Setting eight P ks
  setting_for e = let s = ground_of e in setting_of P ks s.ground s.levels
