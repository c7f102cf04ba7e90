-- A file as it is written is a list of bytes. Assumes nothing.
-- Main laws: `words_below`, `blocks_below`, `head_below` its parts; `file_below` the whole.
use mathlib.Core.Path.{◌≡◌}
use mathlib.Core.Bool.{true}
use mathlib.Core.List.{List, [], ◌∷◌, ◌++◌}
use Prim.Native.Nat.{ℕ, zero, suc, ◌<◌}
use native.Mathlib.Omega.{arith}
use lib.ListN.{length, take, drop}
use Rattle.matte.specs.Layout.{eight}
use Rattle.matte.specs.Picture.{levels_fit}
use Rattle.block.specs.Block.{le2, le4, pad, block}
use Rattle.block.proofs.Bytes.{Below}
use Rattle.block.proofs.Below.{below_nil, below_4, below_append, le2_below, le4_below, pad_below, block_below}
use Rattle.olr.specs.File.{letters, header, word_bytes, blocks_for, word_blocks, file}
use Rattle.olr.proofs.Ascend.{levels_length, levels_below}
use Rattle.olr.proofs.Blocks.{words127}
use Rattle.olr.proofs.Write.{file_is}

pub words_below : (ws : List ℕ) → Below 256 (word_bytes ws)
unfolding word_bytes
words_below [] = below_nil 256
words_below (u ∷ ws) = below_append 256 (le4 u) (word_bytes ws) (le4_below u) (words_below ws)

pub blocks_below : (b m : ℕ) (ws : List ℕ) → Below 256 (word_blocks b m ws)
unfolding word_blocks
blocks_below b zero ws = below_nil 256
blocks_below b (suc m) ws =
    below_append 256 (block b (words127 ws)) (word_blocks (suc b) m (drop 127 ws))
    (block_below b (words127 ws) (pad_below (word_bytes (take 127 ws)) (words_below (take 127 ws))))
    (blocks_below (suc b) m (drop 127 ws))

module _ (w h v : ℕ) (ks : List ℕ) (border : v < 256) (fit : levels_fit eight ks ≡ true) where
  pub head_below : (n : ℕ) → Below 256 (header w h v ks n)
  head_below n =
      let a = below_4 256 79 76 82 49 (omega arith) (omega arith) (omega arith) (omega arith) in
      let c = below_4 256 v (length ks) 0 0 border (omega (arith, levels_length ks fit)) (omega arith) (omega arith) in
      let s = below_append 256 (letters ++ le2 w) (le2 h) (below_append 256 letters (le2 w) a (le2_below w)) (le2_below h) in
      let t = below_append 256 (letters ++ le2 w ++ le2 h) (v ∷ length ks ∷ 0 ∷ 0 ∷ []) s c in
      below_append 256 (letters ++ le2 w ++ le2 h ++ (v ∷ length ks ∷ 0 ∷ 0 ∷ []) ++ le4 n) ks
      (below_append 256 (letters ++ le2 w ++ le2 h ++ (v ∷ length ks ∷ 0 ∷ 0 ∷ [])) (le4 n) t (le4_below n))
      (λ i l. omega (arith, levels_below ks fit i l))

  pub file_below : (ws : List ℕ) → Below 256 (file w h v ks ws)
  file_below ws =
      rw (file_is w h v ks ws)
      (below_append 256 (block 0 (pad (header w h v ks (length ws)))) (word_blocks 1 (blocks_for (length ws)) ws)
      (block_below 0 (pad (header w h v ks (length ws))) (pad_below (header w h v ks (length ws)) (head_below (length ws))))
      (blocks_below 1 (blocks_for (length ws)) ws))
