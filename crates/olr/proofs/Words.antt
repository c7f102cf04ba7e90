-- Words as bytes. Assumes nothing.
-- Main laws: `bytes_length`, `bytes_append`, `bytes_more` one word more; `bytes_start`, `bytes_put` a block filled word by word.
use mathlib.Core.Path.{◌≡◌, refl, sym, ap, ◌∙◌}
use mathlib.Core.List.{List, [], ◌∷◌, ◌++◌, append_assoc, append-nil}
use Prim.Native.Nat.{ℕ, ◌+◌, ◌*◌, ◌≤◌, ◌<◌}
use native.Mathlib.Numerals.{add-one}
use native.Mathlib.Omega.{arith}
use lib.ListN.{length, get_or, take, drop, length-append}
use lib.Seq.{take-suc, length-take-le}
use Rattle.block.specs.Block.{le4}
use Rattle.block.proofs.Put.{onto}
use Rattle.olr.specs.File.{word_bytes}

pub bytes_length : (ws : List ℕ) → length (word_bytes ws) ≡ 4 * length ws
unfolding word_bytes
bytes_length [] = refl
bytes_length (u ∷ ws) = length-append (le4 u) (word_bytes ws) ∙ omega (arith, bytes_length ws)

pub bytes_append : (a b : List ℕ) → word_bytes (a ++ b) ≡ word_bytes a ++ word_bytes b
unfolding word_bytes
bytes_append [] b = refl
bytes_append (u ∷ a) b = ap (λ (l : List ℕ). le4 u ++ l) (bytes_append a b) ∙ sym (append_assoc (le4 u) (word_bytes a) (word_bytes b))

pub bytes_one : (u : ℕ) → word_bytes (u ∷ []) ≡ le4 u
unfolding word_bytes
bytes_one u = append-nil (le4 u)

pub bytes_more : (ws : List ℕ) (j : ℕ) → j < length ws → word_bytes (take (j + 1) ws) ≡ word_bytes (take j ws) ++ le4 (get_or ws j 0)
bytes_more ws j h =
    ap (λ (n : ℕ). word_bytes (take n ws)) (add-one j)
    ∙ ap word_bytes (take-suc ws j 0 h)
    ∙ bytes_append (take j ws) (get_or ws j 0 ∷ [])
    ∙ ap (λ (l : List ℕ). word_bytes (take j ws) ++ l) (bytes_one (get_or ws j 0))

module _ (ws was : List ℕ) where
  pub bytes_start : was ≡ word_bytes (take 0 ws) ++ drop (4 * 0) was
  unfolding word_bytes
  bytes_start = refl

  bytes_place : (j : ℕ) → j ≤ length ws → length (word_bytes (take j ws)) ≡ 4 * j
  bytes_place j h = bytes_length (take j ws) ∙ ap (λ (n : ℕ). 4 * n) (length-take-le j ws h)

  pub bytes_put : (b c : List ℕ) (j : ℕ) → j < length ws → b ≡ word_bytes (take j ws) ++ drop (4 * j) was → c ≡ take (4 * j) b ++ le4 (get_or ws j 0) ++ drop (4 * j + 4) b
      → c ≡ word_bytes (take (j + 1) ws) ++ drop (4 * (j + 1)) was
  bytes_put b c j h e f =
      let n : 4 * j + 4 ≡ 4 * (j + 1) = omega arith in
      f
      ∙ onto (word_bytes (take j ws)) (le4 (get_or ws j 0)) was b (4 * j) 4 (bytes_place j (omega arith)) e
      ∙ ap (λ (l : List ℕ). l ++ drop (4 * j + 4) was) (sym (bytes_more ws j h))
      ∙ ap (λ (m : ℕ). word_bytes (take (j + 1) ws) ++ drop m was) n
