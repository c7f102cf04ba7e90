-- Lists whose elements are bytes: the parts of a block. Assumes nothing.
-- Main laws: `below_nil`, `below_cons`, `below_4`, `below_append` the bound of a list made from parts; `le2_below`, `le4_below`, `zeros_below`, `pad_below`, `block_below` the parts of a block are bytes; `set_below` a
--   byte stored leaves bytes.
use Rattle.std.proofs.Common.{◌≡◌, ℕ, zero, suc, ◌-◌, ◌/◌, ◌%◌, ◌<◌, eqb, List, [], ◌∷◌, ◌++◌, length, get_or, set, replicate, sym, ap, ◌∙◌, arith, length-set, get_or-set_other, get_or-set_same, eqb-true}
use borrow.Author.Tests.{eqb-false}
use Rattle.tally.proofs.Test.{by_test}
use Rattle.block.specs.Block.{le2, le4, check, pad, block}
use Rattle.block.proofs.Bytes.{Below}

pub below_nil : (m : ℕ) → Below m []
below_nil m i h = absurd (omega arith)

pub below_cons : (m x : ℕ) (l : List ℕ) → x < m → Below m l → Below m (x ∷ l)
below_cons m x l h b zero k = h
below_cons m x l h b (suc i) k = b i (omega arith)

pub below_append : (m : ℕ) (a b : List ℕ) → Below m a → Below m b → Below m (a ++ b)
below_append m [] b p q i h = q i h
below_append m (x ∷ a) b p q zero h = p 0 (omega arith)
below_append m (x ∷ a) b p q (suc i) h = below_append m a b (λ j k. p (suc j) (omega arith)) q i (omega arith)

pub below_4 : (m a b c d : ℕ) → a < m → b < m → c < m → d < m → Below m (a ∷ b ∷ c ∷ d ∷ [])
below_4 m a b c d p q r s =
    below_cons m a (b ∷ c ∷ d ∷ []) p (below_cons m b (c ∷ d ∷ []) q (below_cons m c (d ∷ []) r (below_cons m d [] s (below_nil m))))

pub le2_below : (n : ℕ) → Below 256 (le2 n)
le2_below n = below_cons 256 (n % 256) (n / 256 % 256 ∷ []) (omega arith) (below_cons 256 (n / 256 % 256) [] (omega arith) (below_nil 256))

pub le4_below : (n : ℕ) → Below 256 (le4 n)
le4_below n = below_4 256 (n % 256) (n / 256 % 256) (n / 65536 % 256) (n / 16777216 % 256) (omega arith) (omega arith) (omega arith) (omega arith)

pub zeros_below : (n : ℕ) → Below 256 (replicate n 0)
zeros_below zero = below_nil 256
zeros_below (suc n) = below_cons 256 0 (replicate n 0) (omega arith) (zeros_below n)

pub pad_below : (l : List ℕ) → Below 256 l → Below 256 (pad l)
pad_below l b = below_append 256 l (replicate (508 - length l) 0) b (zeros_below (508 - length l))

pub block_below : (n : ℕ) (p : List ℕ) → Below 256 p → Below 256 (block n p)
block_below n p b = below_append 256 p (le4 (check n p)) b (le4_below (check n p))

pub set_below : (b : List ℕ) (i v : ℕ) → Below 256 b → v < 256 → Below 256 (set b i v)
set_below b i v h k m l =
    by_test (eqb m i)
    (λ t.
    let q : i ≡ m = sym (eqb-true m i t) in
    rw (ap (λ (j : ℕ). get_or (set b i v) j 0) (sym q) ∙ get_or-set_same b i v 0 (omega (arith, length-set b i v))) k)
    (λ t. rw (get_or-set_other b i m v 0 (eqb-false m i t)) (h m (omega (arith, length-set b i v))))
