-- Block 0, put together part by part. Assumes nothing.
-- Main laws: `levels_put`, `head_put` what the stores of the levels and of all leave; `head_fits_lem`, `head_length` its size.
use mathlib.Core.Path.{◌≡◌, refl, sym, ap, ap₂, ◌∙◌}
use mathlib.Core.List.{List, [], ◌∷◌, ◌++◌, append_assoc}
use Prim.Native.Nat.{ℕ, ◌+◌, ◌-◌, ◌≤◌}
use native.Mathlib.Omega.{arith}
use lib.ListN.{length, take, drop, length-append}
use lib.Seq.{drop-drop, take_at}
use borrow.Rule.Slice.PartMut.{put_mid}
use Rattle.block.specs.Block.{le2, le4, pad, block}
use Rattle.block.proofs.Put.{onto}
use Rattle.block.proofs.Bytes.{length_pad, length_block}
use Rattle.olr.specs.File.{letters, header}

abbrev pub sides_part : ℕ → ℕ → List ℕ
sides_part w h = letters ++ le2 w ++ le2 h

abbrev pub counts_part : ℕ → ℕ → ℕ → List ℕ
counts_part v m n = (v ∷ m ∷ 0 ∷ 0 ∷ []) ++ le4 n

module _ (s : List ℕ) where
  -- the levels stored as a part
  pub levels_put : (part ks : List ℕ) → part ≡ ks → put_mid 16 (16 + length ks - 16) s part ≡ take 16 s ++ ks ++ drop (16 + length ks) s
  levels_put part ks e =
      let n : 16 + length ks - 16 ≡ length ks = omega arith in
      ap₂ (λ (x y : List ℕ). take 16 s ++ (x ++ y)) e (ap (λ (m : ℕ). drop m (drop 16 s)) n ∙ drop-drop (length ks) 16 s)
      ∙ sym (append_assoc (take 16 s) ks (drop (16 + length ks) s))

  pub head_put : (a b c d : List ℕ) (w h v : ℕ) (ks : List ℕ) (n : ℕ) → a ≡ sides_part w h ++ drop 8 s → b ≡ take 8 a ++ counts_part v (length ks) n ++ drop 16 a
      → c ≡ take 16 b ++ ks ++ drop (16 + length ks) b → d ≡ block 0 (pad (take (16 + length ks) c)) → d ≡ block 0 (pad (header w h v ks n))
  head_put a b c d w h v ks n e f g k =
      let x = sides_part w h ++ counts_part v (length ks) n in
      let l : length (x ++ ks) ≡ 16 + length ks = length-append x ks in
      k
      ∙ ap (λ (t : List ℕ). block 0 (pad (take (16 + length ks) t))) (g ∙ onto x ks s b 16 (length ks) refl (f ∙ onto (sides_part w h) (counts_part v (length ks) n) s a 8 8 refl e))
      ∙ ap (λ (t : List ℕ). block 0 (pad t)) (take_at (x ++ ks) (drop (16 + length ks) s) (16 + length ks) l)

pub head_fits_lem : (w h v : ℕ) (ks : List ℕ) (n : ℕ) → length ks ≤ 255 → length (header w h v ks n) ≤ 508
head_fits_lem w h v ks n l = omega arith

pub head_length : (w h v : ℕ) (ks : List ℕ) (n : ℕ) → length ks ≤ 255 → length (block 0 (pad (header w h v ks n))) ≡ 512
head_length w h v ks n l = length_block 0 (pad (header w h v ks n)) (length_pad (header w h v ks n) (head_fits_lem w h v ks n l))
