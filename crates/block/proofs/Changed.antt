-- Two bytes of one block changed, byte i to v and a later byte j to u: where the check tells it. Assumes nothing.
-- Main laws: `two_changed` bytes of the payload 8 to 24 apart, the first changed by 2 or more; `near_changed` neighbours, the second changed by at most twice the first, less 2.
use Rattle.std.proofs.Common.{◌≡◌, ℕ, suc, ◌+◌, ◌-◌, ◌*◌, ◌%◌, ◌<◌, ◌≤◌, true, false, List, ◌∷◌, ◌++◌, length, get_or, take, drop, set, sym, ap, ◌∙◌, ap₂, arith, length-drop, length-set, length-take-le, get_or-drop, get_or-set_other, get_or-take, get_or-set_same, drop-set-lt, ne_eqb, eqb-true}
use lib.Seq.{split_at, set_split, take-set-le, take-set-lt, drop-set-add}
use Rattle.tally.specs.Tally.{apart}
use Rattle.block.specs.Block.{num4, stirred, check}
use Rattle.block.specs.Damage.{block_fits}
use Rattle.block.proofs.Bytes.{Below, num4_same, below_drop, below_take}
use Rattle.block.proofs.Two.{stirred_append, near_told, two_told}

module _ (b : List ℕ) (i j v u : ℕ) (l : length b ≡ 512) (less : i < j) (in_payload : j < 508) where
  abbrev old : List ℕ
  old = take 508 b

  abbrev between : ℕ
  between = j - suc i

  abbrev rest : List ℕ
  rest = drop (suc i) old

  old_length : length old ≡ 508
  old_length = length-take-le 508 b (omega arith)

  rest_length : length rest ≡ 507 - i
  rest_length = length-drop (suc i) old ∙ omega (arith, old_length)

  at : suc i + between ≡ j
  at = omega arith

  old_parts : old ≡ take i old ++ get_or b i 0 ∷ (take between rest ++ get_or b j 0 ∷ drop (suc between) rest)
  old_parts =
      split_at old i 0 (omega (arith, old_length))
      ∙ ap₂ (λ (x : ℕ) (y : List ℕ). take i old ++ x ∷ y) (get_or-take 508 b i 0 (omega arith))
      (split_at rest between 0 (omega (arith, rest_length))
      ∙ ap (λ (x : ℕ). take between rest ++ x ∷ drop (suc between) rest) (get_or-drop (suc i) old between 0 ∙ ap (λ (k : ℕ). get_or old k 0) at ∙ get_or-take 508 b j 0 in_payload))

  abbrev new : List ℕ
  new = set (set old i v) j u

  new_length : length new ≡ 508
  new_length = length-set (set old i v) j u ∙ length-set old i v ∙ old_length

  new_parts : new ≡ take i old ++ v ∷ (take between rest ++ u ∷ drop (suc between) rest)
  new_parts =
      let x : take i new ≡ take i old = take-set-le i (set old i v) j u (omega arith) ∙ take-set-le i old i v (omega arith) in
      let y : get_or new i 0 ≡ v = get_or-set_other (set old i v) j i u 0 (λ z. omega arith) ∙ get_or-set_same old i v 0 (omega (arith, old_length)) in
      let z : drop (suc i) new ≡ take between rest ++ u ∷ drop (suc between) rest =
      ap (λ (k : ℕ). drop (suc i) (set (set old i v) k u)) (sym at)
      ∙ drop-set-add (suc i) (set old i v) between u
      ∙ ap (λ (w : List ℕ). set w between u) (drop-set-lt (suc i) old i v (omega arith))
      ∙ set_split rest between u (omega (arith, rest_length)) in
      split_at new i 0 (omega (arith, new_length)) ∙ ap₂ (λ (p q : List ℕ). p ++ q) x (ap₂ (λ (p : ℕ) (q : List ℕ). p ∷ q) y z)

  payload_is : take 508 (set (set b i v) j u) ≡ new
  payload_is = take-set-lt 508 (set b i v) j u in_payload ∙ ap (λ (z : List ℕ). set z j u) (take-set-lt 508 b i v (omega arith))

  check_kept : num4 (set (set b i v) j u) 508 ≡ num4 b 508
  check_kept =
      num4_same (set (set b i v) j u) b 508 508
      (λ k _. get_or-set_other (set b i v) j (508 + k) u 0 (λ z. omega arith) ∙ get_or-set_other b i (508 + k) v 0 (λ z. omega arith))

  module _ (n : ℕ) where
    abbrev start : ℕ
    start = stirred (n % 4294967296) (take i old)

    -- sums that differ from byte i on
    told : (stirred start (get_or b i 0 ∷ (take between rest ++ get_or b j 0 ∷ drop (suc between) rest)) ≡ stirred start (v ∷ (take between rest ++ u ∷ drop (suc between) rest)) → ⊥)
        → block_fits n b ≡ true → block_fits n (set (set b i v) j u) ≡ false
    unfolding check
    told h e =
        ne_eqb (num4 (set (set b i v) j u) 508) (check n (take 508 (set (set b i v) j u)))
        (λ q.
        h
        (sym (stirred_append (n % 4294967296) (take i old) (get_or b i 0 ∷ (take between rest ++ get_or b j 0 ∷ drop (suc between) rest)))
        ∙ ap (stirred (n % 4294967296)) (sym old_parts)
        ∙ sym (eqb-true (num4 b 508) (check n old) e)
        ∙ sym check_kept
        ∙ q
        ∙ ap (stirred (n % 4294967296)) (payload_is ∙ new_parts)
        ∙ stirred_append (n % 4294967296) (take i old) (v ∷ (take between rest ++ u ∷ drop (suc between) rest))))

    module _ (bytes : Below 256 b) (hv : v < 256) (hu : u < 256) where
      pub two_changed : 2 ≤ apart (get_or b i 0) v → 8 ≤ j - i → j - i ≤ 24 → block_fits n b ≡ true → block_fits n (set (set b i v) j u) ≡ false
      two_changed d lo hi =
          let m : length (take between rest) ≡ between = length-take-le between rest (omega (arith, rest_length)) in
          told
          (two_told start (get_or b i 0) v (take between rest) (get_or b j 0) u (drop (suc between) rest) (bytes i (omega arith)) hv (bytes j (omega arith)) hu
          (below_take 256 between rest (below_drop 256 (suc i) old (below_take 256 508 b bytes)))
          d
          (omega (arith, m))
          (omega (arith, m)))

      pub near_changed : j ≡ suc i → apart (get_or b j 0) u + 2 ≤ 2 * apart (get_or b i 0) v → block_fits n b ≡ true → block_fits n (set (set b i v) j u) ≡ false
      near_changed next d =
          let m : between ≡ 0 = omega arith in
          let none : (x : ℕ) → take between rest ++ x ∷ drop (suc between) rest ≡ x ∷ drop (suc between) rest = λ x. ap (λ (k : ℕ). take k rest ++ x ∷ drop (suc between) rest) m in
          told
          (λ e.
          near_told start (get_or b i 0) v (get_or b j 0) u (drop (suc between) rest) (bytes i (omega arith)) hv (bytes j (omega arith)) hu d
          (ap (λ (z : List ℕ). stirred start (get_or b i 0 ∷ z)) (sym (none (get_or b j 0))) ∙ e ∙ ap (λ (z : List ℕ). stirred start (v ∷ z)) (none u)))
