-- Damage of up to eight bits in a row, the lowest bit of a byte first. Assumes nothing.
-- Main laws: `first_far` a byte that changes by a multiple of p changes by p or more; `second_near` one that keeps its quotient by p changes by less; `edge_changed` the last byte of the payload and the first of the check;
--   `burst_changed` two neighbouring bytes of a block changed so, check bytes included: its check
--   tells it. With p a power of 2 these are the bits from one place on in the first byte and the bits below that place in the second.
use Rattle.std.proofs.Common.{◌≡◌, ℕ, suc, ◌+◌, ◌*◌, ◌/◌, ◌%◌, ◌<◌, ◌≤◌, true, false, eqb, ltb, ◌≢◌, List, [], ◌∷◌, ◌++◌, length, get_or, take, drop, set, sym, refl, ap, ◌∙◌, ap₂, mul-le-mul_right, mod-lt, div-add-mod', arith, length-set, drop_of_length-le, length-take-le, get_or-set_other, get_or-take, get_or-set_same, ltb-false, ltb-true, ne_eqb, eqb-true}
use lib.Seq.{split_at, set_split, take-set-le, take-set-lt}
use borrow.Author.Tests.{eqb-false}
use Rattle.tally.specs.Tally.{apart}
use Rattle.tally.proofs.Test.{by_test}
use Rattle.block.specs.Block.{num4, rotate, stir, stirred, check}
use Rattle.block.specs.Damage.{block_fits}
use Rattle.block.proofs.Bytes.{Below}
use Rattle.block.proofs.Below.{set_below}
use Rattle.block.proofs.Damage.{check_changed}
use Rattle.block.proofs.Two.{stirred_append}
use Rattle.block.proofs.Changed.{near_changed}

module _ (p : ℕ) (some : 1 ≤ p) where
  steps : (x y : ℕ) → x < y → x * p + p ≤ y * p
  steps x y h = omega (arith, mul-le-mul_right p h)

  pub first_far : (a v : ℕ) → a ≢ v → a % p ≡ v % p → p ≤ apart a v
  first_far a v d e =
      let x = div-add-mod' a p in
      let y = div-add-mod' v p in
      by_test (ltb (a / p) (v / p))
      (λ t. omega (arith, x, y, e, steps (a / p) (v / p) (ltb-true (a / p) (v / p) t)))
      (λ t.
      by_test (ltb (v / p) (a / p))
      (λ u. omega (arith, x, y, e, steps (v / p) (a / p) (ltb-true (v / p) (a / p) u)))
      (λ u.
      let q : a / p ≡ v / p = omega (arith, ltb-false (a / p) (v / p) t, ltb-false (v / p) (a / p) u) in
      absurd (d (sym x ∙ ap₂ (λ (m n : ℕ). m * p + n) q e ∙ y))))

  pub second_near : (b u : ℕ) → b / p ≡ u / p → apart b u < p
  second_near b u e =
      omega (arith, div-add-mod' b p, div-add-mod' u p, ap (λ (m : ℕ). m * p) e, mod-lt b {m = p} some, mod-lt u {m = p} some)

-- across the end of the payload: the sum moves by the change of the last byte, the check by less
edge : (r a v e u x y : ℕ) → x ≡ (r + a) % 4294967296 → y ≡ (r + v) % 4294967296 → y + e ≡ x + u → apart e u < apart a v → a < 256 → v < 256 → ⊥
edge r a v e u x y f g h k i j = omega arith

module _ (n : ℕ) (b : List ℕ) (v u : ℕ) (l : length b ≡ 512) where
  abbrev last : List ℕ
  last = set (set b 507 v) 508 u

  -- the payload but for its last byte
  abbrev most : List ℕ
  most = take 507 (take 508 b)

  old_length : length (take 508 b) ≡ 508
  old_length = length-take-le 508 b (omega arith)

  ends : drop 508 (take 508 b) ≡ []
  ends = drop_of_length-le (take 508 b) {i = 508} (omega (arith, old_length))

  old_sum : check n (take 508 b) ≡ stir (stirred (n % 4294967296) most) (get_or b 507 0)
  unfolding check stirred
  old_sum =
      ap (stirred (n % 4294967296))
      (split_at (take 508 b) 507 0 (omega (arith, old_length))
      ∙ ap₂ (λ (x : ℕ) (y : List ℕ). most ++ x ∷ y) (get_or-take 508 b 507 0 (omega arith)) ends)
      ∙ stirred_append (n % 4294967296) most (get_or b 507 0 ∷ [])

  new_sum : check n (take 508 last) ≡ stir (stirred (n % 4294967296) most) v
  unfolding check stirred
  new_sum =
      ap (stirred (n % 4294967296))
      (take-set-le 508 (set b 507 v) 508 u (omega arith)
      ∙ take-set-lt 508 b 507 v (omega arith)
      ∙ set_split (take 508 b) 507 v (omega (arith, old_length))
      ∙ ap (λ (y : List ℕ). most ++ v ∷ y) ends)
      ∙ stirred_append (n % 4294967296) most (v ∷ [])

  kept : (k : ℕ) → 508 < k → get_or last k 0 ≡ get_or b k 0
  kept k h = get_or-set_other (set b 507 v) 508 k u 0 (λ z. omega arith) ∙ get_or-set_other b 507 k v 0 (λ z. omega arith)

  moved : num4 last 508 + get_or b 508 0 ≡ num4 b 508 + u
  moved =
      let s : get_or last 508 0 ≡ u = get_or-set_same (set b 507 v) 508 u 0 (omega (arith, length-set b 507 v)) in
      omega (arith, s, kept 509 (omega arith), kept 510 (omega arith), kept 511 (omega arith))

  pub edge_changed : get_or b 507 0 < 256 → v < 256 → apart (get_or b 508 0) u < apart (get_or b 507 0) v → block_fits n b ≡ true → block_fits n last ≡ false
  edge_changed h k d e =
      ne_eqb (num4 last 508) (check n (take 508 last))
      (λ q.
      edge (rotate (stirred (n % 4294967296) most)) (get_or b 507 0) v (get_or b 508 0) u (num4 b 508) (num4 last 508) (eqb-true (num4 b 508) (check n (take 508 b)) e ∙ old_sum) (q ∙ new_sum) moved d h k)

module _ (n : ℕ) (b : List ℕ) (i v u p : ℕ) (l : length b ≡ 512) (bytes : Below 256 b) (hv : v < 256) (hu : u < 256) (some : 1 ≤ p) where
  pub burst_changed : suc i < 512 → get_or b i 0 ≢ v → get_or b i 0 % p ≡ v % p → get_or b (suc i) 0 / p ≡ u / p → block_fits n b ≡ true → block_fits n (set (set b i v) (suc i) u) ≡ false
  burst_changed h d e f g =
      let x = first_far p some (get_or b i 0) v d e in
      let y = second_near p some (get_or b (suc i) 0) u f in
      let c = set (set b i v) (suc i) u in
      by_test (ltb (suc i) 508)
      (λ t. near_changed b i (suc i) v u l (omega arith) (ltb-true (suc i) 508 t) n bytes hv hu refl (omega (arith, x, y)) g)
      (λ t.
      by_test (eqb i 507)
      (λ s.
      let q : i ≡ 507 = eqb-true i 507 s in
      let z : suc i ≡ 508 = omega arith in
      ap₂ (λ (j k : ℕ). block_fits n (set (set b j v) k u)) q z
      ∙ edge_changed n b v u l (bytes 507 (omega arith)) hv (rw q at (lt_of x y)) g)
      (λ s.
      let far : 508 ≤ i = omega (arith, ltb-false (suc i) 508 t, eqb-false i 507 s) in
      check_changed n b c l (length-set (set b i v) (suc i) u ∙ length-set b i v ∙ l) bytes (set_below (set b i v) (suc i) u (set_below b i v bytes hv) hu)
      (sym (take-set-le 508 (set b i v) (suc i) u (omega arith) ∙ take-set-le 508 b i v far))
      (λ w. d (ap (λ (m : List ℕ). get_or m i 0) w ∙ get_or-set_other (set b i v) (suc i) i u 0 (λ z. omega arith) ∙ get_or-set_same b i v 0 (omega arith)))
      g))
    where
      lt_of : {x y : ℕ} → p ≤ y → x < p → x < y
      lt_of h k = omega arith
