-- Which damage of a block its check tells. Assumes nothing.
-- Main laws: `elsewhere_told` a block that is right at one place is wrong at any other; `payload_decides` two right blocks of one number and one payload are the same, `check_changed`
--   so a right block with another check is wrong; `byte_changed` a right block with one byte changed is wrong, check bytes included; `zeros_sum`, `zeros_right`, `zeros_told` a block of zeros is right as block 0 alone.
use Rattle.std.proofs.Common.{◌≡◌, ℕ, zero, suc, ◌+◌, ◌%◌, ◌<◌, true, false, ltb, ◌≢◌, List, ◌++◌, length, get_or, take, drop, set, replicate, sym, refl, ap, ◌∙◌, arith, length-drop, length-set, take-append-drop, length-take-le, take_all, get_or-set_other, get_or-take, get_or-set_same, ltb-false, ltb-true, eq-eqb, ne_eqb, eqb-true}
use lib.Seq.{take-set-le, take-set-lt}
use Rattle.tally.proofs.Test.{by_test}
use Rattle.block.specs.Block.{le4, num4, stirred, check}
use Rattle.block.specs.Damage.{block_fits}
use Rattle.block.proofs.Bytes.{Below, num4_same, le4_num4}
use Rattle.block.proofs.Below.{set_below}
use Rattle.block.proofs.Check.{start_told, set_told, number_told}

pub elsewhere_told : (i j : ℕ) (b : List ℕ) → i < 4294967296 → j < 4294967296 → i ≢ j → block_fits j b ≡ true → block_fits i b ≡ false
elsewhere_told i j b g h d e =
    ne_eqb (num4 b 508) (check i (take 508 b)) (λ q. d (number_told i j (take 508 b) g h (sym q ∙ eqb-true (num4 b 508) (check j (take 508 b)) e)))

-- the payload and the number of a right block decide it
right_parts : (n : ℕ) (b : List ℕ) → length b ≡ 512 → Below 256 b → block_fits n b ≡ true → b ≡ take 508 b ++ le4 (check n (take 508 b))
right_parts n b l bytes e =
    sym (take-append-drop 508 b)
    ∙ ap (λ (z : List ℕ). take 508 b ++ z)
    (sym (take_all 4 (drop 508 b) (omega (arith, length-drop 508 b))) ∙ sym (le4_num4 b 508 bytes (omega arith)) ∙ ap le4 (eqb-true (num4 b 508) (check n (take 508 b)) e))

pub payload_decides : (n : ℕ) (b c : List ℕ) → length b ≡ 512 → length c ≡ 512 → Below 256 b → Below 256 c → take 508 b ≡ take 508 c → block_fits n b ≡ true → block_fits n c ≡ true → b ≡ c
payload_decides n b c l m p q e f g =
    right_parts n b l p f ∙ ap (λ (z : List ℕ). z ++ le4 (check n z)) e ∙ sym (right_parts n c m q g)

-- damage of the check alone
pub check_changed : (n : ℕ) (b c : List ℕ) → length b ≡ 512 → length c ≡ 512 → Below 256 b → Below 256 c → take 508 b ≡ take 508 c → b ≢ c → block_fits n b ≡ true → block_fits n c ≡ false
check_changed n b c l m p q e d f = by_test (block_fits n c) (λ g. absurd (d (payload_decides n b c l m p q e f g))) (λ g. g)

module _ (b : List ℕ) (i v : ℕ) (l : length b ≡ 512) (bytes : Below 256 b) (k : v < 256) (d : v ≢ get_or b i 0) (n : ℕ) (e : block_fits n b ≡ true) where
  -- in the payload, the sum changes and the check stays
  in_payload : i < 508 → block_fits n (set b i v) ≡ false
  in_payload h =
      let p = take 508 b in
      let t : take 508 (set b i v) ≡ set p i v = take-set-lt 508 b i v h in
      let c : num4 (set b i v) 508 ≡ num4 b 508 = num4_same (set b i v) b 508 508 (λ m _. get_or-set_other b i (508 + m) v 0 (λ z. omega arith)) in
      let o : get_or p i 0 ≡ get_or b i 0 = get_or-take 508 b i 0 h in
      ne_eqb (num4 (set b i v) 508) (check n (take 508 (set b i v)))
      (λ q.
      d
      (set_told n p i v (omega (arith, length-take-le 508 b (omega arith))) (omega (arith, bytes i (omega arith))) k (ap (check n) (sym t) ∙ sym q ∙ c ∙ eqb-true (num4 b 508) (check n p) e)
      ∙ o))

  pub byte_changed : i < 512 → block_fits n (set b i v) ≡ false
  byte_changed h =
      by_test (ltb i 508) (λ t. in_payload (ltb-true i 508 t))
      (λ t.
      check_changed n b (set b i v) l (length-set b i v ∙ l) bytes (set_below b i v bytes k) (sym (take-set-le 508 b i v (ltb-false i 508 t)))
      (λ z. d (sym (ap (λ (c : List ℕ). get_or c i 0) z ∙ get_or-set_same b i v 0 (omega arith)))) e)

-- the sum of zeros started at 0 stays 0
pub zeros_sum : (m : ℕ) → stirred 0 (replicate m 0) ≡ 0
unfolding stirred
zeros_sum zero = refl
zeros_sum (suc m) = zeros_sum m

pub zeros_right : block_fits 0 (replicate 512 0) ≡ true
unfolding check
zeros_right = eq-eqb 0 (stirred 0 (replicate 508 0)) (sym (zeros_sum 508))

pub zeros_told : (n : ℕ) → n < 4294967296 → n ≢ 0 → block_fits n (replicate 512 0) ≡ false
unfolding check
zeros_told n h d =
    let m : n % 4294967296 ≡ n = omega arith in
    ne_eqb 0 (stirred (n % 4294967296) (replicate 508 0)) (λ q. d (sym m ∙ start_told (n % 4294967296) 0 (replicate 508 0) (omega arith) (omega arith) (sym q ∙ sym (zeros_sum 508))))
