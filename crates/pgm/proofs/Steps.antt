-- Reading byte by byte: gaps, white space and numbers, as loops go through them. Assumes nothing.
-- Definitions: `GapAt`, `WhiteAt`, `NumberAt` a gap, white space or a number is read as far as byte i.
-- Main laws: for each, `-begin`, `-stop`, `-more` and `-full`: the start, the byte that ends it, one more byte, and the end of the file;
--   `number_given`, `told_there`, `number_missing` what a number that is told says of the one read, and none; `next_inside` a number that is told ends in the file.
use mathlib.Core.Path.{◌≡◌, refl, sym, ap, ◌∙◌}
use mathlib.Core.Bool.{Bool, true, false}
use mathlib.Core.List.{List}
use Prim.Native.Nat.{ℕ, suc, ◌+◌, ◌-◌, ◌*◌, ◌≤◌, ◌<◌}
use native.Mathlib.Numerals.{add-one}
use native.Mathlib.Omega.{arith}
use lib.ListN.{length, get_or, drop, drop_of_length-le}
use lib.Dec.{ltb}
use lib.Seq.{drop-cons}
use borrow.Author.Tests.{ltb-true, ltb-false, lt-ltb}
use Rattle.form.specs.Reader.{is_digit}
use Rattle.std.specs.Prelude.{Result, Ok, Err, IfOk}
use Rattle.tally.proofs.Test.{by_test}
use Rattle.pgm.specs.declared.Number.{Number}
use Rattle.pgm.specs.Reader.{NumberRead, there, number_told}
use Rattle.pgm.specs.Grammar.{is_white, in_gap, opened}
use Rattle.pgm.specs.Reader.{gap_from, white_from, number_from, gap_end, white_end, number_at, cap, capped}
use Rattle.pgm.proofs.Cap.{cap_small, cap_number}

-- ---- a gap
pub record GapAt (s : List ℕ) (p : ℕ) (comment : Bool) (i : ℕ) : Type 0 where
  pub inside : i ≤ length s
  pub left : gap_end s p ≡ gap_from comment i (drop i s)

module _ (s : List ℕ) (p : ℕ) where
  pub gap_begin : p ≤ length s → GapAt s p false p
  gap_begin h = record { inside = h; left = refl }

  module _ (comment : Bool) (i : ℕ) (t : GapAt s p comment i) where
    pub gap_stop : i < length s → in_gap comment (get_or s i 0) ≡ false → i ≡ gap_end s p
    unfolding gap_from
    gap_stop h e = sym (t.left ∙ rw (drop-cons s i 0 h, e, gap_from))

    pub gap_more : i < length s → in_gap comment (get_or s i 0) ≡ true → GapAt s p (opened comment (get_or s i 0)) (i + 1)
    unfolding gap_from
    gap_more h e = record { inside = omega arith; left = t.left ∙ rw (add-one, drop-cons s i 0 h, e, gap_from) }

    pub gap_full : length s ≤ i → length s ≡ gap_end s p
    unfolding gap_from
    gap_full h =
        let z : gap_end s p ≡ i = t.left ∙ rw (drop_of_length-le s h) in
        omega (arith, t.inside)

-- ---- white space
pub record WhiteAt (s : List ℕ) (p i : ℕ) : Type 0 where
  pub inside : i ≤ length s
  pub left : white_end s p ≡ white_from i (drop i s)

module _ (s : List ℕ) (p : ℕ) where
  pub white_begin : p ≤ length s → WhiteAt s p p
  white_begin h = record { inside = h; left = refl }

  module _ (i : ℕ) (t : WhiteAt s p i) where
    pub white_stop : i < length s → is_white (get_or s i 0) ≡ false → i ≡ white_end s p
    unfolding white_from
    white_stop h e = sym (t.left ∙ rw (drop-cons s i 0 h, e, white_from))

    pub white_more : i < length s → is_white (get_or s i 0) ≡ true → WhiteAt s p (i + 1)
    unfolding white_from
    white_more h e = record { inside = omega arith; left = t.left ∙ rw (add-one, drop-cons s i 0 h, e, white_from) }

    pub white_full : length s ≤ i → length s ≡ white_end s p
    unfolding white_from
    white_full h =
        let z : white_end s p ≡ i = t.left ∙ rw (drop_of_length-le s h) in
        omega (arith, t.inside)

-- ---- a number, its value kept as far as it matters
pub record NumberAt (s : List ℕ) (p v i : ℕ) : Type 0 where
  pub inside : i ≤ length s
  pub small : v ≤ 65535
  pub left : capped (number_at s p) ≡ capped (number_from p v i (drop i s))

-- what a call has to show of the number read
abbrev pub Answers : List ℕ → ℕ → Result Number ℕ → Type 0
Answers s p r = (r ≡ number_told (capped (number_at s p))) × IfOk r (λ n. n.next ≤ length s)

module _ (s : List ℕ) (p : ℕ) where
  pub number_begin : p ≤ length s → NumberAt s p 0 p
  number_begin h = record { inside = h; small = omega arith; left = refl }

  module _ (v i : ℕ) (t : NumberAt s p v i) where
    kept : capped (record { first = p; value = v; next = i }) ≡ record { first = p; value = v; next = i }
    kept = ap (λ (z : ℕ). record { first = p; value = z; next = i }) (cap_small v t.small)

    ends : (r : Result Number ℕ) → r ≡ number_told (record { first = p; value = v; next = i }) → capped (number_at s p) ≡ record { first = p; value = v; next = i } → Answers s p r
    ends r q e = (q ∙ ap number_told (sym e), rw q (by_test (ltb p i) (λ h. rw h t.inside) (λ h. rw h tt)))

    pub number_stop : (r : Result Number ℕ) → i < length s → is_digit (get_or s i 0) ≡ false → r ≡ number_told (record { first = p; value = v; next = i }) → Answers s p r
    unfolding number_from
    number_stop r h e q = ends r q (t.left ∙ rw (drop-cons s i 0 h, e, number_from) kept)

    pub number_full : (r : Result Number ℕ) → length s ≤ i → r ≡ number_told (record { first = p; value = v; next = length s }) → Answers s p r
    unfolding number_from
    number_full r h q =
        let z : length s ≡ i = omega (arith, t.inside) in
        ends r (q ∙ ap (λ (j : ℕ). number_told (record { first = p; value = v; next = j })) z) (t.left ∙ rw (drop_of_length-le s h) kept)

    pub number_more : (u : ℕ) → i < length s → is_digit (get_or s i 0) ≡ true → u ≡ cap (v * 10 + (get_or s i 0 - 48)) → u ≤ 65535 → NumberAt s p u (i + 1)
    unfolding number_from
    number_more u h e q k =
        let w = v * 10 + (get_or s i 0 - 48) in
        let a : capped (number_from p v i (drop i s)) ≡ capped (number_from p w (suc i) (drop (suc i) s)) = rw (drop-cons s i 0 h, e, number_from) in
        record {
          inside = omega arith;
          small = k;
          left = t.left ∙ a ∙ sym (cap_number p w (suc i) (drop (suc i) s)) ∙ rw (add-one, q);
        }

-- ---- a number that is told, and none
pub next_inside : {m : ℕ} {r : Result Number ℕ} {n : Number} → IfOk r (λ x. x.next ≤ m) → r ≡ Ok n → n.next ≤ m
next_inside h e = rw e at h

module _ (r : NumberRead) where
  pub number_given : (n : Number) → Ok n ≡ number_told r → (n.first < n.next) × (record { first = n.first; value = n.value; next = n.next } ≡ r)
  number_given n e =
      by_test (there r)
      (λ t.
      let q : Ok n ≡ Ok (record { first = r.first; value = r.value; next = r.next }) = rw t at e in
      let z : n ≡ record { first = r.first; value = r.value; next = r.next } = cc in
      let h = ltb-true r.first r.next t in
      (omega (arith, h, ap (λ (x : Number). x.first) z, ap (λ (x : Number). x.next) z), λ i. record { first = (z i).first; value = (z i).value; next = (z i).next }))
      (λ t. let q : Ok n ≡ Err r.first = rw t at e in absurd cc)

  pub told_there : (n : Number) → Ok n ≡ number_told r → there r ≡ true
  told_there n e = let g = number_given n e in lt-ltb r.first r.next (omega (arith, g.0, ap (λ (x : NumberRead). x.first) g.1, ap (λ (x : NumberRead). x.next) g.1))

  pub number_missing : (p : ℕ) → Err p ≡ number_told r → (r.next ≤ r.first) × (p ≡ r.first)
  number_missing p e =
      by_test (there r)
      (λ t. let q : Err p ≡ Ok (record { first = r.first; value = r.value; next = r.next }) = rw t at e in absurd cc)
      (λ t. let q : Err p ≡ Err r.first = rw t at e in (ltb-false r.first r.next t, cc))
