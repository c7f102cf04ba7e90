-- The reader reads exactly the lines of levels. Assumes nothing.
-- Definitions: `Small` every level is at most 255; `Line` a list begins with a line of levels.
-- Main laws: `levels_sound` what is read is such a line; `levels_complete` every such line is read; `known`, `seam` a byte and what comes after it.
use mathlib.Core.Path.{◌≡◌, refl, sym, ap, ◌∙◌}
use mathlib.Core.Bool.{Bool, true}
use mathlib.Core.List.{List, [], ◌∷◌, ◌++◌, append_assoc}
use Prim.Native.Nat.{ℕ, zero, suc, ◌+◌, ◌≤◌, ◌<◌}
use native.Mathlib.Nat.{add-zero}
use native.Mathlib.Omega.{arith}
use borrow.Author.Tests.{ne_eqb, eqb-true, eqb-false}
use lib.Dec.{eqb}
use lib.ListN.{length, get_or, drop, length-append}
use lib.Seq.{get_or-append_seam, get_or-append-add, drop-append-add, append_snoc}
use Rattle.tally.proofs.Test.{by_test, no}
use Rattle.form.specs.Reader.{LevelsRead}
use Rattle.form.specs.Decimal.{decimal}
use Rattle.form.specs.Text.{more, levels_text}
use Rattle.form.specs.Reader.{number, number_of, lined, levels_from, levels_of}
use Rattle.form.proofs.Decimal.{decimal_head}
use Rattle.form.proofs.Numbers.{number_sound, number_complete}
use Rattle.form.proofs.Line.{from_none, from_last, from_more, from_bad}

abbrev pub Small : List ℕ → Type 0
Small ks = (i : ℕ) → i < length ks → get_or ks i 0 ≤ 255

-- ---- a number and the byte after it
module _ (k b : ℕ) (t : List ℕ) where
  after_byte : get_or (decimal k ++ (b ∷ t)) (length (decimal k)) 0 ≡ b
  after_byte = get_or-append_seam (decimal k) b t 0

  after_rest : drop (length (decimal k) + 1) (decimal k ++ (b ∷ t)) ≡ t
  after_rest = drop-append-add (decimal k) (b ∷ t) 1

-- a list whose first byte is known and not 0
pub known : (l : List ℕ) (b : ℕ) → get_or l 0 0 ≡ b → 0 < b → l ≡ b ∷ drop 1 l
known [] b e h = absurd (omega arith)
known (a ∷ l) b e h = ap (λ (x : ℕ). x ∷ l) e

-- ---- the line of levels
from_complete : (ks : List ℕ) (k m : ℕ) (was : List ℕ) (u : ℕ) (l : List ℕ) → length ks ≤ m → k ≤ 255 → Small ks
    → levels_from (suc m) was u ((decimal k ++ more ks) ++ l) ≡ lined (was ++ (k ∷ ks)) (u + length (decimal k ++ more ks))
unfolding more
from_complete [] k m was u l f h g =
    let n = length (decimal k) in
    let z : u + n + 1 ≡ u + length (decimal k ++ (10 ∷ [])) = sym (ap (λ (i : ℕ). u + i) (length-append (decimal k) (10 ∷ [])) ∙ omega arith) in
    ap (levels_from (suc m) was u) (append_snoc (decimal k) 10 l)
    ∙ from_last m was u (decimal k ++ (10 ∷ l)) (number k n) (number_complete 255 k (10 ∷ l) h refl) refl (after_byte k 10 l)
    ∙ ap (lined (was ++ (k ∷ []))) z
from_complete (j ∷ ks) k zero was u l f h g = absurd (omega arith)
from_complete (j ∷ ks) k (suc m) was u l f h g =
    let n = length (decimal k) in
    let t = decimal j ++ more ks in
    let s = decimal k ++ (32 ∷ (t ++ l)) in
    let e : (decimal k ++ (32 ∷ t)) ++ l ≡ s = append_assoc (decimal k) (32 ∷ t) l in
    let d : (get_or s n 0 ≡ 10 → ⊥) = λ x. absurd (omega (arith, after_byte k 32 (t ++ l))) in
    let z : u + n + 1 + length t ≡ u + length (decimal k ++ (32 ∷ t)) = sym (ap (λ (i : ℕ). u + i) (length-append (decimal k) (32 ∷ t)) ∙ omega arith) in
    ap (levels_from (suc (suc m)) was u) e
    ∙ from_more (suc m) was u s (number k n) (number_complete 255 k (32 ∷ (t ++ l)) h refl) refl d (after_byte k 32 (t ++ l))
    ∙ ap (levels_from (suc m) (was ++ (k ∷ [])) (u + n + 1)) (after_rest k 32 (t ++ l))
    ∙ from_complete ks j m (was ++ (k ∷ [])) (u + n + 1) l (omega arith) (g 0 (omega arith)) (λ i p. g (suc i) (omega arith))
    ∙ ap (λ (i : List ℕ). lined i (u + n + 1 + length t)) (append_snoc was k (j ∷ ks))
    ∙ ap (lined (was ++ (k ∷ (j ∷ ks)))) z

pub levels_complete : (ks l : List ℕ) → length ks ≤ 255 → Small ks → levels_of (levels_text ks ++ l) ≡ lined ks (length (levels_text ks))
unfolding levels_text levels_of
levels_complete [] l f g = refl
levels_complete (k ∷ ks) l f g =
    let s = (decimal k ++ more ks) ++ l in
    let r = decimal_head k in
    let z : get_or s 0 0 ≡ r.first = ap (λ (i : List ℕ). get_or ((i ++ more ks) ++ l) 0 0) r.is in
    let d : (get_or s 0 0 ≡ 10 → ⊥) = λ x. absurd (omega (arith, r.least)) in
    rw (ne_eqb (get_or s 0 0) 10 d) (from_complete ks k 254 [] 0 l (omega arith) (g 0 (omega arith)) (λ i p. g (suc i) (omega arith)) ∙ ap (lined (k ∷ ks)) (omega arith))

small_cons : (k : ℕ) (ks : List ℕ) → k ≤ 255 → Small ks → Small (k ∷ ks)
small_cons k ks h g zero p = h
small_cons k ks h g (suc i) p = g i (omega arith)

-- what stands after a list's first part
pub seam : (p l s : List ℕ) → s ≡ p ++ l → get_or s (length p) 0 ≡ get_or l 0 0
seam p l s e = ap (λ (i : List ℕ). get_or i (length p) 0) e ∙ ap (λ (j : ℕ). get_or (p ++ l) j 0) (sym (add-zero (length p))) ∙ get_or-append-add p l 0 0

record From (m : ℕ) (was : List ℕ) (u : ℕ) (s : List ℕ) : Type 0 where
  level : ℕ
  others : List ℕ
  rest : List ℕ
  is : s ≡ (decimal level ++ more others) ++ rest
  few : length others < m
  small : Small (level ∷ others)
  reads : levels_from m was u s ≡ lined (was ++ (level ∷ others)) (u + length (decimal level ++ more others))

module _ (m : ℕ) (was : List ℕ) (u : ℕ) (s : List ℕ) (v : ℕ) (l : List ℕ) (e : s ≡ decimal v ++ l) (h : v ≤ 255) (r : number_of 255 s ≡ number v (length (decimal v))) where
  from_one : get_or s (length (decimal v)) 0 ≡ 10 → From (suc m) was u s
  unfolding more
  from_one b =
      let k = known l 10 (sym (seam (decimal v) l s e) ∙ b) (omega arith) in
      let z : u + length (decimal v) + 1 ≡ u + length (decimal v ++ (10 ∷ [])) = sym (ap (λ (i : ℕ). u + i) (length-append (decimal v) (10 ∷ [])) ∙ omega arith) in
      record {
        level = v;
        others = [];
        rest = drop 1 l;
        is = e ∙ ap (λ (i : List ℕ). decimal v ++ i) k ∙ sym (append_snoc (decimal v) 10 (drop 1 l));
        few = omega arith;
        small = small_cons v [] h (λ i p. absurd (omega arith));
        reads = from_last m was u s (number v (length (decimal v))) r refl b ∙ ap (lined (was ++ (v ∷ []))) z;
      }

  from_two : get_or s (length (decimal v)) 0 ≡ 32 → From m (was ++ (v ∷ [])) (u + length (decimal v) + 1) (drop (length (decimal v) + 1) s) → From (suc m) was u s
  unfolding more
  from_two b f =
      let n = length (decimal v) in
      let k = known l 32 (sym (seam (decimal v) l s e) ∙ b) (omega arith) in
      let t = decimal f.level ++ more f.others in
      let x : drop (n + 1) s ≡ drop 1 l = ap (drop (n + 1)) e ∙ drop-append-add (decimal v) l 1 in
      let y : l ≡ 32 ∷ (t ++ f.rest) = k ∙ ap (λ (i : List ℕ). 32 ∷ i) (sym x ∙ f.is) in
      let z : u + n + 1 + length t ≡ u + length (decimal v ++ (32 ∷ t)) = sym (ap (λ (i : ℕ). u + i) (length-append (decimal v) (32 ∷ t)) ∙ omega arith) in
      record {
        level = v;
        others = f.level ∷ f.others;
        rest = f.rest;
        is = e ∙ ap (λ (i : List ℕ). decimal v ++ i) y ∙ sym (append_assoc (decimal v) (32 ∷ t) f.rest);
        few = omega (arith, f.few);
        small = small_cons v (f.level ∷ f.others) h f.small;
        reads =
            from_more m was u s (number v n) r refl (λ i. absurd (omega arith)) b
            ∙ f.reads
            ∙ ap (λ (i : List ℕ). lined i (u + n + 1 + length t)) (append_snoc was v (f.level ∷ f.others))
            ∙ ap (lined (was ++ (v ∷ (f.level ∷ f.others)))) z;
      }

is_ok : LevelsRead → Bool
is_ok r = r.ok

from_sound : (m : ℕ) (was : List ℕ) (u : ℕ) (s : List ℕ) → (levels_from m was u s).ok ≡ true → From m was u s
unfolding levels_from is_ok
from_sound zero was u s o = no o refl
from_sound (suc m) was u s o =
    by_test (number_of 255 s).ok
    (λ p.
    let r = number_sound 255 s p in
    let n = length (decimal r.value) in
    let t = number r.value n in
    by_test (eqb (get_or s n 0) 10)
    (λ q. from_one m was u s r.value r.rest r.is r.most r.reads (eqb-true (get_or s n 0) 10 q))
    (λ q.
    by_test (eqb (get_or s n 0) 32)
    (λ d.
    let b = eqb-true (get_or s n 0) 32 d in
    let g = from_more m was u s t r.reads refl (eqb-false (get_or s n 0) 10 q) b in
    from_two m was u s r.value r.rest r.is r.most r.reads b
    (from_sound m (was ++ (r.value ∷ [])) (u + n + 1) (drop (n + 1) s) (ap is_ok (sym g) ∙ o)))
    (λ d. no o (ap is_ok (from_bad m was u s t r.reads refl (eqb-false (get_or s n 0) 10 q) (eqb-false (get_or s n 0) 32 d))))))
    (λ p. no o (ap is_ok (from_none m was u s p)))

pub record Line (s : List ℕ) : Type 0 where
  pub levels : List ℕ
  pub rest : List ℕ
  pub is : s ≡ levels_text levels ++ rest
  pub few : length levels ≤ 255
  pub small : Small levels
  pub reads : levels_of s ≡ lined levels (length (levels_text levels))

pub levels_sound : (s : List ℕ) → (levels_of s).ok ≡ true → Line s
unfolding levels_of levels_text
levels_sound s o =
    by_test (eqb (get_or s 0 0) 10)
    (λ q.
    record {
      levels = [];
      rest = drop 1 s;
      is = known s 10 (eqb-true (get_or s 0 0) 10 q) (omega arith);
      few = omega arith;
      small = λ i p. absurd (omega arith);
      reads = rw q;
    })
    (λ q.
    let f = from_sound 255 [] 0 s (rw q at o) in
    record {
      levels = f.level ∷ f.others;
      rest = f.rest;
      is = f.is;
      few = omega (arith, f.few);
      small = f.small;
      reads = rw q (f.reads ∙ ap (lined (f.level ∷ f.others)) (omega arith));
    })
