-- Counters raised by the heads of a run, at once or in parts. Assumes nothing.
-- Main laws: `added_none` by no sample; `added_join` by one run after another; `added_alike` by samples of one head, `added_one` by one sample; `added_room` how often they can be raised after that; `held_none`, `held_more` counters that are
--   the counts of a list; `held_room` how often they can be raised; `held_all` all of them.
use mathlib.Core.Path.{◌≡◌, refl, sym, ap, ◌∙◌}
use mathlib.Core.Bool.{Bool, false}
use mathlib.Core.List.{List, [], ◌∷◌, ◌++◌}
use mathlib.Core.Logic.{◌≢◌}
use Prim.Native.Nat.{ℕ, zero, suc, ◌+◌, ◌*◌, ◌/◌, ◌%◌, ◌≤◌, ◌<◌}
use native.Mathlib.Nat.{mod-lt, div-add-mod'}
use native.Mathlib.Omega.{arith}
use lib.Arith.{digits_mod}
use lib.Dec.{eqb}
use lib.ListN.{length, get_or, set, replicate, get_or-replicate}
use lib.Seq.{ext_get_or, get_or-set_same, get_or-set_other}
use borrow.Author.Tests.{eqb-true, eqb-false, eq-eqb, ne_eqb}
use Rattle.tally.specs.Tally.{one, count}
use Rattle.tally.proofs.Test.{by_test, iff, one_le}
use Rattle.tally.proofs.Count.{count_append}
use Rattle.frame.specs.Counts.{head_of, heads, counts, Added, Roomy}
use Rattle.frame.proofs.Seen.{heads_long, counts_length, counts_at}

count_long : (v : ℕ) (l : List ℕ) → count v l ≤ length l
unfolding count
count_long v [] = omega arith
count_long v (x ∷ l) = omega (arith, count_long v l, one_le (eqb v x))

-- 16·top + d is q exactly if top and d are q's halves
whole_is : (top q : ℕ) → eqb (16 * top + q % 16) q ≡ eqb (q / 16) top
whole_is top q =
    iff
    (λ e. eq-eqb (q / 16) top (omega (arith, eqb-true (16 * top + q % 16) q e, div-add-mod' q 16)))
    (λ e. eq-eqb (16 * top + q % 16) q (omega (arith, eqb-true (q / 16) top e, div-add-mod' q 16)))

half_not : (top q d : ℕ) → d < 16 → d ≢ q % 16 → eqb (16 * top + d) q ≡ false
half_not top q d h n = ne_eqb (16 * top + d) q (λ e. n (sym (ap (λ (z : ℕ). z % 16) (sym e ∙ omega arith) ∙ digits_mod top h)))

module _ (whole : Bool) where
  heads_append : (l m : List ℕ) → heads whole (l ++ m) ≡ heads whole l ++ heads whole m
  unfolding heads
  heads_append [] m = refl
  heads_append (s ∷ l) m = ap (λ (x : List ℕ). head_of whole s ∷ x) (heads_append l m)

  heads_none : (v : ℕ) → count v (heads whole []) ≡ 0
  unfolding count heads
  heads_none v = refl

  count_join : (v : ℕ) (l m : List ℕ) → count v (heads whole (l ++ m)) ≡ count v (heads whole l) + count v (heads whole m)
  count_join v l m = ap (count v) (heads_append l m) ∙ count_append v (heads whole l) (heads whole m)

  count_le : (v : ℕ) (l : List ℕ) → count v (heads whole l) ≤ length l
  count_le v l = omega (arith, count_long v (heads whole l), heads_long whole l)

  count_alike : (v q : ℕ) (l : List ℕ) → ((j : ℕ) → j < length l → head_of whole (get_or l j 0) ≡ q) → count v (heads whole l) ≡ length l * one (eqb v q)
  unfolding count heads
  count_alike v q [] e = omega arith
  count_alike v q (s ∷ l) e =
      let a : one (eqb v (head_of whole s)) ≡ one (eqb v q) = ap (λ (z : ℕ). one (eqb v z)) (e 0 (omega arith)) in
      let b : count v (heads whole l) ≡ length l * one (eqb v q) = count_alike v q l (λ j h. e (suc j) (omega arith)) in
      omega arith

  module _ (top : ℕ) where
    pub added_none : (t : List ℕ) → Added whole top [] t t
    added_none t d h = omega (arith, heads_none (16 * top + d))

    pub added_join : (l m t u v : List ℕ) → Added whole top l t u → Added whole top m u v → Added whole top (l ++ m) t v
    added_join l m t u v a b d h = omega (arith, a d h, b d h, count_join (16 * top + d) l m)

    pub added_alike : (l t : List ℕ) (q n : ℕ) → length t ≡ 16 → n ≡ length l * one (eqb (q / 16) top) → ((j : ℕ) → j < length l → head_of whole (get_or l j 0) ≡ q)
        → Added whole top l t (set t (q % 16) (get_or t (q % 16) 0 + n))
    added_alike l t q n m f e d h =
        let p = q % 16 in
        let x = get_or t p 0 + n in
        let o : p < 16 = mod-lt q (omega arith) in
        let c : count (16 * top + d) (heads whole l) ≡ length l * one (eqb (16 * top + d) q) = count_alike (16 * top + d) q l e in
        by_test (eqb d p)
        (λ b.
        let r : d ≡ p = eqb-true d p b in
        let z : eqb (16 * top + d) q ≡ eqb (q / 16) top = ap (λ (y : ℕ). eqb (16 * top + y) q) r ∙ whole_is top q in
        let k : count (16 * top + d) (heads whole l) ≡ n = c ∙ ap (λ (y : Bool). length l * one y) z ∙ sym f in
        let g : get_or (set t p x) p 0 ≡ x = get_or-set_same t p x 0 (omega arith) in
        ap (λ (y : ℕ). get_or (set t p x) y 0) r ∙ g ∙ ap (λ (y : ℕ). get_or t p 0 + y) (sym k) ∙ ap (λ (y : ℕ). get_or t y 0 + count (16 * top + d) (heads whole l)) (sym r))
        (λ b.
        let z : length l * one (eqb (16 * top + d) q) ≡ length l * 0 = ap (λ (y : Bool). length l * one y) (half_not top q d h (eqb-false d p b)) in
        omega (arith, get_or-set_other t p d x 0 (eqb-false d p b), c, z))

    pub added_one : (s q n : ℕ) (t : List ℕ) → length t ≡ 16 → n ≡ one (eqb (q / 16) top) → head_of whole s ≡ q → Added whole top (s ∷ []) t (set t (q % 16) (get_or t (q % 16) 0 + n))
    added_one s q n t m f e = added_alike (s ∷ []) t q n m (f ∙ omega arith) (λ j h. let z : j ≡ 0 = omega arith in rw z e)

    pub added_room : (l t u : List ℕ) (k n : ℕ) → Added whole top l t u → Roomy n t → length l + k ≤ n → Roomy k u
    added_room l t u k n a r h d b = omega (arith, a d b, r d b, count_le (16 * top + d) l)

    -- the counters of a list
    abbrev pub Held : List ℕ → List ℕ → Type 0
    Held l t = (d : ℕ) → d < 16 → get_or t d 0 ≡ count (16 * top + d) (heads whole l)

    pub held_none : Held [] (replicate 16 zero)
    held_none d h = get_or-replicate 16 d zero zero h ∙ sym (heads_none (16 * top + d))

    pub held_more : (l m t u : List ℕ) → Held l t → Added whole top m t u → Held (l ++ m) u
    held_more l m t u a b d h = omega (arith, a d h, b d h, count_join (16 * top + d) l m)

    pub held_room : (l t : List ℕ) (k : ℕ) → Held l t → length l + k ≤ 4194304 → Roomy k t
    held_room l t k a h d b = omega (arith, a d b, count_le (16 * top + d) l)

    pub held_all : (l t : List ℕ) → length t ≡ 16 → Held l t → t ≡ counts whole top l
    held_all l t m a =
        ext_get_or 0 t (counts whole top l) (m ∙ sym (counts_length whole top l))
        (λ j h. let b : j < 16 = omega (arith, m) in a j b ∙ sym (counts_at whole top l j b))
