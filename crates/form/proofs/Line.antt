-- Reading the line of levels, level by level. Assumes nothing.
-- Definitions: `Lining` some levels are read.
-- Main laws: `from_none`, `from_last`, `from_more`, `from_bad` the reader's cases; `line_empty`, `line_begin`, `line_none`, `line_last`, `line_bad`, `line_more`, `line_full` the steps; `part_end` the
--   rest of a slice as a list; `inside_of` a byte that is not 0 is inside.
use mathlib.Core.Path.{◌≡◌, refl, sym, ap, ◌∙◌}
use mathlib.Core.Bool.{true, false}
use mathlib.Core.List.{List, [], ◌∷◌, ◌++◌}
use Prim.Native.Nat.{ℕ, suc, ◌+◌, ◌-◌, ◌≤◌, ◌<◌}
use native.Mathlib.Nat.{add_assoc}
use native.Mathlib.Numerals.{add-one}
use native.Mathlib.Omega.{arith}
use borrow.Author.Tests.{ltb-true, ltb-false, eq-eqb, ne_eqb}
use lib.Dec.{ltb}
use lib.ListN.{length, get_or, take, drop, set, replicate, length-append, length-drop, length-set, get_or-eq_default, take-append-drop}
use lib.Seq.{take_all, get_or-drop, drop-drop, take-suc-set, drop-set-lt, length-take-le}
use Rattle.tally.proofs.Test.{by_test}
use Rattle.std.specs.Prelude.{Option, Some, None, IfSome}
use Rattle.form.specs.declared.Number.{Number}
use Rattle.form.specs.declared.Levels.{Levels}
use Rattle.form.specs.Reader.{NumberRead, number, number_told, levels_told}
use Rattle.form.proofs.Numbers.{number_missing, number_given}
use Rattle.form.specs.Reader.{number_of, no_levels, lined, levels_from, levels_of}

pub part_end : (s : List ℕ) (i : ℕ) → take (length s - i) (drop i s) ≡ drop i s
part_end s i = take_all (length s - i) (drop i s) (omega (arith, length-drop i s))

pub inside_of : (s : List ℕ) (j b : ℕ) → get_or s j 0 ≡ b → 0 < b → j < length s
inside_of s j b e h =
    by_test (ltb j (length s))
    (λ t. ltb-true j (length s) t)
    (λ t. absurd (omega (arith, get_or-eq_default s 0 (ltb-false j (length s) t))))

-- ---- the reader's cases
module _ (m : ℕ) (ks : List ℕ) (u : ℕ) (s : List ℕ) where
  pub from_none : (number_of 255 s).ok ≡ false → levels_from (suc m) ks u s ≡ no_levels
  unfolding levels_from
  from_none e = rw (e, levels_from)

  module _ (o : (number_of 255 s).ok ≡ true) where
    last : get_or s (number_of 255 s).count 0 ≡ 10 → levels_from (suc m) ks u s ≡ lined (ks ++ ((number_of 255 s).value ∷ [])) (u + (number_of 255 s).count + 1)
    unfolding levels_from
    last b = rw (o, levels_from, eq-eqb (get_or s (number_of 255 s).count 0) 10 b)

    further : (get_or s (number_of 255 s).count 0 ≡ 10 → ⊥) → get_or s (number_of 255 s).count 0 ≡ 32
        → levels_from (suc m) ks u s ≡ levels_from m (ks ++ ((number_of 255 s).value ∷ [])) (u + (number_of 255 s).count + 1) (drop ((number_of 255 s).count + 1) s)
    unfolding levels_from
    further n b = rw (o, levels_from, ne_eqb (get_or s (number_of 255 s).count 0) 10 n, eq-eqb (get_or s (number_of 255 s).count 0) 32 b)

    bad : (get_or s (number_of 255 s).count 0 ≡ 10 → ⊥) → (get_or s (number_of 255 s).count 0 ≡ 32 → ⊥) → levels_from (suc m) ks u s ≡ no_levels
    unfolding levels_from
    bad n b = rw (o, levels_from, ne_eqb (get_or s (number_of 255 s).count 0) 10 n, ne_eqb (get_or s (number_of 255 s).count 0) 32 b)

  module _ (t : NumberRead) (e : number_of 255 s ≡ t) (o : t.ok ≡ true) where
    pub from_last : get_or s t.count 0 ≡ 10 → levels_from (suc m) ks u s ≡ lined (ks ++ (t.value ∷ [])) (u + t.count + 1)
    from_last b = rw (← e) (last (rw (← e) at o) (rw (← e) at b))

    module _ (n : get_or s t.count 0 ≡ 10 → ⊥) where
      pub from_more : get_or s t.count 0 ≡ 32 → levels_from (suc m) ks u s ≡ levels_from m (ks ++ (t.value ∷ [])) (u + t.count + 1) (drop (t.count + 1) s)
      from_more b = rw (← e) (further (rw (← e) at o) (rw (← e) at n) (rw (← e) at b))

      pub from_bad : (get_or s t.count 0 ≡ 32 → ⊥) → levels_from (suc m) ks u s ≡ no_levels
      from_bad b = bad (rw (← e) at o) (rw (← e) at n) (rw (← e) at b)

-- ---- step by step: n levels and their separators are the first i bytes
pub record Lining (s levels : List ℕ) (n i : ℕ) : Type 0 where
  pub most : n ≤ 255
  pub inside : i ≤ length s
  pub long : length levels ≡ 255
  pub rest : drop n levels ≡ replicate (255 - n) 0
  pub left : levels_of s ≡ levels_from (255 - n) (take n levels) i (drop i s)

-- what a call has to show of the line read
abbrev pub Lined : List ℕ → Option Levels → Type 0
Lined s r = (r ≡ levels_told (levels_of s)) × IfSome r (λ l. l.used ≤ length s)

module _ (s : List ℕ) where
  none : levels_of s ≡ no_levels → Lined s None
  none f = (ap levels_told (sym f), tt)

  pub line_empty : get_or s 0 0 ≡ 10 → Lined s (Some (record { count = 0; levels = replicate 255 0; used = 1 }))
  unfolding levels_of
  line_empty e = (rw (eq-eqb (get_or s 0 0) 10 e), inside_of s 0 10 e (omega arith))

  pub line_begin : (get_or s 0 0 ≡ 10 → ⊥) → Lining s (replicate 255 0) 0 0
  unfolding levels_of
  line_begin n = record { most = omega arith; inside = omega arith; long = refl; rest = refl; left = rw (ne_eqb (get_or s 0 0) 10 n) }

  module _ (levels : List ℕ) (n i : ℕ) (t : Lining s levels n i) where
    pub line_full : 255 ≤ n → Lined s None
    unfolding levels_from
    line_full h = let z : 255 - n ≡ 0 = omega arith in none (t.left ∙ rw z)

    module _ (h : n < 255) where
      again : levels_of s ≡ levels_from (suc (255 - (n + 1))) (take n levels) i (drop i s)
      again = let z : 255 - n ≡ suc (255 - (n + 1)) = omega arith in t.left ∙ rw z

      pub line_none : None ≡ number_told (number_of 255 (take (length s - i) (drop i s))) → Lined s None
      line_none e =
          none
          (again
          ∙ from_none (255 - (n + 1)) (take n levels) i (drop i s)
          (ap (λ (l : List ℕ). (number_of 255 l).ok) (sym (part_end s i)) ∙ number_missing (number_of 255 (take (length s - i) (drop i s))) e))

      module _ (r : Number) (e : Some r ≡ number_told (number_of 255 (take (length s - i) (drop i s)))) (b : ℕ) (g : b ≡ get_or s (i + r.count) 0) where
        here : number_of 255 (drop i s) ≡ number r.value r.count
        here = ap (number_of 255) (sym (part_end s i)) ∙ number_given r (number_of 255 (take (length s - i) (drop i s))) e

        byte : get_or (drop i s) r.count 0 ≡ b
        byte = get_or-drop i s r.count 0 ∙ sym g

        kept : take (n + 1) (set levels n r.value) ≡ take n levels ++ (r.value ∷ [])
        kept = ap (λ (j : ℕ). take j (set levels n r.value)) (add-one n) ∙ take-suc-set levels n r.value (omega (arith, t.long))

        zeros : drop (n + 1) (set levels n r.value) ≡ replicate (255 - (n + 1)) 0
        zeros =
            let z : 255 - n ≡ suc (255 - (n + 1)) = omega arith in
            drop-set-lt (n + 1) levels n r.value (omega arith) ∙ sym (drop-drop 1 n levels) ∙ ap (drop 1) t.rest ∙ rw z

        pub line_last : b ≡ 10 → Lined s (Some (record { count = n + 1; levels = set levels n r.value; used = i + (r.count + 1) }))
        line_last d =
            let x = again ∙ from_last (255 - (n + 1)) (take n levels) i (drop i s) (number r.value r.count) here refl (byte ∙ d) in
            let y : length (take n levels ++ (r.value ∷ [])) ≡ n + 1 = length-append (take n levels) (r.value ∷ []) ∙ omega (arith, length-take-le n levels (omega (arith, t.long))) in
            let w : (take n levels ++ (r.value ∷ [])) ++ replicate (255 - (n + 1)) 0 ≡ set levels n r.value =
            ap (λ (l : List ℕ). l ++ replicate (255 - (n + 1)) 0) (sym kept) ∙ ap (λ (l : List ℕ). take (n + 1) (set levels n r.value) ++ l) (sym zeros) ∙ take-append-drop (n + 1) (set levels n r.value) in
            (sym (ap levels_told x ∙ rw (y, w, add_assoc i r.count 1)), omega (arith, inside_of s (i + r.count) 10 (sym g ∙ d) (omega arith)))

        module _ (k : b ≡ 10 → ⊥) where
          pub line_bad : (b ≡ 32 → ⊥) → Lined s None
          line_bad d = none (again ∙ from_bad (255 - (n + 1)) (take n levels) i (drop i s) (number r.value r.count) here refl (λ x. k (sym byte ∙ x)) (λ x. d (sym byte ∙ x)))

          pub line_more : b ≡ 32 → Lining s (set levels n r.value) (n + 1) (i + (r.count + 1))
          line_more d =
              record {
                most = omega arith;
                inside = omega (arith, inside_of s (i + r.count) 32 (sym g ∙ d) (omega arith));
                long = length-set levels n r.value ∙ t.long;
                rest = zeros;
                left =
                    again
                    ∙ from_more (255 - (n + 1)) (take n levels) i (drop i s) (number r.value r.count) here refl (λ x. k (sym byte ∙ x)) (byte ∙ d)
                    ∙ rw (← kept, drop-drop (r.count + 1) i s, add_assoc i r.count 1);
              }
