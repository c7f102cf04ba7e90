-- Marks kept in work bytes, one for each place. Assumes nothing.
-- Definitions: `marked t bytes d` the byte of d's place passes t; `mark v bytes c` stores v there where c is horizontal; `mark_all v bytes l` for a whole line. With v that passes t a stored byte is
--   a mark: not 0 and 1, or equal to k + 1 and k + 1, or equal to 0 and 0, as the code likes.
-- Main laws: `mark_length`, `mark_all_length`, `mark_all_append` one more code; `mark_one`, `mark_all_lem` afterwards a horizontal d is marked if it was, or stands in the list; `mark_take` marking
--   along a walk; `mark_past` the bytes past the picture stay.
use mathlib.Core.Path.{◌≡◌, refl, sym, ap, ◌∙◌}
use mathlib.Core.Bool.{Bool, true, false, ◌||◌, cond}
use mathlib.Core.List.{List, [], ◌∷◌, ◌++◌}
use mathlib.Core.Logic.{◌≢◌}
use Prim.Native.Nat.{ℕ, ◌+◌, ◌*◌, ◌/◌, ◌%◌, ◌<◌}
use native.Mathlib.Nat.{zero-add}
use native.Mathlib.Omega.{arith}
use lib.Dec.{eqb, ltb}
use lib.ListN.{length, get_or, set, take, drop, length-set}
use lib.Seq.{get_or-set_same, get_or-set_other, drop-set-lt}
use borrow.Author.Tests.{lt-ltb, eqb-true, eqb-false, eq-eqb}
use Rattle.tally.specs.Tally.{one, count}
use Rattle.tally.proofs.Test.{by_test, or_true, or_false}
use Rattle.orbit.specs.Orbit.{orbit}
use Rattle.orbit.proofs.Walk.{Walk, walk_take}
use Rattle.edgel.specs.Edgel.{horizontal, first}

unfoldable pub marked : (ℕ → Bool) → List ℕ → ℕ → Bool
marked t bytes d = t (get_or bytes (first d) 0)

unfoldable pub mark : ℕ → List ℕ → ℕ → List ℕ
mark v bytes c = cond (horizontal c) (set bytes (first c) v) bytes

unfoldable pub mark_all : ℕ → List ℕ → List ℕ → List ℕ
mark_all v bytes [] = bytes
mark_all v bytes (c ∷ l) = mark_all v (mark v bytes c) l

pub mark_length : (v : ℕ) (bytes : List ℕ) (c : ℕ) → length (mark v bytes c) ≡ length bytes
unfolding mark
mark_length v bytes c = by_test (horizontal c) (λ e. rw e (simp length-set)) (λ e. rw e)

pub mark_all_length : (v : ℕ) (bytes l : List ℕ) → length (mark_all v bytes l) ≡ length bytes
unfolding mark_all
mark_all_length v bytes [] = refl
mark_all_length v bytes (c ∷ l) = mark_all_length v (mark v bytes c) l ∙ mark_length v bytes c

pub mark_all_append : (v : ℕ) (bytes l : List ℕ) (c : ℕ) → mark_all v bytes (l ++ (c ∷ [])) ≡ mark v (mark_all v bytes l) c
unfolding mark_all
mark_all_append v bytes [] c = refl
mark_all_append v bytes (d ∷ l) c = mark_all_append v (mark v bytes d) l c

pub mark_take : (f : ℕ → ℕ) (n a i c v : ℕ) (bytes : List ℕ) → Walk f n a i c → mark_all v bytes (take (i + 1) (orbit f a n a)) ≡ mark v (mark_all v bytes (take i (orbit f a n a))) c
mark_take f n a i c v bytes W = ap (mark_all v bytes) (walk_take f n a i c W) ∙ mark_all_append v bytes (take i (orbit f a n a)) c

pub mark_past : (v : ℕ) (bytes l : List ℕ) (n : ℕ) → ((c : ℕ) → 0 < count c l → c < 2 * n) → drop n (mark_all v bytes l) ≡ drop n bytes
unfolding mark_all mark count
mark_past v bytes [] n q = refl
mark_past v bytes (c ∷ l) n q =
    let i : c / 2 < n = omega (arith, q c (rw (eq-eqb c c refl) (omega arith))) in
    mark_past v (mark v bytes c) l n (λ d h. q d (omega arith))
    ∙ by_test (horizontal c) (λ e. rw e (drop-set-lt n bytes (c / 2) v i)) (λ e. rw e)

module _ (t : ℕ → Bool) (v : ℕ) (y : t v ≡ true) where
  pub mark_one : (bytes : List ℕ) (c d : ℕ) → horizontal d ≡ true → c < 2 * length bytes → marked t (mark v bytes c) d ≡ (marked t bytes d || eqb d c)
  unfolding mark marked
  mark_one bytes c d f h =
      let m : d % 2 ≡ 0 = eqb-true (d % 2) 0 f in
      let i : c / 2 < length bytes = omega arith in
      by_test (eqb d c)
      (λ e.
      let s : d ≡ c = eqb-true d c e in
      rw (e, sym s, f, or_true (t (get_or bytes (d / 2) 0)), get_or-set_same bytes (d / 2) v 0 (omega arith)) y)
      (λ e.
      let s : d ≢ c = eqb-false d c e in
      by_test (horizontal c)
      (λ g.
      let n : c % 2 ≡ 0 = eqb-true (c % 2) 0 g in
      let o : d / 2 ≢ c / 2 = λ z. s (omega arith) in
      rw (e, g, or_false (t (get_or bytes (d / 2) 0)), get_or-set_other bytes (c / 2) (d / 2) v 0 o))
      (λ g. rw (e, g, or_false (t (get_or bytes (d / 2) 0)))))

  or_count : (a b : Bool) (n : ℕ) → ((a || b) || ltb 0 n) ≡ (a || ltb 0 (one b + n))
  or_count true b n = refl
  or_count false true n = sym (lt-ltb 0 (1 + n) (omega arith))
  or_count false false n = ap (λ (z : ℕ). ltb 0 z) (sym (zero-add n))

  pub mark_all_lem : (bytes l : List ℕ) (d : ℕ) → horizontal d ≡ true → ((c : ℕ) → 0 < count c l → c < 2 * length bytes)
      → marked t (mark_all v bytes l) d ≡ (marked t bytes d || ltb 0 (count d l))
  unfolding mark_all count
  mark_all_lem bytes [] d f q = sym (or_false (marked t bytes d))
  mark_all_lem bytes (c ∷ l) d f q =
      mark_all_lem (mark v bytes c) l d f (λ e h. rw (mark_length v bytes c) (q e (omega arith)))
      ∙ ap (λ (z : Bool). z || ltb 0 (count d l)) (mark_one bytes c d f (q c (rw (eq-eqb c c refl) (omega arith))))
      ∙ or_count (marked t bytes d) (eqb d c) (count d l)
