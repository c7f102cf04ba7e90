-- The leads that are taken from the list are those of the lines in order. Assumes nothing.
-- Main laws: `leads_length` as many as there are flags; `leads_yes`, `leads_not` one word more; `tally_within` the first words have no more flags than more of them; `leads_firsts` those of the
--   whole list.
use mathlib.Core.Path.{◌≡◌, refl, sym, ap, ◌∙◌}
use mathlib.Core.Bool.{Bool, true, false, cond}
use mathlib.Core.List.{List, [], ◌∷◌, ◌++◌, map}
use Prim.Native.Nat.{ℕ, zero, suc, ◌+◌, ◌-◌, ◌*◌, ◌≤◌, ◌<◌}
use native.Mathlib.Nat.{div-add-mod'}
use native.Mathlib.Numerals.{add-one}
use native.Mathlib.Omega.{arith}
use lib.Dec.{leb}
use lib.ListN.{length, take, drop, get_or, set, length-append}
use lib.Seq.{take-suc, take-length}
use borrow.Author.Tests.{le-leb}
use Rattle.tally.specs.Tally.{one, tally, flat}
use Rattle.tally.proofs.Test.{by_test}
use Rattle.tally.proofs.Fill.{fill_snoc}
use Rattle.matte.specs.Layout.{eight}
use Rattle.matte.specs.Picture.{Picture}
use Rattle.edgel.specs.Word.{word}
use Rattle.outline.specs.List.{encode, listed}
use Rattle.outline.proofs.Words.{Narrow, flags_line}
use Rattle.outline.proofs.Levels.{level_below}
use Rattle.outline.proofs.Lines.{line_long}
use Rattle.outline.proofs.Places.{line_low}
use Rattle.refuse.specs.Shape.{Ground}
use Rattle.follow.proofs.Flag.{line_cons}
use Rattle.enclosure.specs.Tree.{firsts, line_count, level_at, lead_at, crossings_at}
use Rattle.enclosure.proofs.Lines.{Setting, lead_cut}
use Rattle.enclosure.proofs.Tree.{line_of}
use Rattle.enclosure.proofs.Numbers.{line_words, firsts_words}
use Rattle.tree.specs.Note.{leads_of}

abbrev pub F : ℕ
F = 2147483648

one_yes : (u : ℕ) (l : List ℕ) → leb 2147483648 u ≡ true → leads_of (u ∷ l) ≡ (u - 2147483648) ∷ leads_of l
unfolding leads_of
one_yes u l e = rw (leads_of, e)

one_no : (u : ℕ) (l : List ℕ) → leb 2147483648 u ≡ false → leads_of (u ∷ l) ≡ leads_of l
unfolding leads_of
one_no u l e = rw (leads_of, e)

pub leads_length : (l : List ℕ) → length (leads_of l) ≡ tally (leb 2147483648) l
unfolding leads_of tally
leads_length [] = refl
leads_length (u ∷ l) =
    by_test (leb 2147483648 u)
    (λ e. ap length (one_yes u l e) ∙ rw e (omega (arith, leads_length l)))
    (λ e. ap length (one_no u l e) ∙ rw e (omega (arith, leads_length l)))

pub leads_append : (l m : List ℕ) → leads_of (l ++ m) ≡ leads_of l ++ leads_of m
unfolding leads_of
leads_append [] m = refl
leads_append (u ∷ l) m =
    by_test (leb 2147483648 u)
    (λ e.
    one_yes u (l ++ m) e ∙ ap (λ (z : List ℕ). (u - 2147483648) ∷ z) (leads_append l m) ∙ ap (λ (z : List ℕ). z ++ leads_of m) (sym (one_yes u l e)))
    (λ e. one_no u (l ++ m) e ∙ leads_append l m ∙ ap (λ (z : List ℕ). z ++ leads_of m) (sym (one_no u l e)))

-- one word more
module _ (l : List ℕ) (i : ℕ) (h : i < length l) where
  more : leads_of (take (i + 1) l) ≡ leads_of (take i l) ++ leads_of (get_or l i 0 ∷ [])
  more = ap (λ (z : ℕ). leads_of (take z l)) (add-one i) ∙ ap leads_of (take-suc l i 0 h) ∙ leads_append (take i l) (get_or l i 0 ∷ [])

  pub leads_yes : leb 2147483648 (get_or l i 0) ≡ true → leads_of (take (i + 1) l) ≡ leads_of (take i l) ++ ((get_or l i 0 - 2147483648) ∷ [])
  unfolding leads_of
  leads_yes e = more ∙ ap (λ (z : List ℕ). leads_of (take i l) ++ z) (one_yes (get_or l i 0) [] e)

  pub leads_not : leb 2147483648 (get_or l i 0) ≡ false → leads_of (take (i + 1) l) ≡ leads_of (take i l)
  unfolding leads_of
  leads_not e = more ∙ ap (λ (z : List ℕ). leads_of (take i l) ++ z) (one_no (get_or l i 0) [] e) ∙ mathlib.Core.List.append-nil (leads_of (take i l))

pub tally_within : (p : ℕ → Bool) (l : List ℕ) (i n : ℕ) → i ≤ n → tally p (take i l) ≤ tally p (take n l)
unfolding tally
tally_within p [] zero n h = omega arith
tally_within p [] (suc i) (suc n) h = omega arith
tally_within p [] (suc i) zero h = absurd (omega arith)
tally_within p (x ∷ l) zero n h = omega arith
tally_within p (x ∷ l) (suc i) (suc n) h = omega (arith, tally_within p l i n (omega arith))
tally_within p (x ∷ l) (suc i) zero h = absurd (omega arith)

-- ---- the whole list
none : (l : List ℕ) → tally (leb 2147483648) l ≡ 0 → leads_of l ≡ []
unfolding leads_of tally
none [] h = refl
none (u ∷ l) h =
    by_test (leb 2147483648 u)
    (λ e. absurd (omega (arith, rw e at h)))
    (λ e. one_no u l e ∙ none l (omega (arith, rw e at h)))

leads_flat : (f : ℕ → List ℕ) (xs : List ℕ) → ((n : ℕ) → n < length xs → leads_of (f (get_or xs n 0)) ≡ get_or xs n 0 ∷ []) → leads_of (flat (map f xs)) ≡ xs
unfolding leads_of flat
leads_flat f [] q = refl
leads_flat f (x ∷ xs) q =
    leads_append (f x) (flat (map f xs))
    ∙ ap (λ (z : List ℕ). z ++ leads_of (flat (map f xs))) (q 0 (omega arith))
    ∙ ap (λ (z : List ℕ). x ∷ z) (leads_flat f xs (λ n h. q (suc n) (omega arith)))

module _ (P : Picture) (ks : List ℕ) (G : Ground P) (S : Setting eight P ks) where
  module _ (n : ℕ) (a : n < line_count eight P ks) where
    abbrev x : ℕ
    x = get_or (firsts eight P ks) n 0

    abbrev k : ℕ
    k = level_at eight P ks n

    abbrev d : ℕ
    d = lead_at eight P ks n

    narrow : Narrow eight k (crossings_at eight P ks n)
    unfolding line_of
    narrow =
        let M = line_of S n a in
        record {
          level = omega (arith, level_below eight ks S.levels M.lvl M.listed, S.fits.tops);
          codes = λ c h. omega (arith, S.fits.room, line_low P S.border M.lvl M.lead c (lead_cut S M) h);
        }

    long : 0 < length (crossings_at eight P ks n)
    unfolding line_of
    long = let M = line_of S n a in line_long P S.border M.lvl M.lead M.leads

    flags : tally (leb 2147483648) (encode eight k true (crossings_at eight P ks n)) ≡ 1
    flags = flags_line eight k (crossings_at eight P ks n) narrow long

    begins : (rest : List ℕ) × (crossings_at eight P ks n ≡ d ∷ rest)
    unfolding line_of
    begins = line_cons P G k d (lead_cut S (line_of S n a))

    whole : d + k * 8388608 ≡ x
    unfolding level_at lead_at
    whole = omega (arith, div-add-mod' x 8388608)

    first_word : (c : ℕ) (rest : List ℕ) → c + k * 8388608 ≡ x → tally (leb 2147483648) (encode eight k true (c ∷ rest)) ≡ 1 → leads_of (encode eight k true (c ∷ rest)) ≡ x ∷ []
    unfolding encode tally
    first_word c rest q g =
        let v = word eight c k true in
        let e : leb 2147483648 v ≡ true = le-leb 2147483648 v (omega arith) in
        let s : v - 2147483648 ≡ x = omega arith in
        one_yes v (encode eight k false rest) e
        ∙ ap (λ (z : ℕ). z ∷ leads_of (encode eight k false rest)) s
        ∙ ap (λ (z : List ℕ). x ∷ z) (none (encode eight k false rest) (omega (arith, rw e at g)))

    own : leads_of (line_words eight P x) ≡ x ∷ []
    unfolding level_at lead_at
    own =
        ap (λ (l : List ℕ). leads_of (encode eight k true l)) begins.1
        ∙ first_word d begins.0 whole (sym (ap (λ (l : List ℕ). tally (leb 2147483648) (encode eight k true l)) begins.1) ∙ flags)

  pub leads_firsts : leads_of (listed eight P ks) ≡ firsts eight P ks
  leads_firsts = ap leads_of (sym (firsts_words eight P S.fits.room ks)) ∙ leads_flat (line_words eight P) (firsts eight P ks) own

-- ---- the loop that takes them
module _ (l d : List ℕ) (i m : ℕ) (p : List ℕ) (h : i < length l) (r : tally (leb 2147483648) l ≤ length d) (e : m ≡ length (leads_of (take i l)))
    (q : p ≡ leads_of (take i l) ++ drop m d) where
  abbrev u : ℕ
  u = get_or l i 0

  abbrev so : List ℕ
  so = leads_of (take i l)

  fits : (j : ℕ) → j ≤ length l → length (leads_of (take j l)) ≤ length d
  fits j k = omega (arith, leads_length (take j l), tally_within (leb 2147483648) l j (length l) k, ap (tally (leb 2147483648)) (take-length l))

  grow : leb 2147483648 u ≡ true → length (leads_of (take (i + 1) l)) ≡ m + 1
  grow t = ap length (leads_yes l i h t) ∙ length-append so ((u - 2147483648) ∷ []) ∙ omega arith

  pub keep_room : leb 2147483648 (get_or l i 0) ≡ true → m < length d
  keep_room t = omega (arith, grow t, fits (i + 1) (omega arith))

  pub keep_most : m ≤ length d
  keep_most = omega (arith, fits i (omega arith))

  pub keep_count : m + one (leb 2147483648 (get_or l i 0)) ≡ length (leads_of (take (i + 1) l))
  keep_count =
      by_test (leb 2147483648 u)
      (λ t. rw t (sym (grow t)))
      (λ t. rw t (omega (arith, ap length (leads_not l i h t))))

  pub keep_places : cond (leb 2147483648 (get_or l i 0)) (set p m (get_or l i 0 - 2147483648)) p ≡ leads_of (take (i + 1) l) ++ drop (m + one (leb 2147483648 (get_or l i 0))) d
  keep_places =
      by_test (leb 2147483648 u)
      (λ t.
      rw t
      (ap (λ (z : List ℕ). set z m (u - 2147483648)) q
      ∙ ap (λ (z : ℕ). set (so ++ drop z d) z (u - 2147483648)) e
      ∙ fill_snoc so d (u - 2147483648) (omega (arith, keep_room t))
      ∙ ap (λ (z : List ℕ). z ++ drop (length so + 1) d) (sym (leads_yes l i h t))
      ∙ ap (λ (z : ℕ). leads_of (take (i + 1) l) ++ drop (z + 1) d) (sym e)))
      (λ t.
      let s : m + 0 ≡ m = omega arith in
      rw (t, s) (q ∙ ap (λ (z : List ℕ). z ++ drop m d) (sym (leads_not l i h t))))
