-- Lines numbered while they are found, level after level and place after place. Assumes nothing.
-- Definitions: `number_at L P ks n p` how many lines the first n levels have and the next one with leads at places below p: the number of the line that leads at p, if one does.
-- Main laws: `number_start`, `number_line`, `number_skip`, `number_level`, `number_end` it grows by one at each lead up to the number of lines; `number_is`, `number_level_at`, `number_lead_at`,
--   `number_below` the line of that number has this level and this lead.
use mathlib.Core.Path.{◌≡◌, refl, sym, ap, ◌∙◌}
use mathlib.Core.Bool.{Bool, true, false}
use mathlib.Core.List.{List, [], ◌∷◌, ◌++◌, append_assoc, append-nil}
use Prim.Native.Nat.{ℕ, zero, suc, ◌+◌, ◌-◌, ◌*◌, ◌/◌, ◌%◌, ◌≤◌, ◌<◌}
use native.Mathlib.Nat.{zero-add, add-zero, suc-add}
use native.Mathlib.Omega.{arith}
use lib.Arith.{digits_mod, digits_div}
use lib.ListN.{length, get_or, take, drop, length-append}
use lib.Seq.{take-suc, take-length, split_at, get_or-append-add}
use Rattle.tally.proofs.Test.{by_test}
use Rattle.matte.specs.Layout.{Layout}
use Rattle.matte.specs.Picture.{Picture, size}
use Rattle.outline.specs.Line.{is_lead}
use Rattle.enclosure.specs.Tree.{lead_words, firsts, line_count, level_at, lead_at}
use Rattle.enclosure.proofs.Firsts.{lead_yes, lead_no}

leads_cut : (p : ℕ → Bool) (b i m n : ℕ) → lead_words p b i (m + n) ≡ lead_words p b i m ++ lead_words p b (i + m) n
unfolding lead_words
leads_cut p b i zero n = rw (zero-add n, add-zero i)
leads_cut p b i (suc m) n =
    let s : suc i + m ≡ i + suc m = omega arith in
    let r : lead_words p b (suc i) (m + n) ≡ lead_words p b (suc i) m ++ lead_words p b (i + suc m) n =
    leads_cut p b (suc i) m n ∙ ap (λ (z : ℕ). lead_words p b (suc i) m ++ lead_words p b z n) s in
    ap (lead_words p b i) (suc-add m n)
    ∙ by_test (p i)
    (λ e. lead_yes p b i (m + n) e ∙ ap (λ (l : List ℕ). (b + 2 * i) ∷ l) r ∙ ap (λ (l : List ℕ). l ++ lead_words p b (i + suc m) n) (sym (lead_yes p b i m e)))
    (λ e. lead_no p b i (m + n) e ∙ r ∙ ap (λ (l : List ℕ). l ++ lead_words p b (i + suc m) n) (sym (lead_no p b i m e)))

module _ (L : Layout) (P : Picture) where
  -- the leads of level k at places below p
  abbrev leads_to : ℕ → ℕ → List ℕ
  leads_to k p = lead_words (λ i. is_lead P k (2 * i)) (k * L.codes) 0 p

  -- from place p on
  abbrev leads_from : ℕ → ℕ → ℕ → List ℕ
  leads_from k p m = lead_words (λ i. is_lead P k (2 * i)) (k * L.codes) p m

  firsts_append : (ks js : List ℕ) → firsts L P (ks ++ js) ≡ firsts L P ks ++ firsts L P js
  unfolding firsts
  firsts_append [] js = refl
  firsts_append (k ∷ ks) js =
      ap (λ (z : List ℕ). leads_to k (size P) ++ z) (firsts_append ks js) ∙ sym (append_assoc (leads_to k (size P)) (firsts L P ks) (firsts L P js))

  step_yes : (k p : ℕ) → is_lead P k (2 * p) ≡ true → leads_to k (suc p) ≡ leads_to k p ++ ((k * L.codes + 2 * p) ∷ [])
  unfolding lead_words
  step_yes k p e =
      let s : suc p ≡ p + 1 = omega arith in
      ap (leads_to k) s
      ∙ leads_cut (λ i. is_lead P k (2 * i)) (k * L.codes) 0 p 1
      ∙ ap (λ (l : List ℕ). leads_to k p ++ l) (ap (λ (z : ℕ). leads_from k z 1) (zero-add p) ∙ lead_yes (λ i. is_lead P k (2 * i)) (k * L.codes) p 0 e)

  step_no : (k p : ℕ) → is_lead P k (2 * p) ≡ false → leads_to k (suc p) ≡ leads_to k p
  unfolding lead_words
  step_no k p e =
      let s : suc p ≡ p + 1 = omega arith in
      ap (leads_to k) s
      ∙ leads_cut (λ i. is_lead P k (2 * i)) (k * L.codes) 0 p 1
      ∙ ap (λ (l : List ℕ). leads_to k p ++ l) (ap (λ (z : ℕ). leads_from k z 1) (zero-add p) ∙ lead_no (λ i. is_lead P k (2 * i)) (k * L.codes) p 0 e)
      ∙ append-nil (leads_to k p)

  module _ (ks : List ℕ) where
    unfoldable pub number_at : ℕ → ℕ → ℕ
    number_at n p = length (firsts L P (take n ks)) + length (leads_to (get_or ks n 0) p)

    pub number_start : number_at 0 0 ≡ 0
    unfolding number_at firsts lead_words
    number_start = refl

    pub number_line : (n p : ℕ) → is_lead P (get_or ks n 0) (2 * p) ≡ true → number_at n (suc p) ≡ suc (number_at n p)
    unfolding number_at
    number_line n p e =
        let k = get_or ks n 0 in
        omega (arith, ap length (step_yes k p e), length-append (leads_to k p) ((k * L.codes + 2 * p) ∷ []))

    pub number_skip : (n p : ℕ) → is_lead P (get_or ks n 0) (2 * p) ≡ false → number_at n (suc p) ≡ number_at n p
    unfolding number_at
    number_skip n p e = ap (λ (l : List ℕ). length (firsts L P (take n ks)) + length l) (step_no (get_or ks n 0) p e)

    pub number_level : (n : ℕ) → n < length ks → number_at n (size P) ≡ number_at (suc n) 0
    unfolding number_at firsts lead_words
    number_level n h =
        let k = get_or ks n 0 in
        let l = leads_to k (size P) in
        let t : firsts L P (take (suc n) ks) ≡ firsts L P (take n ks) ++ l =
        ap (firsts L P) (take-suc ks n 0 h) ∙ firsts_append (take n ks) (k ∷ []) ∙ ap (λ (z : List ℕ). firsts L P (take n ks) ++ z) (append-nil l) in
        omega (arith, ap length t, length-append (firsts L P (take n ks)) l)

    pub number_end : number_at (length ks) 0 ≡ line_count L P ks
    unfolding number_at lead_words
    number_end = let e : length (firsts L P (take (length ks) ks)) ≡ length (firsts L P ks) = ap (λ (z : List ℕ). length (firsts L P z)) (take-length ks) in omega arith

    -- the line that leads at place p of level n has this number
    module _ (n p : ℕ) (h : n < length ks) (q : p < size P) (e : is_lead P (get_or ks n 0) (2 * p) ≡ true) where
      abbrev k : ℕ
      k = get_or ks n 0

      abbrev after : List ℕ
      after = leads_from k (suc p) (size P - suc p) ++ firsts L P (drop (suc n) ks)

      whole : firsts L P ks ≡ firsts L P (take n ks) ++ (leads_to k p ++ ((k * L.codes + 2 * p) ∷ after))
      unfolding firsts
      whole =
          let s : size P ≡ p + suc (size P - suc p) = omega arith in
          let l : leads_to k (size P) ≡ leads_to k p ++ ((k * L.codes + 2 * p) ∷ leads_from k (suc p) (size P - suc p)) =
          ap (leads_to k) s
          ∙ leads_cut (λ i. is_lead P k (2 * i)) (k * L.codes) 0 p (suc (size P - suc p))
          ∙ ap (λ (z : List ℕ). leads_to k p ++ z)
          (ap (λ (z : ℕ). leads_from k z (suc (size P - suc p))) (zero-add p) ∙ lead_yes (λ i. is_lead P k (2 * i)) (k * L.codes) p (size P - suc p) e) in
          ap (firsts L P) (split_at ks n 0 h)
          ∙ firsts_append (take n ks) (k ∷ drop (suc n) ks)
          ∙ ap (λ (z : List ℕ). firsts L P (take n ks) ++ (z ++ firsts L P (drop (suc n) ks))) l
          ∙ ap (λ (z : List ℕ). firsts L P (take n ks) ++ z)
          (append_assoc (leads_to k p) ((k * L.codes + 2 * p) ∷ leads_from k (suc p) (size P - suc p)) (firsts L P (drop (suc n) ks)))

      pub number_is : get_or (firsts L P ks) (number_at n p) 0 ≡ get_or ks n 0 * L.codes + 2 * p
      unfolding number_at
      number_is =
          let x = (k * L.codes + 2 * p) ∷ after in
          let z : length (leads_to k p) ≡ length (leads_to k p) + 0 = omega arith in
          ap (λ (l : List ℕ). get_or l (length (firsts L P (take n ks)) + length (leads_to k p)) 0) whole
          ∙ get_or-append-add (firsts L P (take n ks)) (leads_to k p ++ x) (length (leads_to k p)) 0
          ∙ ap (λ (i : ℕ). get_or (leads_to k p ++ x) i 0) z
          ∙ get_or-append-add (leads_to k p) x 0 0

      pub number_below : number_at n p < line_count L P ks
      unfolding number_at
      number_below =
          let x = (k * L.codes + 2 * p) ∷ after in
          omega (arith, ap length whole, length-append (firsts L P (take n ks)) (leads_to k p ++ x), length-append (leads_to k p) x)

      module _ (r : 2 * size P ≤ L.codes) where
        pub number_level_at : level_at L P ks (number_at n p) ≡ get_or ks n 0
        unfolding level_at
        number_level_at = let s : 2 * p < L.codes = omega arith in ap (λ (z : ℕ). z / L.codes) number_is ∙ digits_div k s

        pub number_lead_at : lead_at L P ks (number_at n p) ≡ 2 * p
        unfolding lead_at
        number_lead_at = let s : 2 * p < L.codes = omega arith in ap (λ (z : ℕ). z % L.codes) number_is ∙ digits_mod k s
