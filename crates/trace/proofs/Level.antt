-- One level: the loop that finds each lead and follows its line. Assumes nothing.
-- Definitions: `At` what holds at a place before the next lead is looked for; `Scanning` the loop's invariant, where the place leads or the last row is reached; `Done` what the loop leaves.
-- Main laws: `words_grow` words only get more; `words_most` within a level's; `mark_all_low` marks stay low; `paste_none` pasting nothing; `at_begin`, `to_lead`, `at_line`, `lead_here`, `line_room`, `at_end` the loop's moves; `line_passed` no place up to a line that was followed is fresh; `none_left` no line begins on the last row.
use mathlib.Core.Path.{◌≡◌, refl, sym, ap, ◌∙◌}
use mathlib.Core.Bool.{true, false}
use mathlib.Core.List.{List, [], ◌∷◌, ◌++◌, append-nil}
use Prim.Native.Nat.{ℕ, zero, suc, ◌+◌, ◌-◌, ◌*◌, ◌≤◌, ◌<◌}
use native.Mathlib.Omega.{arith}
use lib.Dec.{eqb, ltb}
use lib.ListN.{length, take, drop, get_or, length-append, take-append-drop}
use lib.Seq.{get_or-set_same, get_or-set_other, set_out}
use borrow.Author.Tests.{eqb-true, eqb-false, ltb-true, ltb-false}
use Rattle.tally.specs.Tally.{count, first_from}
use Rattle.tally.proofs.Test.{by_test}
use Rattle.tally.proofs.First.{from_ge, from_le, from_before, from_passes}
use Rattle.matte.specs.Layout.{Layout}
use Rattle.matte.specs.Picture.{Picture, size}
use Rattle.edgel.specs.Edgel.{horizontal, first}
use Rattle.outline.specs.Line.{cut_at, line, is_lead, lines}
use Rattle.outline.specs.List.{encode, level_words}
use Rattle.outline.proofs.Border.{Border}
use Rattle.outline.proofs.Bytes.{marked, mark, mark_all, mark_all_length, mark_past}
use Rattle.outline.proofs.Places.{Scanned, marks_begin, place_line, line_cut, lead_cut}
use Rattle.outline.proofs.Growing.{lines_to, words_to, lines_none, lines_one, lines_skip, lines_whole, words_none, words_line, words_skip, words_whole}
use Rattle.outline.proofs.Words.{encode_length}
use Rattle.trace.specs.declared.scan.Written.{Written}
use Rattle.refuse.specs.Shape.{Ground}
use Rattle.follow.specs.Words.{upper, pasted}
use Rattle.seek.specs.Search.{fresh, Stale}
use Rattle.trace.specs.Level.{Worn}
use Rattle.count.proofs.Flat.{border_of, cut_above}
use Rattle.trace.proofs.Scanning.{own, own_not, own_self, paste_on, fresh_lead, passed, over}

-- ---- marks
mark_low : (v n : ℕ) (bytes : List ℕ) (c : ℕ) → ((i : ℕ) → i < n → get_or bytes i 0 ≤ v) → (i : ℕ) → i < n → get_or (mark v bytes c) i 0 ≤ v
unfolding mark
mark_low v n bytes c q i h =
    by_test (horizontal c)
    (λ e. rw e
    (by_test (eqb i (first c))
    (λ t. by_test (ltb i (length bytes))
    (λ u.
    let s : first c ≡ i = sym (eqb-true i (first c) t) in
    rw (s, get_or-set_same bytes i v 0 (ltb-true i (length bytes) u)) (omega arith))
    (λ u.
    let s : first c ≡ i = sym (eqb-true i (first c) t) in
    rw (s, set_out bytes i v (ltb-false i (length bytes) u)) (q i h)))
    (λ t. rw (get_or-set_other bytes (first c) i v 0 (eqb-false i (first c) t)) (q i h))))
    (λ e. rw e (q i h))

pub mark_all_low : (v n : ℕ) (bytes l : List ℕ) → ((i : ℕ) → i < n → get_or bytes i 0 ≤ v) → (i : ℕ) → i < n → get_or (mark_all v bytes l) i 0 ≤ v
unfolding mark_all
mark_all_low v n bytes [] q = q
mark_all_low v n bytes (c ∷ l) q = mark_all_low v n (mark v bytes c) l (mark_low v n bytes c q)

pub paste_none : (d : List ℕ) (n : ℕ) → d ≡ pasted d n []
paste_none d n =
    let s : n + 0 ≡ n = omega arith in
    sym (ap (λ (z : ℕ). take n d ++ [] ++ drop z d) s ∙ ap (λ (l : List ℕ). l ++ drop n d) (append-nil (take n d)) ∙ take-append-drop n d)

module _ (P : Picture) (G : Ground P) (k : ℕ) (L : Layout) where
  abbrev B : Border P
  B = border_of P G

  abbrev W : ℕ → List ℕ
  W = words_to P k L

  -- ---- words only get more
  one_more : (i : ℕ) → length (W i) ≤ length (W (suc i))
  one_more i =
      by_test (is_lead P k (2 * i))
      (λ e. omega (arith, ap length (words_line P k L i e), length-append (W i) (encode L k true (line P k (2 * i)))))
      (λ e. omega (arith, ap length (words_skip P k L i e)))

  pub words_grow : (i n : ℕ) → length (W i) ≤ length (W (i + n))
  words_grow i zero = let s : i + 0 ≡ i = omega arith in rw s (omega arith)
  words_grow i (suc n) =
      let s : i + suc n ≡ suc (i + n) = omega arith in
      rw s (omega (arith, words_grow i n, one_more (i + n)))

  pub words_most : (i : ℕ) → i ≤ size P → length (W i) ≤ length (level_words L k (lines P k))
  words_most i h =
      let s : i + (size P - i) ≡ size P = omega arith in
      omega (arith, words_grow i (size P - i), ap (λ (z : ℕ). length (W z)) s, ap length (words_whole P k L))

  -- on the last row no line begins
  none_left : (p n : ℕ) → upper P ≤ p → (W (p + n) ≡ W p) × (lines_to P k (p + n) ≡ lines_to P k p)
  none_left p zero h = let s : p + 0 ≡ p = omega arith in (ap W s, ap (lines_to P k) s)
  none_left p (suc n) h =
      let s : p + suc n ≡ suc (p + n) = omega arith in
      let r = none_left p n h in
      let e : is_lead P k (2 * (p + n)) ≡ false =
      by_test (is_lead P k (2 * (p + n)))
      (λ t. absurd (omega (arith, cut_above P G k (2 * (p + n)) (lead_cut P B k (2 * (p + n)) t))))
      (λ t. t) in
      (ap W s ∙ words_skip P k L (p + n) e ∙ r.0, ap (lines_to P k) s ∙ lines_skip P k (p + n) e ∙ r.1)

  module _ (v from lines₀ : ℕ) (work₀ words₀ : List ℕ) (wide : upper P ≤ length work₀) (room : from + length (level_words L k (lines P k)) ≤ length words₀) where
    pub record At (p : ℕ) (s : Written) (work words : List ℕ) : Type 0 where
      pub inside : p ≤ upper P
      pub scanned : Scanned P B k p (marked (own v) work)
      pub told : words ≡ pasted words₀ from (W p)
      pub words_so : s.words ≡ from + length (W p)
      pub lines_so : s.lines ≡ lines₀ + length (lines_to P k p)
      pub worn : Worn (upper P) v work₀ work

    pub record Scanning (p : ℕ) (s : Written) (work words : List ℕ) : Type 0 where
      pub stand : At p s work words
      pub leads : p < upper P → is_lead P k (2 * p) ≡ true

    pub at_begin : ((i : ℕ) → i < upper P → get_or work₀ i 0 < v) → (s : Written) → s.words ≡ from → s.lines ≡ lines₀ → At 0 s work₀ words₀
    at_begin q s e f =
        record {
          inside = omega arith;
          scanned = marks_begin P B k (marked (own v) work₀) (λ d o h. own_not v work₀ d (q (first d) (omega (arith, cut_above P G k d o))));
          told = paste_none words₀ from ∙ ap (pasted words₀ from) (sym (words_none P k L));
          words_so = omega (arith, ap length (words_none P k L));
          lines_so = omega (arith, ap length (lines_none P k));
          worn = record { long = refl; low = λ i h. omega (arith, q i h); rest = refl };
        }

    -- over the places that are not fresh, to the next lead or the last row
    pub to_lead : (i r : ℕ) (s : Written) (work words : List ℕ) → At i s work words → r ≡ first_from (fresh P.px work k v) i (upper P - i) → Scanning r s work words
    to_lead i r s work words A e =
        let F = fresh P.px work k v in
        let n = upper P - i in
        let f = first_from F i n in
        let g : i ≤ f = from_ge F i n in
        let h : f ≤ i + n = from_le F i n in
        let u : i + (f - i) ≡ f = omega arith in
        let S = over P G k v work L i (f - i) A.scanned (λ j a b. from_before F i n j a (omega arith)) in
        let M : Scanned P B k f (marked (own v) work) = rw u at S.scanned in
        rw e
        (record {
          stand = record {
            inside = omega (arith, A.inside);
            scanned = M;
            told = A.told ∙ ap (pasted words₀ from) (sym S.words_same ∙ ap W u);
            words_so = A.words_so ∙ ap (λ (l : List ℕ). from + length l) (sym S.words_same ∙ ap W u);
            lines_so = A.lines_so ∙ ap (λ (l : List (List ℕ)). lines₀ + length l) (sym S.lines_same ∙ ap (lines_to P k) u);
            worn = A.worn;
          };
          leads = λ t. fresh_lead P G k v work f (omega (arith, G.sides.w_least)) M (from_passes F i n (omega (arith, A.inside)));
        })

    module _ (p : ℕ) (s : Written) (work words : List ℕ) (Z : Scanning p s work words) (t : p < upper P) where
      lead : is_lead P k (2 * p) ≡ true
      lead = Z.leads t

      pub lead_here : cut_at P k (2 * p) ≡ true
      lead_here = lead_cut P B k (2 * p) lead

      in_upper : (c : ℕ) → 0 < count c (line P k (2 * p)) → c < 2 * upper P
      in_upper c h = cut_above P G k c (line_cut P B k (2 * p) c lead_here h)

      next_words : W (suc p) ≡ W p ++ encode L k true (line P k (2 * p))
      next_words = words_line P k L p lead

      pub line_room : s.words + length (line P k (2 * p)) ≤ length words₀
      line_room =
          omega (arith, Z.stand.words_so, ap length next_words, length-append (W p) (encode L k true (line P k (2 * p))), encode_length L k true (line P k (2 * p)), words_most (suc p) (omega arith))

      line_scanned : (work' : List ℕ) → work' ≡ mark_all v work (line P k (2 * p)) → Scanned P B k (suc p) (marked (own v) work')
      line_scanned work' u = rw u (place_line P B k (own v) v (own_self v) p work (λ c h. omega (arith, in_upper c h, wide, Z.stand.worn.long)) Z.stand.scanned lead)

      pub line_passed : (work' : List ℕ) → work' ≡ mark_all v work (line P k (2 * p)) → Stale P.px work' k v 0 (p + 1)
      line_passed work' u j g h = passed P G k v work' (suc p) (line_scanned work' u) j (omega (arith, G.sides.w_least)) (omega arith)

      pub at_line : (s' : Written) (work' words' : List ℕ) → s'.words ≡ s.words + length (line P k (2 * p)) → s'.lines ≡ s.lines + 1
          → work' ≡ mark_all v work (line P k (2 * p)) → words' ≡ pasted words s.words (encode L k true (line P k (2 * p))) → At (p + 1) s' work' words'
      at_line s' work' words' a b u x =
          let y : p + 1 ≡ suc p = omega arith in
          let ls = ap length (lines_one P k p lead) in
          rw y
          (record {
            inside = omega arith;
            scanned = line_scanned work' u;
            told = x
                ∙ ap (λ (l : List ℕ). pasted l s.words (encode L k true (line P k (2 * p)))) Z.stand.told
                ∙ paste_on words₀ from s.words (W p) (encode L k true (line P k (2 * p))) Z.stand.words_so (omega (arith, line_room))
                ∙ ap (pasted words₀ from) (sym next_words);
            words_so = omega (arith, a, Z.stand.words_so, ap length next_words, length-append (W p) (encode L k true (line P k (2 * p))), encode_length L k true (line P k (2 * p)));
            lines_so = omega (arith, b, Z.stand.lines_so, ls, lib.ListN.length-append (lines_to P k p) (line P k (2 * p) ∷ []));
            worn = record {
              long = ap length u ∙ mark_all_length v work (line P k (2 * p)) ∙ Z.stand.worn.long;
              low = λ i h. rw u (mark_all_low v (upper P) work (line P k (2 * p)) Z.stand.worn.low i h);
              rest = ap (drop (upper P)) u
                  ∙ mark_past v work (line P k (2 * p)) (upper P) in_upper
                  ∙ Z.stand.worn.rest;
            };
          })

    pub record Done (s : Written) (work words : List ℕ) : Type 0 where
      pub words_are : s.words ≡ from + length (level_words L k (lines P k))
      pub lines_are : s.lines ≡ lines₀ + length (lines P k)
      pub all : words ≡ pasted words₀ from (level_words L k (lines P k))
      pub worn : Worn (upper P) v work₀ work

    pub at_end : (p : ℕ) (s : Written) (work words : List ℕ) → Scanning p s work words → upper P ≤ p → Done s work words
    at_end p s work words Z h =
        let y : p + (size P - p) ≡ size P = omega (arith, Z.stand.inside) in
        let e : (W (p + (size P - p)) ≡ W p) × (lines_to P k (p + (size P - p)) ≡ lines_to P k p) = none_left p (size P - p) h in
        let a : W p ≡ level_words L k (lines P k) = sym e.0 ∙ ap W y ∙ words_whole P k L in
        let b : lines_to P k p ≡ lines P k = sym e.1 ∙ ap (lines_to P k) y ∙ lines_whole P k in
        record {
          words_are = Z.stand.words_so ∙ ap (λ (l : List ℕ). from + length l) a;
          lines_are = Z.stand.lines_so ∙ ap (λ (l : List (List ℕ)). lines₀ + length l) b;
          all = Z.stand.told ∙ ap (pasted words₀ from) a;
          worn = Z.stand.worn;
        }
