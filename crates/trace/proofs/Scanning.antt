-- Places of one level that are fresh, and those that are not. Assumes nothing.
-- Definitions: `own` the byte is the mark v; `Stand` what is unchanged at a later place.
-- Main laws: `paste_on` pasting behind what was pasted; `own_self`, `own_not`; `fresh_lead` a fresh place leads, `stale` one that
--   is not fresh does not; `passed` no place behind is fresh; `over` from a place over those that are not fresh.
use mathlib.Core.Path.{◌≡◌, refl, sym, ap, ◌∙◌}
use mathlib.Core.Bool.{Bool, true, false, not}
use mathlib.Core.List.{List, ◌++◌, append_assoc}
use Prim.Native.Nat.{ℕ, zero, suc, ◌+◌, ◌*◌, ◌/◌, ◌≤◌, ◌<◌}
use native.Mathlib.Omega.{arith}
use lib.Dec.{eqb}
use lib.ListN.{length, take, drop, get_or, length-append}
use lib.Seq.{take_at, drop-append-add, length-take-le}
use borrow.Author.Tests.{eq-eqb, ne_eqb}
use Rattle.tally.specs.Tally.{differ}
use Rattle.tally.proofs.Test.{by_test, no, and_1, and_2, both}
use Rattle.matte.specs.Layout.{Layout}
use Rattle.matte.specs.Picture.{Picture, size, high}
use Rattle.edgel.specs.Edgel.{first}
use Rattle.outline.specs.Line.{cut_at, is_lead}
use Rattle.outline.proofs.Border.{Border}
use Rattle.outline.proofs.Bytes.{marked}
use Rattle.outline.proofs.Places.{Scanned, place_tell, place_skip, place_past, lead_cut}
use Rattle.outline.proofs.Growing.{lines_to, words_to, lines_skip, words_skip}
use Rattle.refuse.specs.Shape.{Ground}
use Rattle.follow.specs.Words.{pasted}
use Rattle.seek.specs.Search.{fresh}
use Rattle.count.proofs.Flat.{border_of, crossed_cut, cut_crossed}

-- ---- pasting
pub paste_on : (d : List ℕ) (n m : ℕ) (f g : List ℕ) → m ≡ n + length f → m ≤ length d → pasted (pasted d n f) m g ≡ pasted d n (f ++ g)
paste_on d n m f g e h =
    let a : length (take n d ++ f) ≡ m = length-append (take n d) f ∙ ap (λ (z : ℕ). z + length f) (length-take-le n d (omega arith)) ∙ sym e in
    let t : take m (pasted d n f) ≡ take n d ++ f = take_at (take n d ++ f) (drop (n + length f) d) m a in
    let u : drop (m + length g) (pasted d n f) ≡ drop (length g) (drop (n + length f) d) =
    ap (λ (z : ℕ). drop (z + length g) (pasted d n f)) (sym a) ∙ drop-append-add (take n d ++ f) (drop (n + length f) d) (length g) in
    let v : n + length f + length g ≡ n + length (f ++ g) = omega (arith, length-append f g) in
    ap (λ (l : List ℕ). l ++ g ++ drop (m + length g) (pasted d n f)) t
    ∙ ap (λ (l : List ℕ). take n d ++ f ++ g ++ l) (u ∙ lib.Seq.drop-drop (length g) (n + length f) d ∙ ap (λ (z : ℕ). drop z d) v)
    ∙ ap (λ (l : List ℕ). l ++ drop (n + length (f ++ g)) d) (append_assoc (take n d) f g)

-- ---- fresh places
unfoldable pub own : ℕ → ℕ → Bool
own v b = eqb b v

pub own_self : (v : ℕ) → own v v ≡ true
unfolding own
own_self v = eq-eqb v v refl

pub own_not : (v : ℕ) (work : List ℕ) (d : ℕ) → get_or work (first d) 0 < v → marked (own v) work d ≡ false
unfolding own marked
own_not v work d h = ne_eqb (get_or work (first d) 0) v (λ e. omega arith)

module _ (P : Picture) (G : Ground P) (k v : ℕ) where
  abbrev B : Border P
  B = border_of P G

  module _ (work : List ℕ) where
    abbrev m : ℕ → Bool
    m = marked (own v) work

    mark_is : (i : ℕ) → m (2 * i) ≡ eqb (get_or work i 0) v
    unfolding marked own
    mark_is i = let s : 2 * i / 2 ≡ i = omega arith in ap (λ (z : ℕ). eqb (get_or work z 0) v) s

    pub fresh_lead : (i : ℕ) → i + 1 < size P → Scanned P B k i m → fresh P.px work k v i ≡ true → is_lead P k (2 * i) ≡ true
    fresh_lead i l M e =
        let o : cut_at P k (2 * i) ≡ true = crossed_cut P G k i l (and_1 _ _ e) in
        sym (place_tell P B k i m M o) ∙ ap not (mark_is i) ∙ and_2 (differ (high P k i) (high P k (i + 1))) _ e

    pub stale : (i : ℕ) → Scanned P B k i m → fresh P.px work k v i ≡ false → is_lead P k (2 * i) ≡ false
    stale i M e =
        by_test (is_lead P k (2 * i))
        (λ t.
        let o : cut_at P k (2 * i) ≡ true = lead_cut P B k (2 * i) t in
        no (both (cut_crossed P G k i o).1 (sym (ap not (mark_is i)) ∙ place_tell P B k i m M o ∙ t)) e)
        (λ t. t)

    -- no place behind is fresh
    pub passed : (i : ℕ) → Scanned P B k i m → (j : ℕ) → j + 1 < size P → j < i → fresh P.px work k v j ≡ false
    passed i M j l h =
        by_test (fresh P.px work k v j)
        (λ e.
        let o : cut_at P k (2 * j) ≡ true = crossed_cut P G k j l (and_1 _ _ e) in
        no (and_2 (differ (high P k j) (high P k (j + 1))) _ e) (ap not (sym (mark_is j) ∙ place_past P B k i m M j o h)))
        (λ e. e)

    -- from a place over those that are not fresh
    module _ (L : Layout) where
      pub record Stand (i j : ℕ) : Type 0 where
        pub scanned : Scanned P B k j m
        pub lines_same : lines_to P k j ≡ lines_to P k i
        pub words_same : words_to P k L j ≡ words_to P k L i

      pub over : (i n : ℕ) → Scanned P B k i m → ((j : ℕ) → i ≤ j → j < i + n → fresh P.px work k v j ≡ false) → Stand i (i + n)
      over i zero M q = let s : i + 0 ≡ i = omega arith in rw s (record { scanned = M; lines_same = refl; words_same = refl })
      over i (suc n) M q =
          let S = over i n M (λ j a b. q j a (omega arith)) in
          let s : i + suc n ≡ suc (i + n) = omega arith in
          let e : is_lead P k (2 * (i + n)) ≡ false = stale (i + n) S.scanned (q (i + n) (omega arith) (omega arith)) in
          rw s
          (record {
            scanned = place_skip P B k (i + n) m S.scanned e;
            lines_same = lines_skip P k (i + n) e ∙ S.lines_same;
            words_same = words_skip P k L (i + n) e ∙ S.words_same;
          })
