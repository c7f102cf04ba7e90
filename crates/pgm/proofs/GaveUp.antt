-- Where the header gives up is the place that the paper asks for. Assumes nothing.
-- Definitions: `Mendable` other bytes from there on could have made a header; `Never` with the byte that stands there nothing could; `GaveUp` the place is an early end, the first such byte, or the first byte of an unfit maximum.
-- Main laws: `gave_up` every header that is refused gave up at such a place; `cut`, `cut_more` a file up to a byte.
use mathlib.Core.Path.{◌≡◌, refl, sym, ap, ◌∙◌, subst}
use mathlib.Core.Bool.{true, false, ◌&&◌}
use mathlib.Core.List.{List, [], ◌∷◌, ◌++◌, append_assoc}
use Prim.Native.Nat.{ℕ, suc, ◌+◌, ◌≤◌, ◌<◌}
use native.Mathlib.Omega.{arith}
use lib.Dec.{eqb, leb}
use lib.ListN.{length, get_or, drop, take, length-append}
use lib.Seq.{take-append_seam, take-append-add, get_or-append_seam, drop-append_seam, drop-drop}
use borrow.Author.Tests.{eqb-true, eqb-false, le-leb, leb-true}
use Rattle.tally.proofs.Test.{by_test, no, both, and_1, and_2}
use Rattle.form.specs.Reader.{is_digit}
use Rattle.form.proofs.Exact.{seam}
use Rattle.pgm.specs.Reader.{HeadRead}
use Rattle.pgm.specs.Grammar.{is_white, in_gap, is_number, value, Fields}
use Rattle.pgm.specs.Reader.{stop, is_form, fields_from, headed, head_of}
use Rattle.pgm.proofs.Bytes.{gap_no_digit}
use Rattle.pgm.proofs.Header.{magic_0, magic_1, magic_2, magic_read, unfit, bare, headed_done, missing, three}
use Rattle.pgm.proofs.Takes.{FieldsSplit, fields_sound, fields_complete}
use Rattle.pgm.proofs.Exact.{head_complete, letter_of, list_3, gone}
use Rattle.pgm.proofs.Places.{ones, ones_fields, Stuck, fields_stuck, LastSplit, last_split, same_first}

-- some bytes after the first p make a header of them
pub record Mendable (s : List ℕ) (p : ℕ) : Type 0 where
  pub more : List ℕ
  pub header : (head_of (take p s ++ more)).ok ≡ true

-- none after the first p + 1 do
abbrev pub Never : List ℕ → ℕ → Type 0
Never s p = (more : List ℕ) → (head_of (take (p + 1) s ++ more)).ok ≡ false

pub data GaveUp : List ℕ → ℕ → Type 0 where
  early : {s : List ℕ} {p : ℕ} → p ≡ length s → Mendable s p → GaveUp s p
  wrong : {s : List ℕ} {p : ℕ} → p < length s → Mendable s p → Never s p → GaveUp s p
  too_large : {s : List ℕ} {p : ℕ} (d t : List ℕ) → drop p s ≡ d ++ t → is_number d ≡ true → is_digit (get_or t 0 0) ≡ false → (leb 1 (value d) && leb (value d) 255) ≡ false → Mendable s p
      → GaveUp s p

-- ---- a file up to a byte
module _ (a b : ℕ) (x : List ℕ) where
  cut_two : (n : ℕ) (l : List ℕ) → take (2 + n) (a ∷ b ∷ l) ≡ a ∷ b ∷ take n l
  cut_two n l = let e : 2 + n ≡ suc (suc n) = omega arith in ap (λ (z : ℕ). take z (a ∷ b ∷ l)) e

  pub cut : (y more : List ℕ) → take (2 + length x) (a ∷ b ∷ (x ++ y)) ++ more ≡ a ∷ b ∷ (x ++ more)
  cut y more = ap (λ (z : List ℕ). z ++ more) (cut_two (length x) (x ++ y) ∙ ap (λ (z : List ℕ). a ∷ b ∷ z) (take-append_seam x y))

  pub cut_more : (d : ℕ) (y more : List ℕ) → take (2 + length x + 1) (a ∷ b ∷ (x ++ (d ∷ y))) ++ more ≡ a ∷ b ∷ (x ++ (d ∷ more))
  cut_more d y more =
      let e : 2 + length x + 1 ≡ 2 + (length x + 1) = omega arith in
      ap (λ (z : ℕ). take z (a ∷ b ∷ (x ++ (d ∷ y))) ++ more) e
      ∙ ap (λ (z : List ℕ). z ++ more) (cut_two (length x + 1) (x ++ (d ∷ y)) ∙ ap (λ (z : List ℕ). a ∷ b ∷ z) (take-append-add x (d ∷ y) 1))
      ∙ ap (λ (z : List ℕ). a ∷ b ∷ z) (append_assoc x (d ∷ []) more)

-- a header from its numbers
made : (a b w h m : ℕ) (x more : List ℕ) → a ≡ 80 → is_form b ≡ true → Fields (w ∷ h ∷ m ∷ []) x → 1 ≤ m → m ≤ 255 → (head_of (a ∷ b ∷ (x ++ (10 ∷ more)))).ok ≡ true
made a b w h m x more e f r l k =
    ap (λ (z : ℕ). (head_of (z ∷ b ∷ (x ++ (10 ∷ more)))).ok) e ∙ ap (λ (z : ℕ). (head_of (80 ∷ z ∷ (x ++ (10 ∷ more)))).ok) (letter_of b f)
    ∙ ap (λ (z : HeadRead). z.ok) (head_complete (eqb b 50) w h m 10 x more r refl l k)

off : {a : HeadRead} {p : ℕ} → a ≡ stop p → a.ok ≡ false
off e = ap (λ (z : HeadRead). z.ok) e

-- ---- the magic
mend_0 : (s : List ℕ) → Mendable s 0
mend_0 s = record { more = 80 ∷ 53 ∷ (ones 3 ++ (10 ∷ [])); header = made 80 53 1 1 1 (ones 3) [] refl refl (ones_fields 3) (omega arith) (omega arith) }

mend_1 : (a : ℕ) (l : List ℕ) → a ≡ 80 → Mendable (a ∷ l) 1
mend_1 a l e = record { more = 53 ∷ (ones 3 ++ (10 ∷ [])); header = made a 53 1 1 1 (ones 3) [] e refl (ones_fields 3) (omega arith) (omega arith) }

mend_2 : (a b : ℕ) (l : List ℕ) → a ≡ 80 → is_form b ≡ true → Mendable (a ∷ b ∷ l) 2
mend_2 a b l e f = record { more = ones 3 ++ (10 ∷ []); header = made a b 1 1 1 (ones 3) [] e f (ones_fields 3) (omega arith) (omega arith) }

-- ---- a number is missing
stuck_head : (a b : ℕ) (l : List ℕ) → a ≡ 80 → is_form b ≡ true → in_gap false (get_or l 0 0) ≡ true → (p : ℕ) → Stuck (a ∷ b ∷ l) 3 2 l p → GaveUp (a ∷ b ∷ l) p
stuck_head a b l e f i p c =
    let s : List ℕ = a ∷ b ∷ l in
    let v = list_3 c.ws c.many in
    let r : Fields (get_or c.ws 0 0 ∷ get_or c.ws 1 0 ∷ 1 ∷ []) (c.x ++ c.z) =
    subst (λ (z : List ℕ). Fields z (c.x ++ c.z)) (v ∙ ap (λ (z : ℕ). get_or c.ws 0 0 ∷ get_or c.ws 1 0 ∷ z ∷ []) c.last) c.mends in
    let m : Mendable s p =
    record {
      more = c.z ++ (10 ∷ []);
      header =
          ap (λ (z : ℕ). (head_of (take z s ++ (c.z ++ (10 ∷ [])))).ok) c.at
          ∙ ap (λ (z : List ℕ). (head_of (take (2 + length c.x) (a ∷ b ∷ z) ++ (c.z ++ (10 ∷ [])))).ok) c.is
          ∙ ap (λ (z : List ℕ). (head_of z).ok) (cut a b c.x c.y (c.z ++ (10 ∷ [])) ∙ ap (λ (z : List ℕ). a ∷ b ∷ z) (sym (append_assoc c.x c.z (10 ∷ []))))
          ∙ made a b (get_or c.ws 0 0) (get_or c.ws 1 0) 1 (c.x ++ c.z) [] e f r (omega arith) (omega arith);
    } in
    ends c.y refl m
  where
    ends : (y : List ℕ) → y ≡ c.y → Mendable (a ∷ b ∷ l) p → GaveUp (a ∷ b ∷ l) p
    ends [] q m = let n : p ≡ length (a ∷ b ∷ l) = omega (arith, c.at, ap length c.is, length-append c.x c.y, ap length q) in GaveUp.early n m
    ends (d ∷ t) q m =
        let n : p < length (a ∷ b ∷ l) = omega (arith, c.at, ap length c.is, length-append c.x c.y, ap length q) in
        GaveUp.wrong n m
        (λ more.
        let u = c.x ++ (d ∷ more) in
        let j : l ≡ c.x ++ (d ∷ t) = c.is ∙ ap (λ (z : List ℕ). c.x ++ z) (sym q) in
        let g : in_gap false (get_or u 0 0) ≡ true = ap (in_gap false) (same_first c.x d more t) ∙ ap (λ (z : List ℕ). in_gap false (get_or z 0 0)) (sym j) ∙ i in
        ap (λ (z : ℕ). (head_of (take (z + 1) (a ∷ b ∷ l) ++ more)).ok) c.at
        ∙ ap (λ (z : List ℕ). (head_of (take (2 + length c.x + 1) (a ∷ b ∷ z) ++ more)).ok) j
        ∙ ap (λ (z : List ℕ). (head_of z).ok) (cut_more a b c.x d t more)
        ∙ off (magic_read (a ∷ b ∷ u) e f g ∙ ap (headed (a ∷ b ∷ u)) (c.never d t (sym q) (a ∷ b ∷ u) [] 2 2 more refl) ∙ missing (a ∷ b ∷ u) (2 + length c.x) (2 + length c.x)))

-- ---- the white byte is missing
bare_head : (a b : ℕ) (l : List ℕ) → a ≡ 80 → is_form b ≡ true → in_gap false (get_or l 0 0) ≡ true → (w h m : ℕ) (r : FieldsSplit (a ∷ b ∷ l) 3 [] 2 2 l) → r.ws ≡ w ∷ h ∷ m ∷ []
    → 1 ≤ m → m ≤ 255 → is_white (get_or r.t 0 0) ≡ false → GaveUp (a ∷ b ∷ l) (2 + length r.x)
bare_head a b l e f i w h m r v lo hi n =
    let F : Fields (w ∷ h ∷ m ∷ []) r.x = subst (λ (z : List ℕ). Fields z r.x) v r.fields in
    ends r.t refl F
    (record {
      more = 10 ∷ [];
      header =
          ap (λ (z : List ℕ). (head_of (take (2 + length r.x) (a ∷ b ∷ z) ++ (10 ∷ []))).ok) r.is
          ∙ ap (λ (z : List ℕ). (head_of z).ok) (cut a b r.x r.t (10 ∷ []))
          ∙ made a b w h m r.x [] e f F lo hi;
    })
  where
    ends : (t : List ℕ) → t ≡ r.t → Fields (w ∷ h ∷ m ∷ []) r.x → Mendable (a ∷ b ∷ l) (2 + length r.x) → GaveUp (a ∷ b ∷ l) (2 + length r.x)
    ends [] q F k = let o : 2 + length r.x ≡ length (a ∷ b ∷ l) = omega (arith, ap length r.is, length-append r.x r.t, ap length q) in GaveUp.early o k
    ends (d ∷ t) q F k =
        let o : 2 + length r.x < length (a ∷ b ∷ l) = omega (arith, ap length r.is, length-append r.x r.t, ap length q) in
        GaveUp.wrong o k
        (λ more.
        let u : List ℕ = r.x ++ (d ∷ more) in
        let s : List ℕ = a ∷ b ∷ u in
        let j : l ≡ r.x ++ (d ∷ t) = r.is ∙ ap (λ (z : List ℕ). r.x ++ z) (sym q) in
        let g : in_gap false (get_or u 0 0) ≡ true = ap (in_gap false) (same_first r.x d more t) ∙ ap (λ (z : List ℕ). in_gap false (get_or z 0 0)) (sym j) ∙ i in
        let y = fields_complete s (d ∷ more) [] 2 2 F refl (ap (λ (z : List ℕ). is_digit (get_or z 0 0)) q ∙ r.stops) in
        let p : 2 + length r.x ≡ suc (suc (length r.x)) = omega arith in
        let c : is_white (get_or s (2 + length r.x) 0) ≡ false =
        ap (λ (z : ℕ). is_white (get_or s z 0)) p ∙ ap is_white (get_or-append_seam r.x d more 0) ∙ ap (λ (z : List ℕ). is_white (get_or z 0 0)) q ∙ n in
        ap (λ (z : List ℕ). (head_of (take (2 + length r.x + 1) (a ∷ b ∷ z) ++ more)).ok) j
        ∙ ap (λ (z : List ℕ). (head_of z).ok) (cut_more a b r.x d t more)
        ∙ off (magic_read s e f g ∙ ap (headed s) y.is ∙ bare s w h m y.first (2 + length r.x) (both (le-leb 1 m lo) (le-leb m 255 hi)) c))

-- ---- the maximum does not fit
unfit_head : (a b : ℕ) (l : List ℕ) → a ≡ 80 → is_form b ≡ true → (w h m p : ℕ) (r : LastSplit (a ∷ b ∷ l) 3 [] 2 2 l) → r.ws ++ (value r.d ∷ []) ≡ w ∷ h ∷ m ∷ []
    → p ≡ 2 + length r.x → (leb 1 m && leb m 255) ≡ false → GaveUp (a ∷ b ∷ l) p
unfit_head a b l e f w h m p r v n k =
    let s : List ℕ = a ∷ b ∷ l in
    let y : value r.d ≡ m = third r.ws (value r.d) r.many v in
    let F : Fields (get_or r.ws 0 0 ∷ get_or r.ws 1 0 ∷ 1 ∷ []) (r.x ++ (49 ∷ [])) = subst (λ (z : List ℕ). Fields z (r.x ++ (49 ∷ []))) (two r.ws r.many) r.mends in
    let o : drop p s ≡ r.d ++ r.t =
    ap (λ (z : ℕ). drop z s) n ∙ sym (drop-drop (length r.x) 2 s) ∙ ap (drop (length r.x)) r.is ∙ drop-append_seam r.x (r.d ++ r.t) in
    GaveUp.too_large r.d r.t o r.number r.stops (ap (λ (z : ℕ). leb 1 z && leb z 255) y ∙ k)
    (record {
      more = 49 ∷ 10 ∷ [];
      header =
          ap (λ (z : ℕ). (head_of (take z s ++ (49 ∷ 10 ∷ []))).ok) n
          ∙ ap (λ (z : List ℕ). (head_of (take (2 + length r.x) (a ∷ b ∷ z) ++ (49 ∷ 10 ∷ []))).ok) r.is
          ∙ ap (λ (z : List ℕ). (head_of z).ok) (cut a b r.x (r.d ++ r.t) (49 ∷ 10 ∷ []) ∙ ap (λ (z : List ℕ). a ∷ b ∷ z) (sym (append_assoc r.x (49 ∷ []) (10 ∷ []))))
          ∙ made a b (get_or r.ws 0 0) (get_or r.ws 1 0) 1 (r.x ++ (49 ∷ [])) [] e f F (omega arith) (omega arith);
    })
  where
    third : (ws : List ℕ) (u : ℕ) → suc (length ws) ≡ 3 → ws ++ (u ∷ []) ≡ w ∷ h ∷ m ∷ [] → u ≡ m
    third [] u q z = absurd (omega arith)
    third (x ∷ []) u q z = absurd (omega arith)
    third (x ∷ y ∷ []) u q z = ap (λ (z : List ℕ). get_or z 2 0) z
    third (x ∷ y ∷ d ∷ ws) u q z = absurd (omega arith)

    two : (ws : List ℕ) → suc (length ws) ≡ 3 → ws ++ (1 ∷ []) ≡ get_or ws 0 0 ∷ get_or ws 1 0 ∷ 1 ∷ []
    two [] q = absurd (omega arith)
    two (x ∷ []) q = absurd (omega arith)
    two (x ∷ y ∷ []) q = refl
    two (x ∷ y ∷ d ∷ ws) q = absurd (omega arith)

-- ---- all together
wrong_at : (s : List ℕ) (p : ℕ) → p < length s → Mendable s p → Never s p → GaveUp s p
wrong_at s p h m n = GaveUp.wrong h m n

at_of : {a b : HeadRead} {s : List ℕ} → a ≡ b → GaveUp s b.at → GaveUp s a.at
at_of {s} e g = subst (λ (z : HeadRead). GaveUp s z.at) (sym e) g

numbers_head : (a b : ℕ) (l : List ℕ) → a ≡ 80 → is_form b ≡ true → in_gap false (get_or l 0 0) ≡ true → (head_of (a ∷ b ∷ l)).ok ≡ false → GaveUp (a ∷ b ∷ l) (head_of (a ∷ b ∷ l)).at
numbers_head a b l e f i o =
    let s : List ℕ = a ∷ b ∷ l in
    let g = fields_from s 3 [] 2 2 in
    let q : head_of s ≡ headed s g = magic_read s e f i in
    let d = gap_no_digit (get_or l 0 0) i in
    by_test g.ok
    (λ t.
    let r = fields_sound s 3 [] 2 2 l refl d t in
    let v = list_3 r.ws r.many in
    let w = get_or r.ws 0 0 in
    let h = get_or r.ws 1 0 in
    let m = get_or r.ws 2 0 in
    let n = 2 + length r.x in
    let y : g ≡ three s w h m g.first n = λ z. record { ok = t z; values = (r.values ∙ v) z; first = g.first; next = r.next z } in
    let k = q ∙ ap (headed s) y in
    by_test (leb 1 m && leb m 255)
    (λ u.
    by_test (is_white (get_or s n 0))
    (λ x. no (ap (λ (z : HeadRead). z.ok) (k ∙ headed_done s w h m g.first n u x)) o)
    (λ x.
    let c : get_or s n 0 ≡ get_or r.t 0 0 =
    (let p : n ≡ suc (suc (length r.x)) = omega arith in ap (λ (z : ℕ). get_or s z 0) p ∙ ap (λ (z : List ℕ). get_or z (length r.x) 0) r.is ∙ seam r.x r.t (r.x ++ r.t) refl) in
    at_of (k ∙ bare s w h m g.first n u x)
    (bare_head a b l e f i w h m r v (leb-true 1 m (and_1 (leb 1 m) (leb m 255) u)) (leb-true m 255 (and_2 (leb 1 m) (leb m 255) u)) (ap is_white (sym c) ∙ x))))
    (λ u.
    let z = last_split s 2 [] 2 2 l refl d t in
    at_of (k ∙ unfit s w h m g.first n u) (unfit_head a b l e f w h m g.first z (sym z.values ∙ r.values ∙ v) z.first u)))
    (λ t. at_of (q ∙ gone s g t) (stuck_head a b l e f i g.first (fields_stuck s 3 [] 2 2 l refl d t)))

pub gave_up : (s : List ℕ) → (head_of s).ok ≡ false → GaveUp s (head_of s).at
gave_up [] o = at_of (magic_0 [] (λ z. absurd (omega arith))) (GaveUp.early refl (mend_0 []))
gave_up (a ∷ []) o =
    by_test (eqb a 80)
    (λ t. let e = eqb-true a 80 t in at_of (magic_1 (a ∷ []) e refl) (GaveUp.early refl (mend_1 a [] e)))
    (λ t. let n = eqb-false a 80 t in at_of (magic_0 (a ∷ []) n) (wrong_at (a ∷ []) 0 (omega arith) (mend_0 (a ∷ [])) (λ more. off (magic_0 (a ∷ more) n))))
gave_up (a ∷ b ∷ l) o =
    by_test (eqb a 80)
    (λ t.
    let e = eqb-true a 80 t in
    by_test (is_form b)
    (λ f. by_test (in_gap false (get_or l 0 0)) (λ i. numbers_head a b l e f i o) (λ i. at_of (magic_2 (a ∷ b ∷ l) e f i) (open_head a b l e f i)))
    (λ f. at_of (magic_1 (a ∷ b ∷ l) e f) (wrong_at (a ∷ b ∷ l) 1 (omega arith) (mend_1 a (b ∷ l) e) (λ more. off (magic_1 (a ∷ b ∷ more) e f)))))
    (λ t. let n = eqb-false a 80 t in at_of (magic_0 (a ∷ b ∷ l) n) (wrong_at (a ∷ b ∷ l) 0 (omega arith) (mend_0 (a ∷ b ∷ l)) (λ more. off (magic_0 (a ∷ more) n))))
  where
    open_head : (a b : ℕ) (l : List ℕ) → a ≡ 80 → is_form b ≡ true → in_gap false (get_or l 0 0) ≡ false → GaveUp (a ∷ b ∷ l) 2
    open_head a b [] e f i = GaveUp.early refl (mend_2 a b [] e f)
    open_head a b (d ∷ l) e f i = wrong_at (a ∷ b ∷ d ∷ l) 2 (omega arith) (mend_2 a b (d ∷ l) e f) (λ more. off (magic_2 (a ∷ b ∷ d ∷ more) e f i))
