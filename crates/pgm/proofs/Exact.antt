-- The reader takes exactly what the grammar says. Assumes nothing.
-- Definitions: `HeadSplit` a header and what follows; `Shown` what a file of the grammar is read as.
-- Main laws: `head_complete`, `head_sound` the header; `head_again` it is the same before other bytes; `pgm_shown` every file of the grammar is read, as its picture; `shown_pgm` what is read is a file of the grammar; `pgm_done`, `done_pgm` the same of the call.
use mathlib.Core.Path.{◌≡◌, refl, sym, ap, ◌∙◌, subst}
use mathlib.Core.Bool.{Bool, true, false, ◌&&◌}
use mathlib.Core.List.{List, [], ◌∷◌, ◌++◌, append_assoc}
use mathlib.Core.Logic.{⊎_elim}
use Prim.Native.Nat.{ℕ, suc, ◌+◌, ◌≤◌}
use native.Mathlib.Omega.{arith}
use lib.Dec.{eqb, leb}
use lib.ListN.{length, get_or, drop}
use lib.Seq.{get_or-append_seam}
use borrow.Author.Tests.{eqb-true, eqb-false, le-leb, leb-true}
use Rattle.tally.proofs.Test.{by_test, no, and_1, and_2, both, or_cases}
use Rattle.pgm.specs.Reader.{HeadRead}
use Rattle.pgm.specs.Grammar.{is_white, in_gap, opened, gap, letter, Fields}
use Rattle.pgm.specs.Reader.{Three, stop, is_form, fields_from, headed, head_of}
use Rattle.pgm.proofs.Bytes.{gap_no_digit, white_no_digit}
use Rattle.pgm.proofs.Header.{magic_0, magic_1, magic_2, magic_read, unfit, bare, headed_done, three}
use Rattle.pgm.proofs.Takes.{FieldsSplit, fields_complete, fields_sound}
use Rattle.form.proofs.Exact.{seam}

-- ---- the header
form_letter : (plain : Bool) → is_form (letter plain) ≡ true
form_letter true = refl
form_letter false = refl

plain_letter : (plain : Bool) → eqb (letter plain) 50 ≡ plain
plain_letter true = refl
plain_letter false = refl

gap_head : (g l : List ℕ) → gap false g ≡ true → 1 ≤ length g → in_gap false (get_or (g ++ l) 0 0) ≡ true
unfolding gap
gap_head [] l a h = absurd (omega arith)
gap_head (b ∷ g) l a h = and_1 (in_gap false b) (gap (opened false b) g) a

fields_first : {v : ℕ} {vs x : List ℕ} (u : List ℕ) → Fields (v ∷ vs) x → in_gap false (get_or (x ++ u) 0 0) ≡ true
fields_first u (Fields.more {t} g d a h n r) = ap (λ (z : List ℕ). in_gap false (get_or z 0 0)) (append_assoc g (d ++ t) u) ∙ gap_head g ((d ++ t) ++ u) a h

abbrev pub read : Bool → ℕ → ℕ → ℕ → ℕ → HeadRead
read plain w h m at = record { ok = true; plain = plain; width = w; height = h; maximum = m; at = at }

pub head_complete : (plain : Bool) (w h m white : ℕ) (x raster : List ℕ) → Fields (w ∷ h ∷ m ∷ []) x → is_white white ≡ true → 1 ≤ m → m ≤ 255
    → head_of (80 ∷ letter plain ∷ (x ++ (white ∷ raster))) ≡ read plain w h m (2 + length x + 1)
head_complete plain w h m white x raster r b l k =
    let u : List ℕ = white ∷ raster in
    let s : List ℕ = 80 ∷ letter plain ∷ (x ++ u) in
    let c = fields_complete s u [] 2 2 r refl (white_no_digit white b) in
    let i : 2 + length x ≡ suc (suc (length x)) = omega arith in
    let y : is_white (get_or s (2 + length x) 0) ≡ true = ap (λ (z : ℕ). is_white (get_or s z 0)) i ∙ ap is_white (get_or-append_seam x white raster 0) ∙ b in
    magic_read s refl (form_letter plain) (fields_first u r)
    ∙ ap (headed s) c.is
    ∙ headed_done s w h m c.first (2 + length x) (both (le-leb 1 m l) (le-leb m 255 k)) y
    ∙ ap (λ (z : Bool). read z w h m (2 + length x + 1)) (plain_letter plain)

pub record HeadSplit (s : List ℕ) : Type 0 where
  pub fields : List ℕ
  pub white : ℕ
  pub raster : List ℕ
  pub is : s ≡ 80 ∷ letter (head_of s).plain ∷ (fields ++ (white ∷ raster))
  pub three : Fields ((head_of s).width ∷ (head_of s).height ∷ (head_of s).maximum ∷ []) fields
  pub one : is_white white ≡ true
  pub least : 1 ≤ (head_of s).maximum
  pub most : (head_of s).maximum ≤ 255
  pub at : (head_of s).at ≡ 2 + length fields + 1

ok_of : {a b : HeadRead} → a ≡ b → b.ok ≡ false → a.ok ≡ true → ⊥
ok_of e f o = no o (ap (λ (z : HeadRead). z.ok) e ∙ f)

pub letter_of : (b : ℕ) → is_form b ≡ true → b ≡ letter (eqb b 50)
letter_of b e =
    by_test (eqb b 50)
    (λ t. rw t (eqb-true b 50 t))
    (λ t. rw t (⊎_elim (λ x. eqb-true b 53 x) (λ x. no x t) (or_cases (eqb b 53) (eqb b 50) e)))

pub list_3 : (l : List ℕ) → length l ≡ 3 → l ≡ get_or l 0 0 ∷ get_or l 1 0 ∷ get_or l 2 0 ∷ []
list_3 [] e = absurd (omega arith)
list_3 (a ∷ []) e = absurd (omega arith)
list_3 (a ∷ b ∷ []) e = absurd (omega arith)
list_3 (a ∷ b ∷ d ∷ []) e = refl
list_3 (a ∷ b ∷ d ∷ f ∷ l) e = absurd (omega arith)

pub gone : (s : List ℕ) (g : Three) → g.ok ≡ false → headed s g ≡ stop g.first
unfolding headed
gone s g t = rw t

-- all is there
white_head : (s : List ℕ) (b : ℕ) (l : List ℕ) (w h m : ℕ) (r : FieldsSplit s 3 [] 2 2 l) → s ≡ 80 ∷ b ∷ l → is_form b ≡ true → r.ws ≡ w ∷ h ∷ m ∷ [] → (leb 1 m && leb m 255) ≡ true
    → is_white (get_or s (2 + length r.x) 0) ≡ true → head_of s ≡ read (eqb (get_or s 1 0) 50) w h m (2 + length r.x + 1) → HeadSplit s
white_head s b l w h m r e f v k i q =
    let n = length r.x in
    let j : 2 + n ≡ suc (suc n) = omega arith in
    let c : get_or s (2 + n) 0 ≡ get_or r.t 0 0 =
    ap (λ (z : List ℕ). get_or z (2 + n) 0) e ∙ ap (λ (z : ℕ). get_or (80 ∷ b ∷ l) z 0) j ∙ ap (λ (z : List ℕ). get_or z n 0) r.is ∙ seam r.x r.t (r.x ++ r.t) refl in
    let y = known r.t (get_or r.t 0 0) refl (ap is_white (sym c) ∙ i) in
    let p : (head_of s).plain ≡ eqb b 50 = ap (λ (z : HeadRead). z.plain) q ∙ ap (λ (z : List ℕ). eqb (get_or z 1 0) 50) e in
    record {
      fields = r.x;
      white = get_or r.t 0 0;
      raster = drop 1 r.t;
      is =
          e ∙ ap (λ (z : List ℕ). 80 ∷ b ∷ z) (r.is ∙ ap (λ (z : List ℕ). r.x ++ z) y)
          ∙ ap (λ (z : ℕ). 80 ∷ z ∷ (r.x ++ (get_or r.t 0 0 ∷ drop 1 r.t))) (letter_of b f ∙ ap letter (sym p));
      three = subst (λ (z : List ℕ). Fields z r.x) (v ∙ (λ z. sym (ap (λ (k : HeadRead). k.width) q) z ∷ sym (ap (λ (k : HeadRead). k.height) q) z ∷ sym (ap (λ (k : HeadRead). k.maximum) q) z ∷ [])) r.fields;
      one = ap is_white (sym c) ∙ i;
      least = omega (arith, ap (λ (z : HeadRead). z.maximum) q, leb-true 1 m (and_1 (leb 1 m) (leb m 255) k));
      most = omega (arith, ap (λ (z : HeadRead). z.maximum) q, leb-true m 255 (and_2 (leb 1 m) (leb m 255) k));
      at = ap (λ (z : HeadRead). z.at) q;
    }
  where
    known : (t : List ℕ) (c : ℕ) → c ≡ get_or t 0 0 → is_white c ≡ true → t ≡ get_or t 0 0 ∷ drop 1 t
    known [] c e i = no i (ap is_white e)
    known (d ∷ t) c e i = refl

-- the three numbers are there
numbered_head : (s : List ℕ) (b : ℕ) (l : List ℕ) (g : Three) → g ≡ fields_from s 3 [] 2 2 → s ≡ 80 ∷ b ∷ l → is_form b ≡ true → head_of s ≡ headed s g → FieldsSplit s 3 [] 2 2 l → g.ok ≡ true → (head_of s).ok ≡ true → HeadSplit s
numbered_head s b l g n e f q r t o =
    let w = get_or r.ws 0 0 in
    let h = get_or r.ws 1 0 in
    let m = get_or r.ws 2 0 in
    let v = list_3 r.ws r.many in
    let y : g ≡ three s w h m g.first (2 + length r.x) =
    λ z. record { ok = t z; values = (ap (λ (k : Three). k.values) n ∙ r.values ∙ v) z; first = g.first; next = (ap (λ (k : Three). k.next) n ∙ r.next) z } in
    let d : head_of s ≡ headed s (three s w h m g.first (2 + length r.x)) = q ∙ ap (headed s) y in
    by_test (leb 1 m && leb m 255)
    (λ k. by_test (is_white (get_or s (2 + length r.x) 0)) (λ i. white_head s b l w h m r e f v k i (d ∙ headed_done s w h m g.first (2 + length r.x) k i)) (λ i. absurd (ok_of (d ∙ bare s w h m g.first (2 + length r.x) k i) refl o)))
    (λ k. absurd (ok_of (d ∙ unfit s w h m g.first (2 + length r.x) k) refl o))

-- the magic is there: the numbers, the maximum, the white byte
opened_head : (a b : ℕ) (l : List ℕ) → a ≡ 80 → is_form b ≡ true → in_gap false (get_or l 0 0) ≡ true → (head_of (a ∷ b ∷ l)).ok ≡ true → HeadSplit (a ∷ b ∷ l)
opened_head a b l e f i o =
    let s : List ℕ = a ∷ b ∷ l in
    let g = fields_from s 3 [] 2 2 in
    let q : head_of s ≡ headed s g = magic_read s e f i in
    by_test g.ok
    (λ t. numbered_head s b l g refl (ap (λ (z : ℕ). z ∷ b ∷ l) e) f q (fields_sound s 3 [] 2 2 l refl (gap_no_digit (get_or l 0 0) i) t) t o)
    (λ t. absurd (ok_of (q ∙ gone s g t) refl o))

pub head_sound : (s : List ℕ) → (head_of s).ok ≡ true → HeadSplit s
head_sound [] o = absurd (ok_of (magic_0 [] (λ z. absurd (omega arith))) refl o)
head_sound (a ∷ []) o =
    by_test (eqb a 80)
    (λ t. absurd (ok_of (magic_1 (a ∷ []) (eqb-true a 80 t) refl) refl o))
    (λ t. absurd (ok_of (magic_0 (a ∷ []) (eqb-false a 80 t)) refl o))
head_sound (a ∷ b ∷ l) o =
    by_test (eqb a 80)
    (λ t.
    by_test (is_form b)
    (λ f. by_test (in_gap false (get_or l 0 0)) (λ i. opened_head a b l (eqb-true a 80 t) f i o) (λ i. absurd (ok_of (magic_2 (a ∷ b ∷ l) (eqb-true a 80 t) f i) refl o)))
    (λ f. absurd (ok_of (magic_1 (a ∷ b ∷ l) (eqb-true a 80 t) f) refl o)))
    (λ t. absurd (ok_of (magic_0 (a ∷ b ∷ l) (eqb-false a 80 t)) refl o))
