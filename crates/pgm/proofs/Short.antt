-- Where the samples stop for want of one. Assumes nothing.
-- Definitions: `zeros` samples 0; `Short` samples that stop for want of one.
-- Main laws: `samples_short` 24 is given where other bytes could have made the samples whole, and at a byte with which none could.
use mathlib.Core.Path.{◌≡◌, refl, sym, ap, ◌∙◌, subst}
use mathlib.Core.Bool.{Bool, true, false, cond}
use mathlib.Core.List.{List, [], ◌∷◌, ◌++◌, append_assoc}
use Prim.Native.Nat.{ℕ, zero, suc, ◌+◌, ◌≤◌, ◌<◌}
use native.Mathlib.Omega.{arith}
use lib.Dec.{ltb, leb}
use lib.ListN.{length, get_or, drop, replicate, length-append, length-replicate, length-drop}
use lib.Seq.{append_snoc, drop-cons}
use borrow.Author.Tests.{lt-ltb, le-ltb, ltb-true, ltb-false, le-leb}
use Rattle.tally.proofs.Test.{by_test, and_1, and_2, both}
use Rattle.form.specs.Reader.{is_digit}
use Rattle.refuse.specs.Refusal.{Verdict}
use Rattle.pgm.specs.Reader.{NumberRead}
use Rattle.pgm.specs.Grammar.{is_white, all, is_number, value_from, value, Samples}
use Rattle.pgm.specs.Reader.{there, white_from, white_end, number_from, number_at, plain_at, raw_at, raster_from}
use Rattle.pgm.proofs.Rows.{raster_none, raster_24, raster_23, raster_more, raw_here, raw_past}
use Rattle.pgm.proofs.Pieces.{shift, white_over, white_stops, number_over}
use Rattle.pgm.proofs.Takes.{found_there, found_not, number_long}
use Rattle.pgm.proofs.Sampled.{PlainSplit, plain_split, plain_number, plain_complete, head_of_lem}
use Rattle.pgm.proofs.Places.{same_first}

-- ---- samples 0
abbrev pub zeros : Bool → ℕ → List ℕ
zeros plain zero = []
zeros plain (suc k) = cond plain (10 ∷ 48 ∷ zeros plain k) (0 ∷ zeros plain k)

no_digit : (k : ℕ) → is_digit (get_or (zeros true k) 0 0) ≡ false
no_digit zero = refl
no_digit (suc k) = refl

zeros_samples : (plain : Bool) (k : ℕ) → Samples plain (replicate k 0) (zeros plain k)
unfolding all value_from
zeros_samples false zero = Samples.none
zeros_samples false (suc k) = Samples.raw 0 (zeros_samples false k)
zeros_samples true zero = Samples.none
zeros_samples true (suc k) = Samples.text (10 ∷ []) (48 ∷ []) refl refl (no_digit k) (zeros_samples true k)

all_zero : (m k : ℕ) → all (λ v. leb v m) (replicate k 0) ≡ true
unfolding all
all_zero m zero = refl
all_zero m (suc k) = both (le-leb 0 m (omega arith)) (all_zero m k)

-- ---- 24
pub record Short (s : List ℕ) (plain : Bool) (m k p : ℕ) (l : List ℕ) (place : ℕ) : Type 0 where
  pub x : List ℕ
  pub y : List ℕ
  pub is : l ≡ x ++ y
  pub at : place ≡ p + length x
  pub px : List ℕ
  pub z : List ℕ
  pub mends : Samples plain px (x ++ z)
  pub many : length px ≡ k
  pub below : all (λ v. leb v m) px ≡ true
  pub apart : is_digit (get_or l 0 0) ≡ false → is_digit (get_or (x ++ z) 0 0) ≡ false
  pub never : (b : ℕ) (t : List ℕ) → y ≡ b ∷ t → (s' : List ℕ) (p' : ℕ) (t' : List ℕ) → drop p' s' ≡ x ++ (b ∷ t')
      → raster_from s' plain m k p' ≡ record { number = 24; place = p' + length x }

-- P5 stops at the length only
raw_short : (s : List ℕ) (m k p : ℕ) (l : List ℕ) → drop p s ≡ l → length s ≤ p → Short s false m (suc k) p l p
raw_short s m k p l e h = record {
  x = [];
  y = l;
  is = refl;
  at = omega arith;
  px = replicate (suc k) 0;
  z = zeros false (suc k);
  mends = zeros_samples false (suc k);
  many = length-replicate (suc k) 0;
  below = all_zero m (suc k);
  apart = λ i. refl;
  never = λ b t q s' p' t' e'. absurd (omega (arith, ap length (sym q), ap length e, length-drop p s));
}

white_snoc : (g : List ℕ) → all is_white g ≡ true → all is_white (g ++ (10 ∷ [])) ≡ true
unfolding all
white_snoc [] e = refl
white_snoc (b ∷ g) e = both (and_1 (is_white b) (all is_white g) e) (white_snoc g (and_2 (is_white b) (all is_white g) e))

one_more : (k : ℕ) (g : List ℕ) → all is_white g ≡ true → Samples true (replicate (suc k) 0) (g ++ zeros true (suc k))
unfolding all value_from
one_more k g a =
    subst (λ (z : List ℕ). Samples true (replicate (suc k) 0) z) (append_snoc g 10 (48 ∷ zeros true k))
    (Samples.text (g ++ (10 ∷ [])) (48 ∷ []) (white_snoc g a) refl (no_digit k) (zeros_samples true k))

-- no number here: a byte that is neither white nor a digit stops it, whatever follows
plain_wrong : (s : List ℕ) (p : ℕ) (g t : List ℕ) (b : ℕ) → drop p s ≡ g ++ (b ∷ t) → all is_white g ≡ true → is_white b ≡ false → is_digit b ≡ false
    → plain_at s p ≡ record { first = p + length g; value = 0; next = p + length g + 0 }
unfolding all value_from
plain_wrong s p g t b e a i d =
    let q : white_end s p ≡ p + length g = ap (white_from p) e ∙ white_over p g (b ∷ t) a ∙ white_stops (p + length g) (b ∷ t) i in
    ap (number_at s) q ∙ ap (number_from (p + length g) 0 (p + length g)) (shift s g (b ∷ t) p e) ∙ number_over (p + length g) 0 (p + length g) [] (b ∷ t) refl d

gone_at : (s : List ℕ) (m k p a v : ℕ) → plain_at s p ≡ record { first = a; value = v; next = a + 0 } → raster_from s true m (suc k) p ≡ record { number = 24; place = a }
gone_at s m k p a v e = raster_24 s true m k p (found_not (plain_at s p) a v e) ∙ ap (λ (n : NumberRead). record { number = 24; place = n.first }) e

no_digits : (a : ℕ) (d : List ℕ) → a + length d ≤ a → d ≡ []
no_digits a [] h = refl
no_digits a (b ∷ d) h = absurd (omega arith)

-- a list begins as its first part does
first_of : (g u w : List ℕ) → is_digit (get_or w 0 0) ≡ false → is_digit (get_or (g ++ u) 0 0) ≡ false → is_digit (get_or (g ++ w) 0 0) ≡ false
first_of [] u w e f = e
first_of (b ∷ g) u w e f = f

first_same : (g d u w : List ℕ) → 0 < length d → get_or (g ++ (d ++ u)) 0 0 ≡ get_or (g ++ (d ++ w)) 0 0
first_same (b ∷ g) d u w h = refl
first_same [] [] u w h = absurd (omega arith)
first_same [] (b ∷ d) u w h = refl

plain_short : (s : List ℕ) (m k p : ℕ) (l : List ℕ) (r : PlainSplit s p l) → there (plain_at s p) ≡ false → Short s true m (suc k) p l (p + length r.g)
plain_short s m k p l r h =
    let n : r.d ≡ [] = no_digits (p + length r.g) r.d (ltb-false _ _ (ap there (sym r.found) ∙ h)) in
    let j : r.d ++ r.t ≡ r.t = ap (λ (z : List ℕ). z ++ r.t) n in
    record {
      x = r.g;
      y = r.t;
      is = r.is ∙ ap (λ (z : List ℕ). r.g ++ z) j;
      at = refl;
      px = replicate (suc k) 0;
      z = zeros true (suc k);
      mends = one_more k r.g r.white;
      many = length-replicate (suc k) 0;
      below = all_zero m (suc k);
      apart = λ i. first_of r.g (r.d ++ r.t) (zeros true (suc k)) refl (ap (λ (z : List ℕ). is_digit (get_or z 0 0)) (sym r.is) ∙ i);
      never =
          λ b t q s' p' t' e'.
          let i : is_white b ≡ false = ap (λ (z : List ℕ). is_white (get_or z 0 0)) (sym (j ∙ q)) ∙ r.outside in
          let d : is_digit b ≡ false = ap (λ (z : List ℕ). is_digit (get_or z 0 0)) (sym q) ∙ r.stops in
          gone_at s' m k p' (p' + length r.g) 0 (plain_wrong s' p' r.g t' b e' r.white i d);
    }

-- ---- 24 after samples that are read
raw_later : (s : List ℕ) (m k p : ℕ) (l : List ℕ) → drop p s ≡ l → p < length s → leb (get_or s p 0) m ≡ true → (place : ℕ) → Short s false m k (suc p) (drop (suc p) s) place → Short s false m (suc k) p l place
unfolding all
raw_later s m k p l e h f place c =
    let d = get_or s p 0 in
    let n : l ≡ d ∷ drop (suc p) s = sym e ∙ drop-cons s p 0 h in
    record {
      x = d ∷ c.x;
      y = c.y;
      is = n ∙ ap (λ (z : List ℕ). d ∷ z) c.is;
      at = c.at ∙ omega arith;
      px = d ∷ c.px;
      z = c.z;
      mends = Samples.raw d c.mends;
      many = ap suc c.many;
      below = both f c.below;
      apart = λ i. ap (λ (z : List ℕ). is_digit (get_or z 0 0)) (sym n) ∙ i;
      never =
          λ b t q s' p' t' e'.
          let j = head_of_lem s' p' d (c.x ++ (b ∷ t')) e' in
          let w = raw_here s' p' j.0 in
          let o : suc p' + length c.x ≡ p' + length (d ∷ c.x) = omega arith in
          raster_more s' false m k p' (ap there w ∙ lt-ltb p' (suc p') (omega arith)) (ap (λ (v : NumberRead). leb v.value m) w ∙ ap (λ (v : ℕ). leb v m) j.1 ∙ f)
          ∙ ap (λ (v : NumberRead). raster_from s' false m k v.next) w
          ∙ c.never b t q s' (suc p') t' j.2
          ∙ ap (λ (v : ℕ). record { number = 24; place = v }) o;
    }

plain_later : (s : List ℕ) (m k p : ℕ) (l : List ℕ) (r : PlainSplit s p l) → is_number r.d ≡ true → leb (value r.d) m ≡ true → (place : ℕ)
    → Short s true m k (p + length r.g + length r.d) r.t place → Short s true m (suc k) p l place
unfolding all
plain_later s m k p l r n f place c =
    let g = r.g in
    let d = r.d in
    let j : (w : List ℕ) → (g ++ (d ++ c.x)) ++ w ≡ g ++ (d ++ (c.x ++ w)) = λ w. append_assoc g (d ++ c.x) w ∙ ap (λ (z : List ℕ). g ++ z) (append_assoc d c.x w) in
    record {
      x = g ++ (d ++ c.x);
      y = c.y;
      is = r.is ∙ ap (λ (z : List ℕ). g ++ (d ++ z)) c.is ∙ sym (j c.y);
      at = c.at ∙ omega (arith, length-append g (d ++ c.x), length-append d c.x);
      px = value d ∷ c.px;
      z = c.z;
      mends = subst (λ (z : List ℕ). Samples true (value d ∷ c.px) z) (sym (j c.z)) (Samples.text g d r.white n (c.apart r.stops) c.mends);
      many = ap suc c.many;
      below = both f c.below;
      apart =
          λ i.
          ap (λ (z : List ℕ). is_digit (get_or z 0 0)) (j c.z) ∙ ap is_digit (first_same g d (c.x ++ c.z) r.t (number_long d n)) ∙ ap (λ (z : List ℕ). is_digit (get_or z 0 0)) (sym r.is) ∙ i;
      never =
          λ b t q s' p' t' e'.
          let e2 : drop p' s' ≡ g ++ (d ++ (c.x ++ (b ∷ t'))) = e' ∙ j (b ∷ t') in
          let i : is_digit (get_or (c.x ++ (b ∷ t')) 0 0) ≡ false =
          ap is_digit (same_first c.x b t' t) ∙ ap (λ (z : List ℕ). is_digit (get_or z 0 0)) (sym (c.is ∙ ap (λ (z : List ℕ). c.x ++ z) q)) ∙ r.stops in
          let w = plain_complete s' p' g d (c.x ++ (b ∷ t')) e2 r.white n i in
          let p2 = p' + length g + length d in
          let e3 = shift s' d (c.x ++ (b ∷ t')) (p' + length g) (shift s' g (d ++ (c.x ++ (b ∷ t'))) p' e2) in
          let o : p2 + length c.x ≡ p' + length (g ++ (d ++ c.x)) = omega (arith, length-append g (d ++ c.x), length-append d c.x) in
          raster_more s' true m k p' (found_there (plain_at s' p') (p' + length g) (length d) (value d) (number_long d n) w) (ap (λ (v : NumberRead). leb v.value m) w ∙ f)
          ∙ ap (λ (v : NumberRead). raster_from s' true m k v.next) w
          ∙ c.never b t q s' p2 t' e3
          ∙ ap (λ (v : ℕ). record { number = 24; place = v }) o;
    }

told : {u v : Verdict} {n : ℕ} → u ≡ v → u.number ≡ n → v.number ≡ n
told e q = ap (λ (z : Verdict). z.number) (sym e) ∙ q

not_24 : {P : Type 0} {u : Verdict} {n p : ℕ} → u ≡ record { number = n; place = p } → (n ≡ 24 → ⊥) → u.number ≡ 24 → P
not_24 e h q = absurd (h (ap (λ (z : Verdict). z.number) (sym e) ∙ q))

pub samples_short : (s : List ℕ) (plain : Bool) (m k p : ℕ) (l : List ℕ) → drop p s ≡ l → (raster_from s plain m k p).number ≡ 24 → Short s plain m k p l (raster_from s plain m k p).place
samples_short s plain m zero p l e z = not_24 (raster_none s plain m p) (λ y. absurd (omega arith)) z
samples_short s false m (suc k) p l e z =
    by_test (ltb p (length s))
    (λ h.
    let b = ltb-true p (length s) h in
    let w = raw_here s p b in
    let t : there (raw_at s p) ≡ true = ap there w ∙ lt-ltb p (suc p) (omega arith) in
    by_test (leb (get_or s p 0) m)
    (λ f.
    let q = raster_more s false m k p t (ap (λ (v : NumberRead). leb v.value m) w ∙ f) ∙ ap (λ (v : NumberRead). raster_from s false m k v.next) w in
    raw_later s m k p l e b f (raster_from s false m (suc k) p).place (rw (ap (λ (v : Verdict). v.place) q) (samples_short s false m k (suc p) (drop (suc p) s) refl (told q z))))
    (λ f. not_24 (raster_23 s false m k p t (ap (λ (v : NumberRead). leb v.value m) w ∙ f)) (λ y. absurd (omega arith)) z))
    (λ h.
    let b = ltb-false p (length s) h in
    let w = raw_past s p b in
    let q = raster_24 s false m k p (ap there w ∙ le-ltb p p (omega arith)) ∙ ap (λ (v : NumberRead). record { number = 24; place = v.first }) w in
    rw (ap (λ (v : Verdict). v.place) q) (raw_short s m k p l e b))
samples_short s true m (suc k) p l e z =
    let r = plain_split s p l e in
    let w = r.found in
    by_test (there (plain_at s p))
    (λ t.
    by_test (leb (value r.d) m)
    (λ f.
    let q = raster_more s true m k p t (ap (λ (v : NumberRead). leb v.value m) w ∙ f) ∙ ap (λ (v : NumberRead). raster_from s true m k v.next) w in
    plain_later s m k p l r (plain_number s p l r t) f (raster_from s true m (suc k) p).place
    (rw (ap (λ (v : Verdict). v.place) q) (samples_short s true m k (p + length r.g + length r.d) r.t r.rest (told q z))))
    (λ f. not_24 (raster_23 s true m k p t (ap (λ (v : NumberRead). leb v.value m) w ∙ f)) (λ y. absurd (omega arith)) z))
    (λ t.
    let q = raster_24 s true m k p t ∙ ap (λ (v : NumberRead). record { number = 24; place = v.first }) w in
    rw (ap (λ (v : Verdict). v.place) q) (plain_short s m k p l r t))
