-- The reader takes exactly the grammar's samples. Assumes nothing.
-- Definitions: `Sampled` some samples are read; `SampledSplit` what reading them found.
-- Main laws: `head_of_lem` a byte and what follows; `plain_split` white space and digits, as far as they go; `samples_complete` the grammar's samples are read; `samples_sound` what is read are the grammar's samples.
use mathlib.Core.Path.{◌≡◌, refl, sym, ap, ◌∙◌}
use mathlib.Core.Bool.{Bool, true, false}
use mathlib.Core.List.{List, ◌∷◌, ◌++◌}
use Prim.Native.Nat.{ℕ, zero, suc, ◌+◌, ◌-◌, ◌<◌}
use native.Mathlib.Nat.{add-zero}
use native.Mathlib.Omega.{arith}
use lib.Dec.{ltb, leb}
use lib.ListN.{length, get_or, drop, length-drop}
use lib.Seq.{get_or-drop, drop-drop, drop-cons}
use borrow.Author.Tests.{lt-ltb, le-ltb, ltb-true, ltb-false}
use Rattle.tally.proofs.Test.{by_test, no, and_1, and_2, both}
use Rattle.form.specs.Reader.{is_digit}
use Rattle.pgm.specs.Reader.{NumberRead}
use Rattle.pgm.specs.Grammar.{is_white, all, is_number, value, Samples}
use Rattle.pgm.specs.Reader.{there, white_from, white_end, number_from, number_at, plain_at, sample_at, raster_from, samples_from}
use Rattle.pgm.proofs.Bytes.{digit_no_white}
use Rattle.pgm.proofs.Rows.{done, raster_none, raster_more, good, raw_here, raw_past, samples_more}
use Rattle.pgm.proofs.Pieces.{shift, white_over, white_stops, number_over, white_split, number_split}
use Rattle.pgm.proofs.Takes.{first_digit, number_long, number_digits, found_there}

-- ---- a byte and what follows
pub head_of_lem : (s : List ℕ) (p b : ℕ) (t : List ℕ) → drop p s ≡ b ∷ t → (p < length s) × (get_or s p 0 ≡ b) × (drop (suc p) s ≡ t)
head_of_lem s p b t e =
    let h : suc (length t) ≡ length s - p = ap length (sym e) ∙ length-drop p s in
    let n : suc p ≡ p + 1 = omega arith in
    (omega arith, ap (λ (z : ℕ). get_or s z 0) (sym (add-zero p)) ∙ sym (get_or-drop p s 0 0) ∙ ap (λ (z : List ℕ). get_or z 0 0) e, ap (λ (z : ℕ). drop z s) n ∙ sym (drop-drop 1 p s) ∙ ap (drop 1) e)

pub plain_complete : (s : List ℕ) (p : ℕ) (g d t : List ℕ) → drop p s ≡ g ++ (d ++ t) → all is_white g ≡ true → is_number d ≡ true → is_digit (get_or t 0 0) ≡ false
    → plain_at s p ≡ record { first = p + length g; value = value d; next = p + length g + length d }
plain_complete s p g d t e a n f =
    let q : white_end s p ≡ p + length g =
    ap (white_from p) e ∙ white_over p g (d ++ t) a ∙ white_stops (p + length g) (d ++ t) (digit_no_white (get_or (d ++ t) 0 0) (first_digit d t n)) in
    ap (number_at s) q ∙ ap (number_from (p + length g) 0 (p + length g)) (shift s g (d ++ t) p e) ∙ number_over (p + length g) 0 (p + length g) d t (number_digits d n) f

pub record Sampled (s : List ℕ) (plain : Bool) (m : ℕ) (px : List ℕ) (p : ℕ) : Type 0 where
  pub fine : raster_from s plain m (length px) p ≡ done
  pub list : samples_from s plain (length px) p ≡ px

-- one sample before others
one_more : (s : List ℕ) (plain : Bool) (m v p n : ℕ) (px : List ℕ) → there (sample_at s plain p) ≡ true → (sample_at s plain p).value ≡ v → (sample_at s plain p).next ≡ n → leb v m ≡ true
    → Sampled s plain m px n → Sampled s plain m (v ∷ px) p
one_more s plain m v p n px h a b f r =
    record {
      fine = raster_more s plain m (length px) p h (ap (λ (z : ℕ). leb z m) a ∙ f) ∙ ap (raster_from s plain m (length px)) b ∙ r.fine;
      list = samples_more s plain (suc (length px)) (length px) p refl ∙ (λ z. a z ∷ (ap (samples_from s plain (length px)) b ∙ r.list) z);
    }

pub samples_complete : {plain : Bool} {px l : List ℕ} (s : List ℕ) (m p : ℕ) → Samples plain px l → drop p s ≡ l → all (λ v. leb v m) px ≡ true → Sampled s plain m px p
unfolding all samples_from
samples_complete {plain} s m p Samples.none e f = record { fine = raster_none s plain m p; list = refl }
samples_complete s m p (Samples.raw {px} {s = t} b r) e f =
    let q = head_of_lem s p b t e in
    let w = raw_here s p q.0 in
    one_more s false m b p (suc p) px (ap there w ∙ lt-ltb p (suc p) (omega arith)) (ap (λ (z : NumberRead). z.value) w ∙ q.1) (ap (λ (z : NumberRead). z.next) w) (and_1 (leb b m) (all (λ v. leb v m) px) f)
    (samples_complete s m (suc p) r q.2 (and_2 (leb b m) (all (λ v. leb v m) px) f))
samples_complete s m p (Samples.text {px} {s = t} g d a n i r) e f =
    let w = plain_complete s p g d t e a n i in
    one_more s true m (value d) p (p + length g + length d) px (found_there (plain_at s p) (p + length g) (length d) (value d) (number_long d n) w) (ap (λ (z : NumberRead). z.value) w) (ap (λ (z : NumberRead). z.next) w)
    (and_1 (leb (value d) m) (all (λ v. leb v m) px) f)
    (samples_complete s m (p + length g + length d) r (shift s d t (p + length g) (shift s g (d ++ t) p e)) (and_2 (leb (value d) m) (all (λ v. leb v m) px) f))

-- ---- and back
pub record PlainSplit (s : List ℕ) (p : ℕ) (l : List ℕ) : Type 0 where
  pub g : List ℕ
  pub d : List ℕ
  pub t : List ℕ
  pub is : l ≡ g ++ (d ++ t)
  pub found : plain_at s p ≡ record { first = p + length g; value = value d; next = p + length g + length d }
  pub white : all is_white g ≡ true
  pub digits : all is_digit d ≡ true
  pub stops : is_digit (get_or t 0 0) ≡ false
  pub outside : is_white (get_or (d ++ t) 0 0) ≡ false
  pub rest : drop (p + length g + length d) s ≡ t

pub plain_split : (s : List ℕ) (p : ℕ) (l : List ℕ) → drop p s ≡ l → PlainSplit s p l
plain_split s p l e =
    let a = white_split p l in
    let p2 = p + length a.g in
    let q : white_end s p ≡ p2 = ap (white_from p) e ∙ a.ends in
    let e2 : drop p2 s ≡ a.t = shift s a.g a.t p (e ∙ a.is) in
    let b = number_split p2 0 p2 a.t in
    record {
      g = a.g;
      d = b.d;
      t = b.t;
      is = a.is ∙ ap (λ (z : List ℕ). a.g ++ z) b.is;
      found = ap (number_at s) q ∙ ap (number_from p2 0 p2) e2 ∙ b.found;
      white = a.white;
      digits = b.digits;
      stops = b.stops;
      outside = ap (λ (z : List ℕ). is_white (get_or z 0 0)) (sym b.is) ∙ a.stops;
      rest = shift s b.d b.t p2 (e2 ∙ b.is);
    }

-- a number that is there has a digit
pub plain_number : (s : List ℕ) (p : ℕ) (l : List ℕ) (r : PlainSplit s p l) → there (plain_at s p) ≡ true → is_number r.d ≡ true
plain_number s p l r h =
    let a : p + length r.g < p + length r.g + length r.d = ltb-true _ _ (ap there (sym r.found) ∙ h) in
    both (lt-ltb 0 (length r.d) (omega arith)) r.digits

pub record SampledSplit (s : List ℕ) (plain : Bool) (m k p : ℕ) (l : List ℕ) : Type 0 where
  pub samples : Samples plain (samples_from s plain k p) l
  pub below : all (λ v. leb v m) (samples_from s plain k p) ≡ true

pub samples_sound : (s : List ℕ) (plain : Bool) (m k p : ℕ) (l : List ℕ) → drop p s ≡ l → (raster_from s plain m k p).number ≡ 0 → SampledSplit s plain m k p l
unfolding samples_from all
samples_sound s plain m zero p l e z = record { samples = Samples.none; below = refl }
samples_sound s false m (suc k) p l e z =
    let g = good s false m k p z in
    by_test (ltb p (length s))
    (λ h.
    let w = raw_here s p (ltb-true p (length s) h) in
    let n : l ≡ get_or s p 0 ∷ drop (suc p) s = sym e ∙ drop-cons s p 0 (ltb-true p (length s) h) in
    let r = samples_sound s false m k (suc p) (drop (suc p) s) refl (ap (λ (y : NumberRead). (raster_from s false m k y.next).number) (sym w) ∙ g.rest) in
    record {
      samples = rw (n, w) (Samples.raw (get_or s p 0) r.samples);
      below = rw w (both (ap (λ (y : NumberRead). leb y.value m) (sym w) ∙ g.fits) r.below);
    })
    (λ h. no g.is_there (ap there (raw_past s p (ltb-false p (length s) h)) ∙ le-ltb p p (omega arith)))
samples_sound s true m (suc k) p l e z =
    let g = good s true m k p z in
    let y = plain_split s p l e in
    let w = y.found in
    let n = p + length y.g + length y.d in
    let r = samples_sound s true m k n y.t y.rest (ap (λ (x : NumberRead). (raster_from s true m k x.next).number) (sym w) ∙ g.rest) in
    record {
      samples = rw (y.is, w) (Samples.text y.g y.d y.white (plain_number s p l y g.is_there) y.stops r.samples);
      below = rw w (both (ap (λ (x : NumberRead). leb x.value m) (sym w) ∙ g.fits) r.below);
    }
