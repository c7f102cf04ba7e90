-- Where the samples stop is the place that the paper asks for. Assumes nothing.
-- Definitions: `RanOut` other bytes from there on could have made a file, and with the byte that stands there nothing could; `Above` a sample above the maximum.
-- Main laws: `ran_out` 24 is given at such a place; `too_high`, `above` 23 is given at the first byte of a sample above the maximum, all before it fitting; `no_file` where a header can never be, no file can.
use mathlib.Core.Path.{◌≡◌, refl, sym, ap, ◌∙◌, subst}
use mathlib.Core.Bool.{Bool, true, false, cond}
use mathlib.Core.List.{List, [], ◌∷◌, ◌++◌, append_assoc}
use Prim.Native.Nat.{ℕ, zero, suc, ◌+◌, ◌*◌, ◌≤◌, ◌<◌}
use native.Mathlib.Omega.{arith}
use lib.Dec.{eqb, ltb, leb}
use lib.ListN.{length, get_or, drop, take, length-append}
use lib.Seq.{drop-cons}
use borrow.Author.Tests.{le-ltb, ltb-true, ltb-false, leb-false}
use Rattle.tally.proofs.Test.{by_test, no}
use Rattle.form.specs.Reader.{is_digit}
use Rattle.refuse.specs.Refusal.{Verdict}
use Rattle.pgm.specs.Reader.{HeadRead}
use Rattle.pgm.specs.Reader.{NumberRead}
use Rattle.pgm.specs.Grammar.{is_number, value, letter, Pgm}
use Rattle.pgm.specs.Reader.{there, head_of, sample_at, raster_from}
use Rattle.pgm.specs.Call.{pgm_raster}
use Rattle.pgm.proofs.Rows.{raster_none, raster_24, raster_23, raster_more, raw_here, raw_past}
use Rattle.pgm.proofs.Pieces.{shift}
use Rattle.pgm.proofs.Exact.{HeadSplit, head_sound}
use Rattle.pgm.proofs.Whole.{after_head, head_again, pgm_shown}
use Rattle.pgm.proofs.GaveUp.{cut, cut_more}
use Rattle.pgm.proofs.Sampled.{plain_split, plain_number}
use Rattle.pgm.proofs.Short.{Short, samples_short}

-- ---- no header, no file
pub no_file : {plain : Bool} {w h m : ℕ} {px : List ℕ} (s : List ℕ) → (head_of s).ok ≡ false → Pgm plain w h m px s → ⊥
no_file s o r = no (ap (λ (z : HeadRead). z.ok) (pgm_shown r).head) o

-- ---- 24
pub record RanOut (s : List ℕ) (p : ℕ) : Type 0 where
  pub inside : p ≤ length s
  pub more : List ℕ
  pub px : List ℕ
  pub mends : Pgm (head_of s).plain (head_of s).width (head_of s).height (head_of s).maximum px (take p s ++ more)
  pub never : p < length s → (rest : List ℕ) {plain : Bool} {w h m : ℕ} {qx : List ℕ} → Pgm plain w h m qx (take (p + 1) s ++ rest) → ⊥

-- the file from its header and what the samples show
short_file : (s : List ℕ) (r : HeadSplit s) → (head_of s).ok ≡ true → (p : ℕ) → Short s (head_of s).plain (head_of s).maximum ((head_of s).width * (head_of s).height) (head_of s).at r.raster p → RanOut s p
short_file s r o p c =
    let H = head_of s in
    let a : ℕ = 80 in
    let b = letter H.plain in
    let x = r.fields ++ (r.white ∷ c.x) in
    let j : (u : List ℕ) → x ++ u ≡ r.fields ++ (r.white ∷ (c.x ++ u)) = λ u. append_assoc r.fields (r.white ∷ c.x) u in
    let e : s ≡ a ∷ b ∷ (x ++ c.y) = r.is ∙ ap (λ (z : List ℕ). a ∷ b ∷ (r.fields ++ (r.white ∷ z))) c.is ∙ ap (λ (z : List ℕ). a ∷ b ∷ z) (sym (j c.y)) in
    let n : p ≡ 2 + length x = c.at ∙ omega (arith, r.at, length-append r.fields (r.white ∷ c.x)) in
    record {
      inside = omega (arith, ap length e, length-append x c.y);
      more = c.z;
      px = c.px;
      mends = record {
        fields = r.fields;
        white = r.white;
        raster = c.x ++ c.z;
        is = ap (λ (z : ℕ). take z s ++ c.z) n ∙ ap (λ (z : List ℕ). take (2 + length x) z ++ c.z) e ∙ cut a b x c.y c.z ∙ ap (λ (z : List ℕ). a ∷ b ∷ z) (j c.z);
        three = r.three;
        one = r.one;
        least = r.least;
        most = r.most;
        whole = c.many;
        samples = c.mends;
        below = c.below;
      };
      never = λ h rest k. ends c.y refl x j e n h rest k;
    }
  where
    ends : (y : List ℕ) → y ≡ c.y → (x : List ℕ) → ((u : List ℕ) → x ++ u ≡ r.fields ++ (r.white ∷ (c.x ++ u))) → s ≡ 80 ∷ letter (head_of s).plain ∷ (x ++ c.y) → p ≡ 2 + length x
        → p < length s → (rest : List ℕ) {plain : Bool} {w h m : ℕ} {qx : List ℕ} → Pgm plain w h m qx (take (p + 1) s ++ rest) → ⊥
    ends [] q x j e n h rest k = absurd (omega (arith, ap length e, length-append x c.y, ap length q))
    ends (d ∷ t) q x j e n h rest {plain} {w = w'} {h = h'} {m = m'} {qx} k =
        let b = letter (head_of s).plain in
        let u : List ℕ = c.x ++ (d ∷ rest) in
        let f : List ℕ = 80 ∷ b ∷ (r.fields ++ (r.white ∷ u)) in
        let v : take (p + 1) s ++ rest ≡ f =
        ap (λ (z : ℕ). take (z + 1) s ++ rest) n ∙ ap (λ (z : List ℕ). take (2 + length x + 1) z ++ rest) (e ∙ ap (λ (z : List ℕ). 80 ∷ b ∷ (x ++ z)) (sym q)) ∙ cut_more 80 b x d t rest
        ∙ ap (λ (z : List ℕ). 80 ∷ b ∷ z) (j (d ∷ rest)) in
        let g : head_of f ≡ head_of s = head_again s r o u in
        let y = pgm_shown (subst (λ (z : List ℕ). Pgm plain w' h' m' qx z) v k) in
        let w : (pgm_raster f (head_of f)).number ≡ 24 =
        ap (λ (z : HeadRead). (pgm_raster f z).number) g
        ∙ ap (λ (z : Verdict). z.number) (c.never d t (sym q) f (head_of s).at rest (ap (λ (z : ℕ). drop z f) r.at ∙ after_head f 80 b r.white r.fields u refl)) in
        let l : ◌≡◌ {A = ℕ} 24 0 = sym w ∙ ap (λ (z : Verdict). z.number) y.fine in
        omega arith

pub ran_out : (s : List ℕ) → (head_of s).ok ≡ true → (pgm_raster s (head_of s)).number ≡ 24 → RanOut s (pgm_raster s (head_of s)).place
ran_out s o z =
    let H = head_of s in
    let r = head_sound s o in
    short_file s r o (pgm_raster s H).place
    (samples_short s H.plain H.maximum (H.width * H.height) H.at r.raster (ap (λ (k : ℕ). drop k s) r.at ∙ after_head s 80 (letter H.plain) r.white r.fields r.raster r.is) z)

-- ---- 23: from byte `place` on stands d, a byte of P5 or a number of P2; the j samples before it are not refused
pub record Above (s : List ℕ) (plain : Bool) (m k p place : ℕ) : Type 0 where
  pub d : List ℕ
  pub t : List ℕ
  pub is : drop place s ≡ d ++ t
  pub one : cond plain (is_number d) (eqb (length d) 1) ≡ true
  pub stops : plain ≡ true → is_digit (get_or t 0 0) ≡ false
  pub large : m < cond plain (value d) (get_or d 0 0)
  pub j : ℕ
  pub before : j < k
  pub fine : (raster_from s plain m j p).number ≡ 0

-- one sample that fits before
above_later : (s : List ℕ) (plain : Bool) (m k p place : ℕ) → there (sample_at s plain p) ≡ true → leb (sample_at s plain p).value m ≡ true → Above s plain m k (sample_at s plain p).next place → Above s plain m (suc k) p place
above_later s plain m k p place t f c = record {
  d = c.d;
  t = c.t;
  is = c.is;
  one = c.one;
  stops = c.stops;
  large = c.large;
  j = suc c.j;
  before = omega (arith, c.before);
  fine = ap (λ (z : Verdict). z.number) (raster_more s plain m c.j p t f) ∙ c.fine;
}

above_here : (s : List ℕ) (plain : Bool) (m k p : ℕ) → there (sample_at s plain p) ≡ true → leb (sample_at s plain p).value m ≡ false → Above s plain m (suc k) p (sample_at s plain p).first
above_here s false m k p t f =
    by_test (ltb p (length s))
    (λ h.
    let b = ltb-true p (length s) h in
    let w = raw_here s p b in
    record {
      d = get_or s p 0 ∷ [];
      t = drop (suc p) s;
      is = ap (λ (z : NumberRead). drop z.first s) w ∙ drop-cons s p 0 b;
      one = refl;
      stops = λ z. no z refl;
      large = leb-false (get_or s p 0) m (ap (λ (z : NumberRead). leb z.value m) (sym w) ∙ f);
      j = 0;
      before = omega arith;
      fine = ap (λ (z : Verdict). z.number) (raster_none s false m p);
    })
    (λ h. no t (ap there (raw_past s p (ltb-false p (length s) h)) ∙ le-ltb p p (omega arith)))
above_here s true m k p t f =
    let r = plain_split s p (drop p s) refl in
    let w = r.found in
    record {
      d = r.d;
      t = r.t;
      is = ap (λ (z : NumberRead). drop z.first s) w ∙ shift s r.g (r.d ++ r.t) p r.is;
      one = plain_number s p (drop p s) r t;
      stops = λ z. r.stops;
      large = leb-false (value r.d) m (ap (λ (z : NumberRead). leb z.value m) (sym w) ∙ f);
      j = 0;
      before = omega arith;
      fine = ap (λ (z : Verdict). z.number) (raster_none s true m p);
    }

pub above : (s : List ℕ) (plain : Bool) (m k p : ℕ) → (raster_from s plain m k p).number ≡ 23 → Above s plain m k p (raster_from s plain m k p).place
above s plain m zero p z = absurd (let y : 0 ≡ 23 = ap (λ (v : Verdict). v.number) (sym (raster_none s plain m p)) ∙ z in omega arith)
above s plain m (suc k) p z =
    let n = sample_at s plain p in
    by_test (there n)
    (λ t.
    by_test (leb n.value m)
    (λ f.
    let q = raster_more s plain m k p t f in
    rw (ap (λ (v : Verdict). v.place) q) (above_later s plain m k p _ t f (above s plain m k n.next (ap (λ (v : Verdict). v.number) (sym q) ∙ z))))
    (λ f. rw (ap (λ (v : Verdict). v.place) (raster_23 s plain m k p t f)) (above_here s plain m k p t f)))
    (λ t. absurd (let y : 24 ≡ 23 = ap (λ (v : Verdict). v.number) (sym (raster_24 s plain m k p t)) ∙ z in omega arith))

pub too_high : (s : List ℕ) → (pgm_raster s (head_of s)).number ≡ 23 → Above s (head_of s).plain (head_of s).maximum ((head_of s).width * (head_of s).height) (head_of s).at (pgm_raster s (head_of s)).place
too_high s z = above s (head_of s).plain (head_of s).maximum ((head_of s).width * (head_of s).height) (head_of s).at z
