-- The reader takes exactly the grammar's numbers. Assumes nothing.
-- Definitions: `Fielded` some numbers are read; `FieldSplit` a list parted after a gap and digits; `FieldsSplit` parted after some numbers.
-- Main laws: `fields_complete` the grammar's numbers are read; `fields_sound` what is read are the grammar's numbers; `field_split` every list parts so; `sep` no digit follows a number directly.
use mathlib.Core.Path.{◌≡◌, refl, sym, ap, ◌∙◌}
use mathlib.Core.Bool.{true, false}
use mathlib.Core.List.{List, [], ◌∷◌, ◌++◌, append_assoc, append-nil}
use Prim.Native.Nat.{ℕ, zero, suc, ◌+◌, ◌≤◌, ◌<◌}
use native.Mathlib.Omega.{arith}
use lib.Dec.{ltb}
use lib.ListN.{length, get_or, drop, length-append}
use borrow.Author.Tests.{lt-ltb, le-ltb, ltb-true}
use Rattle.tally.proofs.Test.{by_test, no, and_1, and_2, both}
use Rattle.form.specs.Reader.{is_digit}
use Rattle.pgm.specs.Reader.{NumberRead}
use Rattle.pgm.specs.Grammar.{in_gap, opened, gap, all, is_number, value, Fields}
use Rattle.pgm.specs.Reader.{Three, there, gap_from, gap_end, number_from, number_at, field_at, fields_from}
use Rattle.pgm.proofs.Bytes.{digit_no_gap, gap_no_digit}
use Rattle.pgm.proofs.Header.{field_gone, field_next, fields_end}
use Rattle.pgm.proofs.Pieces.{shift, gap_over, gap_stops, number_over, gap_split, number_split}

-- ---- small things
pub first_digit : (d t : List ℕ) → is_number d ≡ true → is_digit (get_or (d ++ t) 0 0) ≡ true
unfolding all
first_digit [] t e = no (and_1 (ltb 0 0) true e) refl
first_digit (b ∷ d) t e = and_1 (is_digit b) (all is_digit d) (and_2 (ltb 0 (length (b ∷ d))) (all is_digit (b ∷ d)) e)

pub number_long : (d : List ℕ) → is_number d ≡ true → 0 < length d
number_long d e = ltb-true 0 (length d) (and_1 (ltb 0 (length d)) (all is_digit d) e)

pub number_digits : (d : List ℕ) → is_number d ≡ true → all is_digit d ≡ true
number_digits d e = and_2 (ltb 0 (length d)) (all is_digit d) e

gap_first : (g l : List ℕ) → gap false g ≡ true → 1 ≤ length g → is_digit (get_or (g ++ l) 0 0) ≡ false
unfolding gap
gap_first [] l e h = absurd (omega arith)
gap_first (b ∷ g) l e h = gap_no_digit b (and_1 (in_gap false b) (gap (opened false b) g) e)

-- after a number comes the next gap, or what follows the last one
pub sep : {ws x : List ℕ} (u : List ℕ) → Fields ws x → is_digit (get_or u 0 0) ≡ false → is_digit (get_or (x ++ u) 0 0) ≡ false
sep u Fields.none e = e
sep u (Fields.more {t} g d a h n r) e = ap (λ (z : List ℕ). is_digit (get_or z 0 0)) (append_assoc g (d ++ t) u) ∙ gap_first g ((d ++ t) ++ u) a h

-- ---- one number of the header
pub field_complete : (s : List ℕ) (p : ℕ) (g d t : List ℕ) → drop p s ≡ g ++ (d ++ t) → gap false g ≡ true → is_number d ≡ true → is_digit (get_or t 0 0) ≡ false
    → field_at s p ≡ record { first = p + length g; value = value d; next = p + length g + length d }
field_complete s p g d t e a n f =
    let q : gap_end s p ≡ p + length g =
    ap (gap_from false p) e ∙ gap_over false p g (d ++ t) a ∙ gap_stops (p + length g) (d ++ t) (digit_no_gap (get_or (d ++ t) 0 0) (first_digit d t n)) in
    ap (number_at s) q ∙ ap (number_from (p + length g) 0 (p + length g)) (shift s g (d ++ t) p e) ∙ number_over (p + length g) 0 (p + length g) d t (number_digits d n) f

-- it is there
pub found_there : (n : NumberRead) (a b v : ℕ) → 0 < b → n ≡ record { first = a; value = v; next = a + b } → there n ≡ true
found_there n a b v h e = ap there e ∙ lt-ltb a (a + b) (omega arith)

pub found_not : (n : NumberRead) (a v : ℕ) → n ≡ record { first = a; value = v; next = a + 0 } → there n ≡ false
found_not n a v e = ap there e ∙ le-ltb a (a + 0) (omega arith)

-- ---- the numbers of the header
pub record Fielded (s : List ℕ) (k : ℕ) (vs ws : List ℕ) (f p q : ℕ) : Type 0 where
  pub first : ℕ
  pub is : fields_from s k vs f p ≡ record { ok = true; values = vs ++ ws; first = first; next = q }

pub fields_complete : {ws x : List ℕ} (s u was : List ℕ) (f p : ℕ) → Fields ws x → drop p s ≡ x ++ u → is_digit (get_or u 0 0) ≡ false → Fielded s (length ws) was ws f p (p + length x)
fields_complete s u was f p Fields.none e i =
    let w : p ≡ p + 0 = omega arith in
    record { first = f; is = fields_end s was f p ∙ (λ z. record { ok = true; values = sym (append-nil was) z; first = f; next = w z }) }
fields_complete s u was f p (Fields.more {vs} {t} g d a h n r) e i =
    let m = length g in
    let k = length d in
    let e2 : drop p s ≡ g ++ (d ++ (t ++ u)) = e ∙ append_assoc g (d ++ t) u ∙ ap (λ (z : List ℕ). g ++ z) (append_assoc d t u) in
    let q = field_complete s p g d (t ++ u) e2 a n (sep u r i) in
    let e3 : drop (p + m + k) s ≡ t ++ u = shift s d (t ++ u) (p + m) (shift s g (d ++ (t ++ u)) p e2) in
    let c = fields_complete s u (was ++ (value d ∷ [])) (p + m) (p + m + k) r e3 i in
    let w : p + m + k + length t ≡ p + length (g ++ (d ++ t)) = omega (arith, length-append g (d ++ t), length-append d t) in
    record {
      first = c.first;
      is =
          field_next s (length vs) was f p (found_there (field_at s p) (p + m) k (value d) (number_long d n) q)
          ∙ ap (λ (z : NumberRead). fields_from s (length vs) (was ++ (z.value ∷ [])) z.first z.next) q
          ∙ c.is
          ∙ (λ z. record { ok = true; values = append_assoc was (value d ∷ []) vs z; first = c.first; next = w z });
    }

-- ---- and back: a gap and digits, as far as they go
pub record FieldSplit (s : List ℕ) (p : ℕ) (l : List ℕ) : Type 0 where
  pub g : List ℕ
  pub d : List ℕ
  pub t : List ℕ
  pub is : l ≡ g ++ (d ++ t)
  pub found : field_at s p ≡ record { first = p + length g; value = value d; next = p + length g + length d }
  pub digits : all is_digit d ≡ true
  pub stops : is_digit (get_or t 0 0) ≡ false
  pub whole : 0 < length (d ++ t) → gap false g ≡ true
  pub ended : gap false (g ++ (10 ∷ [])) ≡ true
  pub outside : in_gap false (get_or (d ++ t) 0 0) ≡ false
  pub rest : drop (p + length g + length d) s ≡ t

pub field_split : (s : List ℕ) (p : ℕ) (l : List ℕ) → drop p s ≡ l → FieldSplit s p l
field_split s p l e =
    let a = gap_split false p l in
    let p2 = p + length a.g in
    let q : gap_end s p ≡ p2 = ap (gap_from false p) e ∙ a.ends in
    let e2 : drop p2 s ≡ a.t = shift s a.g a.t p (e ∙ a.is) in
    let b = number_split p2 0 p2 a.t in
    record {
      g = a.g;
      d = b.d;
      t = b.t;
      is = a.is ∙ ap (λ (z : List ℕ). a.g ++ z) b.is;
      found = ap (number_at s) q ∙ ap (number_from p2 0 p2) e2 ∙ b.found;
      digits = b.digits;
      stops = b.stops;
      whole = λ h. a.whole (rw (sym b.is) at h);
      ended = a.ended;
      outside = ap (λ (z : List ℕ). in_gap false (get_or z 0 0)) (sym b.is) ∙ a.stops;
      rest = shift s b.d b.t p2 (e2 ∙ b.is);
    }

-- a number with a gap before it, where no digit stands first
pub record Full (s : List ℕ) (p : ℕ) (l : List ℕ) (r : FieldSplit s p l) : Type 0 where
  pub long : 0 < length r.d
  pub number : is_number r.d ≡ true
  pub gapped : gap false r.g ≡ true
  pub apart : 1 ≤ length r.g

pub full : (s : List ℕ) (p : ℕ) (l : List ℕ) (r : FieldSplit s p l) → there (field_at s p) ≡ true → is_digit (get_or l 0 0) ≡ false → Full s p l r
full s p l r h i =
    let k = length r.d in
    let a : p + length r.g < p + length r.g + k = ltb-true _ _ (ap there (sym r.found) ∙ h) in
    let b : 0 < k = omega arith in
    let n : is_number r.d ≡ true = both (lt-ltb 0 k b) r.digits in
    record {
      long = b;
      number = n;
      gapped = r.whole (omega (arith, length-append r.d r.t));
      apart = some r.g (ap (λ (z : List ℕ). is_digit (get_or z 0 0)) (sym r.is) ∙ i) n;
    }
  where
    some : (g : List ℕ) → is_digit (get_or (g ++ (r.d ++ r.t)) 0 0) ≡ false → is_number r.d ≡ true → 1 ≤ length g
    some [] e n = no (first_digit r.d r.t n) e
    some (b ∷ g) e n = omega arith

pub record FieldsSplit (s : List ℕ) (k : ℕ) (was : List ℕ) (f p : ℕ) (l : List ℕ) : Type 0 where
  pub ws : List ℕ
  pub x : List ℕ
  pub t : List ℕ
  pub is : l ≡ x ++ t
  pub fields : Fields ws x
  pub many : length ws ≡ k
  pub values : (fields_from s k was f p).values ≡ was ++ ws
  pub next : (fields_from s k was f p).next ≡ p + length x
  pub stops : is_digit (get_or t 0 0) ≡ false

pub fields_sound : (s : List ℕ) (k : ℕ) (was : List ℕ) (f p : ℕ) (l : List ℕ) → drop p s ≡ l → is_digit (get_or l 0 0) ≡ false → (fields_from s k was f p).ok ≡ true → FieldsSplit s k was f p l
fields_sound s zero was f p l e i o =
    record {
      ws = [];
      x = [];
      t = l;
      is = refl;
      fields = Fields.none;
      many = refl;
      values = ap (λ (z : Three). z.values) (fields_end s was f p) ∙ sym (append-nil was);
      next = ap (λ (z : Three). z.next) (fields_end s was f p) ∙ omega arith;
      stops = i;
    }
fields_sound s (suc k) was f p l e i o =
    by_test (there (field_at s p))
    (λ h.
    let r = field_split s p l e in
    let y = full s p l r h i in
    let q = field_next s k was f p h ∙ ap (λ (z : NumberRead). fields_from s k (was ++ (z.value ∷ [])) z.first z.next) r.found in
    let c = fields_sound s k (was ++ (value r.d ∷ [])) (p + length r.g) (p + length r.g + length r.d) r.t r.rest r.stops (ap (λ (z : Three). z.ok) (sym q) ∙ o) in
    record {
      ws = value r.d ∷ c.ws;
      x = r.g ++ (r.d ++ c.x);
      t = c.t;
      is = r.is ∙ ap (λ (z : List ℕ). r.g ++ (r.d ++ z)) c.is ∙ sym (append_assoc r.g (r.d ++ c.x) c.t ∙ ap (λ (z : List ℕ). r.g ++ z) (append_assoc r.d c.x c.t));
      fields = Fields.more r.g r.d y.gapped y.apart y.number c.fields;
      many = ap suc c.many;
      values = ap (λ (z : Three). z.values) q ∙ c.values ∙ append_assoc was (value r.d ∷ []) c.ws;
      next = ap (λ (z : Three). z.next) q ∙ c.next ∙ omega (arith, length-append r.g (r.d ++ c.x), length-append r.d c.x);
      stops = c.stops;
    })
    (λ h. no o (ap (λ (z : Three). z.ok) (field_gone s k was f p h)))
