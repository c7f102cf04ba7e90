-- Where the numbers of a header stop. Assumes nothing.
-- Definitions: `ones` numbers 1; `Stuck` numbers of a header that stop; `LastSplit` where the last of them begins.
-- Main laws: `fields_stuck` a header's numbers stop where other bytes could have made them whole, and at a byte with which none could; `last_split` the last number that is read.
use mathlib.Core.Path.{◌≡◌, refl, sym, ap, ◌∙◌, subst}
use mathlib.Core.Bool.{true, false}
use mathlib.Core.List.{List, [], ◌∷◌, ◌++◌, append_assoc}
use Prim.Native.Nat.{ℕ, zero, suc, ◌+◌, ◌-◌, ◌≤◌}
use native.Mathlib.Omega.{arith}
use lib.ListN.{length, get_or, drop, replicate, length-append, length-replicate, get_or-replicate}
use lib.Seq.{append_snoc}
use borrow.Author.Tests.{ltb-false}
use Rattle.tally.proofs.Test.{by_test, no}
use Rattle.form.specs.Reader.{is_digit}
use Rattle.pgm.specs.Reader.{NumberRead}
use Rattle.pgm.specs.Grammar.{in_gap, gap, all, is_number, value_from, value, Fields}
use Rattle.pgm.specs.Reader.{Three, there, gap_from, gap_end, number_from, number_at, field_at, fields_from}
use Rattle.pgm.proofs.Header.{field_gone, field_next, fields_end}
use Rattle.pgm.proofs.Pieces.{shift, gap_over, gap_stops, number_over}
use Rattle.pgm.proofs.Takes.{FieldSplit, field_split, field_complete, found_there, found_not, number_long, Full, full}

-- ---- numbers of a header
-- k numbers 1, a newline before each
abbrev pub ones : ℕ → List ℕ
ones zero = []
ones (suc k) = 10 ∷ 49 ∷ ones k

pub ones_fields : (k : ℕ) → Fields (replicate k 1) (ones k)
unfolding gap all value_from
ones_fields zero = Fields.none
ones_fields (suc k) = Fields.more (10 ∷ []) (49 ∷ []) refl (omega arith) refl (ones_fields k)

-- no number here: a byte that is neither of a gap nor a digit stops it, whatever follows
field_wrong : (s : List ℕ) (p : ℕ) (g t : List ℕ) (b : ℕ) → drop p s ≡ g ++ (b ∷ t) → gap false g ≡ true → in_gap false b ≡ false → is_digit b ≡ false
    → field_at s p ≡ record { first = p + length g; value = 0; next = p + length g + 0 }
unfolding all value_from
field_wrong s p g t b e a i d =
    let q : gap_end s p ≡ p + length g = ap (gap_from false p) e ∙ gap_over false p g (b ∷ t) a ∙ gap_stops (p + length g) (b ∷ t) i in
    ap (number_at s) q ∙ ap (number_from (p + length g) 0 (p + length g)) (shift s g (b ∷ t) p e) ∙ number_over (p + length g) 0 (p + length g) [] (b ∷ t) refl d

-- k numbers from byte p on, where l stands, stop after x: `mends` some numbers could have stood there; `never` with the byte that stands there none could, whatever follows
pub record Stuck (s : List ℕ) (k p : ℕ) (l : List ℕ) (place : ℕ) : Type 0 where
  pub x : List ℕ
  pub y : List ℕ
  pub is : l ≡ x ++ y
  pub at : place ≡ p + length x
  pub ws : List ℕ
  pub z : List ℕ
  pub mends : Fields ws (x ++ z)
  pub many : length ws ≡ k
  pub last : ◌≡◌ {A = ℕ} (get_or ws (k - 1) 0) 1
  pub never : (b : ℕ) (t : List ℕ) → y ≡ b ∷ t → (s' was : List ℕ) (f p' : ℕ) (t' : List ℕ) → drop p' s' ≡ x ++ (b ∷ t')
      → fields_from s' k was f p' ≡ record { ok = false; values = []; first = p' + length x; next = p' + length x }

gone_at : (s : List ℕ) (k : ℕ) (was : List ℕ) (f p a v : ℕ) → field_at s p ≡ record { first = a; value = v; next = a + 0 }
    → fields_from s (suc k) was f p ≡ record { ok = false; values = []; first = a; next = a }
gone_at s k was f p a v e = field_gone s k was f p (found_not (field_at s p) a v e) ∙ ap (λ (n : NumberRead). record { ok = false; values = []; first = n.first; next = n.first }) e

last_one : (k : ℕ) → ◌≡◌ {A = ℕ} (get_or (replicate (suc k) 1) (suc k - 1) 0) 1
last_one k = get_or-replicate (suc k) (suc k - 1) 1 0 (omega arith)

one_more : (k : ℕ) (g : List ℕ) → gap false (g ++ (10 ∷ [])) ≡ true → Fields (replicate (suc k) 1) (g ++ ones (suc k))
unfolding all value_from
one_more k g a =
    subst (λ (z : List ℕ). Fields (replicate (suc k) 1) z) (append_snoc g 10 (49 ∷ ones k))
    (Fields.more (g ++ (10 ∷ [])) (49 ∷ []) a (omega (arith, length-append g (10 ∷ []))) refl (ones_fields k))

-- a digit would have made a number
no_digits : (a : ℕ) (d : List ℕ) → a + length d ≤ a → d ≡ []
no_digits a [] h = refl
no_digits a (b ∷ d) h = absurd (omega arith)

-- the first number is missing
stuck_here : (s : List ℕ) (k : ℕ) (was : List ℕ) (f p : ℕ) (l : List ℕ) → FieldSplit s p l → there (field_at s p) ≡ false → Stuck s (suc k) p l (fields_from s (suc k) was f p).first
stuck_here s k was f p l r h =
    let n : r.d ≡ [] = no_digits (p + length r.g) r.d (ltb-false _ _ (ap there (sym r.found) ∙ h)) in
    let m : r.d ++ r.t ≡ r.t = ap (λ (z : List ℕ). z ++ r.t) n in
    record {
      x = r.g;
      y = r.t;
      is = r.is ∙ ap (λ (z : List ℕ). r.g ++ z) m;
      at = ap (λ (z : Three). z.first) (field_gone s k was f p h) ∙ ap (λ (z : NumberRead). z.first) r.found;
      ws = replicate (suc k) 1;
      z = ones (suc k);
      mends = one_more k r.g r.ended;
      many = length-replicate (suc k) 1;
      last = last_one k;
      never =
          λ b t q s' was' f' p' t' e'.
          let i : in_gap false b ≡ false = ap (λ (z : List ℕ). in_gap false (get_or z 0 0)) (sym (m ∙ q)) ∙ r.outside in
          let d : is_digit b ≡ false = ap (λ (z : List ℕ). is_digit (get_or z 0 0)) (sym q) ∙ r.stops in
          let w : gap false r.g ≡ true = r.whole (omega (arith, ap length (m ∙ q))) in
          gone_at s' k was' f' p' (p' + length r.g) 0 (field_wrong s' p' r.g t' b e' w i d);
    }

last_later : (k v : ℕ) (ws : List ℕ) → length ws ≡ k → get_or ws (k - 1) 0 ≡ 1 → get_or (v ∷ ws) (suc k - 1) 0 ≡ 1
last_later zero v [] n e = absurd (omega arith)
last_later zero v (w ∷ ws) n e = absurd (omega arith)
last_later (suc k) v ws n e =
    let a : suc (suc k) - 1 ≡ suc k = omega arith in
    let b : k ≡ suc k - 1 = omega arith in
    ap (λ (z : ℕ). get_or (v ∷ ws) z 0) a ∙ ap (λ (z : ℕ). get_or ws z 0) b ∙ e

-- the byte after a number is the same, whatever follows the byte that stands there
pub same_first : (x : List ℕ) (b : ℕ) (t u : List ℕ) → get_or (x ++ (b ∷ t)) 0 0 ≡ get_or (x ++ (b ∷ u)) 0 0
same_first [] b t u = refl
same_first (a ∷ x) b t u = refl

-- the first number is there, and a later one is missing
stuck_later : (s : List ℕ) (k : ℕ) (was : List ℕ) (f p : ℕ) (l : List ℕ) (r : FieldSplit s p l) → Full s p l r → there (field_at s p) ≡ true
    → Stuck s k (p + length r.g + length r.d) r.t (fields_from s (suc k) was f p).first → Stuck s (suc k) p l (fields_from s (suc k) was f p).first
stuck_later s k was f p l r y h c =
    let g = r.g in
    let d = r.d in
    let v = append_assoc g (d ++ c.x) in
    let u = append_assoc d c.x in
    let j : (w : List ℕ) → (g ++ (d ++ c.x)) ++ w ≡ g ++ (d ++ (c.x ++ w)) = λ w. v w ∙ ap (λ (z : List ℕ). g ++ z) (u w) in
    record {
      x = g ++ (d ++ c.x);
      y = c.y;
      is = r.is ∙ ap (λ (z : List ℕ). g ++ (d ++ z)) c.is ∙ sym (j c.y);
      at = c.at ∙ omega (arith, length-append g (d ++ c.x), length-append d c.x);
      ws = value d ∷ c.ws;
      z = c.z;
      mends = subst (λ (z : List ℕ). Fields (value d ∷ c.ws) z) (sym (j c.z)) (Fields.more g d y.gapped y.apart y.number c.mends);
      many = ap suc c.many;
      last = last_later k (value d) c.ws c.many c.last;
      never =
          λ b t q s' was' f' p' t' e'.
          let e2 : drop p' s' ≡ g ++ (d ++ (c.x ++ (b ∷ t'))) = e' ∙ j (b ∷ t') in
          let i : is_digit (get_or (c.x ++ (b ∷ t')) 0 0) ≡ false =
          ap is_digit (same_first c.x b t' t) ∙ ap (λ (z : List ℕ). is_digit (get_or z 0 0)) (sym (c.is ∙ ap (λ (z : List ℕ). c.x ++ z) q)) ∙ r.stops in
          let n = field_complete s' p' g d (c.x ++ (b ∷ t')) e2 y.gapped y.number i in
          let p2 = p' + length g + length d in
          let e3 = shift s' d (c.x ++ (b ∷ t')) (p' + length g) (shift s' g (d ++ (c.x ++ (b ∷ t'))) p' e2) in
          let o : p2 + length c.x ≡ p' + length (g ++ (d ++ c.x)) = omega (arith, length-append g (d ++ c.x), length-append d c.x) in
          field_next s' k was' f' p' (found_there (field_at s' p') (p' + length g) (length d) (value d) (number_long d y.number) n)
          ∙ ap (λ (z : NumberRead). fields_from s' k (was' ++ (z.value ∷ [])) z.first z.next) n
          ∙ c.never b t q s' (was' ++ (value d ∷ [])) (p' + length g) p2 t' e3
          ∙ (λ z. record { ok = false; values = []; first = o z; next = o z });
    }

pub fields_stuck : (s : List ℕ) (k : ℕ) (was : List ℕ) (f p : ℕ) (l : List ℕ) → drop p s ≡ l → is_digit (get_or l 0 0) ≡ false → (fields_from s k was f p).ok ≡ false
    → Stuck s k p l (fields_from s k was f p).first
fields_stuck s zero was f p l e i o = no (ap (λ (z : Three). z.ok) (fields_end s was f p)) o
fields_stuck s (suc k) was f p l e i o =
    let r = field_split s p l e in
    by_test (there (field_at s p))
    (λ h.
    let q = field_next s k was f p h ∙ ap (λ (z : NumberRead). fields_from s k (was ++ (z.value ∷ [])) z.first z.next) r.found in
    let c = fields_stuck s k (was ++ (value r.d ∷ [])) (p + length r.g) (p + length r.g + length r.d) r.t r.rest r.stops (ap (λ (z : Three). z.ok) (sym q) ∙ o) in
    stuck_later s k was f p l r (full s p l r h i) h (rw (ap (λ (z : Three). z.first) q) c))
    (λ h. stuck_here s k was f p l r h)

-- ---- the last number that is read
pub record LastSplit (s : List ℕ) (k : ℕ) (was : List ℕ) (f p : ℕ) (l : List ℕ) : Type 0 where
  pub x : List ℕ
  pub d : List ℕ
  pub t : List ℕ
  pub is : l ≡ x ++ (d ++ t)
  pub first : (fields_from s k was f p).first ≡ p + length x
  pub number : is_number d ≡ true
  pub stops : is_digit (get_or t 0 0) ≡ false
  pub ws : List ℕ
  pub values : (fields_from s k was f p).values ≡ was ++ (ws ++ (value d ∷ []))
  pub many : suc (length ws) ≡ k
  pub mends : Fields (ws ++ (1 ∷ [])) (x ++ (49 ∷ []))

-- what reading goes on with after a number
on : (s : List ℕ) (k : ℕ) (was : List ℕ) (f p : ℕ) (l : List ℕ) (r : FieldSplit s p l) → there (field_at s p) ≡ true
    → fields_from s (suc k) was f p ≡ fields_from s k (was ++ (value r.d ∷ [])) (p + length r.g) (p + length r.g + length r.d)
on s k was f p l r h = field_next s k was f p h ∙ ap (λ (z : NumberRead). fields_from s k (was ++ (z.value ∷ [])) z.first z.next) r.found

is_read : (s : List ℕ) (k : ℕ) (was : List ℕ) (f p : ℕ) → (fields_from s (suc k) was f p).ok ≡ true → there (field_at s p) ≡ true
is_read s k was f p o = by_test (there (field_at s p)) (λ h. h) (λ h. no o (ap (λ (z : Three). z.ok) (field_gone s k was f p h)))

pub last_split : (s : List ℕ) (k : ℕ) (was : List ℕ) (f p : ℕ) (l : List ℕ) → drop p s ≡ l → is_digit (get_or l 0 0) ≡ false → (fields_from s (suc k) was f p).ok ≡ true → LastSplit s (suc k) was f p l
unfolding all value_from
last_split s zero was f p l e i o =
    let r = field_split s p l e in
    let h = is_read s 0 was f p o in
    let y = full s p l r h i in
    let q = on s 0 was f p l r h ∙ fields_end s (was ++ (value r.d ∷ [])) (p + length r.g) (p + length r.g + length r.d) in
    record {
      x = r.g;
      d = r.d;
      t = r.t;
      is = r.is;
      first = ap (λ (z : Three). z.first) q;
      number = y.number;
      stops = r.stops;
      ws = [];
      values = ap (λ (z : Three). z.values) q;
      many = refl;
      mends = Fields.more r.g (49 ∷ []) y.gapped y.apart refl Fields.none;
    }
last_split s (suc k) was f p l e i o =
    let r = field_split s p l e in
    let h = is_read s (suc k) was f p o in
    let y = full s p l r h i in
    let g = r.g in
    let d = r.d in
    let q = on s (suc k) was f p l r h in
    let c = last_split s k (was ++ (value d ∷ [])) (p + length g) (p + length g + length d) r.t r.rest r.stops (ap (λ (z : Three). z.ok) (sym q) ∙ o) in
    let j : (w : List ℕ) → (g ++ (d ++ c.x)) ++ w ≡ g ++ (d ++ (c.x ++ w)) = λ w. append_assoc g (d ++ c.x) w ∙ ap (λ (z : List ℕ). g ++ z) (append_assoc d c.x w) in
    record {
      x = g ++ (d ++ c.x);
      d = c.d;
      t = c.t;
      is = r.is ∙ ap (λ (z : List ℕ). g ++ (d ++ z)) c.is ∙ sym (j (c.d ++ c.t));
      first = ap (λ (z : Three). z.first) q ∙ c.first ∙ omega (arith, length-append g (d ++ c.x), length-append d c.x);
      number = c.number;
      stops = c.stops;
      ws = value d ∷ c.ws;
      values = ap (λ (z : Three). z.values) q ∙ c.values ∙ append_assoc was (value d ∷ []) (c.ws ++ (value c.d ∷ []));
      many = ap suc c.many;
      mends = subst (λ (z : List ℕ). Fields (value d ∷ (c.ws ++ (1 ∷ []))) z) (sym (j (49 ∷ []))) (Fields.more g d y.gapped y.apart y.number c.mends);
    }
