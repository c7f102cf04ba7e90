-- Gaps, white space and numbers, over lists: what is passed over, and what a list begins with. Assumes nothing.
-- Definitions: `GapSplit`, `WhiteSplit`, `NumberSplit` a list parted where a gap, white space or a number ends.
-- Main laws: `gap_over`, `gap_stops`, `white_over`, `white_stops`, `number_over` what reading passes over, and where it ends; `gap_split`, `white_split`, `number_split` every list parts so; `shift` what stands after a first part.
use mathlib.Core.Path.{◌≡◌, refl, sym, ap, ◌∙◌}
use mathlib.Core.Bool.{Bool, true, false, not}
use mathlib.Core.List.{List, [], ◌∷◌, ◌++◌}
use Prim.Native.Nat.{ℕ, suc, ◌+◌, ◌-◌, ◌*◌, ◌<◌}
use native.Mathlib.Omega.{arith}
use lib.ListN.{length, get_or, drop}
use lib.Seq.{drop-drop, drop-append_seam}
use borrow.Author.Tests.{not-true}
use Rattle.tally.proofs.Test.{by_test, no, and_1, and_2, both}
use Rattle.form.specs.Reader.{is_digit}
use Rattle.pgm.specs.Grammar.{is_white, in_gap, opened, gap, all, value_from}
use Rattle.pgm.specs.Reader.{gap_from, white_from, number_from}

-- what stands after a part
pub shift : (s a t : List ℕ) (p : ℕ) → drop p s ≡ a ++ t → drop (p + length a) s ≡ t
shift s a t p e = sym (drop-drop (length a) p s) ∙ ap (drop (length a)) e ∙ drop-append_seam a t

-- ---- passed over
pub gap_over : (c : Bool) (i : ℕ) (g t : List ℕ) → gap c g ≡ true → gap_from c i (g ++ t) ≡ gap_from false (i + length g) t
unfolding gap gap_from
gap_over c i [] t e = let z : c ≡ false = not-true c e in rw z (ap (λ (k : ℕ). gap_from false k t) (omega arith))
gap_over c i (b ∷ g) t e =
    let x = and_1 (in_gap c b) (gap (opened c b) g) e in
    let y = and_2 (in_gap c b) (gap (opened c b) g) e in
    rw (x, gap_from) (gap_over (opened c b) (suc i) g t y ∙ ap (λ (k : ℕ). gap_from false k t) (omega arith))

pub gap_stops : (i : ℕ) (t : List ℕ) → in_gap false (get_or t 0 0) ≡ false → gap_from false i t ≡ i
unfolding gap_from
gap_stops i [] e = refl
gap_stops i (b ∷ t) e = rw (e, gap_from)

pub white_over : (i : ℕ) (g t : List ℕ) → all is_white g ≡ true → white_from i (g ++ t) ≡ white_from (i + length g) t
unfolding all white_from
white_over i [] t e = ap (λ (k : ℕ). white_from k t) (omega arith)
white_over i (b ∷ g) t e =
    rw (and_1 (is_white b) (all is_white g) e, white_from) (white_over (suc i) g t (and_2 (is_white b) (all is_white g) e) ∙ ap (λ (k : ℕ). white_from k t) (omega arith))

pub white_stops : (i : ℕ) (t : List ℕ) → is_white (get_or t 0 0) ≡ false → white_from i t ≡ i
unfolding white_from
white_stops i [] e = refl
white_stops i (b ∷ t) e = rw (e, white_from)

number_stops : (p v i : ℕ) (t : List ℕ) → is_digit (get_or t 0 0) ≡ false → number_from p v i t ≡ record { first = p; value = v; next = i }
unfolding number_from
number_stops p v i [] e = refl
number_stops p v i (b ∷ t) e = rw (e, number_from)

pub number_over : (p v i : ℕ) (d t : List ℕ) → all is_digit d ≡ true → is_digit (get_or t 0 0) ≡ false
    → number_from p v i (d ++ t) ≡ record { first = p; value = value_from v d; next = i + length d }
unfolding all value_from number_from
number_over p v i [] t e f = number_stops p v i t f ∙ ap (λ (k : ℕ). record { first = p; value = v; next = k }) (omega arith)
number_over p v i (b ∷ d) t e f =
    rw (and_1 (is_digit b) (all is_digit d) e, number_from)
    (number_over p (v * 10 + (b - 48)) (suc i) d t (and_2 (is_digit b) (all is_digit d) e) f
    ∙ ap (λ (k : ℕ). record { first = p; value = value_from (v * 10 + (b - 48)) d; next = k }) (omega arith))

-- ---- parted
-- `ended`: with a newline more the gap is one, whether a comment was open or not
pub record GapSplit (c : Bool) (i : ℕ) (l : List ℕ) : Type 0 where
  pub g : List ℕ
  pub t : List ℕ
  pub is : l ≡ g ++ t
  pub ends : gap_from c i l ≡ i + length g
  pub whole : 0 < length t → gap c g ≡ true
  pub ended : gap c (g ++ (10 ∷ [])) ≡ true
  pub stops : in_gap false (get_or t 0 0) ≡ false

pub gap_split : (c : Bool) (i : ℕ) (l : List ℕ) → GapSplit c i l
unfolding gap gap_from
gap_split c i [] =
    record { g = []; t = []; is = refl; ends = omega arith; whole = λ h. absurd (omega arith); ended = newline c; stops = refl }
  where
    newline : (c : Bool) → gap c (10 ∷ []) ≡ true
    newline true = refl
    newline false = refl
gap_split c i (b ∷ l) =
    by_test (in_gap c b)
    (λ e.
    let r = gap_split (opened c b) (suc i) l in
    record {
      g = b ∷ r.g;
      t = r.t;
      is = ap (λ (z : List ℕ). b ∷ z) r.is;
      ends = rw (e, gap_from) (r.ends ∙ omega arith);
      whole = λ h. both e (r.whole h);
      ended = both e r.ended;
      stops = r.stops;
    })
    (λ e.
    let z = outside c b e in
    record {
      g = [];
      t = b ∷ l;
      is = refl;
      ends = rw (e, gap_from) (omega arith);
      whole = λ h. ap not z;
      ended = ap (λ (x : Bool). gap x (10 ∷ [])) z;
      stops = ap (λ (x : Bool). in_gap x b) (sym z) ∙ e;
    })
  where
    outside : (c : Bool) (b : ℕ) → in_gap c b ≡ false → c ≡ false
    outside true b e = no refl e
    outside false b e = refl

pub record WhiteSplit (i : ℕ) (l : List ℕ) : Type 0 where
  pub g : List ℕ
  pub t : List ℕ
  pub is : l ≡ g ++ t
  pub ends : white_from i l ≡ i + length g
  pub white : all is_white g ≡ true
  pub stops : is_white (get_or t 0 0) ≡ false

pub white_split : (i : ℕ) (l : List ℕ) → WhiteSplit i l
unfolding all white_from
white_split i [] = record { g = []; t = []; is = refl; ends = omega arith; white = refl; stops = refl }
white_split i (b ∷ l) =
    by_test (is_white b)
    (λ e.
    let r = white_split (suc i) l in
    record { g = b ∷ r.g; t = r.t; is = ap (λ (z : List ℕ). b ∷ z) r.is; ends = rw (e, white_from) (r.ends ∙ omega arith); white = both e r.white; stops = r.stops })
    (λ e. record { g = []; t = b ∷ l; is = refl; ends = rw (e, white_from) (omega arith); white = refl; stops = e })

pub record NumberSplit (p v i : ℕ) (l : List ℕ) : Type 0 where
  pub d : List ℕ
  pub t : List ℕ
  pub is : l ≡ d ++ t
  pub found : number_from p v i l ≡ record { first = p; value = value_from v d; next = i + length d }
  pub digits : all is_digit d ≡ true
  pub stops : is_digit (get_or t 0 0) ≡ false

pub number_split : (p v i : ℕ) (l : List ℕ) → NumberSplit p v i l
unfolding all value_from number_from
number_split p v i [] = record { d = []; t = []; is = refl; found = ap (λ (k : ℕ). record { first = p; value = v; next = k }) (omega arith); digits = refl; stops = refl }
number_split p v i (b ∷ l) =
    by_test (is_digit b)
    (λ e.
    let r = number_split p (v * 10 + (b - 48)) (suc i) l in
    record {
      d = b ∷ r.d;
      t = r.t;
      is = ap (λ (z : List ℕ). b ∷ z) r.is;
      found = rw (e, number_from) (r.found ∙ ap (λ (k : ℕ). record { first = p; value = value_from (v * 10 + (b - 48)) r.d; next = k }) (omega arith));
      digits = both e r.digits;
      stops = r.stops;
    })
    (λ e. record { d = []; t = b ∷ l; is = refl; found = rw (e, number_from) (ap (λ (k : ℕ). record { first = p; value = v; next = k }) (omega arith)); digits = refl; stops = e })
