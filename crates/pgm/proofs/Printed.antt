-- A picture printed in either form is read as that picture. Assumes nothing.
-- Main laws: `value_decimal`, `decimal_number` a number in decimal is a number of the grammar; `text_fields`, `text_samples` so are numbers one after the other; `printed_pgm` the printed picture is a file of the grammar; `printed_reads` it is read as the picture, so both forms alike; `read_printed` what was read, printed, is read as the same.
use mathlib.Core.Path.{◌≡◌, refl, sym, ap, ◌∙◌, subst}
use mathlib.Core.Bool.{Bool, true, false}
use mathlib.Core.List.{List, [], ◌∷◌, ◌++◌}
use Prim.Native.Nat.{ℕ, ◌+◌, ◌-◌, ◌*◌, ◌/◌, ◌%◌, ◌≤◌}
use native.Mathlib.Omega.{arith}
use lib.Dec.{leb}
use lib.ListN.{length, get_or, drop}
use borrow.Author.Tests.{lt-ltb}
use Rattle.tally.proofs.Test.{and_1, and_2, both}
use Rattle.refuse.specs.Shape.{Sides}
use Rattle.form.specs.Decimal.{decimal}
use Rattle.form.specs.Reader.{is_digit}
use Rattle.form.proofs.Decimal.{by_digits, decimal_small, decimal_more, decimal_some}
use Rattle.form.proofs.Numbers.{is_digit_lem}
use Rattle.pgm.specs.Grammar.{gap, all, is_number, value_from, value, Fields, Samples, Pgm}
use Rattle.pgm.specs.Reader.{head_of}
use Rattle.pgm.specs.Call.{pgm_samples, pgm_verdict, pgm_answer, pgm_room}
use Rattle.pgm.specs.Writer.{numbers_text, raster_text, pgm_text}
use Rattle.pgm.proofs.Whole.{pgm_done, done_pgm}

-- ---- a number in decimal
value_snoc : (v b : ℕ) (d : List ℕ) → value_from v (d ++ (b ∷ [])) ≡ value_from v d * 10 + (b - 48)
unfolding value_from
value_snoc v b [] = refl
value_snoc v b (a ∷ d) = value_snoc (v * 10 + (a - 48)) b d

all_snoc : (p : ℕ → Bool) (b : ℕ) (d : List ℕ) → all p d ≡ true → p b ≡ true → all p (d ++ (b ∷ [])) ≡ true
unfolding all
all_snoc p b [] e f = both f refl
all_snoc p b (a ∷ d) e f = both (and_1 (p a) (all p d) e) (all_snoc p b d (and_2 (p a) (all p d) e) f)

pub value_decimal : (n : ℕ) → value (decimal n) ≡ n
unfolding value_from
value_decimal =
    by_digits (λ n. value (decimal n) ≡ n)
    (λ n h. ap value (decimal_small n h) ∙ omega arith)
    (λ n h e. ap value (decimal_more n h) ∙ value_snoc 0 (48 + n % 10) (decimal (n / 10)) ∙ ap (λ (z : ℕ). z * 10 + (48 + n % 10 - 48)) e ∙ omega arith)

decimal_digits : (n : ℕ) → all is_digit (decimal n) ≡ true
unfolding all
decimal_digits =
    by_digits (λ n. all is_digit (decimal n) ≡ true)
    (λ n h. ap (all is_digit) (decimal_small n h) ∙ both (is_digit_lem (48 + n) (omega arith) (omega arith)) refl)
    (λ n h e. ap (all is_digit) (decimal_more n h) ∙ all_snoc is_digit (48 + n % 10) (decimal (n / 10)) e (is_digit_lem (48 + n % 10) (omega arith) (omega arith)))

pub decimal_number : (n : ℕ) → is_number (decimal n) ≡ true
decimal_number n = both (lt-ltb 0 (length (decimal n)) (decimal_some n)) (decimal_digits n)

-- ---- numbers one after the other
pub text_fields : (vs : List ℕ) → Fields vs (numbers_text vs)
unfolding numbers_text gap
text_fields [] = Fields.none
text_fields (v ∷ vs) =
    subst (λ (z : ℕ). Fields (z ∷ vs) (32 ∷ (decimal v ++ numbers_text vs))) (value_decimal v)
    (Fields.more (32 ∷ []) (decimal v) refl (omega arith) (decimal_number v) (text_fields vs))

no_digit : (px : List ℕ) → is_digit (get_or (numbers_text px) 0 0) ≡ false
unfolding numbers_text
no_digit [] = refl
no_digit (v ∷ px) = refl

pub text_samples : (plain : Bool) (px : List ℕ) → Samples plain px (raster_text plain px)
unfolding numbers_text all
text_samples false [] = Samples.none
text_samples false (v ∷ px) = Samples.raw v (text_samples false px)
text_samples true [] = Samples.none
text_samples true (v ∷ px) =
    subst (λ (z : ℕ). Samples true (z ∷ px) (32 ∷ (decimal v ++ numbers_text px))) (value_decimal v)
    (Samples.text (32 ∷ []) (decimal v) refl (decimal_number v) (no_digit px) (text_samples true px))

-- ---- the file
module _ (w h m : ℕ) (px : List ℕ) (l : 1 ≤ m) (k : m ≤ 255) (n : length px ≡ w * h) (b : all (λ v. leb v m) px ≡ true) where
  pub printed_pgm : (plain : Bool) → Pgm plain w h m px (pgm_text plain w h m px)
  unfolding pgm_text
  printed_pgm plain = record {
    fields = numbers_text (w ∷ h ∷ m ∷ []);
    white = 10;
    raster = raster_text plain px;
    is = refl;
    three = text_fields (w ∷ h ∷ m ∷ []);
    one = refl;
    least = l;
    most = k;
    whole = n;
    samples = text_samples plain px;
    below = b;
  }

  pub printed_reads : (plain : Bool) (room : List ℕ) → Sides w h → w * h ≤ length room
      → (pgm_answer (pgm_text plain w h m px) room ≡ record { answer = record { number = 0; place = 0; words = 0; lines = 0 }; width = w; height = h; maximum = m })
      × (pgm_room (pgm_text plain w h m px) room ≡ px ++ drop (w * h) room)
  printed_reads plain room S r = pgm_done (printed_pgm plain) S room r

-- what was read, printed in either form, is read as the same
pub read_printed : (s room : List ℕ) → (pgm_verdict s room).number ≡ 0 → (plain : Bool)
    → (pgm_answer (pgm_text plain (head_of s).width (head_of s).height (head_of s).maximum (pgm_samples s (head_of s))) room ≡ pgm_answer s room)
    × (pgm_room (pgm_text plain (head_of s).width (head_of s).height (head_of s).maximum (pgm_samples s (head_of s))) room ≡ pgm_room s room)
read_printed s room z plain =
    let d = done_pgm s room z in
    let r = d.0 in
    let p = d.1 in
    let a = printed_reads (head_of s).width (head_of s).height (head_of s).maximum (pgm_samples s (head_of s)) r.least r.most r.whole r.below plain room p.sides p.room in
    let b = pgm_done r p.sides room p.room in
    (a.0 ∙ sym b.0, a.1 ∙ sym b.1)
