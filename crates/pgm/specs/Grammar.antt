-- Netpbm's PGM up to a maximum of 255, as a grammar: which bytes make a file, and of which picture. Nothing here says how it is read. Assumes nothing.
-- Definitions: `is_end`, `is_white`, `is_hash` kinds of bytes; `in_gap`, `opened` a byte of a gap, and whether a comment is open after it; `gap` white space and comments; `all` every byte of a list passes; `is_number`,
--   `value_from`, `value` digits and the number that they make; `Fields` numbers with gaps before them; `Samples` what follows the header; `letter` the form; `Pgm` a file.
use Rattle.std.specs.Prelude.{◌≡◌, Bool, true, false, not, ◌&&◌, ◌||◌, cond, List, [], ◌∷◌, ◌++◌, ℕ, ◌+◌, ◌-◌, ◌*◌, ◌≤◌, length, get_or}
use lib.Dec.{eqb, ltb}
use Rattle.form.specs.Reader.{is_digit}

-- LF or CR (02, R-6)
abbrev pub is_end : ℕ → Bool
is_end b = eqb b 10 || eqb b 13

-- white space: blank, TAB, LF, CR (02, R-6)
abbrev pub is_white : ℕ → Bool
is_white b = eqb b 32 || (eqb b 9 || is_end b)

-- "#", which begins a comment (02, R-6)
abbrev pub is_hash : ℕ → Bool
is_hash b = eqb b 35

-- inside a comment any byte; outside white space, or the start of a comment (02, R-6)
abbrev pub in_gap : Bool → ℕ → Bool
in_gap comment b = comment || (is_white b || is_hash b)

-- a comment runs up to the next LF or CR, which is white space again (02, R-6)
abbrev pub opened : Bool → ℕ → Bool
opened comment b = cond comment (not (is_end b)) (is_hash b)

-- white space and comments, every comment ended; `comment` says that one is open before the first byte (02, R-6)
unfoldable pub gap : Bool → List ℕ → Bool
gap comment [] = not comment
gap comment (b ∷ l) = in_gap comment b && gap (opened comment b) l

unfoldable pub all : (ℕ → Bool) → List ℕ → Bool
all p [] = true
all p (b ∷ l) = p b && all p l

-- a number is one digit or more, leading zeros too, of any length (02, R-6)
abbrev pub is_number : List ℕ → Bool
is_number d = ltb 0 (length d) && all is_digit d

-- digits in decimal, v made by those before them
unfoldable pub value_from : ℕ → List ℕ → ℕ
value_from v [] = v
value_from v (b ∷ l) = value_from (v * 10 + (b - 48)) l

abbrev pub value : List ℕ → ℕ
value d = value_from 0 d

-- numbers, at least one white byte or comment before each (02, R-6)
pub data Fields : List ℕ → List ℕ → Type 0 where
  none : Fields [] []
  more : {vs t : List ℕ} (g d : List ℕ) → gap false g ≡ true → 1 ≤ length g → is_number d ≡ true → Fields vs t → Fields (value d ∷ vs) (g ++ (d ++ t))

-- the bytes begin with these samples: in P5 a byte each; in P2 a number each, white space but no comment before it, and all its digits belong to it. What follows the last one is not looked at (02, R-6)
pub data Samples : Bool → List ℕ → List ℕ → Type 0 where
  none : {plain : Bool} {s : List ℕ} → Samples plain [] s
  raw : {px s : List ℕ} (b : ℕ) → Samples false px s → Samples false (b ∷ px) (b ∷ s)
  text : {px s : List ℕ} (g d : List ℕ) → all is_white g ≡ true → is_number d ≡ true → is_digit (get_or s 0 0) ≡ false → Samples true px s
      → Samples true (value d ∷ px) (g ++ (d ++ s))

-- "P2" is plain, "P5" is not (02, R-6)
abbrev pub letter : Bool → ℕ
letter plain = cond plain 50 53

-- the magic, width, height and maximum, one white byte, then w·h samples of at most the maximum, which is 1 to 255 (02, R-6)
pub record Pgm (plain : Bool) (w h m : ℕ) (px s : List ℕ) : Type 0 where
  pub fields : List ℕ
  pub white : ℕ
  pub raster : List ℕ
  pub is : s ≡ 80 ∷ letter plain ∷ (fields ++ (white ∷ raster))
  pub three : Fields (w ∷ h ∷ m ∷ []) fields
  pub one : is_white white ≡ true
  pub least : 1 ≤ m
  pub most : m ≤ 255
  pub whole : length px ≡ w * h
  pub samples : Samples plain px raster
  pub below : all (λ v. lib.Dec.leb v m) px ≡ true
