-- The form of the listing program's input, as text. Assumes nothing.
-- Definitions: `more` further levels; `levels_text` the line of levels; `magic`, `maximum` the fixed bytes of a PGM; `header` its lines; `form_text` the whole input; `Fits` what its parts must keep to;
--   `FormRead` what reading finds; `form_with` what it finds in such input; `no_form` what it finds in any other.
use Rattle.std.specs.Prelude.{◌≡◌, Bool, true, false, List, [], ◌∷◌, ◌++◌, ℕ, ◌+◌, ◌-◌, ◌*◌, ◌≤◌, ◌<◌, length, get_or, replicate}
use Rattle.form.specs.Decimal.{decimal}

-- one space between levels, a newline after the last (01, The listing program)
unfoldable pub more : List ℕ → List ℕ
more [] = 10 ∷ []
more (k ∷ ks) = 32 ∷ (decimal k ++ more ks)

-- a line of levels, an empty one for none (01, The listing program)
unfoldable pub levels_text : List ℕ → List ℕ
levels_text [] = 10 ∷ []
levels_text (k ∷ ks) = decimal k ++ more ks

-- "P5", and "255" between newlines (01, The listing program)
abbrev pub magic : List ℕ
magic = 80 ∷ 53 ∷ 10 ∷ []

abbrev pub maximum : List ℕ
maximum = 10 ∷ 50 ∷ 53 ∷ 53 ∷ 10 ∷ []

-- one newline after each of "P5", "w h" and "255" (01, The listing program)
unfoldable pub header : ℕ → ℕ → List ℕ
header w h = magic ++ (decimal w ++ (32 ∷ (decimal h ++ maximum)))

-- the levels, the header, the samples, and the end (01, The listing program)
unfoldable pub form_text : List ℕ → ℕ → ℕ → List ℕ → List ℕ
form_text ks w h px = levels_text ks ++ (header w h ++ px)

-- 0 to 255 levels, each 0 to 255; sides 0 to 65,535; w·h samples, at most 16,384 (01, The listing program)
pub record Fits (ks : List ℕ) (w h : ℕ) (px : List ℕ) : Type 0 where
  pub few : length ks ≤ 255
  pub small : (i : ℕ) → i < length ks → get_or ks i 0 ≤ 255
  pub wide : w ≤ 65535
  pub tall : h ≤ 65535
  pub whole : length px ≡ w * h
  pub most : w * h ≤ 16384

-- whether the input is of the form, its sides, its number of levels, the levels with zeros after the last, and where the samples start
pub record FormRead : Type 0 where
  pub ok : Bool
  pub width : ℕ
  pub height : ℕ
  pub count : ℕ
  pub levels : List ℕ
  pub at : ℕ

abbrev pub form_with : List ℕ → ℕ → ℕ → FormRead
form_with ks w h =
    record {
      ok = true;
      width = w;
      height = h;
      count = length ks;
      levels = ks ++ replicate (255 - length ks) 0;
      at = length (levels_text ks) + length (header w h);
    }

abbrev pub no_form : FormRead
no_form = record { ok = false; width = 0; height = 0; count = 0; levels = replicate 255 0; at = 0 }
