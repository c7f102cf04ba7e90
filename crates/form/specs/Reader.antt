-- The form read from its first byte on. That this reads exactly the form is proved, so it need not be believed. Assumes nothing.
-- Definitions: `is_digit`, `stop`, `read_on`, `number_of` a number that a list begins with; `begins` a list begins with another; `levels_from`, `levels_of` the line of levels; `height_of`, `width_of`,
--   `header_of` the header; `form_of` the whole input. `no_number`, `no_levels`, `no_header` say that there is none. `NumberRead`, `LevelsRead`, `HeaderRead` are what is found, and `number_told`, `levels_told`,
--   `header_told`, `form_told` are that in an `Option`.
use Rattle.std.specs.Prelude.{Bool, true, false, ◌&&◌, cond, Option, Some, None, List, [], ◌∷◌, ◌++◌, ℕ, zero, suc, ◌+◌, ◌-◌, ◌*◌, eqb, leb, length, get_or, drop, replicate}
use Rattle.form.specs.declared.Form.{Form}
use Rattle.form.specs.declared.Number.{Number}
use Rattle.form.specs.declared.Levels.{Levels}
use Rattle.form.specs.declared.Header.{Header}
use Rattle.form.specs.Text.{FormRead, magic, maximum, no_form}

-- ---- a number: its value, and of how many bytes it is
pub record NumberRead : Type 0 where
  pub ok : Bool
  pub value : ℕ
  pub count : ℕ

abbrev pub no_number : NumberRead
no_number = record { ok = false; value = 0; count = 0 }

abbrev pub number : ℕ → ℕ → NumberRead
number v c = record { ok = true; value = v; count = c }

abbrev pub is_digit : ℕ → Bool
is_digit b = leb 48 b && leb b 57

abbrev pub stop : ℕ → ℕ → NumberRead
stop v c = cond (eqb c 0) no_number (number v c)

-- c digits make v so far; the value is at most m
unfoldable pub read_on : ℕ → ℕ → ℕ → List ℕ → NumberRead
read_on m v c [] = stop v c
read_on m v c (b ∷ l) =
    elim (is_digit b) [
      | true ↦ elim (leb (v * 10 + (b - 48)) m) [ true ↦ read_on m (v * 10 + (b - 48)) (suc c) l | false ↦ no_number ]
      | false ↦ stop v c
    ]

-- a zero stands alone (01, The listing program)
unfoldable pub number_of : ℕ → List ℕ → NumberRead
number_of m s = cond (eqb (get_or s 0 0) 48) (number 0 1) (read_on m 0 0 s)

-- ---- fixed bytes: the list s begins with the list t
unfoldable pub begins : List ℕ → List ℕ → Bool
begins [] s = true
begins (b ∷ t) [] = false
begins (b ∷ t) (c ∷ s) = elim (eqb c b) [ true ↦ begins t s | false ↦ false ]

-- ---- the levels: how many, which, and of how many bytes their line is
pub record LevelsRead : Type 0 where
  pub ok : Bool
  pub count : ℕ
  pub levels : List ℕ
  pub used : ℕ

abbrev pub no_levels : LevelsRead
no_levels = record { ok = false; count = 0; levels = replicate 255 0; used = 0 }

abbrev pub lined : List ℕ → ℕ → LevelsRead
lined ks u = record { ok = true; count = length ks; levels = ks ++ replicate (255 - length ks) 0; used = u }

-- the levels ks are read, with u bytes; m more may come, and one must
unfoldable pub levels_from : ℕ → List ℕ → ℕ → List ℕ → LevelsRead
levels_from zero ks u s = no_levels
levels_from (suc m) ks u s =
    let t = number_of 255 s in
    elim t.ok [
      | true ↦ elim (eqb (get_or s t.count 0) 10) [
        | true ↦ lined (ks ++ (t.value ∷ [])) (u + t.count + 1)
        | false ↦ elim (eqb (get_or s t.count 0) 32) [
          | true ↦ levels_from m (ks ++ (t.value ∷ [])) (u + t.count + 1) (drop (t.count + 1) s)
          | false ↦ no_levels
        ]
      ]
      | false ↦ no_levels
    ]

unfoldable pub levels_of : List ℕ → LevelsRead
levels_of s = cond (eqb (get_or s 0 0) 10) (lined [] 1) (levels_from 255 [] 0 s)

-- ---- the header: the sides, and of how many bytes it is
pub record HeaderRead : Type 0 where
  pub ok : Bool
  pub width : ℕ
  pub height : ℕ
  pub used : ℕ

abbrev pub no_header : HeaderRead
no_header = record { ok = false; width = 0; height = 0; used = 0 }

unfoldable pub height_of : List ℕ → ℕ → ℕ → NumberRead → HeaderRead
height_of s w u n =
    cond n.ok
    (cond (begins maximum (drop (u + n.count) s)) (record { ok = true; width = w; height = n.value; used = u + n.count + 5 }) no_header)
    no_header

unfoldable pub width_of : List ℕ → NumberRead → HeaderRead
width_of s n =
    cond n.ok
    (cond (eqb (get_or s (3 + n.count) 0) 32) (height_of s n.value (3 + n.count + 1) (number_of 65535 (drop (3 + n.count + 1) s))) no_header)
    no_header

unfoldable pub header_of : List ℕ → HeaderRead
header_of s = cond (begins magic s) (width_of s (number_of 65535 (drop 3 s))) no_header

-- ---- the whole input: exactly w·h samples follow, at most 16,384
unfoldable pub samples_of : List ℕ → LevelsRead → HeaderRead → FormRead
samples_of s a b =
    cond b.ok
    (cond (leb (b.width * b.height) 16384)
    (cond (eqb (length s) (a.used + b.used + b.width * b.height))
    (record { ok = true; width = b.width; height = b.height; count = a.count; levels = a.levels; at = a.used + b.used })
    no_form)
    no_form)
    no_form

unfoldable pub form_of : List ℕ → FormRead
form_of s = let a = levels_of s in cond a.ok (samples_of s a (header_of (drop a.used s))) no_form

-- ---- as the code hands it back: `Some` of what was found, or `None`
abbrev pub number_told : NumberRead → Option Number
number_told r = cond r.ok (Some (record { value = r.value; count = r.count })) None

abbrev pub levels_told : LevelsRead → Option Levels
levels_told r = cond r.ok (Some (record { count = r.count; levels = r.levels; used = r.used })) None

abbrev pub header_told : HeaderRead → Option Header
header_told r = cond r.ok (Some (record { width = r.width; height = r.height; used = r.used })) None

abbrev pub form_told : FormRead → Option Form
form_told r = cond r.ok (Some (record { width = r.width; height = r.height; count = r.count; levels = r.levels; at = r.at })) None
