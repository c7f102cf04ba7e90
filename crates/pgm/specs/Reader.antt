-- A PGM read from its first byte on, with the byte at which reading gives up. Assumes nothing.
-- Definitions: `gap_from`, `gap_end`, `white_from`, `white_end` where a gap or white space ends; `number_from`, `there` a number; `field_at` one after a gap; `Three`, `fields_from` some of them; `stop`, `is_form`, `headed`,
--   `head_of` the header, `MagicRead` its first bytes; `raw_at`, `plain_at`, `sample_at` one sample; `raster_from` what is refused of the samples; `samples_from` their values. For contracts: `cap`, `capped`, `capped_head` values as far as they matter.
--   `NumberRead`, `HeadRead` are what is found, and `number_told`, `head_told` are that in a `Result`.
use Rattle.std.specs.Prelude.{◌≡◌, Bool, true, false, not, ◌&&◌, ◌||◌, cond, Result, Ok, Err, List, [], ◌∷◌, ◌++◌, ℕ, zero, suc, ◌+◌, ◌-◌, ◌*◌, ◌≤◌, eqb, ltb, leb, length, get_or, drop}
use Rattle.form.specs.Reader.{is_digit}
use Rattle.refuse.specs.Refusal.{Verdict}
use Rattle.pgm.specs.declared.Number.{Number}
use Rattle.pgm.specs.declared.Head.{Head}
use Rattle.pgm.specs.Grammar.{is_white, in_gap, opened}

-- a number: its first byte, its value, and the byte after it. The two bytes are the same where there is none
pub record NumberRead : Type 0 where
  pub first : ℕ
  pub value : ℕ
  pub next : ℕ

-- the header: its form, sides and maximum, and where the samples begin; or that it is none, and the byte at which it gave up
pub record HeadRead : Type 0 where
  pub ok : Bool
  pub plain : Bool
  pub width : ℕ
  pub height : ℕ
  pub maximum : ℕ
  pub at : ℕ

-- ---- each reads the list l, whose first byte is byte i of the file

-- the byte after a gap; an unended comment runs to the length (02, R-6)
unfoldable pub gap_from : Bool → ℕ → List ℕ → ℕ
gap_from comment i [] = i
gap_from comment i (b ∷ l) = elim (in_gap comment b) [ true ↦ gap_from (opened comment b) (suc i) l | false ↦ i ]

-- the byte after white space (02, R-6)
unfoldable pub white_from : ℕ → List ℕ → ℕ
white_from i [] = i
white_from i (b ∷ l) = elim (is_white b) [ true ↦ white_from (suc i) l | false ↦ i ]

-- digits as far as they go: the number began at byte p and is v so far (02, R-6)
unfoldable pub number_from : ℕ → ℕ → ℕ → List ℕ → NumberRead
number_from p v i [] = record { first = p; value = v; next = i }
number_from p v i (b ∷ l) = elim (is_digit b) [ true ↦ number_from p (v * 10 + (b - 48)) (suc i) l | false ↦ record { first = p; value = v; next = i } ]

-- there is a digit, or, in P5, a byte
abbrev pub there : NumberRead → Bool
there n = ltb n.first n.next

-- numbers read one after the other: their values, the first byte of the last one, and the byte after it; or the byte at which one is missing
pub record Three : Type 0 where
  pub ok : Bool
  pub values : List ℕ
  pub first : ℕ
  pub next : ℕ

-- the header gave up at byte p
abbrev pub stop : ℕ → HeadRead
stop p = record { ok = false; plain = false; width = 0; height = 0; maximum = 0; at = p }

-- "5" or "2"
abbrev pub is_form : ℕ → Bool
is_form b = eqb b 53 || eqb b 50

module _ (s : List ℕ) where
  abbrev pub gap_end : ℕ → ℕ
  gap_end p = gap_from false p (drop p s)

  abbrev pub white_end : ℕ → ℕ
  white_end p = white_from p (drop p s)

  abbrev pub number_at : ℕ → NumberRead
  number_at p = number_from p 0 p (drop p s)

  -- a number of the header, and the gap before it (02, R-6)
  abbrev pub field_at : ℕ → NumberRead
  field_at p = number_at (gap_end p)

  -- k numbers from byte p on, after those with the values vs, the last of which began at byte f (02, R-6)
  unfoldable pub fields_from : ℕ → List ℕ → ℕ → ℕ → Three
  fields_from zero vs f p = record { ok = true; values = vs; first = f; next = p }
  fields_from (suc k) vs f p =
      let n = field_at p in
      elim (there n) [
        | true ↦ fields_from k (vs ++ (n.value ∷ [])) n.first n.next
        | false ↦ record { ok = false; values = []; first = n.first; next = n.first }
      ]

  -- given up at a missing number, at the first byte of an unfit maximum, or where the one white byte is missing (02, R-6)
  unfoldable pub headed : Three → HeadRead
  headed f =
      let m = get_or f.values 2 0 in
      cond (not f.ok) (stop f.first)
      (cond (not (leb 1 m && leb m 255)) (stop f.first)
      (cond (not (is_white (get_or s f.next 0))) (stop f.next)
      (record { ok = true; plain = eqb (get_or s 1 0) 50; width = get_or f.values 0 0; height = get_or f.values 1 0; maximum = m; at = f.next + 1 })))

  -- "P5" or "P2", a gap, and the three numbers; where the samples begin, or the byte at which the header gave up (02, R-6)
  unfoldable pub head_of : HeadRead
  head_of =
      cond (not (eqb (get_or s 0 0) 80)) (stop 0)
      (cond (not (is_form (get_or s 1 0))) (stop 1)
      (cond (not (in_gap false (get_or s 2 0))) (stop 2)
      (headed (fields_from 3 [] 2 2))))

  -- the magic is read: the numbers come next, and the file says its form
  pub record MagicRead (plain : Bool) : Type 0 where
    pub inside : 2 ≤ length s
    pub form : plain ≡ eqb (get_or s 1 0) 50
    pub left : head_of ≡ headed (fields_from 3 [] 2 2)

  -- P5: the byte at p, if there is one (02, R-6)
  abbrev pub raw_at : ℕ → NumberRead
  raw_at p = cond (ltb p (length s)) (record { first = p; value = get_or s p 0; next = suc p }) (record { first = p; value = 0; next = p })

  -- P2: the number after white space (02, R-6)
  abbrev pub plain_at : ℕ → NumberRead
  plain_at p = number_at (white_end p)

  abbrev pub sample_at : Bool → ℕ → NumberRead
  sample_at plain p = cond plain (plain_at p) (raw_at p)

  module _ (plain : Bool) where
    -- the values of k samples from byte p on
    unfoldable pub samples_from : ℕ → ℕ → List ℕ
    samples_from zero p = []
    samples_from (suc k) p = let n = sample_at plain p in n.value ∷ samples_from k n.next

    -- in reading order: 24 where no further sample can be read, 23 for one above the maximum m (02, R-6)
    unfoldable pub raster_from : ℕ → ℕ → ℕ → Verdict
    raster_from m zero p = record { number = 0; place = 0 }
    raster_from m (suc k) p =
        let n = sample_at plain p in
        elim (there n) [
          | true ↦ elim (leb n.value m) [ true ↦ raster_from m k n.next | false ↦ record { number = 23; place = n.first } ]
          | false ↦ record { number = 24; place = n.first }
        ]

-- ---- values as the code keeps them: above 65,535 they no longer matter
abbrev pub cap : ℕ → ℕ
cap v = cond (leb v 65535) v 65535

abbrev pub capped : NumberRead → NumberRead
capped n = record { first = n.first; value = cap n.value; next = n.next }

abbrev pub capped_head : HeadRead → HeadRead
capped_head h = record { ok = h.ok; plain = h.plain; width = cap h.width; height = cap h.height; maximum = h.maximum; at = h.at }

-- ---- as the code hands them back: `Ok` of what was found, or `Err` of the byte at which it is missing
abbrev pub number_told : NumberRead → Result Number ℕ
number_told n = cond (there n) (Ok (record { first = n.first; value = n.value; next = n.next })) (Err n.first)

abbrev pub head_told : HeadRead → Result Head ℕ
head_told h = cond h.ok (Ok (record { plain = h.plain; width = h.width; height = h.height; maximum = h.maximum; at = h.at })) (Err h.at)
