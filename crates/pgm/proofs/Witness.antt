-- Short files worked out: what an edit of the definitions makes false shows here. Assumes nothing.
-- Definitions: `told` number, place, sides and maximum, and the room afterwards, which had six bytes 77.
-- Main laws: `mark_worked` a comment right after the maximum; `order_worked` 23 before 24; `files_worked` comments, CR LF, leading zeros, an unended comment, an unfit maximum, the one white byte, a side of 30 digits, 23 and 24 in reading order; `behind_worked` a byte after the last sample.
use mathlib.Core.Path.{◌≡◌, refl}
use mathlib.Core.List.{List, [], ◌∷◌, map}
use Prim.Native.Nat.{ℕ}
use Rattle.pgm.specs.Reader.{gap_from, white_from, number_from, fields_from, headed, head_of, samples_from, raster_from}
use Rattle.pgm.specs.Call.{pgm_answer, pgm_room}

abbrev pub told : List ℕ → List ℕ
told s =
    let room : List ℕ = 77 ∷ 77 ∷ 77 ∷ 77 ∷ 77 ∷ 77 ∷ [] in
    let a = pgm_answer s room in
    a.answer.number ∷ a.answer.place ∷ a.width ∷ a.height ∷ a.maximum ∷ pgm_room s room

pub mark_worked : told (80 ∷ 53 ∷ 32 ∷ 50 ∷ 32 ∷ 50 ∷ 32 ∷ 50 ∷ 53 ∷ 53 ∷ 35 ∷ 10 ∷ 1 ∷ 1 ∷ 1 ∷ 1 ∷ []) ≡ 22 ∷ 10 ∷ 0 ∷ 0 ∷ 0 ∷ 77 ∷ 77 ∷ 77 ∷ 77 ∷ 77 ∷ 77 ∷ []
unfolding gap_from white_from number_from fields_from headed head_of samples_from raster_from
mark_worked = refl

pub order_worked : told (80 ∷ 50 ∷ 32 ∷ 50 ∷ 32 ∷ 50 ∷ 32 ∷ 57 ∷ 32 ∷ 49 ∷ 32 ∷ 49 ∷ 48 ∷ []) ≡ 23 ∷ 11 ∷ 0 ∷ 0 ∷ 0 ∷ 77 ∷ 77 ∷ 77 ∷ 77 ∷ 77 ∷ 77 ∷ []
unfolding gap_from white_from number_from fields_from headed head_of samples_from raster_from
order_worked = refl

pub files_worked : map told
    ((80 ∷ 50 ∷ 35 ∷ 99 ∷ 10 ∷ 35 ∷ 32 ∷ 116 ∷ 119 ∷ 111 ∷ 13 ∷ 10 ∷ 51 ∷ 9 ∷ 50 ∷ 35 ∷ 120 ∷ 10 ∷ 13 ∷ 32 ∷ 57 ∷ 10 ∷ 49 ∷ 32 ∷ 50 ∷ 9 ∷ 51 ∷ 13 ∷ 10 ∷ 52 ∷ 32 ∷ 53 ∷ 32 ∷ 57 ∷ [])
    ∷ (80 ∷ 53 ∷ 32 ∷ 50 ∷ 32 ∷ 50 ∷ 32 ∷ 50 ∷ 53 ∷ 53 ∷ 13 ∷ 10 ∷ 1 ∷ 2 ∷ 3 ∷ [])
    ∷ (80 ∷ 53 ∷ 32 ∷ 50 ∷ 32 ∷ 50 ∷ 32 ∷ 50 ∷ 53 ∷ 53 ∷ 32 ∷ 35 ∷ 1 ∷ 2 ∷ 3 ∷ [])
    ∷ (80 ∷ 50 ∷ 32 ∷ 48 ∷ 48 ∷ 51 ∷ 32 ∷ 48 ∷ 50 ∷ 32 ∷ 48 ∷ 48 ∷ 48 ∷ 55 ∷ 32 ∷ 48 ∷ 32 ∷ 49 ∷ 32 ∷ 50 ∷ 32 ∷ 51 ∷ 32 ∷ 52 ∷ 32 ∷ 48 ∷ 55 ∷ [])
    ∷ (80 ∷ 50 ∷ 32 ∷ 50 ∷ 32 ∷ 50 ∷ 32 ∷ 49 ∷ 32 ∷ 48 ∷ 32 ∷ 49 ∷ 32 ∷ 49 ∷ 32 ∷ 48 ∷ [])
    ∷ (80 ∷ 53 ∷ 32 ∷ 50 ∷ 32 ∷ 50 ∷ 32 ∷ 35 ∷ 50 ∷ 53 ∷ 53 ∷ 32 ∷ 1 ∷ 1 ∷ 1 ∷ 1 ∷ [])
    ∷ (80 ∷ 53 ∷ 32 ∷ 50 ∷ 32 ∷ 50 ∷ 32 ∷ 48 ∷ 48 ∷ 32 ∷ 0 ∷ 0 ∷ 0 ∷ 0 ∷ [])
    ∷ (80 ∷ 53 ∷ 32 ∷ 50 ∷ 32 ∷ 50 ∷ 32 ∷ 51 ∷ 48 ∷ 48 ∷ [])
    ∷ (80 ∷ 53 ∷ 32 ∷ 50 ∷ 32 ∷ 50 ∷ 32 ∷ 50 ∷ 53 ∷ 53 ∷ 35 ∷ 10 ∷ 1 ∷ 1 ∷ 1 ∷ 1 ∷ [])
    ∷ (80 ∷ 50 ∷ 32 ∷ 50 ∷ 32 ∷ 50 ∷ 32 ∷ 50 ∷ 53 ∷ 53 ∷ [])
    ∷ (80 ∷ 50 ∷ 32 ∷ 49 ∷ 48 ∷ 48 ∷ 48 ∷ 48 ∷ 48 ∷ 48 ∷ 48 ∷ 48 ∷ 48 ∷ 48 ∷ 48 ∷ 48 ∷ 48 ∷ 48 ∷ 48 ∷ 48 ∷ 48 ∷ 48 ∷ 48 ∷ 48 ∷ 48 ∷ 48 ∷ 48 ∷ 48 ∷ 48 ∷ 48 ∷ 48 ∷ 48 ∷ 50 ∷ 32 ∷ 50 ∷ 32 ∷ 50 ∷ 53 ∷ 53 ∷ 32 ∷ 49 ∷ 32 ∷ 49 ∷ 32 ∷ 49 ∷ 32 ∷ 49 ∷ [])
    ∷ (80 ∷ 53 ∷ 32 ∷ 50 ∷ 32 ∷ 50 ∷ 32 ∷ 57 ∷ 32 ∷ 1 ∷ 10 ∷ 3 ∷ [])
    ∷ (80 ∷ 50 ∷ 32 ∷ 50 ∷ 32 ∷ 50 ∷ 32 ∷ 57 ∷ 32 ∷ 49 ∷ 32 ∷ 50 ∷ 32 ∷ 48 ∷ 48 ∷ 49 ∷ 48 ∷ 32 ∷ 51 ∷ [])
    ∷ (80 ∷ 50 ∷ 32 ∷ 50 ∷ 32 ∷ 50 ∷ 32 ∷ 57 ∷ 32 ∷ 49 ∷ 32 ∷ 49 ∷ 48 ∷ [])
    ∷ (80 ∷ 50 ∷ 32 ∷ 50 ∷ 32 ∷ 50 ∷ 32 ∷ 57 ∷ 32 ∷ 49 ∷ 32 ∷ 120 ∷ 32 ∷ 49 ∷ 48 ∷ 32 ∷ 50 ∷ [])
    ∷ (80 ∷ 50 ∷ 32 ∷ 50 ∷ 32 ∷ 50 ∷ 32 ∷ 57 ∷ 57 ∷ 32 ∷ 49 ∷ 32 ∷ 49 ∷ 50 ∷ 120 ∷ 32 ∷ 51 ∷ 32 ∷ 52 ∷ [])
    ∷ [])
    ≡
    (0 ∷ 0 ∷ 3 ∷ 2 ∷ 9 ∷ 1 ∷ 2 ∷ 3 ∷ 4 ∷ 5 ∷ 9 ∷ [])
    ∷ (0 ∷ 0 ∷ 2 ∷ 2 ∷ 255 ∷ 10 ∷ 1 ∷ 2 ∷ 3 ∷ 77 ∷ 77 ∷ [])
    ∷ (0 ∷ 0 ∷ 2 ∷ 2 ∷ 255 ∷ 35 ∷ 1 ∷ 2 ∷ 3 ∷ 77 ∷ 77 ∷ [])
    ∷ (0 ∷ 0 ∷ 3 ∷ 2 ∷ 7 ∷ 0 ∷ 1 ∷ 2 ∷ 3 ∷ 4 ∷ 7 ∷ [])
    ∷ (0 ∷ 0 ∷ 2 ∷ 2 ∷ 1 ∷ 0 ∷ 1 ∷ 1 ∷ 0 ∷ 77 ∷ 77 ∷ [])
    ∷ (22 ∷ 16 ∷ 0 ∷ 0 ∷ 0 ∷ 77 ∷ 77 ∷ 77 ∷ 77 ∷ 77 ∷ 77 ∷ [])
    ∷ (22 ∷ 7 ∷ 0 ∷ 0 ∷ 0 ∷ 77 ∷ 77 ∷ 77 ∷ 77 ∷ 77 ∷ 77 ∷ [])
    ∷ (22 ∷ 7 ∷ 0 ∷ 0 ∷ 0 ∷ 77 ∷ 77 ∷ 77 ∷ 77 ∷ 77 ∷ 77 ∷ [])
    ∷ (22 ∷ 10 ∷ 0 ∷ 0 ∷ 0 ∷ 77 ∷ 77 ∷ 77 ∷ 77 ∷ 77 ∷ 77 ∷ [])
    ∷ (22 ∷ 10 ∷ 0 ∷ 0 ∷ 0 ∷ 77 ∷ 77 ∷ 77 ∷ 77 ∷ 77 ∷ 77 ∷ [])
    ∷ (1 ∷ 0 ∷ 0 ∷ 0 ∷ 0 ∷ 77 ∷ 77 ∷ 77 ∷ 77 ∷ 77 ∷ 77 ∷ [])
    ∷ (23 ∷ 10 ∷ 0 ∷ 0 ∷ 0 ∷ 77 ∷ 77 ∷ 77 ∷ 77 ∷ 77 ∷ 77 ∷ [])
    ∷ (23 ∷ 13 ∷ 0 ∷ 0 ∷ 0 ∷ 77 ∷ 77 ∷ 77 ∷ 77 ∷ 77 ∷ 77 ∷ [])
    ∷ (23 ∷ 11 ∷ 0 ∷ 0 ∷ 0 ∷ 77 ∷ 77 ∷ 77 ∷ 77 ∷ 77 ∷ 77 ∷ [])
    ∷ (24 ∷ 11 ∷ 0 ∷ 0 ∷ 0 ∷ 77 ∷ 77 ∷ 77 ∷ 77 ∷ 77 ∷ 77 ∷ [])
    ∷ (24 ∷ 14 ∷ 0 ∷ 0 ∷ 0 ∷ 77 ∷ 77 ∷ 77 ∷ 77 ∷ 77 ∷ 77 ∷ [])
    ∷ []
unfolding gap_from white_from number_from fields_from headed head_of samples_from raster_from
files_worked = refl

pub behind_worked : told (80 ∷ 53 ∷ 32 ∷ 50 ∷ 32 ∷ 50 ∷ 32 ∷ 57 ∷ 32 ∷ 1 ∷ 2 ∷ 3 ∷ 4 ∷ 120 ∷ []) ≡ 0 ∷ 0 ∷ 2 ∷ 2 ∷ 9 ∷ 1 ∷ 2 ∷ 3 ∷ 4 ∷ 77 ∷ 77 ∷ []
unfolding gap_from white_from number_from fields_from headed head_of samples_from raster_from
behind_worked = refl
