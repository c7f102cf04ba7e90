-- The refusals of the call, row by row, and what a call that is not refused may rely on. Assumes nothing.
-- Definitions: `Passed` none of the rows is given.
-- Main laws: `passed` a call that is done has passed every row; `head_given` what a header that is told says of the one read; `given_1`, `given_9`, `given_raster` the verdict as the code finds it; `code_sides` fitting sides fit as they are kept;
--   `code_fine` then the samples are as the call's; `done_grey`, `done_room` the answer and the room.
use mathlib.Core.Path.{◌≡◌, refl, sym, ap, ◌∙◌}
use mathlib.Core.Bool.{Bool, true, not, ◌&&◌}
use mathlib.Core.List.{List, [], ◌∷◌, ◌++◌}
use Prim.Native.Nat.{ℕ, ◌*◌, ◌≤◌}
use native.Mathlib.Omega.{arith}
use lib.Dec.{eqb, ltb, leb}
use lib.ListN.{length, drop}
use borrow.Author.Tests.{ltb-false, leb-true, leb-false, not-false}
use Rattle.tally.proofs.Test.{by_test}
use Rattle.matte.specs.Picture.{side_fits}
use Rattle.refuse.specs.Refusal.{Verdict}
use Rattle.refuse.specs.Refusal.{Row, row, row_at, verdict, answer, afterwards, sides_row}
use Rattle.refuse.specs.Shape.{Sides}
use Rattle.refuse.proofs.Rows.{stopped, gone_on, parted, clean, done_answer, done_after}
use Rattle.refuse.proofs.Sides.{sized}
use Rattle.std.specs.Prelude.{Ok, Err}
use Rattle.pgm.specs.declared.Head.{Head}
use Rattle.pgm.specs.Reader.{HeadRead, head_told}
use Rattle.pgm.specs.declared.Grey.{Grey}
use Rattle.pgm.specs.Reader.{head_of, raster_from, cap, capped_head}
use Rattle.pgm.specs.Call.{pgm_raster, pgm_samples, pgm_verdict, pgm_answer, pgm_room}
use Rattle.pgm.proofs.Cap.{cap_small, cap_large, cap_side}
use Rattle.pgm.proofs.Rows.{raster_rows}

-- ---- the rows, with the places that the room has
module _ (s : List ℕ) (places : ℕ) where
  abbrev pub head_row : List Row
  head_row = row_at 22 (not (head_of s).ok) (head_of s).at ∷ []

  abbrev pub sides_row_lem : List Row
  sides_row_lem = sides_row (head_of s).width (head_of s).height ∷ []

  abbrev pub room_row_lem : List Row
  room_row_lem = row 9 (ltb places ((head_of s).width * (head_of s).height)) ∷ []

  abbrev pub raster_row : List Row
  raster_row = row_at 23 (eqb (pgm_raster s (head_of s)).number 23) (pgm_raster s (head_of s)).place ∷ row_at 24 (eqb (pgm_raster s (head_of s)).number 24) (pgm_raster s (head_of s)).place ∷ []

  abbrev pub all_rows : List Row
  all_rows = head_row ++ (sides_row_lem ++ (room_row_lem ++ raster_row))

-- ---- none is given
pub record Passed (s : List ℕ) (places : ℕ) : Type 0 where
  pub ok : (head_of s).ok ≡ true
  pub sides : Sides (head_of s).width (head_of s).height
  pub room : (head_of s).width * (head_of s).height ≤ places
  pub fine : (pgm_raster s (head_of s)).number ≡ 0

pub passed : (s : List ℕ) (places : ℕ) → (verdict (all_rows s places)).number ≡ 0 → Passed s places
passed s places z =
    let h = head_of s in
    let a = parted (head_row s places) (sides_row_lem s places ++ (room_row_lem s places ++ raster_row s places)) refl z in
    let b = parted (sides_row_lem s places) (room_row_lem s places ++ raster_row s places) refl a.1 in
    let d = parted (room_row_lem s places) (raster_row s places) refl b.1 in
    record {
      ok = not-false _ (clean (row_at 22 (not h.ok) h.at) [] (λ y. omega arith) a.0).0;
      sides = sized h.width h.height b.0;
      room = ltb-false places (h.width * h.height) (clean (row 9 (ltb places (h.width * h.height))) [] (λ y. omega arith) d.0).0;
      fine = ap (λ (v : Verdict). v.number) (raster_rows s h.plain h.maximum (h.width * h.height) h.at) ∙ d.1;
    }

-- ---- as the code finds them
cap_back : (v : ℕ) → cap v ≤ 2048 → cap v ≡ v
cap_back v h = by_test (leb v 65535) (λ t. cap_small v (leb-true v 65535 t)) (λ t. absurd (omega (arith, cap_large v (leb-false v 65535 t))))

-- a header that is told, and none
pub head_given : (h : Head) (r : HeadRead) → Ok h ≡ head_told r → record { ok = true; plain = h.plain; width = h.width; height = h.height; maximum = h.maximum; at = h.at } ≡ r
head_given h r e =
    by_test r.ok
    (λ t.
    let q : Ok h ≡ Ok (record { plain = r.plain; width = r.width; height = r.height; maximum = r.maximum; at = r.at }) = rw t at e in
    let z : h ≡ record { plain = r.plain; width = r.width; height = r.height; maximum = r.maximum; at = r.at } = cc in
    λ i. record { ok = sym t i; plain = (z i).plain; width = (z i).width; height = (z i).height; maximum = (z i).maximum; at = (z i).at })
    (λ t. let q : Ok h ≡ Err r.at = rw t at e in absurd cc)

module _ (s : List ℕ) (places : ℕ) (h : HeadRead) (q : h ≡ capped_head (head_of s)) where
  -- sides as they are kept fit exactly if they fit
  pub row_1 : (v : Verdict) → v ≡ verdict (sides_row h.width h.height ∷ []) → v ≡ verdict (sides_row_lem s places)
  row_1 v e =
      e ∙ ap (λ (z : HeadRead). verdict (sides_row z.width z.height ∷ [])) q
      ∙ ap (λ (z : Bool). verdict (row 1 (not (z && side_fits (cap (head_of s).height))) ∷ [])) (cap_side (head_of s).width)
      ∙ ap (λ (z : Bool). verdict (row 1 (not (side_fits (head_of s).width && z)) ∷ [])) (cap_side (head_of s).height)

  module _ (S : Sides h.width h.height) where
    pub kept_width : h.width ≡ (head_of s).width
    kept_width = ap (λ (z : HeadRead). z.width) q ∙ cap_back (head_of s).width (omega (arith, S.w_most, ap (λ (z : HeadRead). z.width) q))

    pub kept_height : h.height ≡ (head_of s).height
    kept_height = ap (λ (z : HeadRead). z.height) q ∙ cap_back (head_of s).height (omega (arith, S.h_most, ap (λ (z : HeadRead). z.height) q))

    pub kept_area : (n : ℕ) → n ≡ h.width * h.height → n ≡ (head_of s).width * (head_of s).height
    kept_area n e = e ∙ ap (λ (z : ℕ). z * h.height) kept_width ∙ ap (λ (z : ℕ). (head_of s).width * z) kept_height

    pub row_9 : (n : ℕ) (v : Verdict) → n ≡ h.width * h.height → v ≡ verdict (row 9 (ltb places n) ∷ []) → v ≡ verdict (room_row_lem s places)
    row_9 n v e f = f ∙ ap (λ (z : ℕ). verdict (row 9 (ltb places z) ∷ [])) (kept_area n e)

    pub rows_raster : (n : ℕ) (v : Verdict) → n ≡ h.width * h.height → v ≡ raster_from s h.plain h.maximum n h.at → v ≡ verdict (raster_row s places)
    rows_raster n v e f =
        let d = head_of s in
        f ∙ ap (λ (z : HeadRead). raster_from s z.plain z.maximum n z.at) q ∙ ap (λ (z : ℕ). raster_from s d.plain d.maximum z d.at) (kept_area n e)
        ∙ raster_rows s d.plain d.maximum (d.width * d.height) d.at

    pub code_fine : (n : ℕ) → n ≡ h.width * h.height → (raster_from s h.plain h.maximum n h.at).number ≡ (pgm_raster s (head_of s)).number
    code_fine n e =
        let d = head_of s in
        ap (λ (z : HeadRead). (raster_from s z.plain z.maximum n z.at).number) q ∙ ap (λ (z : ℕ). (raster_from s d.plain d.maximum z d.at).number) (kept_area n e)

-- ---- the first of these that is given, for a header that is told
module _ (s : List ℕ) (places : ℕ) (h : Head) (e : Ok h ≡ head_told (capped_head (head_of s))) where
  abbrev h' : HeadRead
  h' = record { ok = true; plain = h.plain; width = h.width; height = h.height; maximum = h.maximum; at = h.at }

  q' : h' ≡ capped_head (head_of s)
  q' = head_given h (capped_head (head_of s)) e

  no_22 : verdict (head_row s places) ≡ record { number = 0; place = 0 }
  no_22 = rw (← ap (λ (z : HeadRead). z.ok) q')

  module _ (v : Verdict) (ev : v ≡ verdict (sides_row h.width h.height ∷ [])) where
    upto_1 : v ≡ verdict (head_row s places ++ sides_row_lem s places)
    upto_1 = gone_on (head_row s places) (sides_row_lem s places) _ v refl refl (ap (λ (z : Verdict). z.number) no_22) (row_1 s places h' q' v ev)

    pub given_1 : (v.number ≡ 0 → ⊥) → v ≡ verdict (all_rows s places)
    given_1 n = stopped (head_row s places ++ sides_row_lem s places) (room_row_lem s places ++ raster_row s places) v upto_1 n

    module _ (z : v.number ≡ 0) (n : ℕ) (en : n ≡ h.width * h.height) (u : Verdict) (eu : u ≡ verdict (row 9 (ltb places n) ∷ [])) where
      S : Sides h.width h.height
      S = sized h.width h.height (ap (λ (x : Verdict). x.number) (sym ev) ∙ z)

      upto_9 : u ≡ verdict ((head_row s places ++ sides_row_lem s places) ++ room_row_lem s places)
      upto_9 = gone_on (head_row s places ++ sides_row_lem s places) (room_row_lem s places) v u refl upto_1 z (row_9 s places h' q' S n u en eu)

      pub given_9 : (u.number ≡ 0 → ⊥) → u ≡ verdict (all_rows s places)
      given_9 k = stopped ((head_row s places ++ sides_row_lem s places) ++ room_row_lem s places) (raster_row s places) u upto_9 k

      pub given_raster : u.number ≡ 0 → (x : Verdict) → x ≡ raster_from s h.plain h.maximum n h.at → x ≡ verdict (all_rows s places)
      given_raster k x ex = gone_on ((head_row s places ++ sides_row_lem s places) ++ room_row_lem s places) (raster_row s places) u x refl upto_9 k (rows_raster s places h' q' S n x en ex)

-- sides that fit are kept as they are, so they fit as they are kept
pub code_sides : (s : List ℕ) (h : HeadRead) → h ≡ capped_head (head_of s) → Sides (head_of s).width (head_of s).height → Sides h.width h.height
code_sides s h q S =
    let a : h.width ≡ (head_of s).width = ap (λ (z : HeadRead). z.width) q ∙ cap_small (head_of s).width (omega (arith, S.w_most)) in
    let b : h.height ≡ (head_of s).height = ap (λ (z : HeadRead). z.height) q ∙ cap_small (head_of s).height (omega (arith, S.h_most)) in
    record { w_least = omega (arith, S.w_least); w_most = omega (arith, S.w_most); h_least = omega (arith, S.h_least); h_most = omega (arith, S.h_most) }

-- ---- the answer
module _ (s room : List ℕ) (v : Verdict) (e : v ≡ pgm_verdict s room) where
  pub passed_by : v.number ≡ 0 → Passed s (length room)
  passed_by z = passed s (length room) (ap (λ (z : Verdict). z.number) (sym e) ∙ z)

  module _ (z : v.number ≡ 0) where
    zero : (pgm_verdict s room).number ≡ 0
    zero = ap (λ (x : Verdict). x.number) (sym e) ∙ z

    pub done_grey : (x y m : ℕ) → x ≡ (head_of s).width → y ≡ (head_of s).height → m ≡ (head_of s).maximum
        → ◌≡◌ {A = Grey} (record { answer = record { number = 0; place = 0; words = 0; lines = 0 }; width = x; height = y; maximum = m }) (pgm_answer s room)
    done_grey x y m a b d =
        let p = sym (done_answer v 0 0 z) ∙ ap (λ (u : Verdict). answer u 0 0) e in
        let k : (w t : ℕ) → w ≡ t → w ≡ afterwards (pgm_verdict s room) 0 t = λ w t g. g ∙ sym (done_after (pgm_verdict s room) 0 t zero) in
        λ i. record { answer = p i; width = k _ _ a i; height = k _ _ b i; maximum = k _ _ d i }

    pub done_room : (r done : List ℕ) → r ≡ done → done ≡ pgm_samples s (head_of s) ++ drop ((head_of s).width * (head_of s).height) room → r ≡ pgm_room s room
    done_room r done a b = a ∙ b ∙ sym (done_after (pgm_verdict s room) room _ zero)
