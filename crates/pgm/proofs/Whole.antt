-- The whole file: every file of the grammar is read as its picture, and nothing else is. Assumes nothing.
-- Definitions: `Shown` what a file of the grammar is read as.
-- Main laws: `after_head` what stands after the header; `head_again` the header is the same before other bytes; `pgm_shown` a file of the grammar is read; `shown_pgm` what is read is a file of the grammar; `pgm_done`, `done_pgm` the same of the call.
use mathlib.Core.Path.{◌≡◌, refl, sym, ap, ◌∙◌}
use mathlib.Core.Bool.{Bool, true, not, ◌&&◌}
use mathlib.Core.List.{List, [], ◌∷◌, ◌++◌}
use Prim.Native.Nat.{ℕ, suc, ◌+◌, ◌*◌, ◌≤◌}
use native.Mathlib.Omega.{arith}
use lib.Dec.{eqb, ltb}
use lib.ListN.{length, drop}
use borrow.Author.Tests.{le-ltb}
use Rattle.matte.specs.Picture.{side_fits}
use Rattle.refuse.specs.Refusal.{Verdict}
use Rattle.refuse.specs.Refusal.{row, row_at, sides_row}
use Rattle.refuse.specs.Shape.{Sides}
use Rattle.refuse.proofs.Rows as rows
use Rattle.refuse.proofs.Sides.{in_sides}
use Rattle.pgm.specs.Reader.{HeadRead}
use Rattle.pgm.specs.Grammar.{letter, Pgm}
use Rattle.pgm.specs.Reader.{head_of, raster_from, samples_from}
use Rattle.pgm.specs.Call.{pgm_raster, pgm_samples, pgm_verdict, pgm_answer, pgm_room}
use Rattle.pgm.proofs.Rows.{done, samples_length}
use Rattle.pgm.proofs.Pieces.{shift}
use Rattle.pgm.proofs.Sampled.{samples_complete, samples_sound, head_of_lem}
use Rattle.pgm.proofs.Exact.{read, HeadSplit, head_complete, head_sound}
use Rattle.pgm.proofs.Verdicts.{Passed, passed, done_grey, done_room}

-- ---- the header and what follows it
pub after_head : (s : List ℕ) (a b white : ℕ) (x raster : List ℕ) → s ≡ a ∷ b ∷ (x ++ (white ∷ raster)) → drop (2 + length x + 1) s ≡ raster
after_head s a b white x raster e =
    let i : 2 + length x + 1 ≡ suc (2 + length x) = omega arith in
    ap (λ (z : ℕ). drop z s) i ∙ (head_of_lem s (2 + length x) white raster (shift s x (white ∷ raster) 2 (ap (drop 2) e))).2

pub whole_head : (s : List ℕ) (r : HeadSplit s) → (head_of s).ok ≡ true → head_of s ≡ read (head_of s).plain (head_of s).width (head_of s).height (head_of s).maximum (2 + length r.fields + 1)
whole_head s r o = λ z. record { ok = o z; plain = (head_of s).plain; width = (head_of s).width; height = (head_of s).height; maximum = (head_of s).maximum; at = r.at z }

pub head_again : (s : List ℕ) (r : HeadSplit s) → (head_of s).ok ≡ true → (raster : List ℕ) → head_of (80 ∷ letter (head_of s).plain ∷ (r.fields ++ (r.white ∷ raster))) ≡ head_of s
head_again s r o raster =
    head_complete (head_of s).plain (head_of s).width (head_of s).height (head_of s).maximum r.white r.fields raster r.three r.one r.least r.most ∙ sym (whole_head s r o)

-- ---- the file
pub record Shown (plain : Bool) (w h m : ℕ) (px s : List ℕ) : Type 0 where
  pub at : ℕ
  pub head : head_of s ≡ read plain w h m at
  pub fine : pgm_raster s (head_of s) ≡ done
  pub list : pgm_samples s (head_of s) ≡ px

pub pgm_shown : {plain : Bool} {w h m : ℕ} {px s : List ℕ} → Pgm plain w h m px s → Shown plain w h m px s
pgm_shown {plain} {w} {h} {m} {px} {s} r =
    let p = 2 + length r.fields + 1 in
    let q : head_of s ≡ read plain w h m p = ap head_of r.is ∙ head_complete plain w h m r.white r.fields r.raster r.three r.one r.least r.most in
    let c = samples_complete s m p r.samples (after_head s 80 (letter plain) r.white r.fields r.raster r.is) r.below in
    record {
      at = p;
      head = q;
      fine = ap (pgm_raster s) q ∙ ap (λ (z : ℕ). raster_from s plain m z p) (sym r.whole) ∙ c.fine;
      list = ap (pgm_samples s) q ∙ ap (λ (z : ℕ). samples_from s plain z p) (sym r.whole) ∙ c.list;
    }

pub shown_pgm : (s : List ℕ) → (head_of s).ok ≡ true → (pgm_raster s (head_of s)).number ≡ 0
    → Pgm (head_of s).plain (head_of s).width (head_of s).height (head_of s).maximum (pgm_samples s (head_of s)) s
shown_pgm s o z =
    let h = head_of s in
    let r = head_sound s o in
    let c = samples_sound s h.plain h.maximum (h.width * h.height) h.at r.raster
    (ap (λ (k : ℕ). drop k s) r.at ∙ after_head s 80 (letter h.plain) r.white r.fields r.raster r.is) z in
    record {
      fields = r.fields;
      white = r.white;
      raster = r.raster;
      is = r.is;
      three = r.three;
      one = r.one;
      least = r.least;
      most = r.most;
      whole = samples_length s h.plain (h.width * h.height) h.at;
      samples = c.samples;
      below = c.below;
    }

-- ---- the call
pub done_pgm : (s room : List ℕ) → (pgm_verdict s room).number ≡ 0
    → Pgm (head_of s).plain (head_of s).width (head_of s).height (head_of s).maximum (pgm_samples s (head_of s)) s × Passed s (length room)
done_pgm s room z = let p = passed s (length room) z in (shown_pgm s p.ok p.fine, p)

module _ {plain : Bool} {w h m : ℕ} {px s : List ℕ} (r : Pgm plain w h m px s) (S : Sides w h) (room : List ℕ) (k : w * h ≤ length room) where
  pub none_given : pgm_verdict s room ≡ done
  none_given =
      let c = pgm_shown r in
      let d = head_of s in
      let q = c.head in
      let f = pgm_raster s d in
      let r9 = row 9 (ltb (length room) (d.width * d.height)) in
      let r23 = row_at 23 (eqb f.number 23) f.place in
      let r24 = row_at 24 (eqb f.number 24) f.place in
      rows.passed (row_at 22 (not d.ok) d.at) (sides_row d.width d.height ∷ r9 ∷ r23 ∷ r24 ∷ []) (ap (λ (y : HeadRead). not y.ok) q)
      ∙ rows.fit 1 (side_fits d.width && side_fits d.height) (r9 ∷ r23 ∷ r24 ∷ []) (ap (λ (y : HeadRead). side_fits y.width && side_fits y.height) q ∙ in_sides w h S)
      ∙ rows.passed r9 (r23 ∷ r24 ∷ []) (ap (λ (y : HeadRead). ltb (length room) (y.width * y.height)) q ∙ le-ltb (length room) (w * h) k)
      ∙ rows.passed r23 (r24 ∷ []) (ap (λ (y : Verdict). eqb y.number 23) c.fine)
      ∙ rows.passed r24 [] (ap (λ (y : Verdict). eqb y.number 24) c.fine)

  pub pgm_done : (pgm_answer s room ≡ record { answer = record { number = 0; place = 0; words = 0; lines = 0 }; width = w; height = h; maximum = m }) × (pgm_room s room ≡ px ++ drop (w * h) room)
  pgm_done =
      let c = pgm_shown r in
      let q = c.head in
      let e = sym none_given in (
        sym (done_grey s room done e refl w h m (ap (λ (y : HeadRead). y.width) (sym q)) (ap (λ (y : HeadRead). y.height) (sym q)) (ap (λ (y : HeadRead). y.maximum) (sym q))),
        sym (done_room s room done e refl (px ++ drop (w * h) room) (px ++ drop (w * h) room) refl
            (ap (λ (y : List ℕ). y ++ drop (w * h) room) (sym c.list) ∙ ap (λ (y : HeadRead). pgm_samples s (head_of s) ++ drop (y.width * y.height) room) (sym q))),
      )
