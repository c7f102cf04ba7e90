-- The scan by places with its marks in work bytes: what a loop over the places of a picture keeps, at one level. Assumes nothing.
-- Definitions: `Scanned P B k i m` the places below i have been scanned: a crossed horizontal code is marked by m exactly if the lead of its line is below 2 i.
-- Main laws: `marks_begin` before the first place; `place_tell` a crossed place leads a line exactly if it is not marked; `place_skip` past a place that leads none; `place_line` past
--   one whose line has been marked in the bytes; `place_past` crossed places that were scanned are marked; `line_cut`, `line_low` the codes of a line are crossed, and name edgels.
use mathlib.Core.Path.{◌≡◌}
use mathlib.Core.Bool.{Bool, true, false, not}
use mathlib.Core.List.{List}
use Prim.Native.Nat.{ℕ, suc, ◌*◌, ◌%◌, ◌<◌}
use native.Mathlib.Omega.{arith}
use lib.ListN.{length}
use borrow.Author.Tests.{lt-ltb, eq-eqb, ne_eqb}
use Rattle.tally.specs.Tally.{count}
use Rattle.orbit.specs.Orbit.{leads}
use Rattle.orbit.proofs.On.{on, on_ok}
use Rattle.orbit.proofs.Partition.{leads_ok}
use Rattle.orbit.proofs.Scan.{Marks, marks_start, marks_tell, marks_line, marks_skip, marks_past}
use Rattle.matte.specs.Picture.{Picture, size}
use Rattle.edgel.specs.Edgel.{horizontal}
use Rattle.cell.specs.Turn.{next}
use Rattle.outline.specs.Line.{cut_at, line, is_lead}
use Rattle.outline.proofs.Border.{Border}
use Rattle.outline.proofs.Paper.{closed_at, headed_at}
use Rattle.outline.proofs.Bytes.{marked, mark_all, mark_all_lem}

pub flat_even : (i : ℕ) → horizontal (2 * i) ≡ true
flat_even i = eq-eqb (2 * i % 2) 0 (omega arith)

module _ (P : Picture) (B : Border P) (k : ℕ) where
  abbrev pub Scanned : ℕ → (ℕ → Bool) → Type 0
  Scanned i m = Marks (closed_at P B k) horizontal (headed_at P B k) (2 * i) m

  pub marks_begin : (m : ℕ → Bool) → ((d : ℕ) → cut_at P k d ≡ true → horizontal d ≡ true → m d ≡ false) → Scanned 0 m
  marks_begin m q = marks_start (closed_at P B k) horizontal (headed_at P B k) m q

  pub place_tell : (i : ℕ) (m : ℕ → Bool) → Scanned i m → cut_at P k (2 * i) ≡ true → not (m (2 * i)) ≡ is_lead P k (2 * i)
  unfolding is_lead
  place_tell i m M o = marks_tell (closed_at P B k) horizontal (headed_at P B k) (2 * i) m M (flat_even i) o

  tall_leads : (i : ℕ) → leads (next P k) (cut_at P k) horizontal (2 * size P) (suc (2 * i)) ≡ false
  unfolding leads
  tall_leads i = rw (ne_eqb (suc (2 * i) % 2) 0 (omega arith))

  past : (i : ℕ) (m : ℕ → Bool) → Marks (closed_at P B k) horizontal (headed_at P B k) (suc (2 * i)) m → Scanned (suc i) m
  past i m M =
      let s : 2 * suc i ≡ suc (suc (2 * i)) = omega arith in
      rw s (marks_skip (closed_at P B k) horizontal (headed_at P B k) (suc (2 * i)) m M (tall_leads i))

  pub place_skip : (i : ℕ) (m : ℕ → Bool) → Scanned i m → is_lead P k (2 * i) ≡ false → Scanned (suc i) m
  unfolding is_lead
  place_skip i m M e = past i m (marks_skip (closed_at P B k) horizontal (headed_at P B k) (2 * i) m M e)

  -- a lead is crossed
  pub lead_cut : (c : ℕ) → is_lead P k c ≡ true → cut_at P k c ≡ true
  unfolding is_lead
  lead_cut c e = leads_ok (closed_at P B k) horizontal (headed_at P B k) c e

  -- the codes of the line through a crossed code are crossed, and so below 2 w h
  pub line_cut : (c d : ℕ) → cut_at P k c ≡ true → 0 < count d (line P k c) → cut_at P k d ≡ true
  unfolding line on
  line_cut c d o h = on_ok (closed_at P B k) c d o (lt-ltb _ _ h)

  pub line_low : (c d : ℕ) → cut_at P k c ≡ true → 0 < count d (line P k c) → d < 2 * size P
  line_low c d o h = (closed_at P B k).bound d (line_cut c d o h)

  -- the bytes after the line of place i has been followed and marked
  pub place_line : (t : ℕ → Bool) (v : ℕ) → t v ≡ true → (i : ℕ) (bytes : List ℕ) → ((c : ℕ) → 0 < count c (line P k (2 * i)) → c < 2 * length bytes) → Scanned i (marked t bytes) → is_lead P k (2 * i) ≡ true
      → Scanned (suc i) (marked t (mark_all v bytes (line P k (2 * i))))
  unfolding is_lead line on
  place_line t v y i bytes room M e =
      past i (marked t (mark_all v bytes (line P k (2 * i))))
      (marks_line (closed_at P B k) horizontal (headed_at P B k) (2 * i) (marked t bytes) (marked t (mark_all v bytes (line P k (2 * i)))) M e
      (λ d h. mark_all_lem t v y bytes (line P k (2 * i)) d h room))

  pub place_past : (i : ℕ) (m : ℕ → Bool) → Scanned i m → (j : ℕ) → cut_at P k (2 * j) ≡ true → j < i → m (2 * j) ≡ true
  place_past i m M j o l = marks_past (closed_at P B k) horizontal (headed_at P B k) (2 * i) m M (2 * j) o (flat_even j) (omega arith)
