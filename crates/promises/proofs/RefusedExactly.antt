-- The customer's first demand, of refusals: each number of the paper's table is given exactly when its row says so and no earlier row of the call's order does. Assumes nothing.
-- Definitions: `numbers` the numbers of rows; `Exactly` what is said of a call: its numbers in the paper's order, which of them is answered, with what, and when the call is done; `single` each number stands once.
-- Main laws: `exactly` it holds of every answer that is made from rows whose numbers differ; `list_exactly`, `tree_exactly`, `frame_exactly`, `crossing_exactly`, `piece_exactly`, `member_exactly`, `paint_exactly`,
--   `write_exactly`, `read_exactly`, `pgm_exactly` it for each call with an answer, of the rows in the call's definition; `part_exactly` the line part, whose 11 is an empty part alone; `c_piece_exactly`, `c_part_exactly` the two calls for
--   C that tell their answers in another form, where the other nine have the base's; `crossing_nothing`, `piece_nothing`, `part_nothing`, `member_nothing`, `read_nothing`, `pgm_nothing` what the answer else holds where it is refused;
--   `same_number`, `refuses` the number answered is the verdict's.
use mathlib.Core.Path.{◌≡◌, refl, sym, ap, subst, ◌∙◌}
use mathlib.Core.Bool.{Bool, true, false, not, ◌&&◌}
use mathlib.Core.List.{List, [], ◌∷◌}
use mathlib.Core.Logic.{◌≢◌, ◌↔◌}
use Prim.Native.Nat.{ℕ, zero, suc, ◌≤◌, ◌<◌}
use native.Mathlib.Omega.{arith}
use lib.Dec.{eqb, ltb}
use lib.ListN.{length, replicate}
use borrow.Author.Tests.{eq-eqb, not-true, ltb-true, ltb-false}
use Rattle.tally.specs.Tally.{tally}
use Rattle.tally.proofs.Test.{by_test, no, and_1, and_2}
use Rattle.refuse.specs.declared.Answer.{Answer}
use Rattle.refuse.specs.Refusal.{Verdict}
use Rattle.matte.specs.Layout.{eight}
use Rattle.matte.specs.Picture.{Picture}
use Rattle.refuse.specs.Refusal.{Row, verdict, answer}
use Rattle.refuse.proofs.Rows.{done_answer, refused_answer, refused_after}
use Rattle.refuse.proofs.Exactly.{nth, First, first_decides, decided_first, none_zero, zero_none}
use Rattle.edgel.specs.Word.{flagged}
use Rattle.outline.specs.List.{list_rows, list_answer}
use Rattle.enclosure.specs.Call.{tree_rows, tree_answer}
use Rattle.frame.specs.Frame.{frame_rows, frame_answer}
use Rattle.crossing.specs.Crossing.{whole, crossing_rows, crossing_verdict, crossing_answer}
use Rattle.piece.specs.declared.Piece.TheVariants.{Refused}
use Rattle.piece.specs.Piece.{case_of, piece_rows, piece_verdict, piece_answer}
use Rattle.paint.specs.Part.{part}
use Rattle.paint.specs.Member.{member_rows, member_verdict, member_answer}
use Rattle.paint.specs.Paint.{paint_rows, paint_answer}
use Rattle.paint.proofs.Parts.{part_empty, part_some, part_nowhere}
use Rattle.olr.specs.File.{write_rows, write_answer}
use Rattle.olr.specs.Read.{file_word_count, file_words, read_rows, read_verdict, read_answer}
use Rattle.pgm.specs.Call.{pgm_rows, pgm_verdict, pgm_answer}
use Rattle.host.specs.Piece.{told_piece}
use Rattle.host.specs.Part.{part_place}

-- the numbers of the rows, in their order
abbrev pub numbers : List Row → List ℕ
numbers [] = []
numbers (r ∷ rs) = r.number ∷ numbers rs

-- of a call with the rows rs and the answer a, ns the order in the paper: row i's number is answered exactly if that row is given and none before it is; then the place is the row's and nothing is handed over; and
-- the number is 0 exactly if no row is given
pub record Exactly (ns : List ℕ) (rs : List Row) (a : Answer) : Type 0 where
  pub order : numbers rs ≡ ns
  pub refused : (i : ℕ) → i < length rs → (a.number ≡ (nth rs i).number) ↔ First rs i
  pub told : (i : ℕ) → First rs i → a ≡ record { number = (nth rs i).number; place = (nth rs i).place; words = 0; lines = 0 }
  pub done : (a.number ≡ 0) ↔ ((i : ℕ) → (nth rs i).given ≡ false)
  pub done_place : a.number ≡ 0 → a.place ≡ 0

-- n stands nowhere in the list
abbrev absent : ℕ → List ℕ → Bool
absent n [] = true
absent n (m ∷ ns) = not (eqb n m) && absent n ns

-- each number once, and none is 0
abbrev pub single : List ℕ → Bool
single [] = true
single (n ∷ ns) = not (eqb n 0) && (absent n ns && single ns)

unlike : (n m : ℕ) → not (eqb n m) ≡ true → n ≢ m
unlike n m e q = no (eq-eqb n m q) (not-true (eqb n m) e)

absent_at : (n : ℕ) (rs : List Row) → absent n (numbers rs) ≡ true → (i : ℕ) → i < length rs → n ≢ (nth rs i).number
absent_at n [] e i h q = absurd (omega arith)
absent_at n (r ∷ rs) e zero h q = unlike n r.number (and_1 (not (eqb n r.number)) (absent n (numbers rs)) e) q
absent_at n (r ∷ rs) e (suc i) h q = absent_at n rs (and_2 (not (eqb n r.number)) (absent n (numbers rs)) e) i (omega arith) q

-- the three parts of `single` of a row and those after it
parts : (r : Row) (rs : List Row) → single (numbers (r ∷ rs)) ≡ true → (r.number ≢ 0) × (absent r.number (numbers rs) ≡ true) × (single (numbers rs) ≡ true)
parts r rs s =
    let n = not (eqb r.number 0) in
    let a = absent r.number (numbers rs) in
    let t = and_2 n (a && single (numbers rs)) s in
    (unlike r.number 0 (and_1 n (a && single (numbers rs)) s), and_1 a (single (numbers rs)) t, and_2 a (single (numbers rs)) t)

-- rows of one number are one row
once : (rs : List Row) → single (numbers rs) ≡ true → (i j : ℕ) → i < length rs → j < length rs → (nth rs i).number ≡ (nth rs j).number → i ≡ j
once [] s i j h m q = absurd (omega arith)
once (r ∷ rs) s zero zero h m q = refl
once (r ∷ rs) s zero (suc j) h m q = absurd (absent_at r.number rs (parts r rs s).1 j (omega arith) q)
once (r ∷ rs) s (suc i) zero h m q = absurd (absent_at r.number rs (parts r rs s).1 i (omega arith) (sym q))
once (r ∷ rs) s (suc i) (suc j) h m q = ap suc (once rs (parts r rs s).2 i j (omega arith) (omega arith) q)

nonzero : (rs : List Row) → single (numbers rs) ≡ true → (i : ℕ) → i < length rs → (nth rs i).number ≢ 0
nonzero [] s i h = absurd (omega arith)
nonzero (r ∷ rs) s zero h = (parts r rs s).0
nonzero (r ∷ rs) s (suc i) h = nonzero rs (parts r rs s).2 i (omega arith)

-- a row that is given is one of the rows
given_row : (rs : List Row) (i : ℕ) → (nth rs i).given ≡ true → i < length rs
given_row [] i e = no e refl
given_row (r ∷ rs) zero e = omega arith
given_row (r ∷ rs) (suc i) e = omega (arith, given_row rs i e)

-- the answer's number is the verdict's
pub same_number : (v : Verdict) (words lines : ℕ) → (answer v words lines).number ≡ v.number
same_number v words lines = go v.number
  where
    go : (n : ℕ) → (answer (record { number = n; place = v.place }) words lines).number ≡ n
    go zero = refl
    go (suc n) = ap (λ (a : Answer). a.number) (refused_answer (record { number = suc n; place = v.place }) words lines (λ z. omega arith))

module _ (ns : List ℕ) (rs : List Row) (words lines : ℕ) (order : numbers rs ≡ ns) (s : single ns ≡ true) where
  abbrev v : Verdict
  v = verdict rs

  each : single (numbers rs) ≡ true
  each = ap single order ∙ s

  decides : (i : ℕ) → First rs i → v.number ≡ (nth rs i).number
  decides i F = ap (λ (u : Verdict). u.number) (first_decides rs i F)

  -- the row whose number is answered is the first that is given
  is_first : (i : ℕ) → i < length rs → (answer v words lines).number ≡ (nth rs i).number → First rs i
  is_first i h e =
      let n : v.number ≡ (nth rs i).number = sym (same_number v words lines) ∙ e in
      let d = decided_first rs (λ z. nonzero rs each i h (sym n ∙ z)) in
      subst (First rs) (once rs each d.0 i (given_row rs d.0 d.1.here) h (sym (decides d.0 d.1) ∙ n)) d.1

  pub exactly : Exactly ns rs (answer v words lines)
  exactly = record {
    order = order;
    refused = λ i h. (is_first i h, λ F. same_number v words lines ∙ decides i F);
    told = λ i F.
        refused_answer v words lines (λ z. nonzero rs each i (given_row rs i F.here) (sym (decides i F) ∙ z))
        ∙ ap (λ (u : Verdict). record { number = u.number; place = u.place; words = 0; lines = 0 }) (first_decides rs i F);
    done = (
      λ e. zero_none rs (λ i t. nonzero rs each i (given_row rs i t)) (sym (same_number v words lines) ∙ e),
      λ q. same_number v words lines ∙ ap (λ (u : Verdict). u.number) (none_zero rs q),
    );
    done_place = λ e. ap (λ (u : Answer). u.place) (done_answer v words lines (sym (same_number v words lines) ∙ e));
  }

module _ (P : Picture) (ks work out : List ℕ) where
  pub list_exactly : Exactly (1 ∷ 2 ∷ 3 ∷ 4 ∷ 17 ∷ 18 ∷ 19 ∷ 5 ∷ 6 ∷ []) (list_rows eight P ks work out) (list_answer eight P ks work out)
  list_exactly = exactly _ (list_rows eight P ks work out) _ _ refl refl

  pub tree_exactly : (tree : List ℕ) → Exactly (1 ∷ 2 ∷ 3 ∷ 4 ∷ 17 ∷ 18 ∷ 19 ∷ 5 ∷ 6 ∷ 7 ∷ []) (tree_rows eight P ks work out tree) (tree_answer eight P ks work out tree)
  tree_exactly tree = exactly _ (tree_rows eight P ks work out tree) _ _ refl refl

module _ (P : Picture) where
  pub frame_exactly : (room : List ℕ) → Exactly (1 ∷ 2 ∷ 9 ∷ []) (frame_rows eight P room) (frame_answer eight P room)
  frame_exactly room = exactly _ (frame_rows eight P room) _ _ refl refl

  pub crossing_exactly : (k c : ℕ) → Exactly (1 ∷ 2 ∷ 3 ∷ 8 ∷ 10 ∷ []) (crossing_rows eight P k c) (crossing_answer eight P k c).answer
  crossing_exactly k c = exactly _ (crossing_rows eight P k c) _ _ refl refl

  pub piece_exactly : (k x y : ℕ) → Exactly (1 ∷ 2 ∷ 3 ∷ 11 ∷ 10 ∷ []) (piece_rows eight P k x y) (piece_answer eight P k x y).answer
  piece_exactly k x y = exactly _ (piece_rows eight P k x y) _ _ refl refl

module _ (w h : ℕ) (ws : List ℕ) where
  pub member_exactly : (n x y : ℕ) → Exactly (1 ∷ 8 ∷ 11 ∷ []) (member_rows eight w h ws n x y) (member_answer eight w h ws n x y).answer
  member_exactly n x y = exactly _ (member_rows eight w h ws n x y) _ _ refl refl

  pub paint_exactly : (v : ℕ) (ks room : List ℕ) → Exactly (1 ∷ 3 ∷ 8 ∷ 9 ∷ []) (paint_rows eight w h v ks ws room) (paint_answer eight w h v ks ws room)
  paint_exactly v ks room = exactly _ (paint_rows eight w h v ks ws room) _ _ refl refl

  pub write_exactly : (v : ℕ) (ks room : List ℕ) → Exactly (1 ∷ 3 ∷ 16 ∷ 8 ∷ 15 ∷ []) (write_rows w h v ks ws room) (write_answer w h v ks ws room)
  write_exactly v ks room = exactly _ (write_rows w h v ks ws room) _ _ refl refl

pub read_exactly : (f out : List ℕ) → Exactly (12 ∷ 13 ∷ 14 ∷ 8 ∷ 6 ∷ []) (read_rows f out) (read_answer f out).answer
read_exactly f out = exactly _ (read_rows f out) _ _ refl refl

pub pgm_exactly : (f room : List ℕ) → Exactly (22 ∷ 1 ∷ 9 ∷ 23 ∷ 24 ∷ []) (pgm_rows f room) (pgm_answer f room).answer
pgm_exactly f room = exactly _ (pgm_rows f room) _ _ refl refl

none_left : (n : ℕ) (ws : List ℕ) → length (part eight n ws) ≡ 0 → tally (flagged eight) ws ≤ n
none_left n ws e =
    by_test (ltb n (tally (flagged eight) ws))
    (λ t. absurd (omega (arith, part_some eight n ws (ltb-true n (tally (flagged eight) ws) t))))
    (λ t. ltb-false n (tally (flagged eight) ws) t)

-- there are as many lines as flags, and line n is empty exactly if there is none
pub part_exactly : (n : ℕ) (ws : List ℕ) → (part eight n ws ≡ []) ↔ (tally (flagged eight) ws ≤ n)
part_exactly n ws = (λ e. none_left n ws (ap (λ (l : List ℕ). length l) e), part_empty eight n ws)

-- ---- the calls for C whose answers have another form
pub c_piece_exactly : (P : Picture) (k x y : ℕ) → Exactly (1 ∷ 2 ∷ 3 ∷ 11 ∷ 10 ∷ []) (piece_rows eight P k x y) (told_piece (piece_answer eight P k x y)).answer
c_piece_exactly = piece_exactly

pub c_part_exactly : (n : ℕ) (ws : List ℕ) → ((part_place n ws).count ≡ 0) ↔ (tally (flagged eight) ws ≤ n)
c_part_exactly n ws = (none_left n ws, λ h. ap (λ (l : List ℕ). length l) (part_empty eight n ws h))

-- ---- refused, every further number is 0, a yes or no is no, and the piece says so
pub refuses : (v : Verdict) (words lines : ℕ) → (answer v words lines).number ≢ 0 → v.number ≢ 0
refuses v words lines q z = q (same_number v words lines ∙ z)

pub crossing_nothing : (P : Picture) (k c : ℕ) → (crossing_answer eight P k c).answer.number ≢ 0
    → ((crossing_answer eight P k c).heading ≡ 0) × ((crossing_answer eight P k c).num ≡ 0) × ((crossing_answer eight P k c).den ≡ 0) × ((crossing_answer eight P k c).x ≡ whole 0) × ((crossing_answer eight P k c).y ≡ whole 0)
crossing_nothing P k c q =
    let v = crossing_verdict eight P k c in
    let n : v.number ≢ 0 = refuses v 0 0 q in
    (refused_after v 0 _ n, refused_after v 0 _ n, refused_after v 0 _ n, refused_after v (whole 0) _ n, refused_after v (whole 0) _ n)

pub piece_nothing : (P : Picture) (k x y : ℕ) → (piece_answer eight P k x y).answer.number ≢ 0 → (piece_answer eight P k x y).piece ≡ case_of Refused
piece_nothing P k x y q = let v = piece_verdict eight P k x y in refused_after v (case_of Refused) _ (refuses v 0 0 q)

pub part_nothing : (n : ℕ) (ws : List ℕ) → tally (flagged eight) ws ≤ n → ((part_place n ws).start ≡ 0) × ((part_place n ws).count ≡ 0)
part_nothing n ws h = (part_nowhere eight n ws h, ap (λ (l : List ℕ). length l) (part_empty eight n ws h))

pub member_nothing : (w h : ℕ) (ws : List ℕ) (n x y : ℕ) → (member_answer eight w h ws n x y).answer.number ≢ 0 → (member_answer eight w h ws n x y).inside ≡ false
member_nothing w h ws n x y q = let v = member_verdict eight w h ws n x y in refused_after v false _ (refuses v 0 0 q)

pub read_nothing : (f out : List ℕ) → (read_answer f out).answer.number ≢ 0
    → ((read_answer f out).width ≡ 0) × ((read_answer f out).height ≡ 0) × ((read_answer f out).border ≡ 0) × ((read_answer f out).count ≡ 0) × ((read_answer f out).levels ≡ replicate 255 0)
read_nothing f out q =
    let v = read_verdict f out in
    let n : v.number ≢ 0 = refuses v (file_word_count f) (tally (flagged eight) (file_words f)) q in
    (refused_after v 0 _ n, refused_after v 0 _ n, refused_after v 0 _ n, refused_after v 0 _ n, refused_after v (replicate 255 0) _ n)

pub pgm_nothing : (f room : List ℕ) → (pgm_answer f room).answer.number ≢ 0
    → ((pgm_answer f room).width ≡ 0) × ((pgm_answer f room).height ≡ 0) × ((pgm_answer f room).maximum ≡ 0)
pgm_nothing f room q =
    let v = pgm_verdict f room in
    let n : v.number ≢ 0 = refuses v 0 0 q in
    (refused_after v 0 _ n, refused_after v 0 _ n, refused_after v 0 _ n)
