-- Counting by rows of steps. Assumes nothing.
-- Definitions: `Counted` the rows above row y are counted, and a buffer holds the steps of row y.
-- Main laws: `stored` what holds of each element stored so far; `row_more` one step more of a row; `distances_both` the sums of two rows of distances; `part_none`, `part_more`, `part_piece` a sum one by one and piece by piece; `begin`, `go`, `end` the first row, one row more, and the last; `below` the row below lies within; `room_at` what the rows ask of a picture.
use mathlib.Core.Path.{◌≡◌, refl, sym, ap, subst, ◌∙◌}
use mathlib.Core.List.{List}
use Prim.Native.Nat.{ℕ, ◌+◌, ◌-◌, ◌*◌, ◌%◌, ◌≤◌, ◌<◌}
use native.Mathlib.Nat.{mul-le-mul_left, add-zero}
use native.Mathlib.Omega.{arith}
use lib.Dec.{eqb}
use lib.Arith.{digits_mod}
use lib.ListN.{length, get_or, set, length-set}
use lib.Seq.{get_or-set_same, get_or-set_other}
use borrow.Author.Tests.{eqb-true, eqb-false}
use Rattle.tally.specs.Tally.{apart, sum}
use Rattle.tally.proofs.Test.{by_test}
use Rattle.tally.proofs.Sum.{sum_same, sum_next, sum_plus, sum_cut}
use Rattle.matte.specs.Layout.{eight}
use Rattle.matte.specs.Picture.{Picture, size, at}
use Rattle.outline.specs.List.{listed}
use Rattle.refuse.specs.Shape.{Ground}
use Rattle.count.specs.Steps.{steps, step_table, Room, Row, Distances, gaps, places}
use Rattle.count.proofs.Flat.{area_most}
use Rattle.count.proofs.Steps.{table_at, listed_places, row_end}

-- ---- one row of steps
-- what holds of each element below b and of what is stored at b holds of each below b + 1
pub stored : (Q : ℕ → ℕ → Type 0) (l : List ℕ) (b v : ℕ) → b < length l → ((c : ℕ) → c < b → Q c (get_or l c 0)) → Q b v → (c : ℕ) → c < b + 1 → Q c (get_or (set l b v) c 0)
stored Q l b v h q t c u =
    by_test (eqb c b)
    (λ e.
    let s : c ≡ b = eqb-true c b e in
    rw (s, get_or-set_same l b v 0 h) t)
    (λ e. rw (get_or-set_other l b c v 0 (eqb-false c b e)) (q c (omega (arith, eqb-false c b e))))

pub row_more : (t px q : List ℕ) (from x v : ℕ) → Row t px from x q → x < 2048 → get_or px (from + x) 0 < 256 → v ≡ get_or t (get_or px (from + x) 0) 0 → Row t px from (x + 1) (set q x v)
row_more t px q from x v R h b e =
    record {
      room = simp length-set R.room;
      entry = stored (λ c y. (get_or px (from + c) 0 < 256) × (y ≡ get_or t (get_or px (from + c) 0) 0)) q x v (omega (arith, R.room)) R.entry (b, e);
    }

-- ---- two rows of distances
-- the sums along the row and to the row below make up the distances
pub distances_both : (p q d f : List ℕ) (end n m : ℕ) → Distances p p 1 end d → Distances p q 0 end f → n ≡ sum (λ i. get_or d i 0) end → m ≡ sum (λ i. get_or f i 0) end → n + m ≡ sum (gaps p q) end
distances_both p q d f end n m D F a b =
    let g : ℕ → ℕ = λ i. apart (get_or p i 0) (get_or p (i + 1) 0) in
    let h : ℕ → ℕ = λ i. apart (get_or p i 0) (get_or q i 0) in
    ap (λ (z : ℕ). z + m) (a ∙ sum_same (λ i. get_or d i 0) g end D.entry)
    ∙ ap (λ (z : ℕ). sum g end + z) (b ∙ sum_same (λ i. get_or f i 0) h end (λ i l. F.entry i l ∙ ap (λ (z : ℕ). apart (get_or p i 0) (get_or q z 0)) (add-zero i)))
    ∙ sym (sum_plus g h end)

-- ---- sums by pieces
module _ (g : ℕ → ℕ) where
  pub part_none : (a : ℕ) → 0 ≡ sum (λ i. g (a + i)) (a - a)
  unfolding sum
  part_none a = let s : a - a ≡ 0 = omega arith in rw s

  pub part_more : (a x n : ℕ) → a ≤ x → n ≡ sum (λ i. g (a + i)) (x - a) → n + g x ≡ sum (λ i. g (a + i)) (x + 1 - a)
  part_more a x n h e =
      let f : ℕ → ℕ = λ i. g (a + i) in
      let s : x + 1 - a ≡ x - a + 1 = omega arith in
      let t : a + (x - a) ≡ x = omega arith in
      ap (λ (z : ℕ). z + g x) e
      ∙ ap (λ (z : ℕ). sum f (x - a) + z) (ap g (sym t))
      ∙ sym (sum_next f (x - a))
      ∙ ap (sum f) (sym s)

  pub part_piece : (a e n r : ℕ) → a ≤ e → n ≡ sum g a → r ≡ sum (λ i. g (a + i)) (e - a) → n + r ≡ sum g e
  part_piece a e n r h u v =
      let t : a + (e - a) ≡ e = omega arith in
      ap (λ (z : ℕ). z + r) u
      ∙ ap (λ (z : ℕ). sum g a + z) v
      ∙ sym (sum_cut g a (e - a))
      ∙ ap (sum g) t

-- ---- row after row
pub room_at : {P : Picture} → Ground P → (from : ℕ) (q : List ℕ) → from + P.w ≤ length P.px → length q ≡ 2048 → Room P.px from P.w q
room_at G from q h e = record { within = h; wide = G.sides.w_most; most = area_most G; room = e }

pub record Counted (P : Picture) (ks t p : List ℕ) (y from n : ℕ) : Type 0 where
  pub table : t ≡ step_table ks
  pub within : y < P.h
  pub start : from ≡ y * P.w
  pub row : Row t P.px from P.w p
  pub count : n ≡ sum (places P ks) from
  pub most : n ≤ 510 * from

module _ (P : Picture) (G : Ground P) (ks t : List ℕ) where
  abbrev S : ℕ → ℕ
  S i = steps ks (at P i)

  pub begin : (p : List ℕ) → t ≡ step_table ks → Row t P.px 0 P.w p → Counted P ks t p 0 0 0
  unfolding sum
  begin p e R = record { table = e; within = omega (arith, G.sides.h_least); start = omega arith; row = R; count = refl; most = omega arith }

  row_at : (q : List ℕ) (f x i : ℕ) → t ≡ step_table ks → Row t P.px f P.w q → x < P.w → i ≡ f + x → get_or q x 0 ≡ S i
  row_at q f x i a R h e = (R.entry x h).1 ∙ ap (λ (l : List ℕ). get_or l (at P (f + x)) 0) a ∙ table_at ks (at P (f + x)) (R.entry x h).0 ∙ ap S (sym e)

  module _ (p : List ℕ) (y from n : ℕ) (C : Counted P ks t p y from n) where
    -- d rows further down is a whole row still
    pub below : (d : ℕ) → y + d < P.h → from + d * P.w + P.w ≤ length P.px
    below d h =
        let m : P.w * (y + d + 1) ≤ P.w * P.h = mul-le-mul_left P.w (omega arith) in
        omega (arith, C.start, G.whole)

    -- the row's places but the last, and the last
    row_sum : (q : List ℕ) → y + 1 < P.h → Row t P.px (from + P.w) P.w q → sum (places P ks) (from + P.w) ≡ sum (places P ks) from + sum (gaps p q) (P.w - 1)
    row_sum q h R =
        let v = P.w - 1 in
        let b : from + 1 * P.w + P.w ≤ length P.px = below 1 h in
        let w2 : 2 ≤ P.w = G.sides.w_least in
        let s : from + P.w ≡ from + (v + 1) = omega arith in
        let m : (from + v) % P.w ≡ v = ap (λ (z : ℕ). (z + v) % P.w) C.start ∙ digits_mod y (omega arith) in
        let z : places P ks (from + v) ≡ 0 = row_end P G ks (from + v) (omega (arith, G.whole)) (omega arith) in
        let g : ℕ → ℕ = λ i. places P ks (from + i) in
        ap (sum (places P ks)) s
        ∙ sum_cut (places P ks) from (v + 1)
        ∙ ap (λ (k : ℕ). sum (places P ks) from + k)
        (sum_next g v ∙ ap (λ (k : ℕ). sum g v + k) z ∙ add-zero (sum g v) ∙ sum_same g (gaps p q) v (λ x l. rw (row_at p from x (from + x) C.table C.row (omega arith) refl, row_at p from (x + 1) (from + x + 1) C.table C.row (omega arith) (omega arith), row_at q (from + P.w) x (from + x + P.w) C.table R (omega arith) (omega arith))))

    pub go : (q : List ℕ) (z f r : ℕ) → y + 1 < P.h → z ≡ y + 1 → f ≡ from + P.w → Row t P.px f P.w q → r ≡ sum (gaps p q) (P.w - 1) → r ≤ 510 * P.w
        → Counted P ks t q z f (n + r)
    go q z f r h a b R e m =
        let R₁ : Row t P.px (from + P.w) P.w q = subst (λ (k : ℕ). Row t P.px k P.w q) b R in
        record {
          table = C.table;
          within = omega arith;
          start = omega (arith, C.start, ap (λ (k : ℕ). k * P.w) a);
          row = R;
          count = ap (λ (k : ℕ). k + r) C.count ∙ ap (λ (k : ℕ). sum (places P ks) from + k) e ∙ sym (row_sum q h R₁) ∙ ap (sum (places P ks)) (sym b);
          most = omega (arith, C.most);
        }

    pub end : P.h ≤ y + 1 → n ≡ length (listed eight P ks)
    end h =
        let u : P.h ≡ y + 1 = omega (arith, C.within) in
        let e : from ≡ size P - P.w = omega (arith, C.start, ap (λ (k : ℕ). P.w * k) u) in
        C.count ∙ ap (sum (places P ks)) e ∙ sym (listed_places P G ks)
