-- The last listed crossing of a row: its line is even there and a root, so that the rule of the left neighbour holds from row to row. Assumes nothing.
-- Definitions: `Next L P ks m d n` line m's crossing on d is the last listed one before the lead of line n.
-- Main laws: `row_out` at a row's end every line is even; `last_out`, `last_root` so the line of the last crossing has come to its other side there, and no line is around it; `next_rank`
--   ranks one apart; `from_left` the parent from the crossing before the lead on its row; `from_other` before the row there is nothing; `from_before` both in one rule: it is the line of the
--   crossing before if that has its lead's heading, else that line's parent, whichever row it is on; `from_none` with no crossing before it is a root.
use mathlib.Core.Path.{◌≡◌, refl, sym, ap, ◌∙◌}
use mathlib.Core.Bool.{Bool, true, false, not, ◌&&◌, cond}
use mathlib.Core.List.{List}
use mathlib.Core.Logic.{◌≢◌}
use Prim.Native.Nat.{ℕ, suc, ◌+◌, ◌-◌, ◌*◌, ◌/◌, ◌%◌, ◌≤◌, ◌<◌}
use native.Mathlib.Omega.{arith}
use lib.Dec.{eqb, ltb}
use lib.Arith.{digits_mod, digits_div}
use borrow.Author.Tests.{ltb-true, ltb-false, le-ltb, eqb-true, eqb-false}
use Rattle.tally.specs.Tally.{one, differ}
use Rattle.tally.proofs.Test.{by_test, no}
use Rattle.matte.specs.Layout.{Layout}
use Rattle.matte.specs.Picture.{Picture, high}
use Rattle.edgel.specs.Edgel.{first, across, column, row}
use Rattle.outline.specs.Line.{cut_at, line}
use Rattle.outline.proofs.Border.{frame}
use Rattle.outline.proofs.Codes.{cut_flat, row_in}
use Rattle.outline.proofs.Paper.{bit}
use Rattle.outline.proofs.Places.{flat_even}
use Rattle.outline.proofs.Heads.{row_even}
use Rattle.enclosure.specs.Position.{key, odd_left}
use Rattle.enclosure.specs.Tree.{line_count, level_at, lead_at, parent}
use Rattle.enclosure.proofs.Order.{key_lt, key_le, row_le, apart_row, flat_col, flat_in}
use Rattle.enclosure.proofs.Inside.{inside}
use Rattle.enclosure.proofs.Left.{left_marks, onward_same, onward_turn}
use Rattle.enclosure.proofs.Lines.{Setting, Line, Pass, marks, lead_key, left_of, small, pass_cut, counts, member, kept, key_first}
use Rattle.enclosure.proofs.Sides.{one_line, not_self, sides, own}
use Rattle.enclosure.proofs.Nearest.{Ahead}
use Rattle.enclosure.proofs.Nest.{Root, Before}
use Rattle.enclosure.proofs.Tree.{line_of, number_of, number_once, is_root}
use Rattle.enclosure.proofs.Entry.{lead_pos, straight, neighbour_in, neighbour_out, neighbour_none}
use Rattle.enclosure.proofs.Rank.{cross, rank, rank_le, rank_lt, rank_next, pos_at, On, cross_key, pass_on, cross_on}

pub record Next (L : Layout) (P : Picture) (ks : List ℕ) (m d n : ℕ) : Type 0 where
  pub less : pos_at L P ks m d < lead_pos L P ks n
  pub none : (x : ℕ) → cross L P ks x ≡ true → x < lead_pos L P ks n → x ≤ pos_at L P ks m d

module _ {L : Layout} {P : Picture} {ks : List ℕ} (S : Setting L P ks) where
  abbrev W : ℕ
  W = L.levels

  -- the code after the last edgel of row y: no edgel itself
  abbrev end : ℕ → ℕ
  end y = across P.w (P.w - 1) y

  -- at a row's end every line is even
  pub row_out : (M : Line P ks) (k y : ℕ) → k < L.levels → 0 < P.w → y < P.h → odd_left P L.levels M.lvl (line P M.lvl M.lead) k (across P.w (P.w - 1) y) ≡ false
  row_out M k y a p b =
      let i = y * P.w + (P.w - 1) in
      let u : P.w - 1 < P.w = omega arith in
      let c : (y * P.w + (P.w - 1)) % P.w ≡ P.w - 1 = digits_mod y u in
      let d : (y * P.w + (P.w - 1)) / P.w ≡ y = digits_div y u in
      let h : end y / 2 ≡ i = omega arith in
      let m : marks M (end y) ≡ false =
      by_test (marks M (end y))
      (λ e. no (pass_cut S M (end y) (record { flat = flat_even i; here = e })) (cut_flat (high P M.lvl) P.w P.h i ∙ rw (c, le-ltb (P.w - 1 + 1) P.w (omega arith))))
      (λ e. e) in
      let z : inside P.w (marks M) (end y / 2) ≡ false =
      ap (inside P.w (marks M)) h
      ∙ rw (c, d) (row_even (high P M.lvl) (bit P M.lvl) P.w P.h (high P M.lvl 0) (frame P S.border M.lvl) (marks M) (kept S M) y p b) in
      left_marks P W M.lvl k (end y) (small S M) a (flat_even i) (line P M.lvl M.lead) (marks M) (counts S M) p
      ∙ ap (λ (t : Bool). differ t (marks M (end y) && ltb (key P W M.lvl (end y)) (key P W k (end y)))) z
      ∙ ap (λ (t : Bool). t && ltb (key P W M.lvl (end y)) (key P W k (end y))) m

  -- the crossing of M on d is the last listed one of its row
  module _ (M : Line P ks) (d : ℕ) (A : Pass M d) (q : (R : Line P ks) (e : ℕ) → Pass R e → row P.w e ≡ row P.w d → key P L.levels R.lvl e ≤ key P L.levels M.lvl d) where
    abbrev y : ℕ
    y = row P.w d

    o : cut_at P M.lvl d ≡ true
    o = pass_cut S M d A

    col : column P.w d + 1 < P.w
    col = flat_col P W M.lvl d A.flat o

    inner : y < P.h
    inner = row_in P.w P.h (first d) (omega (arith, col)) (flat_in P W M.lvl d A.flat o)

    end_row : row P.w (end y) ≡ y
    end_row =
        let u : P.w - 1 < P.w = omega (arith, col) in
        let h : end y / 2 ≡ y * P.w + (P.w - 1) = omega arith in
        ap (λ (z : ℕ). z / P.w) h ∙ digits_div y u

    end_col : column P.w (end y) ≡ P.w - 1
    end_col =
        let u : P.w - 1 < P.w = omega (arith, col) in
        let h : end y / 2 ≡ y * P.w + (P.w - 1) = omega arith in
        ap (λ (z : ℕ). z % P.w) h ∙ digits_mod y u

    before_end : key P W M.lvl d < key P W M.lvl (end y)
    before_end =
        let s = apart_row P.w d (end y) A.flat (flat_even (y * P.w + (P.w - 1))) (sym end_row) in
        key_lt P W M.lvl M.lvl d (end y) (small S M) (omega (arith, col, end_col))

    even_out : (R : Line P ks) → odd_left P W R.lvl (line P R.lvl R.lead) M.lvl (end y) ≡ false
    even_out R = row_out R M.lvl y (small S M) (omega (arith, col)) inner

    -- its line has come to its other side
    pub last_out : left_of L M M.lvl d ≡ true
    unfolding left_of
    last_out =
        let l = line P M.lvl M.lead in
        flip _
        (sym
        (onward_turn P W M.lvl l M.lvl d M.lvl (end y) (sym end_row) before_end (small S M) refl A.flat (counts S M d ∙ ap one A.here)
        (λ e i f r t. q M e (record { flat = f; here = member S M e i }) (r ∙ end_row)))
        ∙ even_out M)
      where
        flip : (x : Bool) → not x ≡ false → x ≡ true
        flip true e = refl
        flip false e = no refl e

    -- and no line is around it
    pub last_root : Root L M
    unfolding left_of
    last_root =
        record {
          none = λ R.
              by_test (eqb (lead_key L R) (lead_key L M))
              (λ e. not_self S R M (eqb-true _ _ e))
              (λ e.
              let s : lead_key L R ≢ lead_key L M = eqb-false _ _ e in
              let l = line P R.lvl R.lead in
              sym (sides S R M s d A)
              ∙ sym
              (onward_same P W R.lvl l M.lvl d M.lvl (end y) (sym end_row) before_end
              (λ c i f r t.
              let X : Pass R c = record { flat = f; here = member S R c i } in
              let u : key P W R.lvl c ≢ key P W M.lvl d = λ z. s (one_line S R M c d X A z) in
              omega (arith, q R c X (r ∙ end_row))))
              ∙ even_out R);
        }

  -- ---- by numbers
  abbrev up : ℕ → ℕ
  up = parent L P ks

  pub next_rank : (n m d : ℕ) → On L P ks m d → rank L P ks (lead_pos L P ks n) ≡ suc (rank L P ks (pos_at L P ks m d)) → Next L P ks m d n
  next_rank n m d A r =
      let x = lead_pos L P ks n in
      let y = pos_at L P ks m d in
      record {
        less = by_test (ltb y x) (λ e. ltb-true _ _ e) (λ e. absurd (omega (arith, rank_le L P ks x y (ltb-false y x e))));
        none = λ z u l. rank_next L P ks y x z (cross_on S m d A) r u l;
      }

  module _ (n : ℕ) (a : n < line_count L P ks) (m d : ℕ) (A : On L P ks m d) (R : Next L P ks m d n) where
    abbrev here : Bool
    here = eqb (row P.w d) (row P.w (lead_at L P ks n))

    last : (M : Line P ks) (e : ℕ) → Ahead L M e (line_of S n a) → key P W M.lvl e ≤ pos_at L P ks m d
    unfolding line_of
    last M e X = R.none (key P W M.lvl e) (cross_key S M e X.pass) X.less

    neighbour : row P.w d ≡ row P.w (lead_at L P ks n) → Before L (line_of S n a)
    unfolding line_of
    neighbour s = record { q = line_of S m A.number; d = d; ahead = record { pass = pass_on S m d A; row = s; less = R.less }; next = last }

    named : (s : row P.w d ≡ row P.w (lead_at L P ks n)) → (number_of S (neighbour s).q).n ≡ m
    unfolding line_of neighbour
    named s =
        let N = number_of S (line_of S m A.number) in
        number_once S N.n m N.in_list A.number N.level N.code

    -- on the same row: it decides the parent
    pub from_left : row P.w d ≡ row P.w (lead_at L P ks n) → parent L P ks n ≡ cond (straight L P ks m d) (suc m) (parent L P ks m)
    unfolding line_of neighbour
    from_left s =
        by_test (straight L P ks m d)
        (λ e. rw e (neighbour_in S n a (neighbour s) e ∙ ap suc (named s)))
        (λ e. rw e (neighbour_out S n a (neighbour s) e ∙ ap up (named s)))

    wide : 0 < P.w
    wide = omega (arith, flat_col P W (line_of S m A.number).lvl d A.flat (pass_cut S (line_of S m A.number) d (pass_on S m d A)))

    code_le : d ≤ lead_at L P ks n
    unfolding line_of
    code_le =
        key_le P W (level_at L P ks m) (level_at L P ks n) d (lead_at L P ks n) (small S (line_of S n a)) (omega (arith, R.less))

    lead_row : row P.w d ≤ row P.w (lead_at L P ks n)
    lead_row = row_le P.w (d / 2) (lead_at L P ks n / 2) wide (omega (arith, code_le))

    -- on another row: a root
    pub from_other : row P.w d ≢ row P.w (lead_at L P ks n) → parent L P ks n ≡ 0
    unfolding line_of
    from_other q =
        neighbour_none S n a
        (λ M e X.
        let x : e ≤ d = key_le P W M.lvl (level_at L P ks m) e d (small S (line_of S m A.number)) (last M e X) in
        let x' : row P.w e ≤ row P.w d = row_le P.w (e / 2) (d / 2) wide (omega arith) in
        let s : row P.w e ≡ row P.w (lead_at L P ks n) = X.row in
        q (omega (arith, lead_row)))

    -- and then the crossing before is the last of its own row
    ends_row : row P.w d ≢ row P.w (lead_at L P ks n) → (M : Line P ks) (e : ℕ) → Pass M e → row P.w e ≡ row P.w d → key P W M.lvl e ≤ pos_at L P ks m d
    ends_row q M e X s =
        let l : e < lead_at L P ks n =
        by_test (ltb e (lead_at L P ks n)) (λ t. ltb-true _ _ t)
        (λ t. absurd (q (omega (arith, lead_row, s, row_le P.w (lead_at L P ks n / 2) (e / 2) wide (omega (arith, ltb-false e (lead_at L P ks n) t)))))) in
        R.none (key P W M.lvl e) (cross_key S M e X) (key_lt P W M.lvl (level_at L P ks n) e (lead_at L P ks n) (small S M) l)

    turned_out : row P.w d ≢ row P.w (lead_at L P ks n) → straight L P ks m d ≡ false
    unfolding line_of
    turned_out q =
        let M = line_of S m A.number in
        ap not (sym (own S M d (pass_on S m d A)) ∙ last_out M d (pass_on S m d A) (ends_row q))

    out_root : row P.w d ≢ row P.w (lead_at L P ks n) → parent L P ks m ≡ 0
    unfolding line_of
    out_root q = is_root S m A.number (last_root (line_of S m A.number) d (pass_on S m d A) (ends_row q))

    -- RULE: whichever row it is on
    pub from_before : parent L P ks n ≡ cond (straight L P ks m d) (suc m) (parent L P ks m)
    from_before =
        by_test here
        (λ e. from_left (eqb-true (row P.w d) (row P.w (lead_at L P ks n)) e))
        (λ e.
        let q : row P.w d ≢ row P.w (lead_at L P ks n) = eqb-false _ _ e in
        from_other q ∙ sym (out_root q) ∙ ap (λ (z : Bool). cond z (suc m) (up m)) (sym (turned_out q)))

    -- the lead of the deciding line is before that of line n
    pub before_it : lead_pos L P ks m < lead_pos L P ks n
    unfolding line_of
    before_it = omega (arith, key_first S (line_of S m A.number) d (pass_on S m d A), R.less)

  -- there is no crossing of a lower rank
  pub from_none : (n : ℕ) → n < line_count L P ks → rank L P ks (lead_pos L P ks n) ≡ 0 → parent L P ks n ≡ 0
  unfolding line_of
  from_none n a r =
      neighbour_none S n a
      (λ M e X. absurd (omega (arith, rank_lt L P ks (key P W M.lvl e) (lead_pos L P ks n) (cross_key S M e X.pass) X.less)))
