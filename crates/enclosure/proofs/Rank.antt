-- Every listed horizontal crossing has a rank in the row-by-row order of positions. Assumes nothing.
-- Definitions: `cross L P ks n` n is the position of a listed horizontal crossing; `rank L P ks n` how many such positions are below n; `pos_at L P ks m d` the position of line m's crossing on d;
--   `On L P ks m d` line m of the list crosses the horizontal edgel d; `Owner L P ks n` the line and the edgel of the position n.
-- Main laws: `rank_le`, `rank_lt`, `rank_once`, `rank_next`, `rank_has` ranks number the crossings without gaps or repeats; `cross_on`, `owner` each is a crossing of one line of the list;
--   `lead_on` a lead is a crossing of its line; `lead_rank` it has the least rank of them; `on_once` a crossing is on one line only.
use mathlib.Core.Path.{◌≡◌, refl, ap, ◌∙◌}
use mathlib.Core.Bool.{Bool, true, ◌&&◌}
use mathlib.Core.List.{List}
use Prim.Native.Nat.{ℕ, zero, suc, ◌+◌, ◌/◌, ◌≤◌, ◌<◌}
use native.Mathlib.Omega.{arith}
use lib.Dec.{eqb, ltb}
use borrow.Author.Tests.{ltb-true, ltb-false, lt-ltb, eqb-true, eqb-false, eq-eqb}
use Rattle.tally.specs.Tally.{one, sum, count}
use Rattle.tally.proofs.Test.{by_test, and_1, and_2, both}
use Rattle.matte.specs.Layout.{Layout}
use Rattle.matte.specs.Picture.{Picture}
use Rattle.edgel.specs.Edgel.{horizontal, row}
use Rattle.outline.specs.Line.{cut_at, line}
use Rattle.enclosure.specs.Position.{key}
use Rattle.enclosure.specs.Tree.{line_count, level_at, lead_at, crossings_at}
use Rattle.enclosure.proofs.Lines.{Setting, Line, Pass, lead_pass, key_first}
use Rattle.enclosure.proofs.Sides.{one_line}
use Rattle.enclosure.proofs.Nearest.{alike}
use Rattle.enclosure.proofs.Before.{listed_level, key_level, crossing, crossing_key, crossing_found}
use Rattle.enclosure.proofs.Tree.{line_of, Number, number_of, number_once}
use Rattle.enclosure.proofs.Entry.{lead_pos}

module _ (L : Layout) (P : Picture) (ks : List ℕ) where
  unfoldable pub cross : ℕ → Bool
  cross n =
      horizontal (n / L.levels) && (listed_level ks (key_level P L.levels n) && cut_at P (key_level P L.levels n) (n / L.levels))

  unfoldable pub rank : ℕ → ℕ
  rank n = sum (λ i. one (cross i)) n

  pub rank_suc : (n : ℕ) → rank (suc n) ≡ rank n + one (cross n)
  unfolding rank sum
  rank_suc n = refl

  pub rank_le : (a b : ℕ) → a ≤ b → rank a ≤ rank b
  rank_le a zero l = let s : rank a ≡ rank 0 = ap rank (omega arith) in omega arith
  rank_le a (suc b) l =
      by_test (eqb a (suc b))
      (λ e. let s : rank a ≡ rank (suc b) = ap rank (eqb-true a (suc b) e) in omega arith)
      (λ e. omega (arith, rank_le a b (omega (arith, eqb-false a (suc b) e)), rank_suc b))

  pub rank_lt : (a b : ℕ) → cross a ≡ true → a < b → rank a < rank b
  rank_lt a b e l = omega (arith, rank_le (suc a) b l, rank_suc a, ap one e)

  pub rank_once : (a b : ℕ) → cross a ≡ true → cross b ≡ true → rank a ≡ rank b → a ≡ b
  rank_once a b x y e =
      by_test (ltb a b)
      (λ t. absurd (omega (arith, rank_lt a b x (ltb-true a b t))))
      (λ t. by_test (ltb b a)
      (λ u. absurd (omega (arith, rank_lt b a y (ltb-true b a u))))
      (λ u. omega (arith, ltb-false a b t, ltb-false b a u)))

  -- between two crossings with ranks one apart there is none
  pub rank_next : (a b n : ℕ) → cross a ≡ true → rank b ≡ suc (rank a) → cross n ≡ true → n < b → n ≤ a
  rank_next a b n y e x l =
      by_test (ltb a n)
      (λ t. absurd (omega (arith, rank_lt a n y (ltb-true a n t), rank_lt n b x l)))
      (λ t. ltb-false a n t)

  -- every rank below that of n is some crossing's
  pub rank_has : (r n : ℕ) → r < rank n → (i : ℕ) × (i < n) × (cross i ≡ true) × (rank i ≡ r)
  unfolding rank sum
  rank_has r zero l = absurd (omega arith)
  rank_has r (suc n) l =
      by_test (ltb r (rank n))
      (λ e. let x = rank_has r n (ltb-true r (rank n) e) in (x.0, omega (arith, x.1), x.2, x.3))
      (λ e.
      let u : rank n ≤ r = ltb-false r (rank n) e in
      let s : rank (suc n) ≡ rank n + one (cross n) = rank_suc n in
      by_test (cross n)
      (λ y. let z : one (cross n) ≡ 1 = ap one y in (n, omega arith, y, omega arith))
      (λ y. let z : one (cross n) ≡ 0 = ap one y in absurd (omega arith)))

  -- ---- crossings by line number
  abbrev pub pos_at : ℕ → ℕ → ℕ
  pos_at m d = key P L.levels (level_at L P ks m) d

  pub record On (m d : ℕ) : Type 0 where
    pub number : m < line_count L P ks
    pub flat : horizontal d ≡ true
    pub here : 0 < count d (crossings_at L P ks m)

  pub record Owner (n : ℕ) : Type 0 where
    pub m : ℕ
    pub d : ℕ
    pub on : On m d
    pub same : pos_at m d ≡ n

module _ {L : Layout} {P : Picture} {ks : List ℕ} (S : Setting L P ks) where
  abbrev W : ℕ
  W = L.levels

  abbrev rk : ℕ → ℕ
  rk = rank L P ks

  pub cross_key : (M : Line P ks) (c : ℕ) → Pass M c → cross L P ks (key P L.levels M.lvl c) ≡ true
  unfolding crossing cross
  cross_key M c A =
      let n = key P W M.lvl c in
      let e = crossing_key S M c A in
      let b = eqb (row P.w (n / W)) (row P.w c) in
      let r = listed_level ks (key_level P W n) && cut_at P (key_level P W n) (n / W) in
      both (and_1 (horizontal (n / W)) _ e) (and_2 b r (and_2 (horizontal (n / W)) (b && r) e))

  pub pass_on : (m d : ℕ) (A : On L P ks m d) → Pass (line_of S m A.number) d
  unfolding line_of
  pass_on m d A = record { flat = A.flat; here = lt-ltb _ _ A.here }

  pub cross_on : (m d : ℕ) → On L P ks m d → cross L P ks (pos_at L P ks m d) ≡ true
  unfolding line_of
  cross_on m d A = cross_key (line_of S m A.number) d (pass_on m d A)

  pub lead_on : (m : ℕ) → m < line_count L P ks → On L P ks m (lead_at L P ks m)
  unfolding line_of
  lead_on m a = let X = lead_pass S (line_of S m a) in record { number = a; flat = X.flat; here = ltb-true _ _ X.here }

  -- every crossing is on some line of the list
  numbered : (M : Line P ks) (d n : ℕ) → Pass M d → key P W M.lvl d ≡ n → Number S M → Owner L P ks n
  numbered M d n A e N =
      record {
        m = N.n;
        d = d;
        on = record {
          number = N.in_list;
          flat = A.flat;
          here =
              ltb-true _ _
              (ap (λ (z : ℕ). ltb 0 (count d (line P z (lead_at L P ks N.n)))) N.level
              ∙ ap (λ (z : ℕ). ltb 0 (count d (line P M.lvl z))) N.code
              ∙ A.here);
        };
        same = ap (λ (z : ℕ). key P W z d) N.level ∙ e;
      }

  pub owner : (n : ℕ) → 0 < L.levels → cross L P ks n ≡ true → Owner L P ks n
  unfolding crossing cross
  owner n p e =
      let r = listed_level ks (key_level P W n) && cut_at P (key_level P W n) (n / W) in
      let y = row P.w (n / W) in
      let F = crossing_found S p y n (both (and_1 (horizontal (n / W)) r e) (both (eq-eqb y y refl) (and_2 (horizontal (n / W)) r e))) in
      numbered F.who F.code n F.pass F.same (number_of S F.who)

  pub lead_rank : (m d : ℕ) → On L P ks m d → rank L P ks (lead_pos L P ks m) ≤ rank L P ks (pos_at L P ks m d)
  unfolding line_of
  lead_rank m d A = rank_le L P ks (lead_pos L P ks m) (pos_at L P ks m d) (key_first S (line_of S m A.number) d (pass_on m d A))

  -- one position, one line
  pub on_once : (m n d e : ℕ) → On L P ks m d → On L P ks n e → pos_at L P ks m d ≡ pos_at L P ks n e → m ≡ n
  unfolding line_of
  on_once m n d e A B s =
      let M = line_of S m A.number in
      let N = line_of S n B.number in
      let x = alike S M N (one_line S M N d e (pass_on m d A) (pass_on n e B) s) in
      number_once S m n A.number B.number x.0 x.1
