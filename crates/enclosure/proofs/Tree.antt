-- The tree over the whole list, as numbers: each line's parent by the definition is what the laws of lines say. Assumes nothing.
-- Definitions: `line_of S n` line n of the list; `Number S M` the number of a line; `Above S n` what `parent` finds for line n, where it finds one.
-- Main laws: `parts` a number's level and lead; `number_of`, `number_once`, `named` numbers and lines; `around_is`, `near_is` the definitions by number are those of lines; `parent_or` what
--   `parent` says of the lines; `is_parent`, `is_root` and back.
use mathlib.Core.Path.{◌≡◌, refl, sym, ap, ◌∙◌}
use mathlib.Core.Bool.{true, false, not}
use mathlib.Core.List.{List}
use mathlib.Core.Logic.{◌⊎◌, ⊎_elim, inl, inr}
use Prim.Native.Nat.{ℕ, suc, ◌+◌, ◌*◌, ◌/◌, ◌%◌, ◌≤◌, ◌<◌}
use native.Mathlib.Omega.{arith}
use lib.Dec.{eqb}
use lib.ListN.{get_or}
use lib.Arith.{digits_mod, digits_div}
use borrow.Author.Tests.{eqb-true}
use Rattle.tally.specs.Tally.{count, tally}
use Rattle.tally.proofs.Test.{by_test, no, and_2}
use Rattle.tally.proofs.Count.{count_at}
use Rattle.matte.specs.Layout.{Layout}
use Rattle.matte.specs.Picture.{Picture, size}
use Rattle.outline.specs.Line.{is_lead}
use Rattle.outline.proofs.Codes.{flat_is}
use Rattle.outline.proofs.Paper.{closed_at}
use Rattle.enclosure.specs.Position.{key, on_left, odd_left}
use Rattle.enclosure.specs.Tree.{firsts, line_count, level_at, lead_at, crossings_at, around, near, best, parent}
use Rattle.enclosure.proofs.Lists.{tally_some, count_where}
use Rattle.enclosure.proofs.Lines.{Setting, Line, lead_key, left_of, encloses, lead_cut, lead_pass}
use Rattle.enclosure.proofs.Sides.{not_self}
use Rattle.enclosure.proofs.Nearest.{nearest_ge, near_to, alike, encloses_alike, near_alike}
use Rattle.enclosure.proofs.Nest.{Parent, Root, parent_once}
use Rattle.enclosure.proofs.Best.{Top, best_is}
use Rattle.enclosure.proofs.Firsts.{rising_once, firsts_rising, firsts_has, has_firsts}

module _ {L : Layout} {P : Picture} {ks : List ℕ} (S : Setting L P ks) where
  abbrev C : ℕ
  C = L.codes

  abbrev W : ℕ
  W = L.levels

  abbrev all : ℕ
  all = line_count L P ks

  abbrev lv : ℕ → ℕ
  lv = level_at L P ks

  abbrev ld : ℕ → ℕ
  ld = lead_at L P ks

  pub record Parts (n : ℕ) : Type 0 where
    pub listed : 0 < count (level_at L P ks n) ks
    pub leads : is_lead P (level_at L P ks n) (lead_at L P ks n) ≡ true
    pub word : get_or (firsts L P ks) n 0 ≡ level_at L P ks n * L.codes + lead_at L P ks n

  pub parts : (n : ℕ) → n < line_count L P ks → Parts n
  unfolding level_at lead_at
  parts n l =
      let x = get_or (firsts L P ks) n 0 in
      let r = firsts_has L P ks x (count_at (firsts L P ks) n l) in
      let b : r.1 < C = omega (arith, r.5, S.fits.room) in
      let d : x / C ≡ r.0 = ap (λ (z : ℕ). z / C) r.2 ∙ digits_div r.0 b in
      let m : x % C ≡ r.1 = ap (λ (z : ℕ). z % C) r.2 ∙ digits_mod r.0 b in
      record {
        listed = rw d r.3;
        leads = ap (λ (z : ℕ). is_lead P z (x % C)) d ∙ ap (is_lead P r.0) m ∙ r.4;
        word = r.2 ∙ ap (λ (z : ℕ). z * C + r.1) (sym d) ∙ ap (λ (z : ℕ). x / C * C + z) (sym m);
      }

  unfoldable pub line_of : (n : ℕ) → n < line_count L P ks → Line P ks
  line_of n l = let X = parts n l in record { lvl = level_at L P ks n; lead = lead_at L P ks n; listed = X.listed; leads = X.leads }

  pub record Number (M : Line P ks) : Type 0 where
    pub n : ℕ
    pub in_list : n < line_count L P ks
    pub level : level_at L P ks n ≡ M.lvl
    pub code : lead_at L P ks n ≡ M.lead

  pub number_of : (M : Line P ks) → Number M
  unfolding level_at lead_at
  number_of M =
      let c = M.lead in
      let s : c ≡ 2 * (c / 2) = flat_is c (lead_pass S M).flat in
      let b : c < 2 * size P = (closed_at P S.border M.lvl).bound c (lead_cut S M) in
      let y : 0 < count (M.lvl * C + 2 * (c / 2)) (firsts L P ks) =
      has_firsts L P ks M.lvl (c / 2) M.listed (ap (is_lead P M.lvl) (sym s) ∙ M.leads) (omega arith) in
      let r = count_where (M.lvl * C + 2 * (c / 2)) (firsts L P ks) y in
      let e : get_or (firsts L P ks) r.0 0 ≡ M.lvl * C + c = r.2 ∙ ap (λ (z : ℕ). M.lvl * C + z) (sym s) in
      let l : c < C = omega (arith, S.fits.room) in
      record { n = r.0; in_list = r.1; level = ap (λ (z : ℕ). z / C) e ∙ digits_div M.lvl l; code = ap (λ (z : ℕ). z % C) e ∙ digits_mod M.lvl l }

  -- a number names one line
  pub number_once : (m n : ℕ) → m < line_count L P ks → n < line_count L P ks → level_at L P ks m ≡ level_at L P ks n → lead_at L P ks m ≡ lead_at L P ks n → m ≡ n
  number_once m n a b e f =
      rising_once (0 * C) (firsts L P ks) (firsts_rising L P S.fits.room 0 ks S.levels) m n a b
      ((parts m a).word ∙ ap (λ (z : ℕ). z * C + ld m) e ∙ ap (λ (z : ℕ). lv n * C + z) f ∙ sym (parts n b).word)

  pub around_is : (m n : ℕ) (a : m < line_count L P ks) (b : n < line_count L P ks) → around L P ks m n ≡ encloses L (line_of m a) (line_of n b)
  unfolding around left_of line_of
  around_is m n a b =
      by_test (eqb m n)
      (λ e.
      let s : lead_key L (line_of m a) ≡ lead_key L (line_of n b) = ap (λ (z : ℕ). key P W (lv z) (ld z)) (eqb-true m n e) in
      rw e (sym (not_self S (line_of m a) (line_of n b) s)))
      (λ e. rw e)

  pub near_is : (m n : ℕ) (a : m < line_count L P ks) (b : n < line_count L P ks) → near L P ks m n ≡ near_to L (line_of m a) (line_of n b)
  unfolding near near_to line_of
  near_is m n a b = refl

  pub named : (M : Line P ks) (N : Number M) → lead_key L (line_of N.n N.in_list) ≡ lead_key L M
  unfolding line_of
  named M N = ap (λ (z : ℕ). key P W z (ld N.n)) N.level ∙ ap (key P W M.lvl) N.code

  positive : (n m : ℕ) → around L P ks m n ≡ true → 0 < near L P ks m n
  unfolding around near
  positive n m e =
      let p = on_left P W (lv m) (lv n) (ld n) in
      let l = crossings_at L P ks m in
      let t : odd_left P W (lv m) l (lv n) (ld n) ≡ true = and_2 (not (eqb m n)) _ e in
      let o : tally p l % 2 ≡ 1 = eqb-true (tally p l % 2) 1 t in
      let s = tally_some p l (omega arith) in
      omega (arith, nearest_ge P W (lv m) (lv n) (ld n) l s.0 s.2 s.1)

  pub record Above (n : ℕ) (b : n < line_count L P ks) : Type 0 where
    pub p : ℕ
    pub is : parent L P ks n ≡ suc p
    pub in_list : p < line_count L P ks
    pub parent : Parent L (line_of p in_list) (line_of n b)

  -- what `parent` finds
  pub parent_or : (n : ℕ) (b : n < line_count L P ks) → Above n b ⊎ ((parent L P ks n ≡ 0) × Root L (line_of n b))
  unfolding parent
  parent_or n b =
      let N = line_of n b in
      ⊎_elim
      (λ (T : Top (λ m. around L P ks m n) (λ m. near L P ks m n) all (parent L P ks n)).
      inl (record {
        p = T.it;
        is = T.is;
        in_list = T.within;
        parent = record {
          outer = sym (around_is T.it n T.within b) ∙ T.holds;
          best = λ M a.
              let Z = number_of M in
              let Q = line_of Z.n Z.in_list in
              let u : near L P ks Z.n n ≤ near L P ks T.it n = T.top Z.n Z.in_list (around_is Z.n n Z.in_list b ∙ encloses_alike S Q M N (named M Z) ∙ a) in
              let x : near L P ks Z.n n ≡ near_to L M N = near_is Z.n n Z.in_list b ∙ near_alike S Q M N (named M Z) in
              let y : near L P ks T.it n ≡ near_to L (line_of T.it T.within) N = near_is T.it n T.within b in
              omega arith;
        };
      }))
      (λ (z : (parent L P ks n ≡ 0) × ((m : ℕ) → m < all → around L P ks m n ≡ false)).
      inr (
        z.0,
        record {
          none = λ M.
              let Z = number_of M in
              sym (encloses_alike S (line_of Z.n Z.in_list) M N (named M Z)) ∙ sym (around_is Z.n n Z.in_list b) ∙ z.1 Z.n Z.in_list;
        },
      ))
      (best_is (λ m. around L P ks m n) (λ m. near L P ks m n) (positive n) all)

  -- and back: the parent's number is what it finds
  pub is_parent : (n p : ℕ) (b : n < line_count L P ks) (a : p < line_count L P ks) → Parent L (line_of p a) (line_of n b) → parent L P ks n ≡ suc p
  unfolding line_of
  is_parent n p b a X =
      ⊎_elim
      (λ (T : Above n b).
      let s = alike S (line_of T.p T.in_list) (line_of p a) (parent_once S (line_of T.p T.in_list) (line_of p a) (line_of n b) T.parent X) in
      T.is ∙ ap suc (number_once T.p p T.in_list a s.0 s.1))
      (λ (z : (parent L P ks n ≡ 0) × Root L (line_of n b)). no X.outer (z.1.none (line_of p a)))
      (parent_or n b)

  pub is_root : (n : ℕ) (b : n < line_count L P ks) → Root L (line_of n b) → parent L P ks n ≡ 0
  is_root n b R =
      ⊎_elim
      (λ (T : Above n b). no T.parent.outer (R.none (line_of T.p T.in_list)))
      (λ (z : (parent L P ks n ≡ 0) × Root L (line_of n b)). z.0)
      (parent_or n b)
